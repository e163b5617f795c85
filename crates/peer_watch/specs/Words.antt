-- Events in words, as they are put together. All of it is own profile.
use Rattle.std.specs.Prelude.{ℕ, List, [], ◌++◌, Option, Some, None, codes}
use Rattle.std.specs.Borrow.{Bor}
use Rattle.std.specs.Fmt.{decimal}
use Rattle.tcp_wrapper.specs.declared.place.FramePlace.{FramePlace}
use Rattle.tcp_wrapper.specs.Places.{place_words}
use Rattle.peer_watch.specs.declared.words.Words.{Words}

-- a number between words, where there is one
abbrev pub numbered : Option (Bor (List ℕ) × ℕ × Bor (List ℕ)) → List ℕ
numbered (Some number) = number.0.now ++ (decimal number.1 ++ number.2.now)
numbered None = []

-- the place of a frame before the words that are told of it, where there is one
abbrev pub placed : Option FramePlace → List ℕ
placed (Some place) = place_words place ++ codes ": "
placed None = []

-- the words of the event, the frame that it tells of, the words that it brings, and its number
abbrev pub words_text : Words → List ℕ
words_text words = words.own.now ++ (placed words.frame.0 ++ (words.brought.now ++ numbered words.number.0))
