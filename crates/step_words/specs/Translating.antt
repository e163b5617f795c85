-- Texts that are translated between words and hex, from an input onto an output. All of it is own profile.
use Rattle.std.specs.Prelude.{◌≡◌, ◌<◌, ℕ, List, ◌++◌, codes, length, Option, Result, Ok, Err}
use Rattle.std.specs.Io.KnownBytes.{Appends, Consumes, IsAtEnd}
use Rattle.step_words.specs.Faults as texts
use Rattle.step_words.specs.Texts.{Fails, decoded, decoded_values, encoded, encoded_values}
use Rattle.step_words.specs.declared.fault.TextFault.{TextFault}
use Rattle.step_words.specs.declared.texts.Way.{Way}
use Rattle.step_words.specs.declared.texts.Way.TheVariants.{Encode, Decode, EncodeValues, DecodeValues}
use Rattle.step_words.specs.declared.translating.TranslationFault.{TranslationFault}
use Rattle.step_words.specs.declared.translating.TranslationFault.TheVariants as faults

-- what told a fault (own profile)
abbrev pub fault_words : TranslationFault → List ℕ
fault_words faults.Read = codes "the input can't be read"
fault_words faults.Write = codes "the output can't be written"
fault_words (faults.Text fault) = texts.fault_words fault
fault_words faults.Memory = codes "out of memory"

-- what is made of a text: step lines of steps in words, or words of step lines and replies; the same of values (own profile)
abbrev pub made_of : Way → List ℕ → Result (List ℕ) TextFault
made_of Encode text = encoded text
made_of Decode text = decoded text
made_of EncodeValues text = encoded_values text
made_of DecodeValues text = decoded_values text

-- all of the input was read, and this is it (own profile)
abbrev pub ReadsAll : List ℕ → (unread left : Option (List ℕ)) → Type 0
ReadsAll text unread left = Consumes unread left text × IsAtEnd left

-- reading alone failed, if anything did (own profile)
abbrev pub IsUnread : {A : Type 0} → Result A TranslationFault → Type 0
IsUnread (Ok x) = Unit {0}
IsUnread (Err faults.Read) = Unit {0}
IsUnread (Err faults.Memory) = Unit {0}
IsUnread (Err faults.Write) = ⊥
IsUnread (Err (faults.Text fault)) = ⊥

-- how an input is translated: all of it was read, and what is made of it was written; nothing was written where the text has a fault or can't be read; or a write failed behind a beginning of what is made of the text (own profile)
abbrev pub Translates : Way → (unread left before after : Option (List ℕ)) → Result (Unit {0}) TranslationFault → Type 0
Translates way unread left before after (Ok u) = (text : List ℕ) × (made : List ℕ) × ReadsAll text unread left × (made_of way text ≡ Ok made) × Appends before after made
Translates way unread left before after (Err faults.Write) =
    (text : List ℕ) × (front : List ℕ) × (behind : List ℕ) × ReadsAll text unread left × (made_of way text ≡ Ok (front ++ behind)) × Appends before after front × (0 < length behind)
Translates way unread left before after (Err (faults.Text fault)) = (text : List ℕ) × ReadsAll text unread left × Fails fault (made_of way text) × (after ≡ before)
Translates way unread left before after (Err faults.Read) = after ≡ before
Translates way unread left before after (Err faults.Memory) = after ≡ before
