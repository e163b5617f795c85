-- Reading a text from left to right: what stands in front and what stands behind it, or a stop at the first place where something else stands than what is asked. Texts are lists of bytes, and Q has what can be asked.
use Rattle.std.specs.Prelude.{◌≡◌, ℕ, ◌==◌, List, [], ◌∷◌, length, take, drop, Bool, Option, Some, None, Result, Ok, Err, if◌then◌else◌}
use Rattle.std.specs.List.{prefix_len}
use Rattle.value_words.specs.declared.stop.Stop.{Stop}
use Rattle.value_words.specs.declared.stop.Stop.TheVariants as stop

-- the next step, unless this one stopped or failed (own profile)
infixl 10 ◌>>=◌
abbrev pub ◌>>=◌ : {A B E : Type 0} → Result A E → (A → Result B E) → Result B E
(Ok x) >>= f = f x
(Err e) >>= f = Err e

-- reading stops in front of this text, where something else was asked (own profile)
abbrev pub stops : {Q A : Type 0} → Q → List ℕ → Result A (Stop Q)
stops what text = Err (stop.At (length text) what)

-- from a text to what stands in front of it and the text behind that (own profile)
abbrev pub Reader : Type 0 → Type 0 → Type 0
Reader Q A = List ℕ → Result (A × List ℕ) (Stop Q)

-- what was found in front of a text, and what stands behind that; else reading stops there (own profile)
abbrev pub found : {Q A : Type 0} → Q → List ℕ → Option A → List ℕ → Result (A × List ℕ) (Stop Q)
found what text (Some x) rest = Ok (x, rest)
found what text None rest = stops what text

-- what is read, as another type (own profile)
abbrev pub read_map : {Q A B : Type 0} → (A → B) → Result (A × List ℕ) (Stop Q) → Result (B × List ℕ) (Stop Q)
read_map f read = read >>= λ x. Ok (f x.0, x.1)

-- what stands behind these bytes, if they are in front of the text (own profile)
abbrev pub behind : List ℕ → List ℕ → Option (List ℕ)
behind [] text = Some text
behind (b ∷ bs) [] = None
behind (b ∷ bs) (c ∷ text) = if c == b then behind bs text else None

-- what stands behind the bytes that are asked, if they were found; else reading stops (own profile)
abbrev pub mark_step : {Q : Type 0} → Q → List ℕ → Option (List ℕ) → Result (List ℕ) (Stop Q)
mark_step what text None = stops what text
mark_step what text (Some rest) = Ok rest

-- what stands behind these bytes, which are asked (own profile)
abbrev pub mark_at : {Q : Type 0} → Q → List ℕ → List ℕ → Result (List ℕ) (Stop Q)
mark_at what bytes text = mark_step what text (behind bytes text)

-- the bytes in front that pass a test (own profile)
abbrev pub front : (ℕ → Bool) → List ℕ → List ℕ
front p text = take (prefix_len p text) text

-- what stands behind them (own profile)
abbrev pub past : (ℕ → Bool) → List ℕ → List ℕ
past p text = drop (prefix_len p text) text

-- What a function of the code says of this

-- a function told the stop that reading meets; where memory ran out it says nothing of what reading gives (own profile)
abbrev pub Stops : {Q Y : Type 0} → Stop Q → Result Y (Stop Q) → Type 0
Stops stop.Memory read = Unit {0}
Stops (stop.At left what) read = read ≡ Err (stop.At left what)

-- what a function returned, seen by view, is what reading gives, unless memory ran out (own profile)
abbrev pub Reads : {Q X Y : Type 0} → (X → Y) → Result X (Stop Q) → Result Y (Stop Q) → Type 0
Reads view (Ok x) read = read ≡ Ok (view x)
Reads view (Err e) read = Stops e read
