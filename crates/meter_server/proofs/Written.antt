-- Lines that are written, and what stands behind them.
use Rattle.std.proofs.Common.{◌≡◌, ◌<◌, ℕ, List, ◌++◌, Option, Result, Ok, Err, OnErr, OnOk, append_assoc, length, sym, length-append, ap, arith, ◌∙◌}
use Rattle.std.proofs.KnownBytes.{Appends-trans}
use Rattle.std.specs.Io.KnownBytes.{Appends}
use Rattle.whole_writes.specs.declared.WriteFailed.{WriteFailed}
use Rattle.meter_server.specs.Remarks.{WritesError}

-- how `write_whole` says that a text was written, or a beginning of it
abbrev pub IsCut : List ℕ → (before after : Option (List ℕ)) → Type 0
IsCut text before after = (front : List ℕ) × (left : List ℕ) × (text ≡ front ++ left) × Appends before after front × (0 < length left)

-- a beginning of the lines is one of the whole
pub cut-before : (lines ending : List ℕ) (before after : Option (List ℕ)) → IsCut lines before after → IsCut (lines ++ ending) before after
cut-before lines ending before after (front, left, is, appends, some) =
    (front, left ++ ending, ap (λ (l : List ℕ). l ++ ending) is ∙ append_assoc front left ending, appends, omega (arith, some, length-append left ending))

-- all of the lines, and behind them what stands there, or a beginning of it
pub written : (lines ending : List ℕ) (before between after : Option (List ℕ)) (r : Result (Unit {0}) WriteFailed) → Appends before between lines
    → OnOk r (Appends between after ending) → OnErr r (IsCut ending between after) → WritesError (lines ++ ending) before after r
written lines ending before between after (Ok u) first all cut = Appends-trans before between after lines ending first all
written lines ending before between after (Err failed) first all (front, left, is, appends, some) =
    (lines ++ front, left, ap (λ (l : List ℕ). lines ++ l) is ∙ sym (append_assoc lines front left), Appends-trans before between after lines front first appends, some)
