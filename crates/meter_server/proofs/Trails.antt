-- What is printed of a trail.
use Rattle.std.proofs.Common.{ℕ, List, [], Option, inr, arith, sym, subst, append-nil}
use Rattle.trail_words.specs.Printing.{IsBegunOrNone, IsPrinted, IsTextOfTrail}
use Rattle.trail_words.specs.declared.form.TrailForm.{TrailForm}
use Rattle.trail_words.specs.declared.wanted.Wanted.{Wanted}

-- all that was written is a beginning of itself
pub printed-begun : (form : TrailForm) (wanted : Wanted) (file : List ℕ) (before after : Option (List ℕ)) → IsPrinted form wanted file before after → IsBegunOrNone form wanted file before after
printed-begun form wanted file before after (text, is, appends) =
    inr (text, [], subst (IsTextOfTrail form wanted file) (sym (append-nil text)) is, appends, omega arith)
