-- What is read as a moment is the moment that the text is.
use Rattle.std.proofs.Common.{◌≡◌, ℕ, Bool, true, false, cond, List, IfOk, Option, Some, None, Result, Ok, Err, refl, ap, ◌∙◌}
use Rattle.std.specs.Prelude.{option_and_then}
use Rattle.std.specs.Result.{result_ok}
use Rattle.meter_theory.specs.Times.{Moment, IsMoment, is_moment}
use Rattle.meter_theory.proofs.Clock.{moment-true, true-moment}
use Rattle.civil_moment.specs.declared.moment.BadMoment.{BadMoment}
use Rattle.civil_moment.specs.Texts.{moment_text, numbers_at}
use Rattle.civil_moment.specs.MomentText.{moment_in}
use Rattle.civil_moment.proofs.Readings.{numbers_take, numbers_again}

-- where no moment with this text is, none is in it
none_is : (t : Moment) (b : Bool) → is_moment t ≡ b → (IsMoment t → ⊥) → ◌≡◌ {A = Option Moment} None (cond b (Some t) None)
none_is t false e h = refl
none_is t true e h = absurd (h (moment-true t e))

no_moment_of : (text : List ℕ) (found : Option Moment) → numbers_at text ≡ found → ((t : Moment) → IsMoment t → text ≡ moment_text t → ⊥)
    → ◌≡◌ {A = Option Moment} None (option_and_then (λ t. cond (is_moment t) (Some t) None) found)
no_moment_of text None e h = refl
no_moment_of text (Some t) e h = none_is t (is_moment t) refl (λ is. h t is (numbers_take text t e))

pub moment_read : (text : List ℕ) (r : Result Moment BadMoment) → IfOk r (λ m. IsMoment m × (text ≡ moment_text m))
    → ((t : Moment) → IsMoment t → text ≡ moment_text t → r ≡ Ok t) → result_ok r ≡ moment_in text
moment_read text (Ok m) found exact = rw (ap numbers_at found.1 ∙ numbers_again m found.0, true-moment m found.0) refl
moment_read text (Err fault) found exact = no_moment_of text (numbers_at text) refl (λ t is e. let wrong = exact t is e in absurd cc)
