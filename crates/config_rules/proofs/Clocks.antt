-- What the text of a clock says is a moment.
use Rattle.std.proofs.Common.{◌≡◌, Bool, true, false, cond, Option, Some, None, refl}
use Rattle.std.specs.Prelude.{option_and_then}
use Rattle.meter_theory.specs.Times.{Moment, IsMoment, is_moment, first_moment}
use Rattle.meter_theory.proofs.Clock.{moment-true, first-is_moment}
use Rattle.civil_moment.specs.Texts.{numbers_at}
use Rattle.config_text.specs.Parts.{Text}
use Rattle.config_rules.specs.PlanOf.{moment_of, or_else}

-- also where there is none in it: then the first moment stands for it
pub moment_there : (text : Text) → IsMoment (moment_of text)
moment_there text = at (numbers_at text)
  where
    tested : (t : Moment) (b : Bool) → is_moment t ≡ b → IsMoment (or_else first_moment (cond b (Some t) None))
    tested t true is = moment-true t is
    tested t false is = first-is_moment

    at : (found : Option Moment) → IsMoment (or_else first_moment (option_and_then (λ t. cond (is_moment t) (Some t) None) found))
    at None = first-is_moment
    at (Some t) = tested t (is_moment t) refl
