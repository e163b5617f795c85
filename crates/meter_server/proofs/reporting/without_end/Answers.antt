use Rattle.std.proofs.Common.{◌∙◌, ◌++◌, ap, arith, inr, refl, sym}
use Rattle.std.proofs.lemmas.Str.{encode_ascii}
use Rattle.meter_server.proofs.reporting.without_end.Goals as goal

pub returns-in-None : goal.returns-in-None
returns-in-None c = inr ((λ front e. c.in-None.ensures.cases front (e ∙ ap (λ end. front ++ end) (sym (encode_ascii 10 (omega arith))))), refl)
