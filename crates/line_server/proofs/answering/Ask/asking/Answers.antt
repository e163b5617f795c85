use Rattle.std.proofs.Common.{◌≡◌, ◌∙◌, None, sym, ap, subst, option_map}
use Rattle.std.specs.Prelude.{option_and_then}
use Rattle.xdlms_services.specs.Asking.{asked, asking_at, asking_of}
use Rattle.line_server.specs.Asking.{Ask}
use Rattle.line_server.proofs.answering.Ask.asking.Goals as goal

pub returns-in-Ok-clause-asking : goal.returns-in-Ok-clause-asking
returns-in-Ok-clause-asking c =
    subst (λ (a : Ask). option_map asked c.into_asking.result ≡ asking_at a.client a.apdu) c.self.view_is
    (c.into_asking.ensures.asking ∙ ap (option_and_then (asking_of c.self.inside.client)) (sym c.in-Ok.ensures.exact))

pub returns-in-Err-Unreadable-clause-asking : goal.returns-in-Err-Unreadable-clause-asking
returns-in-Err-Unreadable-clause-asking c =
    subst (λ (a : Ask). option_map asked None ≡ asking_at a.client a.apdu) c.self.view_is
    (ap (option_and_then (asking_of c.self.inside.client)) (sym (rw c.in-Err-Unreadable.field-0-is at c.in-Err-Unreadable.ensures.exact)))
