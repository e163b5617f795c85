use Rattle.std.proofs.Common.{rules, ◌≡◌, ℕ, List, Option, Some, None, Result, Ok, true, ap, sym, refl, ◌∙◌}
use Rattle.acse_association.specs.Judging.{logical_names, is_content, knows_mechanism, client_at, password_of, names_password, gives_password, initiate_of, limit_of, agreed}
use Rattle.acse_association.specs.declared.association.Association.{Association}
use Rattle.acse_association.specs.declared.diagnostic.Diagnostic.{Diagnostic}
use Rattle.acse_association.proofs.Judgements.{judged-accepts, association-is}
use Rattle.acse_association.proofs.judging.judge.Goals as goal
use Rattle.acse_association.proofs.judging.judge.Goals.{in-Some+else-not-is_content-2+else-not-gives_password, in_default}

pub returns : goal.returns
returns c =
    let P = c.args.plan.now in
    let contents = c.args.aarq.now in
    let context : is_content logical_names contents.context ≡ true = search rules in
    let client_is : client_at P c.args.source ≡ Some c.in_ok-client.client = search rules in
    let known : knows_mechanism contents.mechanism ≡ true = search rules in
    let initiate_is : initiate_of contents.information ≡ Some c.in_ok-initiate.initiate = search rules in
    let agreed_is : (let a : Association = record { source = c.args.source; client = c.in_ok-client.client; limit = c.limit_of.result; conformance = c.agreed.result } in a) ≡ agreed c.args.source c.in_ok-client.client c.in_ok-initiate.initiate =
    association-is c.args.source c.in_ok-client.client c.limit_of.result (limit_of c.in_ok-initiate.initiate.max_pdu) c.agreed.result _ (search rules) c.agreed.ensures in
    elim c.match-password_of.branch [
      | in-Some+else-not-is_content-2+else-not-gives_password w ↦
          let password : Option (List ℕ) = Some w.in-Some.password.now in
          let password_is : password_of P c.in_ok-client.client ≡ password = search rules in
          let named : names_password password contents.mechanism ≡ true = search rules in
          let given : gives_password password contents.authentication ≡ true = search rules in
          ap (λ (a : Association). let r : Result Association Diagnostic = Ok a in r) agreed_is ∙ sym (judged-accepts P c.args.source contents c.in_ok-client.client c.in_ok-initiate.initiate password context client_is known password_is named given initiate_is)
      | in_default w ↦
          let password_is : password_of P c.in_ok-client.client ≡ None = search rules in
          ap (λ (a : Association). let r : Result Association Diagnostic = Ok a in r) agreed_is ∙ sym (judged-accepts P c.args.source contents c.in_ok-client.client c.in_ok-initiate.initiate None context client_is known password_is refl refl initiate_is)
    ]
