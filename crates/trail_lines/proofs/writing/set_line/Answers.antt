use Rattle.std.proofs.Common.{rules, ◌≡◌, ◌∙◌, false, true, ap, arith, IfOk, string_bytes, subst, sym, [], ◌∷◌, ◌++◌, append_assoc}
use Rattle.std.specs.Prelude.{IfSome, length, nat_le}
use Rattle.std.proofs.lemmas.Bool.{and_parts, leb-true}
use Rattle.cosem_data.specs.Tree.{depth}
use Rattle.cosem_data.specs.View.{tree}
use Rattle.cosem_axdr.specs.Canonical.{HasLengths, canonical}
use Rattle.meter_theory.specs.Steps as theory
use Rattle.meter_core.specs.StepView.{argument_of}
use Rattle.object_model.specs.declared.argument.Argument.{Argument}
use Rattle.object_model.specs.declared.argument.Argument.TheVariants.{Value}
use Rattle.xdlms_services.specs.Requests.{front_bytes, request_bytes}
use Rattle.xdlms_services.specs.declared.request.Request.TheVariants as requests
use Rattle.trail_lines.specs.Writing.{Says, can_write}
use Rattle.step_words.specs.declared.requests.TheConstants.{USUAL_INVOKE}
use Rattle.trail_lines.specs.declared.writing.TheConstants.{LONGEST, NESTED}
use Rattle.trail_lines.proofs.Written.{set-asked, set-asks}
use Rattle.trail_lines.proofs.writing.set_line.Goals as goal

pub returns-clause-says : goal.returns-clause-says
returns-clause-says c =
    let d = c.args.attribute.now in
    let v = c.in-Value.data in
    let t = tree v in
    let can : can_write t ≡ true = search rules in
    let parts = and_parts (nat_le (depth t) NESTED) (nat_le (length (canonical t)) LONGEST) can in
    let lengths : HasLengths t = c.small_has_lengths.ensures t LONGEST (leb-true (length (canonical t)) LONGEST parts.1) (omega arith) in
    let unselected : c.args.selected ≡ false = search rules in
    let value : c.args.value.now ≡ Value v = search rules in
    let front = front_bytes 0xC1 USUAL_INVOKE d in
    let items : c.write_data.new.out.items ≡ request_bytes (requests.Set USUAL_INVOKE d false (Value v)) =
    c.in_ok-write_data.ensures.ok
    ∙ ap (λ l. l ++ canonical t) (c.in_ok-push.ensures.items ∙ ap (λ l. l ++ 0 ∷ []) (c.in_ok-put_front.ensures.ok ∙ ap (λ l. l ++ front) c.new-apdu.ensures.items))
    ∙ append_assoc front (0 ∷ []) (canonical t) in
    let bytes : c.deref.result.now ≡ request_bytes (requests.Set USUAL_INVOKE d false (Value v)) = c.deref.ensures.value ∙ items in
    let said = c.asked_line.ensures.says (set-asked c.args.client d v) (set-asks c.args.client d v c.deref.result.now bytes lengths (leb-true (depth t) NESTED parts.0) c.know_descriptor.ensures c.in_ok-write_data.ensures.ranges) in
    subst (λ b. IfOk c.asked_line.result (λ found. IfSome found (λ line. Says c.args.plan.now (theory.Set c.args.client d b (argument_of c.args.value.now) ∷ []) (string_bytes line)))) (sym unselected)
    (subst (λ (a : Argument). IfOk c.asked_line.result (λ found. IfSome found (λ line. Says c.args.plan.now (theory.Set c.args.client d false (argument_of a) ∷ []) (string_bytes line)))) (sym value) said)
