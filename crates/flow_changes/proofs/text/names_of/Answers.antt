use Rattle.std.proofs.Common.{◌≡◌, Bool, Some, None, option_map, ap, sym, ◌∙◌}
use Rattle.std.specs.Prelude.{flat_map, slice_get}
use Rattle.meter_theory.specs.Labels.{has}
use Rattle.flow_changes.specs.Facts.{Numbered, numbered}
use Rattle.flow_changes.proofs.Named.{name-kept, name-put, name_if, names-if, client-end, client-more}
use Rattle.flow_changes.proofs.text.names_of.Goals as goal
use Rattle.flow_changes.proofs.text.names_of.Goals.{then-has+in_ok-push+in_ok-extend_from_slice, else-has}

pub loop-client-preserved : goal.loop-client-preserved
loop-client-preserved c =
    let P = c.args.plan.now in
    let p : Numbered → Bool = λ n. has c.args.set n.0 in
    let place = c.loop-client.place in
    let client = c.in-Some.client.now in
    let before = c.loop-client.names.items in
    let there : slice_get P.clients place ≡ Some client = sym c.client.ensures ∙ ap (option_map (λ x. x.now)) c.in-Some.is in
    elim c.if-has.branch [
      | then-has+in_ok-push+in_ok-extend_from_slice w ↦
          client-more P (name_if p) place client before c.if-has.names.items (flat_map (name_if p) (numbered P)) there
          (ap (λ t. t.items) w.names-is
          ∙ name-put p (place, client) before w.push.new.self.items w.extend_from_slice.new.self.items w.name.result.now w.in_ok-push.ensures.items w.in_ok-extend_from_slice.ensures.items w.name.ensures (sym c.has.ensures ∙ w.if-has.true))
          c.loop-client.invariant
      | else-has w ↦
          client-more P (name_if p) place client before c.if-has.names.items (flat_map (name_if p) (numbered P)) there
          (ap (λ t. t.items) w.names-is ∙ name-kept p (place, client) before (sym c.has.ensures ∙ w.if-has.false))
          c.loop-client.invariant
    ]

pub returns : goal.returns
returns c =
    let P = c.args.plan.now in
    let p : Numbered → Bool = λ n. has c.args.set n.0 in
    let place = c.loop-client.place in
    let none : slice_get P.clients place ≡ None = sym c.client.ensures ∙ ap (option_map (λ x. x.now)) c.in_default.is in
    client-end P (name_if p) place c.loop-client.names.items (flat_map (name_if p) (numbered P)) none c.loop-client.invariant ∙ names-if p (numbered P)
