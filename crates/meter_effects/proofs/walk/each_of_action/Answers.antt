use Rattle.std.proofs.Common.{◌≡◌, ◌∷◌, [], Some, ap, sym, subst, ◌∙◌}
use Rattle.std.specs.List.{FoldsTo}
use Rattle.std.proofs.lemmas.Result.{on_ok_weaker}
use Rattle.cosem_data.specs.View.{tree}
use Rattle.meter_theory.specs.Steps.{Put, action_effects, plain_method}
use Rattle.class_control.specs.ActionView.{action_of}
use Rattle.cosem_class.specs.Parts.{target}
use Rattle.meter_effects.proofs.Added.{found_there, plain_effects}
use Rattle.meter_effects.proofs.Targets.{is_referred}
use Rattle.meter_effects.proofs.Walks.{walks_one}
use Rattle.meter_effects.proofs.walk.each_of_action.Goals as goal

pub visit-requires : goal.visit-requires
visit-requires g c =
    sym (ap (λ i. i.name)
    (is_referred c.args.table.now c.in-Some.target c.args.place c.in-Write.cell.name c.in-Some.ensures (c.requires ∙ ap (λ a. Some (target (action_of a))) c.in-Write.is)))

pub returns-in-Write : goal.returns-in-Write
returns-in-Write g c =
    let P = c.args.table.now.plan in
    let e = Put c.in-Write.cell (tree c.in-Write.value) in
    let is = is_referred c.args.table.now c.in-Some.target c.args.place c.in-Write.cell.name c.in-Some.ensures (c.requires ∙ ap (λ a. Some (target (action_of a))) c.in-Write.is) in
    let same : e ∷ [] ≡ action_effects P (action_of c.args.action.now) = ap (λ a. action_effects P (action_of a)) (sym c.in-Write.is) in
    record {
      ok = on_ok_weaker c.visit.result
          (λ met. subst (λ es. FoldsTo (g.V.Visitor.meets P) c.args.visitor.now es c.visit.new.self) same
          (walks_one (g.V.Visitor.meets P) c.args.visitor.now e c.visit.new.self (subst (λ Q. g.V.Visitor.meets Q c.args.visitor.now e c.visit.new.self) (ap (λ i. i.plan) is) met)))
          c.visit.ensures;
      none = λ none. let some = same ∙ none in cc;
    }

pub returns-in-Some-object : goal.returns-in-Some-object
returns-in-Some-object g c =
    let P = c.args.table.now.plan in
    let o = c.in-Some-object.object.now in
    let is = is_referred c.args.table.now c.in-Some.target c.args.place c.in-Invoke.method.name c.in-Some.ensures (c.requires ∙ ap (λ a. Some (target (action_of a))) c.in-Invoke.is) in
    let there = found_there P c.in-Invoke.method.name c.in-Some.target o is c.in-Some-object.ensures in
    let same = plain_effects P c.in-Invoke.method o there ∙ ap (λ a. action_effects P (action_of a)) (sym c.in-Invoke.is) in
    record {
      ok = on_ok_weaker c.each_of_plain_method.result
          (λ walked. subst (λ es. FoldsTo (g.V.Visitor.meets P) c.args.visitor.now es c.each_of_plain_method.new.visitor) same
          (subst (λ Q. FoldsTo (g.V.Visitor.meets Q) c.args.visitor.now (plain_method o.name o.part c.in-Invoke.method.index) c.each_of_plain_method.new.visitor) (ap (λ i. i.plan) is) walked))
          c.each_of_plain_method.ensures.ok;
      none = λ none. c.each_of_plain_method.ensures.none (same ∙ none);
    }
