use Rattle.std.proofs.Common.{◌∙◌, ap, sym, subst}
use Rattle.std.specs.List.{FoldsTo}
use Rattle.std.proofs.lemmas.Result.{on_ok_weaker}
use Rattle.meter_theory.specs.Plan.{object_at}
use Rattle.object_model.specs.ArgumentView.{argument_of}
use Rattle.meter_effects.proofs.Added.{no_table, other_method}
use Rattle.meter_effects.proofs.walk.each_of_method_at.Goals as goal

pub returns-in_default-part : goal.returns-in_default-part
returns-in_default-part g c =
    let P = c.args.instance.now.plan in
    let same = other_method P c.args.method.now (argument_of c.args.argument.now) c.in-Some.object.now (c.in-Some.ensures ∙ ap (object_at P) (sym c.requires))
    (no_table c.part.result.now c.in_default-part.not-ScriptTable c.in-Some.object.now c.part.ensures) in
    record {
      ok = on_ok_weaker c.each_of_plain_method.result (subst (λ es. FoldsTo (g.V.Visitor.meets P) c.args.visitor.now es c.each_of_plain_method.new.visitor) same) c.each_of_plain_method.ensures.ok;
      none = λ none. c.each_of_plain_method.ensures.none (same ∙ none);
    }
