use Rattle.std.proofs.Common.{◌==◌, ◌∙◌, ap, sym, arith, length}
use Rattle.std.proofs.lemmas.List.{length-map}
use Rattle.class_control.specs.ScriptView.{script_of}
use Rattle.meter_theory.specs.Steps.{scripts_of}
use Rattle.object_model.specs.PartView.{part_of}
use Rattle.object_model.proofs.Puts.{position-within}
use Rattle.object_model.proofs.Scripted.{script-placed}
use Rattle.object_model.proofs.script_places.place_among.Goals as goal

pub returns-in_err-place : goal.returns-in_err-place
returns-in_err-place c =
    script-placed c.args.part.now c.in-ScriptTable.part c.deref.result.now c.args.id _ c.in-ScriptTable.is c.deref.ensures.value (c.from_residual.ensures ∙ sym c.in_err-place.was ∙ c.position_of.ensures)

pub overflow_cast-result : goal.overflow_cast-result
overflow_cast-result c =
    let less = position-within (λ s. s.id == c.args.id) 0 c.deref.result.now c.in_ok-place.place (sym c.in_ok-place.was ∙ c.position_of.ensures) in
    omega (
      arith,
      less,
      ap length c.deref.ensures.value,
      length-map c.in-ScriptTable.part.scripts.items script_of,
      ap (λ p. length (scripts_of (part_of p))) c.in-ScriptTable.is,
      c.requires,
    )

pub returns : goal.returns
returns c =
    script-placed c.args.part.now c.in-ScriptTable.part c.deref.result.now c.args.id _ c.in-ScriptTable.is c.deref.ensures.value (sym c.in_ok-place.was ∙ c.position_of.ensures)
