use Rattle.std.proofs.Common.{refl, ap, sym, subst, ◌∙◌, length}
use Rattle.std.specs.Prelude.{option_map, IsOk}
use Rattle.std.proofs.lemmas.Bool.{false≢true}
use Rattle.cosem_data.specs.View.{tree}
use Rattle.meter_theory.specs.Value.{counter}
use Rattle.object_model.specs.Stored.{pairs_of}
use Rattle.object_model.specs.declared.stored.Cells.TheVariants.{ProfileGeneric}
use Rattle.object_model.proofs.Stores.{undone-captured, rows-held}
use Rattle.object_model.proofs.stored.Stored.capture.Goals as goal

pub returns-in_err-captured-in-ProfileGeneric-clause-full : goal.returns-in_err-captured-in-ProfileGeneric-clause-full
returns-in_err-captured-in-ProfileGeneric-clause-full c = λ is_full.
    let rows = rows-held c.args.self.now.name c.in-ProfileGeneric.object.buffer (option_map tree c.in-ProfileGeneric.object.capture_objects) (counter c.in-ProfileGeneric.object.capture_period) (counter c.in-ProfileGeneric.object.entries_in_use)
    (pairs_of c.args.self.now.name c.args.self.now.cells) (ap (pairs_of c.args.self.now.name) c.in-ProfileGeneric.is) in
    absurd (false≢true (subst IsOk c.in_err-captured-in-ProfileGeneric.was (c.capture.ensures.full (ap length (sym rows) ∙ is_full))))

pub returns-clause-before : goal.returns-clause-before
returns-clause-before c =
    undone-captured c.args.self.now.name c.capture.new.self.buffer (option_map tree c.capture.new.self.capture_objects) (counter c.capture.new.self.capture_period) (counter c.capture.new.self.entries_in_use)
    (counter c.in_ok-captured-in-ProfileGeneric.captured.entries_in_use) (option_map tree c.in_ok-captured-in-ProfileGeneric.captured.dropped)
    (pairs_of c.args.self.now.name (ProfileGeneric c.capture.new.self)) refl
    ∙ ap (λ p. pairs_of c.args.self.now.name (ProfileGeneric p)) c.in_ok-captured-in-ProfileGeneric.ensures.before
    ∙ ap (pairs_of c.args.self.now.name) (sym c.in-ProfileGeneric.is)
