use Rattle.std.proofs.Common.{◌∙◌, ap, sym}
use Rattle.meter_theory.specs.Value.{structure_of}
use Rattle.class_profile.specs.EntriesView.{shown}
use Rattle.class_profile.proofs.entries.copy_of_row.Goals as goal

pub returns-in_ok-values-in-Some : goal.returns-in_ok-values-in-Some
returns-in_ok-values-in-Some c =
    ap structure_of (c.new.ensures ∙ c.in_ok-values-in-Some.ensures)
    ∙ c.columns_of.ensures
    ∙ ap (λ columns. shown columns c.args.row.now) (sym c.in-Some.is)
