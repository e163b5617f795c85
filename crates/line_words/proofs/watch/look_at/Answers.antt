use Rattle.meter_theory.specs.State.{value}
use Rattle.line_words.proofs.States.{unchanged}
use Rattle.line_words.proofs.watch.look_at.Goals as goal

pub returns-else-not-is_unchanged-clause-kept : goal.returns-else-not-is_unchanged-clause-kept
returns-else-not-is_unchanged-clause-kept c = unchanged c.args.kept.now (value c.args.meter.now c.args.kept.now.0) c.if-not-is_unchanged.ensures
