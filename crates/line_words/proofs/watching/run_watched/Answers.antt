use Rattle.line_words.proofs.Aloud.{runs-aloud, tells-all}
use Rattle.line_words.proofs.watching.run_watched.Goals as goal

pub returns-clause-runs : goal.returns-clause-runs
returns-clause-runs g c = runs-aloud c.args.watched.now _ _ _ c.answer_lines.result c.requires c.answer_lines.ensures

pub returns-clause-told : goal.returns-clause-told
returns-clause-told g c = tells-all c.args.watched.now _ _ _ c.answer_lines.result c.requires c.answer_lines.ensures
