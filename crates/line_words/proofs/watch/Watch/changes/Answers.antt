use Rattle.line_words.proofs.States.{lines-looked, kept-looked}
use Rattle.line_words.proofs.watch.Watch.changes.Goals as goal

pub returns-clause-told : goal.returns-clause-told
returns-clause-told c =
    lines-looked c.args.plan.now c.deref_mut.result.now c.self.inside.kept.items c.args.self.now c.args.meter.now c.new-lines.result.items c.look_at_all.new.lines.items
    c.known.ensures.sound c.requires.watched c.deref_mut.ensures.value c.self.view_is c.new-lines.ensures.items c.in_ok-look_at_all.ensures.told

pub returns-clause-kept : goal.returns-clause-kept
returns-clause-kept c =
    kept-looked c.args.plan.now c.deref_mut.result.now c.self.inside.kept.items c.args.self.now c.args.meter.now c.look_at_all.new.kept c.self.inside.kept.len
    c.requires.watched c.deref_mut.ensures.value c.self.view_is c.look_at_all.auto.kept c.deref_mut.ensures.len c.in_ok-look_at_all.ensures.kept
