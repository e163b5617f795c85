use Rattle.std.proofs.Common.{Bool, IsTrue, ap, subst, ◌∙◌}
use Rattle.trail_file.specs.Heads.{head_entry}
use Rattle.trail_file.specs.Text.{recovered}
use Rattle.trail_file.proofs.Openings.{begun, begun_or_not}
use Rattle.trail_file.proofs.opening.begin.Goals as goal

pub returns-clause-stored : goal.returns-clause-stored
returns-clause-stored g c clean =
    let mended = subst (λ (b : Bool). IsTrue b) c.add.ensures.calm clean in
    let read = c.requires.bytes (subst (λ (b : Bool). IsTrue b) c.mend.ensures.calm mended) in
    begun (g.D.Disk.seen c.args.disk.now) c.args.bytes.now (g.D.Disk.seen c.mend.new.disk) c.deref-2.result.now (head_entry c.args.head.now) read c.requires.none (c.in_ok-mend.ensures.same mended) (ap recovered c.deref-2.ensures.value ∙ c.in_ok-batch.ensures.entry)
    (g.D.Disk.seen c.add.new.disk) (c.in_ok-add.ensures.stored clean)

pub returns-clause-crash : goal.returns-clause-crash
returns-clause-crash g c clean file left =
    let mended = subst (λ (b : Bool). IsTrue b) c.add.ensures.calm clean in
    let read = c.requires.bytes (subst (λ (b : Bool). IsTrue b) c.mend.ensures.calm mended) in
    begun_or_not (g.D.Disk.seen c.args.disk.now) c.args.bytes.now (g.D.Disk.seen c.mend.new.disk) c.deref-2.result.now (head_entry c.args.head.now) read c.requires.none (c.in_ok-mend.ensures.same mended) (ap recovered c.deref-2.ensures.value ∙ c.in_ok-batch.ensures.entry)
    file (c.add.ensures.crash clean file left)

pub returns-in_err-add-clause-crash : goal.returns-in_err-add-clause-crash
returns-in_err-add-clause-crash g c clean file left =
    let mended = subst (λ (b : Bool). IsTrue b) c.add.ensures.calm clean in
    let read = c.requires.bytes (subst (λ (b : Bool). IsTrue b) c.mend.ensures.calm mended) in
    begun_or_not (g.D.Disk.seen c.args.disk.now) c.args.bytes.now (g.D.Disk.seen c.mend.new.disk) c.deref-2.result.now (head_entry c.args.head.now) read c.requires.none (c.in_ok-mend.ensures.same mended) (ap recovered c.deref-2.ensures.value ∙ c.in_ok-batch.ensures.entry)
    file (c.add.ensures.crash clean file left)
