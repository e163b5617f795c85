use Rattle.std.proofs.Common.{ℕ, List, [], length, Bool, IsTrue, sym, ◌∙◌, ap, subst}
use Rattle.trail_file.specs.Text.{recovered}
use Rattle.trail_file.specs.Rest.{IsStaged}
use Rattle.trail_file.proofs.Tears.{torn_same, torn_crash, written_behind}
use Rattle.trail_file.proofs.latch.stage.Goals as goal

pub returns-in-Err-clause-same : goal.returns-in-Err-clause-same
returns-in-Err-clause-same g c clean =
    let old = g.D.Disk.seen c.args.disk.now in
    let settled = c.requires.settled (subst (λ (b : Bool). IsTrue b) c.write_at.ensures.calm clean) in
    torn_same old c.args.end (recovered old) [] settled.rests (length c.args.behind.now) (g.D.Disk.seen c.write_at.new.self) c.write_at.ensures.others

pub returns-in-Err-clause-crash : goal.returns-in-Err-clause-crash
returns-in-Err-clause-crash g c clean =
    let settled = c.requires.settled (subst (λ (b : Bool). IsTrue b) c.write_at.ensures.calm clean) in
    torn_crash (g.D.Disk.seen c.args.disk.now) (g.D.Disk.may_leave c.args.disk.now) (g.D.Disk.may_leave c.write_at.new.self) c.args.end (length c.args.behind.now) settled c.write_at.ensures.crash

pub returns-in-Ok-clause-same : goal.returns-in-Ok-clause-same
returns-in-Ok-clause-same g c clean =
    let old = g.D.Disk.seen c.args.disk.now in
    let settled = c.requires.settled (subst (λ (b : Bool). IsTrue b) (c.is_synced.ensures.calm ∙ c.write_at.ensures.calm) clean) in
    ap recovered c.is_synced.ensures.seen ∙ torn_same old c.args.end (recovered old) [] settled.rests (length c.args.behind.now) (g.D.Disk.seen c.write_at.new.self) c.write_at.ensures.others

pub returns-in-Ok-clause-crash : goal.returns-in-Ok-clause-crash
returns-in-Ok-clause-crash g c clean f left =
    let settled = c.requires.settled (subst (λ (b : Bool). IsTrue b) (c.is_synced.ensures.calm ∙ c.write_at.ensures.calm) clean) in
    torn_crash (g.D.Disk.seen c.args.disk.now) (g.D.Disk.may_leave c.args.disk.now) (g.D.Disk.may_leave c.write_at.new.self) c.args.end (length c.args.behind.now) settled c.write_at.ensures.crash f (c.is_synced.ensures.crash f left)

pub returns-in-Ok-clause-staged : goal.returns-in-Ok-clause-staged
returns-in-Ok-clause-staged g c done clean =
    let old = g.D.Disk.seen c.args.disk.now in
    let settled = c.requires.settled (subst (λ (b : Bool). IsTrue b) (c.is_synced.ensures.calm ∙ c.write_at.ensures.calm) clean) in
    let staged = written_behind old c.args.end (recovered old) [] settled.rests c.args.behind.now (g.D.Disk.seen c.write_at.new.self) c.write_at.ensures.others (c.in-Ok.ensures.written c.requires.some) in
    let same = returns-in-Ok-clause-same g c clean in
    let moved = subst (λ (f : List ℕ). IsStaged f c.args.end (recovered old) c.args.behind.now) (sym c.is_synced.ensures.seen) staged in
    subst (λ es. IsStaged (g.D.Disk.seen c.is_synced.new.disk) c.args.end es c.args.behind.now) (sym same) moved
