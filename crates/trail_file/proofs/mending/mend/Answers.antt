use Rattle.std.proofs.Common.{Bool, IsTrue, ◌∙◌, subst}
use Rattle.trail_file.specs.Text.{recovered}
use Rattle.trail_file.proofs.Cuts.{ends_for}
use Rattle.trail_file.proofs.mending.mend.Goals as goal

pub returns-clause-crash : goal.returns-clause-crash
returns-clause-crash g c clean file left =
    let trimmed = c.in_ok-trim.ensures.done (subst (λ (b : Bool). IsTrue b) c.shut.ensures.calm clean) in
    c.shut.ensures.crash clean file left ∙ ends_for (g.D.Disk.seen c.trim.new.disk) c.args.end (recovered (g.D.Disk.seen c.args.disk.now)) trimmed
