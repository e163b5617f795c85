use Rattle.std.proofs.Common.{Bool, IsTrue, sym, ◌∙◌, ap, subst}
use Rattle.trail_file.specs.Text.{recovered}
use Rattle.trail_file.proofs.Openings.{begun_left, none_before}
use Rattle.trail_file.proofs.looking.Found.settle.Goals as goal

pub returns-then-self-eq0-clause-crash : goal.returns-then-self-eq0-clause-crash
returns-then-self-eq0-clause-crash g c clean file left =
    let found = c.args.self.now in
    let same = c.requires.bytes (subst (λ (b : Bool). IsTrue b) c.begin.ensures.calm clean) in
    let none = ap recovered (sym same) ∙ none_before found.bytes.items found.end c.if-self-eq0.true found.front in
    begun_left found.head (g.D.Disk.seen c.args.disk.now) file none (c.begin.ensures.crash clean file left)
