use Rattle.std.proofs.Common.{List, ℕ, subst, ◌∙◌}
use Rattle.std.specs.Fmt.{HasWritten}
use Rattle.trail_file.proofs.Heads.{head_pieces}
use Rattle.trail_file.proofs.head.HeadDisplay.fmt.Goals as goal

pub returns-clause-writes : goal.returns-clause-writes
returns-clause-writes g c plain ok =
    let head = c.args.self.now in
    let digits = c.in-Ok.ensures.cases.0 ∙ c.digits_of-digits.ensures in
    subst (λ (text : List ℕ). HasWritten g.W.Write.write_str_gives c.args.f.now text c.write.new.self) (head_pieces head c.in-Ok.digest.now digits) (c.write.ensures.writes plain ok)
