use Rattle.std.proofs.Common.{◌≡◌, ◌++◌, List, sym, subst, ℕ}
use Rattle.std.specs.Prelude.{OnOk}
use Rattle.line_words.proofs.Gone.{one_gone}
use Rattle.line_words.proofs.moving.push_gone.Goals as goal

pub returns-in-len1-up-eq1 : goal.returns-in-len1-up-eq1
returns-in-len1-up-eq1 c =
    let is = one_gone c.args.cell.now c.args.count c.args.rows.now c.row-item.result c.in-len1-up-eq1.is-1 c.in-len1-up-eq1.len_at_least c.row-item.is in
    subst (λ (l : List ℕ). OnOk c.push_value_line.result (c.push_value_line.new.lines.items ≡ c.args.lines.now.items ++ l)) (sym is) c.push_value_line.ensures
