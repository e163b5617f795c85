use Rattle.std.proofs.Common.{◌≡◌, ◌∙◌, ◌++◌, append_assoc, ap, drop, List, subst, ℕ}
use Rattle.std.specs.Prelude.{OnOk, map}
use Rattle.cosem_data.specs.View.{tree}
use Rattle.line_words.specs.Changes.{came_line, gone_line}
use Rattle.line_words.proofs.Gone.{rows_are}
use Rattle.line_words.proofs.moving.push_rows.Goals as goal

pub returns : goal.returns
returns c =
    let x = c.args.cell.now in
    let older = map tree c.args.older.now in
    let newer = map tree c.args.newer.now in
    let gone = c.lost-gone.result in
    let came = c.behind-came.result.now in
    let old = c.args.lines.now.items in
    let lines = rows_are x c.args.older.now c.args.newer.now came gone c.lost-gone.ensures (c.behind-came.ensures ∙ ap (λ (n : ℕ). drop n c.args.newer.now) c.saturating_sub.ensures) in
    let all = ap (λ (l : List ℕ). l ++ gone_line x gone older) c.in_ok-push_came.ensures
    ∙ append_assoc old (came_line x (map tree came)) (gone_line x gone older)
    ∙ ap (λ (l : List ℕ). old ++ l) lines in
    subst (λ (l : List ℕ). OnOk c.push_gone.result (c.push_gone.new.lines.items ≡ l)) all c.push_gone.ensures
