use Rattle.std.proofs.Common.{◌<◌, ℕ, get_or, length, subst, sym, arith}
use Rattle.std.proofs.lemmas.List.{get_or_default, get_or_read}
use Rattle.meter_theory.specs.Plan.{cells}
use Rattle.flow_page.proofs.RowFacts.{row-there}
use Rattle.flow_page.proofs.view.table.Table.first_cell.Goals as goal

pub index-requires : goal.index-requires
index-requires c =
    let rows = c.args.self.now.rows.now in
    let v = get_or rows c.args.row c.index-self-row.result in
    let is = row-there (length (cells c.args.self.now.facts.now.ways.now.plan)) rows c.args.row v c.args.self.now.are_rows c.requires (get_or_default rows c.args.row c.index-self-row.result v c.requires) in
    omega (arith, is.some, v.ok.0)

pub returns-clause-within : goal.returns-clause-within
returns-clause-within c =
    let count = length (cells c.args.self.now.facts.now.ways.now.plan) in
    let rows = c.args.self.now.rows.now in
    let v = get_or rows c.args.row c.index-self-row.result in
    let is = row-there count rows c.args.row v c.args.self.now.are_rows c.requires (get_or_default rows c.args.row c.index-self-row.result v c.requires) in
    let some : 0 < length v.items = omega (arith, is.some) in
    let P : ℕ → Type 0 = λ n. n < count in
    subst P (sym (get_or_read v.items _ _ some c.index.ensures 0)) (is.within 0 0 some)
