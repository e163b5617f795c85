use Rattle.std.proofs.Common.{◌∙◌, ap, length, map, subst, sym}
use Rattle.std.proofs.lemmas.List.{length-map}
use Rattle.flow_page.specs.Rows.{AreRowsOf}
use Rattle.flow_page.specs.WayTables.{way_key}
use Rattle.flow_page.proofs.GroupRows.{grouped-rows}
use Rattle.flow_page.proofs.view.tables.way_table.Goals as goal

pub group_rows-requires-clause-numbers : goal.group_rows-requires-clause-numbers
group_rows-requires-clause-numbers c =
    let told = c.deref.result.now in
    let long = length-map told way_key ∙ ap length (c.deref.ensures.value ∙ sym c.deref-2.ensures.value) in
    let numbers = map (λ group. group.items) c.in_ok-numbers.numbers.items in
    let rows = subst (λ n. AreRowsOf n numbers) long (grouped-rows (map way_key told) numbers c.in_ok-numbers.ensures) in
    subst (λ list. AreRowsOf (length c.deref-2.result.now) (map (λ group. group.items) list)) (sym c.deref-3.ensures.value) rows
