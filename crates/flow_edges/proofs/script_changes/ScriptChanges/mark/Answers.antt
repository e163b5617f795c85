use Rattle.std.proofs.Common.{◌≡◌, ◌==◌, ◌<◌, ◌∙◌, ◌++◌, ◌||◌, false, ap, subst, sym, get_or, length, map, vec_len, rules, arith}
use Rattle.std.specs.List.{list_any}
use Rattle.std.proofs.lemmas.List.{append-nil}
use Rattle.meter_theory.specs.Edges.{among, script_changes}
use Rattle.meter_theory.specs.Lists.{IsIn}
use Rattle.meter_theory.specs.Plan.{cells}
use Rattle.meter_theory.specs.Sound.{IsSound}
use Rattle.flow_edges.specs.Marking.{AreChanges}
use Rattle.flow_edges.proofs.Kept.{kept-there, list-within, nothing-changed, table-within}
use Rattle.flow_edges.proofs.Sources.{are-cells}
use Rattle.flow_edges.proofs.Targets.{all-marked, numbers-within}
use Rattle.flow_edges.proofs.script_changes.ScriptChanges.mark.Goals as goal

pub returns-in_default-clause-marked : goal.returns-in_default-clause-marked
returns-in_default-clause-marked c = λ r before stands is.
    let P = c.args.self.now in
    is
    ∙ ap (λ xs. map (among xs) (cells P)) (sym (ap (λ ys. before ++ ys) (nothing-changed P r c.args.script stands c.in_default.is) ∙ append-nil before))

pub index-scripts-requires : goal.index-scripts-requires
index-scripts-requires c =
    let tables = c.self.inside.tables.items in
    let P = c.args.self.now in
    let are = subst (λ Q. AreChanges Q (map (λ lists. map (λ numbers. numbers.items) lists.items) tables)) c.self.view_is c.self.invariant in
    let within = table-within P c.requires.stands.0 c.args.script c.requires.stands.1 tables are in
    let long : vec_len c.self.inside.tables ≡ length tables = search rules in
    omega (arith, c.from.ensures, within, long)

pub index-requires : goal.index-requires
index-requires c =
    let tables = c.self.inside.tables.items in
    let P = c.args.self.now in
    let are = subst (λ Q. AreChanges Q (map (λ lists. map (λ numbers. numbers.items) lists.items) tables)) c.self.view_is c.self.invariant in
    let t = c.index-scripts.result.now in
    let within = list-within P c.requires.stands.0 c.args.script c.requires.stands.1 tables t c.in-Some.place are (c.index-scripts.ensures ∙ ap (λ k. get_or tables k t) c.from.ensures) c.in-Some.is in
    let long : vec_len t ≡ length t.items = search rules in
    omega (arith, c.from-2.ensures, within, long)

pub mark_all-requires : goal.mark_all-requires
mark_all-requires c = λ n i.
    let tables = c.self.inside.tables.items in
    let P = c.args.self.now in
    let are = subst (λ Q. AreChanges Q (map (λ lists. map (λ numbers. numbers.items) lists.items) tables)) c.self.view_is c.self.invariant in
    let t = c.index-scripts.result.now in
    let l = c.index.result.now in
    let numbers = c.deref.ensures.value
    ∙ kept-there P c.requires.stands.0 c.args.script c.requires.stands.1 tables t l c.in-Some.place are (c.index-scripts.ensures ∙ ap (λ k. get_or tables k t) c.from.ensures) c.in-Some.is
    (c.index.ensures ∙ ap (λ k. get_or t.items k l) c.from-2.ensures) in
    subst (λ z. n < z) (sym c.requires.marks) (numbers-within (cells P) (script_changes P c.requires.stands.0) n (subst (λ ns. IsIn ns n) numbers i))

pub returns-clause-marked : goal.returns-clause-marked
returns-clause-marked c = λ r before stands is.
    let tables = c.self.inside.tables.items in
    let P = c.args.self.now in
    let old = c.args.marks.now.items in
    let are = subst (λ Q. AreChanges Q (map (λ lists. map (λ numbers. numbers.items) lists.items) tables)) c.self.view_is c.self.invariant in
    let t = c.index-scripts.result.now in
    let l = c.index.result.now in
    let numbers = c.deref.ensures.value
    ∙ kept-there P r c.args.script stands tables t l c.in-Some.place are (c.index-scripts.ensures ∙ ap (λ k. get_or tables k t) c.from.ensures) c.in-Some.is
    (c.index.ensures ∙ ap (λ k. get_or t.items k l) c.from-2.ensures) in
    all-marked (cells P) before (script_changes P r) old c.mark_all.new.marks.items (are-cells P (subst IsSound c.self.view_is c.known.ensures.sound)) is c.mark_all.ensures.size
    (λ k h. c.mark_all.ensures.marked k h ∙ ap (λ ns. get_or old k false || list_any (λ n. n == k) ns) numbers)
