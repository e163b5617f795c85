use Rattle.std.proofs.Common.{◌≡◌, ◌++◌, ◌∙◌, ◌∷◌, ap, filter, flat_map, length, map, not, rules, subst, sym, vec_len}
use Rattle.std.specs.Prelude.{◌==◌}
use Rattle.std.specs.Io.KnownBytes.{Appends}
use Rattle.std.proofs.lemmas.Result.{err_from_is_err_and}
use Rattle.meter_theory.specs.Labels.{has}
use Rattle.flow_map.specs.Map.{Mapped}
use Rattle.flow_changes.specs.Changes.{changes_of_kind, gainers}
use Rattle.flow_changes.specs.Facts.{Numbered, numbered}
use Rattle.flow_map.specs.Kinds.{all_kinds}
use Rattle.flow_changes.specs.Shown.{kind_shown}
use Rattle.flow_changes.proofs.Compared.{first-is, gaining-names, somebody-is, text-is}
use Rattle.flow_changes.proofs.compare.write_sides.Goals as goal

pub returns-in_err-write_both : goal.returns-in_err-write_both
returns-in_err-write_both g c =
    let C = c.args.old.now in
    let D = c.args.new.now in
    let p = err_from_is_err_and c.from_residual-in_err-write_both.result c.from_residual-in_err-write_both.ensures.1 in
    let names = c.deref.ensures.value ∙ gaining-names C D c.in_ok-gaining.gaining c.in_ok-names.names.items c.in_ok-gaining.ensures.clients (c.in_ok-names.ensures ∙ ap (λ P. flat_map (λ (n : Numbered). 44 ∷ n.1.name) (filter (λ n. has c.in_ok-gaining.gaining n.0) (numbered P))) (c.plan.ensures ∙ ap (λ (m : Mapped). m.plan) c.map.ensures)) in
    let first = c.deref-3.ensures.value ∙ c.in_ok-first.ensures (gainers C D) (first-is C D c.deref.result.now names) in
    let text = text-is C D c.deref-3.result.now c.as_bytes.result.now c.deref-2.result.now first (c.as_bytes.ensures.value ∙ c.in_ok-lines.ensures)
    (ap (map kind_shown) c.deref-2.ensures.value ∙ c.in_ok-gaining.ensures.kinds ∙ ap (λ ks. map kind_shown ks ++ map (changes_of_kind C D) all_kinds) c.new-kinds.ensures.items) in
    let cut = c.in_err-write_both.ensures.err in
    rw (p.1, p.2) (cut.0, cut.1, sym text ∙ cut.2, cut.3, cut.4)

pub returns : goal.returns
returns g c =
    let C = c.args.old.now in
    let D = c.args.new.now in
    let told = gaining-names C D c.in_ok-gaining.gaining c.in_ok-names.names.items c.in_ok-gaining.ensures.clients (c.in_ok-names.ensures ∙ ap (λ P. flat_map (λ (n : Numbered). 44 ∷ n.1.name) (filter (λ n. has c.in_ok-gaining.gaining n.0) (numbered P))) (c.plan.ensures ∙ ap (λ (m : Mapped). m.plan) c.map.ensures)) in
    let first = c.deref-3.ensures.value ∙ c.in_ok-first.ensures (gainers C D) (first-is C D c.deref.result.now (c.deref.ensures.value ∙ told)) in
    let text = text-is C D c.deref-3.result.now c.as_bytes.result.now c.deref-2.result.now first (c.as_bytes.ensures.value ∙ c.in_ok-lines.ensures)
    (ap (map kind_shown) c.deref-2.ensures.value ∙ c.in_ok-gaining.ensures.kinds ∙ ap (λ ks. map kind_shown ks ++ map (changes_of_kind C D) all_kinds) c.new-kinds.ensures.items) in
    let long : vec_len c.in_ok-names.names ≡ length c.in_ok-names.names.items = search rules in (
      ap not (c.is_empty.ensures ∙ ap (λ n. n == 0) long) ∙ somebody-is C D c.in_ok-names.names.items told,
      subst (Appends (g.W.Write.contents c.args.writer.now) (g.W.Write.contents c.write_both.new.writer)) text c.in_ok-write_both.ensures.ok,
    )
