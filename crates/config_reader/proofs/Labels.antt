-- One label more of a configuration.
use Rattle.std.proofs.Common.{◌≡◌, ◌<◌, ℕ, zero, suc, ◌+◌, List, [], ◌∷◌, ◌++◌, length, take, get_or, sym, ap, subst, ◌∙◌, arith}
use Rattle.cosem_data.specs.declared.cell.CellRef.{CellRef}
use Rattle.meter_theory.specs.declared.flow.Label.{Label}
use Rattle.meter_theory.specs.Labels.{Labels}
use Rattle.config_text.specs.Parts.{ConfigText, LabelText}
use Rattle.config_rules.specs.Faultless.{AreLabelsOf, IsLabelOf}
use Rattle.config_rules.specs.PlanOf.{cell_named}

longer : (c : ConfigText) (i : ℕ) (ls : List LabelText) (table : Labels) (l : LabelText) (e : CellRef × Label) →
    i < length ls → l ≡ get_or ls i l → AreLabelsOf c (take i ls) table → e.0 ≡ cell_named c l.target → IsLabelOf c l.sets e.1 →
    AreLabelsOf c (take (suc i) ls) (table ++ e ∷ [])
longer c zero [] table l e within is before cell label = absurd (omega (arith, within))
longer c zero (x ∷ ls) [] l e within is before cell label =
    (cell ∙ ap (λ z. cell_named c z.target) is, subst (λ z. IsLabelOf c z.sets e.1) is label, tt)
longer c zero (x ∷ ls) (y ∷ table) l e within is before cell label = absurd before
longer c (suc i) [] table l e within is before cell label = absurd (omega (arith, within))
longer c (suc i) (x ∷ ls) [] l e within is before cell label = absurd before
longer c (suc i) (x ∷ ls) (y ∷ table) l e within is before cell label =
    (before.0, before.1, longer c i ls table l e (omega (arith, within)) is before.2 cell label)

pub labelled_more : (c : ConfigText) (i : ℕ) (ls : List LabelText) (table longer_table : Labels) (l : LabelText) (e : CellRef × Label) →
    i < length ls → l ≡ get_or ls i l → AreLabelsOf c (take i ls) table → e.0 ≡ cell_named c l.target → IsLabelOf c l.sets e.1 →
    longer_table ≡ table ++ e ∷ [] → AreLabelsOf c (take (i + 1) ls) longer_table
labelled_more c i ls table longer_table l e within is before cell label whole =
    let next : suc i ≡ i + 1 = omega arith in
    subst (λ t. AreLabelsOf c (take (i + 1) ls) t) (sym whole) (subst (λ n. AreLabelsOf c (take n ls) (table ++ e ∷ [])) next (longer c i ls table l e within is before cell label))
