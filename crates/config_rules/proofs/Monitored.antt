-- What a register monitor monitors: a cell that keeps the kind of its start value.
use Rattle.std.proofs.Common.{◌≡◌, ◌==◌, true, false, [], ◌∷◌, refl, sym, ap, subst, ◌∙◌, inl, Some}
use Rattle.std.specs.Prelude.{◌||◌, option_map}
use Rattle.std.proofs.lemmas.Bool.{false≢true}
use Rattle.cosem_data.specs.Tree.{Tree}
use Rattle.cosem_data.specs.Kinds.{kind_of}
use Rattle.cosem_data.specs.Cells.{cell}
use Rattle.meter_theory.specs.Classes.{is_monitorable}
use Rattle.meter_theory.specs.Lists.{IsIn}
use Rattle.meter_theory.specs.State.{value}
use Rattle.meter_theory.specs.Value.{OfKind}
use Rattle.meter_theory.specs.Plan.{start_values, start_of, rule_in, rule_of, class_of, cells}
use Rattle.meter_theory.proofs.Rights.{cell_of_found}
use Rattle.config_text.specs.Parts.{Text, ConfigText, ObjectText, TargetText, BodyText, DataText, RegisterText, ProfileText, ClockText, ScriptTableText, MonitorText, ScheduleText, UnknownText}
use Rattle.config_rules.specs.Names.{class_named, target_is}
use Rattle.config_rules.specs.Values.{kind_in, kind_named, start_kind, start_kind_in}
use Rattle.config_rules.specs.PlanOf.{part_of, plan_of, name_of, value_of, cell_named}
use Rattle.config_rules.proofs.Cells.{IsRight, IsTarget, only_place}
use Rattle.config_rules.proofs.Starts.{IsStart, values_at, rule_body, start_body, data_start, register_start, planned_body}

-- a cell whose start value is v, with the rule that its kind is kept
pub record IsKept (c : ConfigText) (t : TargetText) (v : Tree) : Type 0 where
  pub kind : kind_named c t.object ≡ Some (kind_of v)
  pub starts : value (start_values (plan_of c)) (cell_named c t) ≡ v
  pub rule : rule_of (plan_of c) (cell_named c t) ≡ Some (OfKind (kind_of v))
  pub cell : IsIn (cells (plan_of c)) (cell_named c t)

pub monitored_cell : (c : ConfigText) → IsRight c → (t : TargetText) (o : ObjectText) → IsTarget c t.object o → target_is c is_monitorable t ≡ true → (v : Tree) × IsKept c t v
monitored_cell c ok t o target h = at o.body refl
  where
    -- the class of the target is that of its body
    class_at : (body : BodyText) → o.body ≡ body → class_named c t.object ≡ class_of (part_of c body)
    class_at body is = target.class ∙ ap (λ b. class_of (part_of c b)) is

    among_at : (body : BodyText) → o.body ≡ body → is_monitorable (class_of (part_of c body)) t.index ≡ true
    among_at body is = subst (λ k. is_monitorable k t.index ≡ true) (class_at body is) h

    cell_is : (body : BodyText) → o.body ≡ body → t.index ≡ 2 → cell (class_of (part_of c body)) (name_of o.name) 2 ≡ cell_named c t
    cell_is body is two = λ k. cell (sym (class_at body is) k) (name_of (target.name k)) (sym two k)

    kept : (body : BodyText) → o.body ≡ body → (text : Text) → ((t.index == 2) || false) ≡ true → IsStart text → start_kind_in body ≡ kind_in text →
        rule_in (plan_of c) (part_of c body) 2 ≡ Some (OfKind (kind_of (value_of text))) →
        IsIn (start_of (name_of o.name) (part_of c body)) (cell (class_of (part_of c body)) (name_of o.name) 2, value_of text) →
        values_at 2 (start_of (name_of o.name) (part_of c body)) ≡ value_of text ∷ [] → (v : Tree) × IsKept c t v
    kept body is text two v kind rule there alone =
        let e = cell_is body is (only_place 2 t.index two) in (
          v.0,
          record {
            kind = ap start_kind target.is ∙ (ap start_kind_in is ∙ (kind ∙ ap (option_map kind_of) v.1));
            starts = subst (λ x. value (start_values (plan_of c)) x ≡ v.0) e (start_body c ok o target.there body is 2 (value_of text) there alone ∙ v.2);
            rule = subst (λ x. rule_of (plan_of c) x ≡ Some (OfKind (kind_of v.0))) e (rule_body c ok o target.there body is 2 ∙ (rule ∙ ap (λ z. Some (OfKind (kind_of z))) v.2));
            cell = subst (IsIn (cells (plan_of c))) e (cell_of_found (plan_of c) (name_of o.name) _ (planned_body c ok o target.there body is) _ (value_of text) there);
          },
        )

    at : (body : BodyText) → o.body ≡ body → (v : Tree) × IsKept c t v
    at (DataText text) is = kept (DataText text) is text (among_at (DataText text) is) (data_start c ok o target.there text is) refl refl (inl refl) refl
    at (RegisterText text default scaler unit) is =
        kept (RegisterText text default scaler unit) is text (among_at (RegisterText text default scaler unit) is) (register_start c ok o target.there text default scaler unit is).0 refl refl (inl refl) refl
    at (ProfileText captures period entries sort_method) is = absurd (false≢true (among_at (ProfileText captures period entries sort_method) is))
    at (ClockText time) is = absurd (false≢true (among_at (ClockText time) is))
    at (ScriptTableText scripts) is = absurd (false≢true (among_at (ScriptTableText scripts) is))
    at (MonitorText monitored thresholds actions) is = absurd (false≢true (among_at (MonitorText monitored thresholds actions) is))
    at (ScheduleText script type times) is = absurd (false≢true (among_at (ScheduleText script type times) is))
    at UnknownText is = absurd (false≢true (among_at UnknownText is))
