-- Each settable cell starts with a value that meets its rule.
use Rattle.std.proofs.Common.{◌≡◌, ℕ, ◌==◌, true, false, cond, List, not, [], ◌∷◌, ℤ, refl, sym, ap, subst, ◌∙◌, inl, inr, Option, Some, None, is_some, eq-eqb}
use Rattle.std.specs.Prelude.{option_map, option_and_then, ◌&&◌}
use Rattle.std.proofs.lemmas.Bool.{and_from, cond-true, false≢true}
use Rattle.cosem_data.specs.Tree.{Tree, null_data}
use Rattle.cosem_data.specs.Kinds.{kind_of, same_kind}
use Rattle.cosem_data.specs.Cells.{cell}
use Rattle.cosem_data.specs.declared.kind.Kind.{Kind}
use Rattle.cosem_data.specs.declared.cell.CellRef.{CellRef}
use Rattle.meter_theory.specs.Lists.{IsIn}
use Rattle.meter_theory.specs.State.{value}
use Rattle.meter_theory.specs.Value.{OfKind, meets, is_within_limits}
use Rattle.meter_theory.specs.Plan.{start_values, inner_start, clock_object, start_of, rule_in, rule_of, class_of, object_at}
use Rattle.meter_theory.proofs.Lists.{in_map, one_of_key}
use Rattle.config_text.specs.Fault.{fault_where}
use Rattle.config_text.specs.Parts.{Text, ConfigText, ObjectText, BodyText, DataText, RegisterText}
use Rattle.value_text.specs.Texts.{value_in}
use Rattle.config_rules.specs.Values.{kind_in, is_number, is_of_kind, may_be_number, number_kind}
use Rattle.config_rules.specs.PlanOf.{part_of, object_of, plan_of, name_of, value_of, or_else}
use Rattle.config_rules.specs.Passes as passes
use Rattle.config_rules.specs.Names.{scripts_in}
use Rattle.config_rules.specs.Walks.{each_action}
use Rattle.config_rules.proofs.Nothing.{both_none, holds, each_ok}
use Rattle.config_rules.proofs.Passed.{indexes_parts, limits_parts}
use Rattle.config_rules.proofs.Named.{plan_names}
use Rattle.config_rules.proofs.Cells.{IsRight, target_itself}
use Rattle.meter_theory.proofs.Start.{started}
use Rattle.meter_theory.proofs.Held.{value-first}
use Rattle.meter_theory.proofs.Rights.{cell_of_object}

-- a value that is there and keeps within the limits
value_there : (text : Text) → is_some (value_in text) ≡ true → (v : Tree) × (value_in text ≡ Some v) × (value_of text ≡ v)
value_there text h = at (value_in text) refl h
  where
    at : (r : Option Tree) → value_in text ≡ r → is_some r ≡ true → (v : Tree) × (value_in text ≡ Some v) × (value_of text ≡ v)
    at None is e = cc
    at (Some v) is e = (v, is, ap (or_else null_data) is)

-- the object of the plan for an object with this body
pub planned_body : (c : ConfigText) → IsRight c → (o : ObjectText) → IsIn c.objects o → (body : BodyText) → o.body ≡ body →
    object_at (plan_of c) (name_of o.name) ≡ Some (record { name = name_of o.name; fed = o.fed; part = part_of c body })
planned_body c ok o i body is = (target_itself c ok o i).planned ∙ ap (λ b. Some (record { name = name_of o.name; fed = o.fed; part = part_of c b })) is

pub rule_body : (c : ConfigText) → IsRight c → (o : ObjectText) → IsIn c.objects o → (body : BodyText) → o.body ≡ body → (index : ℕ) →
    rule_of (plan_of c) (cell (class_of (part_of c body)) (name_of o.name) index) ≡ rule_in (plan_of c) (part_of c body) index
rule_body c ok o i body is index =
    ap (λ r. option_and_then (λ p. cond (class_of p.part == class_of (part_of c body)) (rule_in (plan_of c) p.part index) None) r) (planned_body c ok o i body is)
    ∙ cond-true (class_of (part_of c body) == class_of (part_of c body)) (rule_in (plan_of c) (part_of c body) index) None (eq-eqb (class_of (part_of c body)) (class_of (part_of c body)) refl)

-- the values that stand at an index
abbrev pub values_at : ℕ → List (CellRef × Tree) → List Tree
values_at index [] = []
values_at index (e ∷ es) = cond (e.0.index == index) (e.1 ∷ values_at index es) (values_at index es)

in_values : (es : List (CellRef × Tree)) (x : CellRef) (w : Tree) → IsIn es (x, w) → IsIn (values_at x.index es) w
in_values [] x w none = absurd none
in_values (e ∷ es) x w (inl is) =
    subst (λ b. IsIn (cond b (e.1 ∷ values_at x.index es) (values_at x.index es)) w) (sym (eq-eqb e.0.index x.index (ap (λ z. z.0.index) (sym is)))) (inl (ap (λ z. z.1) is))
in_values (e ∷ es) x w (inr j) =
    let rest = in_values es x w j in
    elim (e.0.index == x.index) as (λ b. IsIn (cond b (e.1 ∷ values_at x.index es) (values_at x.index es)) w) [ true ↦ inr rest | false ↦ rest ]

-- the start value of a cell whose index no other of its object has
pub start_body : (c : ConfigText) → IsRight c → (o : ObjectText) → IsIn c.objects o → (body : BodyText) → o.body ≡ body → (index : ℕ) (v : Tree) →
    IsIn (start_of (name_of o.name) (part_of c body)) (cell (class_of (part_of c body)) (name_of o.name) index, v) →
    values_at index (start_of (name_of o.name) (part_of c body)) ≡ v ∷ [] → value (start_values (plan_of c)) (cell (class_of (part_of c body)) (name_of o.name) index) ≡ v
start_body c ok o i body is index v there alone =
    let cell_is = subst (λ b. IsIn (start_of (name_of o.name) (part_of c b)) (x, v)) (sym is) there in
    let held = cell_of_object (plan_of c) (object_of c o) x v (in_map (object_of c) c.objects o i) cell_is in
    sym (value-first (start_values (plan_of c)) (inner_start (clock_object (plan_of c))) x held)
    ∙ started (plan_of c) (one_of_key (λ p. p.name) (plan_of c).objects (plan_names c ok.names ok.new)) (object_of c o) (in_map (object_of c) c.objects o i) x v cell_is
    (λ w j. only w (subst (λ vs. IsIn vs w) alone (in_values (start_of (name_of o.name) (part_of c body)) x w (subst (λ b. IsIn (start_of (name_of o.name) (part_of c b)) (x, w)) is j))))
  where
    x : CellRef
    x = cell (class_of (part_of c body)) (name_of o.name) index

    only : (w : Tree) → IsIn (v ∷ []) w → w ≡ v
    only w (inl e) = e
    only w (inr none) = absurd none

-- what the passes found of an object with this body, each at its place
pub record IsPassed (c : ConfigText) (body : BodyText) : Type 0 where
  pub indexes : (at : Text) × (passes.usable_indexes c at body ≡ [])
  pub values : (at : Text) × (passes.valid_values_in c at body ≡ [])
  pub counts : (at : Text) × (passes.equal_counts_in at body ≡ [])
  pub executes : (at : Text) × (each_action (passes.no_execute c) at (scripts_in body) ≡ [])
  pub limits : (at : Text) × (passes.limits_in at body ≡ [])
  pub times : (at : Text) × (passes.valid_times_in at body ≡ [])

pub of_body : (c : ConfigText) → IsRight c → (o : ObjectText) → IsIn c.objects o → (body : BodyText) → o.body ≡ body → IsPassed c body
unfolding passes.valid_values passes.equal_counts passes.no_executes passes.valid_times
of_body c ok o i body is =
    subst (IsPassed c) is (record {
      indexes = each_ok _ _ _ _ (indexes_parts c ok.judged.indexes).0 o i;
      values = each_ok _ _ _ _ ok.judged.values o i;
      counts = each_ok _ _ _ _ ok.judged.counts o i;
      executes = each_ok _ _ _ _ ok.judged.executes o i;
      limits = each_ok _ _ _ _ (limits_parts c ok.judged.limits).2 o i;
      times = each_ok _ _ _ _ ok.judged.times o i;
    })

-- a text whose value is there, and within the limits
abbrev pub IsStart : Text → Type 0
IsStart text = (v : Tree) × (value_in text ≡ Some v) × (value_of text ≡ v) × (is_within_limits v ≡ true)

is_start : (text : Text) → is_some (value_in text) ≡ true → passes.is_small (option_and_then value_in (Some text)) ≡ true → IsStart text
is_start text there small = let v = value_there text there in (v.0, v.1, v.2, subst (λ r. passes.is_small r ≡ true) v.1 small)

-- the value of Data
pub data_start : (c : ConfigText) → IsRight c → (o : ObjectText) → IsIn c.objects o → (text : Text) → o.body ≡ DataText text → IsStart text
unfolding passes.valid_values_in passes.limits_in
data_start c ok o i text is = let found = of_body c ok o i (DataText text) is in is_start text (holds _ _ _ found.values.1) (holds _ _ _ found.limits.1)

number_there : (text : Text) → is_number (kind_in text) ≡ true → is_some (value_in text) ≡ true
number_there text h = at (value_in text) h
  where
    at : (r : Option Tree) → is_number (option_map kind_of r) ≡ true → is_some r ≡ true
    at None e = cc
    at (Some v) e = refl

-- values are judged by a kind that is one of numbers, or isn't known
pub number_known : (k : Option Kind) → may_be_number k ≡ true → number_kind k ≡ k
number_known None h = refl
number_known (Some kind) h = ap (λ b. cond b (Some kind) None) h

may_be_known : (k : Option Kind) → is_number k ≡ true → may_be_number k ≡ true
may_be_known None h = absurd (false≢true h)
may_be_known (Some kind) h = h

-- the value of a register, and what a reset puts: of one kind, and within the limits
pub register_start : (c : ConfigText) → IsRight c → (o : ObjectText) → IsIn c.objects o → (text default : Text) (scaler : ℤ) (unit : ℕ) → o.body ≡ RegisterText text default scaler unit →
    IsStart text × (meets (OfKind (kind_of (value_of text))) (value_of default) ≡ true)
unfolding passes.valid_values_in passes.limits_in
register_start c ok o i text default scaler unit is =
    let found = of_body c ok o i (RegisterText text default scaler unit) is in
    let right = both_none (fault_where _ _ (not (is_number (kind_in text)))) _ found.values.1 in
    let small = both_none (passes.small_value _ (Some text)) _ found.limits.1 in
    let number : is_number (kind_in text) ≡ true = holds _ _ _ right.0 in
    let v = is_start text (number_there text number) (holds _ _ _ small.0) in
    let kind = subst (λ k. is_of_kind k (value_in default) ≡ true) (number_known (kind_in text) (may_be_known (kind_in text) number)) (holds _ _ _ right.1) in (
      v,
      subst (λ z. meets (OfKind (kind_of z)) (value_of default) ≡ true) (sym v.2)
          (at v.0 (value_in default) refl (subst (λ r. is_of_kind (option_map kind_of r) (value_in default) ≡ true) v.1 kind) (holds _ _ _ small.1)),
    )
  where
    at : (v : Tree) (r : Option Tree) → value_in default ≡ r → is_of_kind (Some (kind_of v)) r ≡ true → passes.is_small r ≡ true → meets (OfKind (kind_of v)) (value_of default) ≡ true
    at v None e kind limit = cc
    at v (Some w) e kind limit = subst (λ z. meets (OfKind (kind_of v)) z ≡ true) (sym (ap (or_else null_data) e)) (and_from (same_kind (kind_of w) (kind_of v)) (is_within_limits w && true) kind (and_from (is_within_limits w) true limit refl))
