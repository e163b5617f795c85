-- Labels in the places of their cells.
use Rattle.std.specs.Prelude.{◌≡◌, ◌≢◌, ℕ, ◌<◌, ◌==◌, Bool, true, false, cond, ◌⊎◌, List, [], ◌∷◌, ◌++◌, map, length, get_or, set, replicate, Option, None, Some, is_some}
use Rattle.std.specs.Option.{unwrap_or}
use Rattle.std.proofs.Common.{refl, sym, ap, ap₂, subst, ◌∙◌, arith, inl, inr}
use Rattle.std.proofs.lemmas.List.{length-set, length-map, get_or-set_same, get_or-set_other, get_or-map, get_or_default, same_lists}
use Rattle.std.proofs.lemmas.Simd.{splat_is_map}
use Rattle.cosem_data.specs.Cells.{same_cell}
use Rattle.cosem_data.specs.declared.cell.CellRef.{CellRef}
use Rattle.cosem_data.proofs.Same.{same_cell-true, same_cell-refl}
use Rattle.cosem_data.specs.declared.clients.ClientSet.{ClientSet}
use Rattle.meter_theory.specs.Labels.{Labels, label_at, labelling_of_policy, monitored_of, monitored_or, or_else, policy_source}
use Rattle.meter_theory.specs.Plan.{Plan, Object, Part, Data1, Register, ProfileGeneric, Clock, ScriptTable, RegisterMonitor, SingleActionSchedule, cells, object_at}
use Rattle.meter_theory.specs.Sound.{IsSound, IsSoundPart}
use Rattle.meter_theory.proofs.Agreement.{object-found}
use Rattle.meter_theory.specs.Lists.{IsIn}
use Rattle.meter_theory.specs.declared.flow.Label.{Label}
use Rattle.flow_edges.specs.Table.{AreCells, cell_at, no_cell}

pub no-entry : (cs : List CellRef) (n : ℕ) → n ≡ length cs → replicate n None ≡ map (label_at []) cs
no-entry cs n e = splat_is_map cs n None (sym e)

abbrev first_some : Option Label → Option Label → Option Label
first_some None other = other
first_some (Some l) other = Some l

-- the label of one more entry counts where there was none
label-behind : (before : Labels) (e : CellRef × Label) (x : CellRef) → label_at (before ++ e ∷ []) x ≡ first_some (label_at before x) (cond (same_cell e.0 x) (Some e.1) None)
label-behind [] e x = refl
label-behind (l ∷ before) e x = at (same_cell l.0 x) (label-behind before e x)
  where
    at : (b : Bool) → label_at (before ++ e ∷ []) x ≡ first_some (label_at before x) (cond (same_cell e.0 x) (Some e.1) None) →
        cond b (Some l.1) (label_at (before ++ e ∷ []) x) ≡ first_some (cond b (Some l.1) (label_at before x)) (cond (same_cell e.0 x) (Some e.1) None)
    at true rest = refl
    at false rest = rest

other-cell : (before : Labels) (e : CellRef × Label) (x : CellRef) → same_cell e.0 x ≡ false → label_at (before ++ e ∷ []) x ≡ label_at before x
other-cell before e x other =
    label-behind before e x ∙ (ap (λ b. first_some (label_at before x) (cond b (Some e.1) None)) other ∙ none (label_at before x))
  where
    none : (l : Option Label) → first_some l None ≡ l
    none None = refl
    none (Some l) = refl

same_or_not : (m n : ℕ) → (m ≡ n) ⊎ (m ≢ n)
same_or_not m n = grind arith

module _ (cs : List CellRef) (are : AreCells cs) (before : Labels) (e : CellRef × Label) (n : ℕ) (less : n < length cs) (is : cell_at cs n ≡ e.0) where
  other-place : (k : ℕ) → k < length cs → k ≢ n → label_at (before ++ e ∷ []) (cell_at cs k) ≡ label_at before (cell_at cs k)
  other-place k h other = other-cell before e (cell_at cs k) (apart (same_cell e.0 (cell_at cs k)) refl)
    where
      apart : (b : Bool) → same_cell e.0 (cell_at cs k) ≡ b → b ≡ false
      apart false q = refl
      apart true q = absurd (other (sym (are.apart n k less h (subst (λ z. same_cell z (cell_at cs k) ≡ true) (sym is) q))))

  this-place : label_at (before ++ e ∷ []) (cell_at cs n) ≡ first_some (label_at before (cell_at cs n)) (Some e.1)
  this-place =
      label-behind before e (cell_at cs n)
      ∙ ap (λ b. first_some (label_at before (cell_at cs n)) (cond b (Some e.1) None)) (subst (λ z. same_cell e.0 z ≡ true) (sym is) (same_cell-refl e.0))

  right : (k : ℕ) (d : Option Label) → k < length cs → get_or (map (label_at (before ++ e ∷ [])) cs) k d ≡ label_at (before ++ e ∷ []) (cell_at cs k)
  right k d h = get_or-map (label_at (before ++ e ∷ [])) cs k no_cell d h

  -- a label is put where there was none
  pub put-first : (found : List (Option Label)) → found ≡ map (label_at before) cs → get_or found n None ≡ None → set found n (Some e.1) ≡ map (label_at (before ++ e ∷ [])) cs
  put-first found so_far empty =
      same_lists (set found n (Some e.1)) (map (label_at (before ++ e ∷ [])) cs) (length-set found n (Some e.1) ∙ (long ∙ sym (length-map cs (label_at (before ++ e ∷ [])))))
      (λ k d h. at k d (subst (λ z. k < z) (length-set found n (Some e.1) ∙ long) h) (same_or_not k n))
    where
      long : length found ≡ length cs
      long = ap length so_far ∙ length-map cs (label_at before)

      none : label_at before (cell_at cs n) ≡ None
      none = sym (get_or-map (label_at before) cs n no_cell None less) ∙ (ap (λ z. get_or z n None) (sym so_far) ∙ empty)

      at : (k : ℕ) (d : Option Label) → k < length cs → (k ≡ n) ⊎ (k ≢ n) → get_or (set found n (Some e.1)) k d ≡ get_or (map (label_at (before ++ e ∷ [])) cs) k d
      at k d h (inl same) =
          ap (λ z. get_or (set found n (Some e.1)) z d) same
          ∙ (get_or-set_same found n (Some e.1) d (subst (λ z. n < z) (sym long) less)
          ∙ (sym (this-place ∙ ap (λ z. first_some z (Some e.1)) none) ∙ (ap (λ z. label_at (before ++ e ∷ []) (cell_at cs z)) (sym same) ∙ sym (right k d h))))
      at k d h (inr other) =
          get_or-set_other found n k (Some e.1) d other
          ∙ (ap (λ z. get_or z k d) so_far
          ∙ (get_or-map (label_at before) cs k no_cell d h ∙ (sym (other-place k h other) ∙ sym (right k d h))))

  -- where there was one, it stays
  pub put-kept : (found : List (Option Label)) (l : Label) → found ≡ map (label_at before) cs → get_or found n None ≡ Some l → found ≡ map (label_at (before ++ e ∷ [])) cs
  put-kept found l so_far full =
      same_lists found (map (label_at (before ++ e ∷ [])) cs) (long ∙ sym (length-map cs (label_at (before ++ e ∷ []))))
      (λ k d h. at k d (subst (λ z. k < z) long h) (same_or_not k n))
    where
      long : length found ≡ length cs
      long = ap length so_far ∙ length-map cs (label_at before)

      some : label_at before (cell_at cs n) ≡ Some l
      some = sym (get_or-map (label_at before) cs n no_cell None less) ∙ (ap (λ z. get_or z n None) (sym so_far) ∙ full)

      left : (k : ℕ) (d : Option Label) → k < length cs → get_or found k d ≡ label_at before (cell_at cs k)
      left k d h = ap (λ z. get_or z k d) so_far ∙ get_or-map (label_at before) cs k no_cell d h

      at : (k : ℕ) (d : Option Label) → k < length cs → (k ≡ n) ⊎ (k ≢ n) → get_or found k d ≡ get_or (map (label_at (before ++ e ∷ [])) cs) k d
      at k d h (inl same) =
          left k d h ∙ (ap (λ z. label_at before (cell_at cs z)) same
          ∙ (some ∙ (sym (this-place ∙ ap (λ z. first_some z (Some e.1)) some) ∙ (ap (λ z. label_at (before ++ e ∷ []) (cell_at cs z)) (sym same) ∙ sym (right k d h)))))
      at k d h (inr other) = left k d h ∙ (sym (other-place k h other) ∙ sym (right k d h))

-- an entry of no cell of the list changes nothing
pub put-nowhere : (cs : List CellRef) (before : Labels) (e : CellRef × Label) → (IsIn cs e.0 → ⊥) → map (label_at before) cs ≡ map (label_at (before ++ e ∷ [])) cs
put-nowhere [] before e none = refl
put-nowhere (y ∷ cs) before e none =
    ap₂ (λ b bs. b ∷ bs) (sym (other-cell before e y (apart (same_cell e.0 y) refl))) (put-nowhere cs before e (λ i. none (inr i)))
  where
    apart : (b : Bool) → same_cell e.0 y ≡ b → b ≡ false
    apart false q = refl
    apart true q = absurd (none (inl (same_cell-true e.0 y q)))

-- a label of these sets
abbrev pub labelled : ClientSet → ClientSet → Label
labelled influence learn = record { influence = influence; learn = learn }

-- what stands at a place, by the test of it
at-place : (found : List (Option Label)) (m n : ℕ) (o : Option Label) → m < length found → m ≡ n → o ≡ get_or found m o → get_or found n None ≡ o
at-place found m n o less same is = ap (λ k. get_or found k None) (sym same) ∙ (sym (get_or_default found m o None less) ∙ sym is)

pub is-none : (found : List (Option Label)) (m n : ℕ) (o : Option Label) → m < length found → m ≡ n → o ≡ get_or found m o → is_some o ≡ false → get_or found n None ≡ None
is-none found m n o less same is none = at-place found m n o less same is ∙ at o none
  where
    at : (o : Option Label) → is_some o ≡ false → o ≡ None
    at None e = refl
    at (Some l) e = cc

pub is-some : (found : List (Option Label)) (m n : ℕ) (o : Option Label) → m < length found → m ≡ n → o ≡ get_or found m o → is_some o ≡ true → (l : Label) × (get_or found n None ≡ Some l)
is-some found m n o less same is some = let r = at o some in (r.0, at-place found m n o less same is ∙ r.1)
  where
    at : (o : Option Label) → is_some o ≡ true → (l : Label) × (o ≡ Some l)
    at None e = cc
    at (Some l) e = (l, refl)

-- the cell whose label a policy takes is one of the plan
pub source-cell : (P : Plan) → IsSound P → (x : CellRef) → IsIn (cells P) x → IsIn (cells P) (policy_source P x)
source-cell P sound x there = at (x.index == 0) (object_at P x.name) refl
  where
    in-part : (o : Object) → IsIn P.objects o → (part : Part) → o.part ≡ part → IsIn (cells P) (monitored_or x part)
    in-part o i (Data1 value) e = there
    in-part o i (Register first default scaler_unit) e = there
    in-part o i (ProfileGeneric captured period entries) e = there
    in-part o i (Clock first) e = there
    in-part o i (ScriptTable scripts) e = there
    in-part o i (RegisterMonitor monitored th actions) e = (subst (IsSoundPart P) e (sound.parts o i)).0
    in-part o i (SingleActionSchedule script type times) e = there

    at : (b : Bool) (o : Option Object) → object_at P x.name ≡ o → IsIn (cells P) (cond b (monitored_of x o) x)
    at false o e = there
    at true None e = there
    at true (Some o) e = in-part o (object-found P x.name o e).0 o.part refl

-- the label that a policy gives is that of the source's number
pub policy-is : (P : Plan) (table : Labels) (default : Label) (x : CellRef) (own : List (Option Label)) (n : ℕ) (o : Option Label) → own ≡ map (label_at table) (cells P) → n < length (cells P) →
    cell_at (cells P) n ≡ policy_source P x → o ≡ get_or own n o → unwrap_or o default ≡ labelling_of_policy P (record { table = table; default = default }) x
policy-is P table default x own n o are less there is =
    same o ∙ ap (or_else default) (is ∙ (get_or_default own n o None (subst (λ z. n < z) (sym (ap length are ∙ length-map (cells P) (label_at table))) less)
    ∙ (ap (λ z. get_or z n None) are ∙ (get_or-map (label_at table) (cells P) n no_cell None less ∙ ap (label_at table) there))))
  where
    same : (o : Option Label) → unwrap_or o default ≡ or_else default o
    same None = refl
    same (Some l) = refl
