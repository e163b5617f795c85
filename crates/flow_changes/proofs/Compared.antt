-- Who gains, from a set of clients and from its names.
use Rattle.std.specs.Prelude.{◌≡◌, ℕ, suc, ◌+◌, ◌-◌, ◌≤◌, ◌==◌, Bool, not, List, [], ◌∷◌, ◌++◌, Option, Some, Result, Ok, Err, filter, flat_map, length, map, slice_get}
use Rattle.std.specs.List.{enumerate_from}
use Rattle.std.proofs.Common.{refl, sym, ap, ap₂, subst, ◌∙◌, inl, inr, arith}
use Rattle.std.proofs.lemmas.Bool.{ne_eqb}
use Rattle.meter_theory.specs.Labels.{has}
use Rattle.meter_theory.specs.Lists.{IsIn}
use Rattle.meter_theory.specs.Plan.{Client}
use Rattle.cosem_data.specs.declared.clients.ClientSet.{ClientSet}
use Rattle.flow_changes.specs.Changes.{changes_of_kind, compare_text, first_line, gainers, gains, kind_lines, somebody_gains}
use Rattle.flow_map.specs.Kinds.{all_kinds}
use Rattle.flow_changes.specs.Facts.{Numbered, numbered}
use Rattle.flow_map.specs.Map.{Configuration}
use Rattle.flow_map.specs.Map.{AreLeastOf}
use Rattle.whole_writes.specs.declared.fault.ListFault.{ListFault}
use Rattle.whole_writes.specs.declared.fault.ListFault.TheVariants as faults
use Rattle.flow_changes.specs.Shown.{kind_shown}
use Rattle.flow_changes.specs.declared.compare.KindFacts.{KindFacts}
use Rattle.flow_changes.specs.Written.{IsConfiguration, WritesComparison, WritesSides}
use Rattle.flow_changes.proofs.Lists.{filter-agree, flat_map-of-map}
use Rattle.flow_changes.proofs.Named.{is-more, names-of, some-named}

is-configuration : (C : Configuration) → AreLeastOf C.plan C.labels → IsConfiguration C.plan C.policy C
is-configuration C least = record { of_plan = refl; of_policy = refl; least = least }

-- a numbered client stands at its number
numbered-at : (k : ℕ) (clients : List Client) (n : Numbered) → IsIn (enumerate_from k clients) n → (k ≤ n.0) × (slice_get clients (n.0 - k) ≡ Some n.1)
numbered-at k [] n i = absurd i
numbered-at k (c ∷ clients) n (inl e) =
    let none : k - k ≡ 0 = omega arith in
    subst (λ m. (k ≤ m.0) × (slice_get (c ∷ clients) (m.0 - k) ≡ Some m.1)) (sym e) (omega arith, ap (slice_get (c ∷ clients)) none)
numbered-at k (c ∷ clients) n (inr i) =
    let r = numbered-at (k + 1) clients n i in
    let next : n.0 - k ≡ suc (n.0 - (k + 1)) = omega (arith, r.0) in
    (omega (arith, r.0), ap (slice_get (c ∷ clients)) next ∙ r.1)

-- a set of those who gain has the names of those who gain
pub gaining-names : (C D : Configuration) (gaining : ClientSet) (names : List ℕ) → ((c : ℕ) (client : Client) → slice_get D.plan.clients c ≡ Some client → has gaining c ≡ gains C D (c, client)) →
    names ≡ flat_map (λ n. 44 ∷ n.1.name) (filter (λ n. has gaining n.0) (numbered D.plan)) → names ≡ flat_map (λ n. 44 ∷ n.1.name) (filter (gains C D) (numbered D.plan))
gaining-names C D gaining names told is =
    is ∙ ap (flat_map (λ n. 44 ∷ n.1.name)) (filter-agree (λ n. has gaining n.0) (gains C D) (numbered D.plan) (λ n i. told n.0 n.1 (there n (numbered-at 0 D.plan.clients n i).1)))
  where
    there : (n : Numbered) → slice_get D.plan.clients (n.0 - 0) ≡ Some n.1 → slice_get D.plan.clients n.0 ≡ Some n.1
    there n e = let z : n.0 ≡ n.0 - 0 = omega arith in ap (slice_get D.plan.clients) z ∙ e

-- which the first line tells
pub first-is : (C D : Configuration) (names : List ℕ) → names ≡ flat_map (λ n. 44 ∷ n.1.name) (filter (gains C D) (numbered D.plan)) → names ≡ flat_map (λ name. 44 ∷ name) (gainers C D)
first-is C D names is = is ∙ names-of (gains C D) (numbered D.plan)

not-empty : (names : List ℕ) → not (length names == 0) ≡ is-more names
not-empty [] = refl
not-empty (b ∷ names) = ap not (ne_eqb (length (b ∷ names)) 0 (λ e. absurd (omega arith)))

-- and there are some where somebody gains
pub somebody-is : (C D : Configuration) (names : List ℕ) → names ≡ flat_map (λ n. 44 ∷ n.1.name) (filter (gains C D) (numbered D.plan)) → not (length names == 0) ≡ somebody_gains C D
somebody-is C D names is = not-empty names ∙ ap is-more is ∙ sym (some-named (gains C D) (numbered D.plan))

-- both texts are that of the comparison
pub text-is : (C D : Configuration) (first rest : List ℕ) (kinds : List KindFacts) → first ≡ first_line (gainers C D) → rest ≡ flat_map kind_lines (map kind_shown kinds) → map kind_shown kinds ≡ [] ++ map (changes_of_kind C D) all_kinds →
    first ++ rest ≡ compare_text C D
text-is C D first rest kinds e f g =
    ap₂ (λ a b. a ++ b) e (f ∙ ap (flat_map kind_lines) g ∙ flat_map-of-map kind_lines (changes_of_kind C D) all_kinds)

-- the comparison of configurations is that of their plans and policies
pub of-sides : (C D : Configuration) → AreLeastOf C.plan C.labels → AreLeastOf D.plan D.labels → (before after : Option (List ℕ)) (r : Result Bool ListFault) →
    WritesSides C D before after r → WritesComparison C.plan C.policy D.plan D.policy before after r
of-sides C D a b before after (Err faults.Memory) w = w
of-sides C D a b before after (Err faults.Write) w = (C, D, is-configuration C a, is-configuration D b, w)
of-sides C D a b before after (Ok some) w = (C, D, is-configuration C a, is-configuration D b, w)
