-- A plan and its labels are refused in one way at most.
use Rattle.std.proofs.Common.{◌≡◌, ◌<◌, ◌⊎◌, ℕ, zero, suc, ap, inl, inr, arith}
use Rattle.meter_theory.specs.Plan.{Plan, cells}
use Rattle.meter_theory.specs.Edges.{edges}
use Rattle.meter_theory.specs.Labels.{Labels, Labelling}
use Rattle.meter_theory.specs.Check.{clients_with_cells, is_labelled, keeps_policy, admits_changer, admits_reader, influence_flows, learn_flows, Pass, Refuses}
use Rattle.meter_theory.specs.declared.flow.Refusal.{Refusal}
use Rattle.meter_theory.specs.declared.flow.Refusal.TheVariants.{NotLabelled, PastPolicy, Changer, Reader, InfluenceEscapes, LearnEscapes}
use Rattle.meter_theory.proofs.Admission.{not_all, first_once}

-- the place of its clause
abbrev number : Refusal → ℕ
number (NotLabelled x) = 0
number (PastPolicy x) = 1
number (Changer c x) = 2
number (Reader c x) = 3
number (InfluenceEscapes e) = 4
number (LearnEscapes e) = 5

module _ (P : Plan) (policy : Labelling) (labels : Labels) where
  -- the clause at this place passes
  abbrev Passes : ℕ → Type 0
  Passes zero = Pass (is_labelled labels) (cells P)
  Passes (suc zero) = Pass (keeps_policy policy labels) (cells P)
  Passes (suc (suc zero)) = Pass (admits_changer P labels) (clients_with_cells P)
  Passes (suc (suc (suc zero))) = Pass (admits_reader P labels) (clients_with_cells P)
  Passes (suc (suc (suc (suc zero)))) = Pass (influence_flows labels) (edges P)
  Passes (suc (suc (suc (suc (suc n))))) = Pass (learn_flows labels) (edges P)

  fails : (r : Refusal) → Refuses P policy labels r → Passes (number r) → ⊥
  fails (NotLabelled x) h a = not_all (is_labelled labels) (cells P) x h a
  fails (PastPolicy x) h a = not_all (keeps_policy policy labels) (cells P) x h.1 a
  fails (Changer c x) h a = not_all (admits_changer P labels) (clients_with_cells P) (c, x) h.2 a
  fails (Reader c x) h a = not_all (admits_reader P labels) (clients_with_cells P) (c, x) h.3 a
  fails (InfluenceEscapes e) h a = not_all (influence_flows labels) (edges P) e h.4 a
  fails (LearnEscapes e) h a = not_all (learn_flows labels) (edges P) e h.5 a

  -- the clauses before that of a refusal pass
  before : (r : Refusal) → Refuses P policy labels r → (k : ℕ) → k < number r → Passes k
  before (NotLabelled x) h k less = absurd (omega arith)
  before (PastPolicy x) h zero less = h.0
  before (PastPolicy x) h (suc k) less = absurd (omega arith)
  before (Changer c x) h zero less = h.0
  before (Changer c x) h (suc zero) less = h.1
  before (Changer c x) h (suc (suc k)) less = absurd (omega arith)
  before (Reader c x) h zero less = h.0
  before (Reader c x) h (suc zero) less = h.1
  before (Reader c x) h (suc (suc zero)) less = h.2
  before (Reader c x) h (suc (suc (suc k))) less = absurd (omega arith)
  before (InfluenceEscapes e) h zero less = h.0
  before (InfluenceEscapes e) h (suc zero) less = h.1
  before (InfluenceEscapes e) h (suc (suc zero)) less = h.2
  before (InfluenceEscapes e) h (suc (suc (suc zero))) less = h.3
  before (InfluenceEscapes e) h (suc (suc (suc (suc k)))) less = absurd (omega arith)
  before (LearnEscapes e) h zero less = h.0
  before (LearnEscapes e) h (suc zero) less = h.1
  before (LearnEscapes e) h (suc (suc zero)) less = h.2
  before (LearnEscapes e) h (suc (suc (suc zero))) less = h.3
  before (LearnEscapes e) h (suc (suc (suc (suc zero)))) less = h.4
  before (LearnEscapes e) h (suc (suc (suc (suc (suc k))))) less = absurd (omega arith)

  same_clause : (r q : Refusal) → number r ≡ number q → Refuses P policy labels r → Refuses P policy labels q → r ≡ q
  same_clause (NotLabelled x) (NotLabelled y) e h k = ap NotLabelled (first_once (is_labelled labels) (cells P) x y h k)
  same_clause (PastPolicy x) (PastPolicy y) e h k = ap PastPolicy (first_once (keeps_policy policy labels) (cells P) x y h.1 k.1)
  same_clause (Changer c x) (Changer d y) e h k = ap (λ p. Changer p.0 p.1) (first_once (admits_changer P labels) (clients_with_cells P) (c, x) (d, y) h.2 k.2)
  same_clause (Reader c x) (Reader d y) e h k = ap (λ p. Reader p.0 p.1) (first_once (admits_reader P labels) (clients_with_cells P) (c, x) (d, y) h.3 k.3)
  same_clause (InfluenceEscapes x) (InfluenceEscapes y) e h k = ap InfluenceEscapes (first_once (influence_flows labels) (edges P) x y h.4 k.4)
  same_clause (LearnEscapes x) (LearnEscapes y) e h k = ap LearnEscapes (first_once (learn_flows labels) (edges P) x y h.5 k.5)
  same_clause _ _ e h k = absurd (omega (arith, e))

  pub refusal-unique : (r q : Refusal) → Refuses P policy labels r → Refuses P policy labels q → r ≡ q
  refusal-unique r q h k = at (compare_numbers (number r) (number q))
    where
      compare_numbers : (m n : ℕ) → (m < n) ⊎ ((n < m) ⊎ (m ≡ n))
      compare_numbers m n = grind arith

      at : (number r < number q) ⊎ ((number q < number r) ⊎ (number r ≡ number q)) → r ≡ q
      at (inl less) = absurd (fails r h (before q k (number r) less))
      at (inr (inl more)) = absurd (fails q k (before r h (number q) more))
      at (inr (inr same)) = same_clause r q same h k
