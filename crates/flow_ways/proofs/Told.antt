-- The lines of a way.
use Rattle.std.proofs.Common.{◌≡◌, ℕ, zero, suc, Bool, List, [], ◌∷◌, ◌++◌, flat_map, length, get_or, Option, option_map, append_assoc, ap, ap₂, ◌∙◌, arith}
use Rattle.cosem_data.specs.declared.cell.CellRef.{CellRef}
use Rattle.meter_theory.specs.Labels.{Policy, has, labelling_of_policy}
use Rattle.meter_theory.specs.Plan.{Plan}
use Rattle.meter_theory.specs.Ways.{Grants, IsWay, near_end, set_for}
use Rattle.meter_theory.specs.declared.flow.Edge.{Edge}
use Rattle.meter_theory.specs.declared.flow.Reach.{Reach}
use Rattle.flow_ways.specs.Kept.{IsShown}
use Rattle.flow_ways.specs.Why.{IsBlockPut, head, indented, shown_lines, way_end}

-- a way ends where its last edge comes from
pub last-end : (reach : Reach) (x : CellRef) (es : List Edge) (k : ℕ) (e : Edge) → suc k ≡ length es → ((d : Edge) → e ≡ get_or es k d) → near_end reach e ≡ way_end reach x es
last-end reach x [] k e long is = absurd (omega (arith, long))
last-end reach x (f ∷ []) zero e long is = ap (near_end reach) (is f)
last-end reach x (f ∷ []) (suc k) e long is = absurd (omega (arith, long))
last-end reach x (f ∷ g ∷ es) zero e long is = absurd (omega (arith, long))
last-end reach x (f ∷ g ∷ es) (suc k) e long is = last-end reach (near_end reach f) (g ∷ es) k e (omega (arith, long)) is

pub way-granted : (P : Plan) (reach : Reach) (c : ℕ) (x : CellRef) (es : List Edge) → IsWay P reach c x es → Grants P reach c (way_end reach x es)
way-granted P reach c x [] h = h
way-granted P reach c x (e ∷ es) h = way-granted P reach c (near_end reach e) es h.2

-- a block behind a text
pub block-put : (P : Plan) (Q : Policy) (reach : Reach) (c : ℕ) (name : List ℕ) (x : CellRef) (shown : Option (List Edge)) (many : Option ℕ) (allowed : Bool) (old first new : List ℕ) → IsShown P reach c x shown →
    many ≡ option_map length shown → allowed ≡ has (set_for reach (labelling_of_policy P Q x)) c → first ≡ old ++ head reach many allowed →
    new ≡ first ++ flat_map indented (shown_lines P reach c name x shown) → IsBlockPut P Q reach c name x old new
block-put P Q reach c name x shown many allowed old first new is long allows begun put = record {
  shown = shown;
  is_shown = is;
  put = put
      ∙ (ap (λ t. t ++ flat_map indented (shown_lines P reach c name x shown)) (begun ∙ ap₂ (λ m a. old ++ head reach m a) long allows)
      ∙ append_assoc old (head reach (option_map length shown) (has (set_for reach (labelling_of_policy P Q x)) c)) (flat_map indented (shown_lines P reach c name x shown)));
}
