-- Which facts are among those of a configuration.
use Rattle.std.specs.Prelude.{◌≡◌, ℕ, ◌==◌, Bool, true, false, not, ◌&&◌, ◌||◌, cond, List, [], ◌∷◌, ◌++◌, filter, flat_map, is_some, map}
use Rattle.std.specs.List.{list_any}
use Rattle.std.specs.Str.{bytes_eq}
use Rattle.std.proofs.Common.{refl, sym, ap, ap₂, ◌∙◌}
use Rattle.std.proofs.lemmas.List.{append-nil}
use Rattle.std.proofs.lemmas.Slice.Eq.{bytes_eq-Decides}
use Rattle.cosem_data.specs.Cells.{same_cell}
use Rattle.cosem_data.specs.declared.cell.CellRef.{CellRef}
use Rattle.cosem_data.proofs.Same.{same_cell-true}
use Rattle.meter_theory.specs.Labels.{Labelling}
use Rattle.meter_theory.specs.Lists.{some_passes}
use Rattle.meter_theory.specs.Plan.{Client, Plan, cells, is_cell}
use Rattle.meter_theory.specs.Sound.{IsSound}
use Rattle.flow_changes.specs.Facts.{Fact, HasSap, IsOpen, Numbered, Reaches, among, facts, is_reached, numbered, own_facts, reached, same_fact, same_reach, told_of_client}
use Rattle.flow_map.specs.Map.{Configuration}
use Rattle.flow_map.specs.declared.kind.Kind.{Kind}
use Rattle.meter_theory.specs.declared.flow.Reach.{Reach}
use Rattle.meter_theory.specs.declared.flow.Reach.TheVariants as reaches
use Rattle.flow_changes.proofs.Lists.{list_any-agree, list_any-and, list_any-filter, list_any-flat_map, list_any-map}
use Rattle.flow_changes.proofs.Once.{any-once, clients-once, found}

pub bytes_eq-swap : (a b : List ℕ) → bytes_eq a b ≡ bytes_eq b a
bytes_eq-swap a b = at (bytes_eq a b) (bytes_eq b a) refl refl
  where
    at : (x y : Bool) → bytes_eq a b ≡ x → bytes_eq b a ≡ y → x ≡ y
    at true true e f = refl
    at false false e f = refl
    at true false e f = let g : bytes_eq b a ≡ true = (bytes_eq-Decides b a).1 (sym ((bytes_eq-Decides a b).0 e)) in cc
    at false true e f = let g : bytes_eq a b ≡ true = (bytes_eq-Decides a b).1 (sym ((bytes_eq-Decides b a).0 f)) in cc

-- facts of one client of the plan, or of none

pub among-own : (C other : Configuration) (kind : Kind) (f : Fact) → facts C other kind ≡ flat_map (own_facts C other kind) (numbered C.plan) ++ [] →
    among (facts C other kind) f ≡ list_any (λ n. list_any (same_fact f) (own_facts C other kind n)) (numbered C.plan)
among-own C other kind f own =
    ap (list_any (same_fact f)) (own ∙ append-nil (flat_map (own_facts C other kind) (numbered C.plan))) ∙ list_any-flat_map (same_fact f) (own_facts C other kind) (numbered C.plan)

-- what is told of the client with a name, if there is one, decides
pub of-named : (P : Plan) → IsSound P → (name : List ℕ) (told t : Numbered → Bool) → ((n : Numbered) → told n ≡ (bytes_eq name n.1.name && t n)) →
    list_any told (numbered P) ≡ some_passes t (found name 0 P.clients)
of-named P sound name told t is =
    list_any-agree told (λ n. bytes_eq n.1.name name && t n) (numbered P) (λ n i. is n ∙ ap (λ b. b && t n) (bytes_eq-swap name n.1.name))
    ∙ any-once (λ n. bytes_eq n.1.name name) t (numbered P) (clients-once name 0 P.clients sound.clients_apart)

-- Reached cells

and-last : (p b c s : Bool) (q : Bool) → (s ≡ true → p ≡ q) → (p && (b && (c && s))) ≡ ((b && (c && q)) && s)
and-last p b c false q h = all p b c q
  where
    all : (p b c q : Bool) → (p && (b && (c && false))) ≡ ((b && (c && q)) && false)
    all true true true true = refl
    all true true true false = refl
    all true true false true = refl
    all true true false false = refl
    all true false c q = refl
    all false true true true = refl
    all false true true false = refl
    all false true false q = refl
    all false false c q = refl
and-last p b c true q h = ap (λ z. z && (b && (c && true))) (h refl) ∙ all q b c
  where
    all : (q b c : Bool) → (q && (b && (c && true))) ≡ ((b && (c && q)) && true)
    all true true true = refl
    all true true false = refl
    all true false c = refl
    all false true true = refl
    all false true false = refl
    all false false c = refl

-- a test of cells that are this one
pub any-cell : (p : CellRef → Bool) (b c : Bool) (x : CellRef) (ys : List CellRef) → list_any (λ y. p y && (b && (c && same_cell x y))) ys ≡ ((b && (c && p x)) && list_any (same_cell x) ys)
any-cell p b c x ys =
    list_any-agree (λ y. p y && (b && (c && same_cell x y))) (λ y. (b && (c && p x)) && same_cell x y) ys
    (λ y i. and-last (p y) b c (same_cell x y) (p x) (λ e. ap p (sym (same_cell-true x y e))))
    ∙ list_any-and (b && (c && p x)) (same_cell x) ys

reached-by : (P : Plan) (Q : Labelling) (name : List ℕ) (reach : Reach) (x : CellRef) (n : Numbered) (other : Reach) →
    list_any (same_fact (Reaches name reach x)) (map (Reaches n.1.name other) (filter (is_reached Q n.0 other) (cells P)))
    ≡ ((bytes_eq name n.1.name && (same_reach reach other && is_reached Q n.0 other x)) && is_cell P x)
reached-by P Q name reach x n other =
    list_any-map (same_fact (Reaches name reach x)) (Reaches n.1.name other) (filter (is_reached Q n.0 other) (cells P))
    ∙ list_any-filter (λ y. same_fact (Reaches name reach x) (Reaches n.1.name other y)) (is_reached Q n.0 other) (cells P)
    ∙ any-cell (is_reached Q n.0 other) (bytes_eq name n.1.name) (same_reach reach other) x (cells P)

-- a client reaches a cell
pub among-reached : (P : Plan) (Q : Labelling) (name : List ℕ) (reach : Reach) (x : CellRef) (n : Numbered) →
    list_any (same_fact (Reaches name reach x)) (reached P Q n) ≡ (bytes_eq name n.1.name && (is_reached Q n.0 reach x && is_cell P x))
among-reached P Q name reach x n =
    list_any-flat_map (same_fact (Reaches name reach x)) (λ other. map (Reaches n.1.name other) (filter (is_reached Q n.0 other) (cells P))) (reaches.Influence ∷ reaches.Learn ∷ [])
    ∙ ap₂ (λ a b. a || (b || false)) (reached-by P Q name reach x n reaches.Influence) (reached-by P Q name reach x n reaches.Learn)
    ∙ at reach (bytes_eq name n.1.name) (is_cell P x)
  where
    at : (r : Reach) (b c : Bool) →
        (((b && (same_reach r reaches.Influence && is_reached Q n.0 reaches.Influence x)) && c) || (((b && (same_reach r reaches.Learn && is_reached Q n.0 reaches.Learn x)) && c) || false))
        ≡ (b && (is_reached Q n.0 r x && c))
    at reaches.Influence false c = refl
    at reaches.Influence true c = one (is_reached Q n.0 reaches.Influence x) c
      where
        one : (p c : Bool) → ((p && c) || (false || false)) ≡ (p && c)
        one true true = refl
        one true false = refl
        one false c = refl
    at reaches.Learn false c = refl
    at reaches.Learn true c = one (is_reached Q n.0 reaches.Learn x) c
      where
        one : (p c : Bool) → (false || ((p && c) || false)) ≡ (p && c)
        one true true = refl
        one true false = refl
        one false c = refl

-- Clients

pub among-sap : (name : List ℕ) (sap : ℕ) (client : Client) → list_any (same_fact (HasSap name sap)) (told_of_client client) ≡ (bytes_eq name client.name && (sap == client.sap))
among-sap name sap client = at (is_some client.password) (bytes_eq name client.name && (sap == client.sap))
  where
    at : (b s : Bool) → (s || list_any (same_fact (HasSap name sap)) (cond b [] (IsOpen client.name ∷ []))) ≡ s
    at true true = refl
    at true false = refl
    at false true = refl
    at false false = refl

pub among-open : (name : List ℕ) (client : Client) → list_any (same_fact (IsOpen name)) (told_of_client client) ≡ (bytes_eq name client.name && not (is_some client.password))
among-open name client = at (is_some client.password) (bytes_eq name client.name)
  where
    at : (b s : Bool) → list_any (same_fact (IsOpen name)) (cond b [] (IsOpen client.name ∷ [])) ≡ (bytes_eq name client.name && not b)
    at true s = none (bytes_eq name client.name)
      where
        none : (s : Bool) → false ≡ (s && false)
        none true = refl
        none false = refl
    at false s = one (bytes_eq name client.name)
      where
        one : (s : Bool) → (s || false) ≡ (s && true)
        one true = refl
        one false = refl
