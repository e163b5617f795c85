-- Which clients gain, and all facts of a kind.
use Rattle.std.specs.Prelude.{◌≡◌, ℕ, ◌+◌, ◌<◌, ◌≤◌, ◌==◌, Bool, true, false, not, ◌||◌, List, [], ◌∷◌, ◌++◌, Some, None, filter, flat_map, get_or, length, map, slice_get, take}
use Rattle.std.specs.List.{list_any}
use Rattle.std.proofs.Common.{◌⊎◌, Global, Vec, refl, sym, ap, ap₂, ◌∙◌, arith, inl, inr, vec_len}
use Rattle.std.proofs.lemmas.Bool.{eq-eqb, ne_eqb}
use Rattle.std.proofs.lemmas.List.{length-append, length-map}
use Rattle.std.proofs.lemmas.List.Elements.{filter-append}
use Rattle.std.proofs.lemmas.List.Folds.{list_any_more}
use Rattle.std.proofs.lemmas.Option.{slice_get_within, slice_get_cases}
use Rattle.cosem_data.specs.declared.cell.CellRef.{CellRef}
use Rattle.cosem_data.specs.declared.clients.ClientSet.{ClientSet}
use Rattle.meter_theory.specs.Edges.{edges, same_edge}
use Rattle.meter_theory.specs.Labels.{has}
use Rattle.meter_theory.specs.Plan.{Client, Plan, cells, is_cell}
use Rattle.meter_theory.specs.declared.flow.Edge.{Edge}
use Rattle.flow_changes.specs.Changes.{KindShown, changes_of_kind, gained, gains, lacks}
use Rattle.flow_map.specs.Kinds.{all_kinds}
use Rattle.flow_changes.specs.Facts.{Fact, HasCell, HasEdge, Numbered, among, common_facts, facts, numbered, own_facts, same_fact}
use Rattle.flow_map.specs.Map.{Configuration}
use Rattle.flow_changes.specs.Shown.{kind_shown, shown}
use Rattle.flow_changes.specs.declared.compare.KindFacts.{KindFacts}
use Rattle.flow_changes.specs.declared.fact.Fact.{Fact as FactKept}
use Rattle.flow_map.specs.declared.kind.Kind.{Kind}
use Rattle.flow_map.specs.declared.kind.Kind.TheVariants as kinds
use Rattle.flow_changes.proofs.Lists.{any-of-filter, filter-agree, filter-flat_map, filter-map, list_any-map, seen-more}

-- facts grow by what a filter leaves where something passes
pub grows : (p : Fact → Bool) (fs : List Fact) (old new : Vec FactKept Global) → map shown new.items ≡ map shown old.items ++ filter p fs →
    (vec_len old < vec_len new → list_any p fs ≡ true) × (vec_len new ≤ vec_len old → list_any p fs ≡ false)
grows p fs old new e =
    let before : length (map shown old.items) ≡ vec_len old = omega (arith, old.ok, length-map old.items shown) in
    let after : length (map shown new.items) ≡ vec_len new = omega (arith, new.ok, length-map new.items shown) in
    let long : vec_len new ≡ vec_len old + length (filter p fs) = sym after ∙ ap length e ∙ length-append (map shown old.items) (filter p fs) ∙ ap (λ n. n + length (filter p fs)) before in
    (λ h. (any-of-filter p fs).0 (omega (arith, h, long)), λ h. (any-of-filter p fs).1 (omega (arith, h, long)))

-- Owners

-- of the clients before a place the set has those that pass, and no other
pub record AreOwners (P : Plan) (p : Numbered → Bool) (place : ℕ) (owners : ClientSet) : Type 0 where
  pub told : (c : ℕ) (client : Client) → slice_get P.clients c ≡ Some client → c < place → has owners c ≡ p (c, client)
  pub none : (c : ℕ) → place ≤ c → has owners c ≡ false

pub no-owners : (P : Plan) (p : Numbered → Bool) (owners : ClientSet) → ((c : ℕ) → has owners c ≡ false) → AreOwners P p 0 owners
no-owners P p owners none = record { told = λ c client there less. absurd (omega arith); none = λ c above. none c }

less-or-last : (c place : ℕ) → c < place + 1 → (c < place) ⊎ (c ≡ place)
less-or-last c place h = grind arith

client-same : {A : Type 0} (x y : A) → Some x ≡ Some y → x ≡ y
client-same x y e = cc

-- a client that passes is put in
pub owner-in : (P : Plan) (p : Numbered → Bool) (place : ℕ) (client : Client) (old new : ClientSet) → AreOwners P p place old → slice_get P.clients place ≡ Some client → p (place, client) ≡ true →
    ((k : ℕ) → has new k ≡ (k == place || has old k)) → AreOwners P p (place + 1) new
owner-in P p place client old new o there passes put = record {
  told = λ c other here less. at c other here (less-or-last c place less);
  none = λ c above. put c ∙ ap₂ (λ a b. a || b) (ne_eqb c place (λ e. absurd (omega arith))) (o.none c (omega arith));
}
  where
    at : (c : ℕ) (other : Client) → slice_get P.clients c ≡ Some other → (c < place) ⊎ (c ≡ place) → has new c ≡ p (c, other)
    at c other here (inl less) = put c ∙ ap (λ b. b || has old c) (ne_eqb c place (λ e. absurd (omega arith))) ∙ o.told c other here less
    at c other here (inr e) =
        let same : client ≡ other = client-same client other (sym there ∙ ap (slice_get P.clients) (sym e) ∙ here) in
        put c ∙ ap (λ b. b || has old c) (eq-eqb c place e) ∙ sym passes ∙ ap₂ (λ k x. p (k, x)) (sym e) same

-- one that doesn't isn't
pub owner-out : (P : Plan) (p : Numbered → Bool) (place : ℕ) (client : Client) (old : ClientSet) → AreOwners P p place old → slice_get P.clients place ≡ Some client → p (place, client) ≡ false → AreOwners P p (place + 1) old
owner-out P p place client old o there fails = record {
  told = λ c other here less. at c other here (less-or-last c place less);
  none = λ c above. o.none c (omega arith);
}
  where
    at : (c : ℕ) (other : Client) → slice_get P.clients c ≡ Some other → (c < place) ⊎ (c ≡ place) → has old c ≡ p (c, other)
    at c other here (inl less) = o.told c other here less
    at c other here (inr e) =
        let same : client ≡ other = client-same client other (sym there ∙ ap (slice_get P.clients) (sym e) ∙ here) in
        o.none c (omega arith) ∙ sym fails ∙ ap₂ (λ k x. p (k, x)) (sym e) same

-- all are told where no client is left
pub all-told : (P : Plan) (p : Numbered → Bool) (place : ℕ) (owners : ClientSet) → AreOwners P p place owners → slice_get P.clients place ≡ None →
    (c : ℕ) (client : Client) → slice_get P.clients c ≡ Some client → has owners c ≡ p (c, client)
all-told P p place owners o end c client there = o.told c client there (below (slice_get_cases P.clients place).1)
  where
    low : c < length P.clients
    low = slice_get_within P.clients c client there

    below : ((x : Client) × (place < length P.clients) × (slice_get P.clients place ≡ Some x) × (get_or P.clients place x ≡ x)) ⊎ ((length P.clients ≤ place) × (slice_get P.clients place ≡ None)) → c < place
    below (inl s) = let there = s.2 in absurd cc
    below (inr past) = omega (arith, past.0, low)

-- Facts of all clients

-- one client's own facts that the other lacks
abbrev pub lacked_of : Configuration → Configuration → Kind → Numbered → List Fact
lacked_of C D kind n = filter (lacks D C kind) (own_facts C D kind n)

pub all-own : (C D : Configuration) (kind : Kind) → flat_map (lacked_of C D kind) (numbered C.plan) ≡ filter (lacks D C kind) (flat_map (own_facts C D kind) (numbered C.plan))
all-own C D kind = sym (filter-flat_map (lacks D C kind) (own_facts C D kind) (numbered C.plan))

-- own facts and then the common ones are all that are gained
pub gained-facts : (C D : Configuration) (kind : Kind) → filter (lacks D C kind) (flat_map (own_facts C D kind) (numbered C.plan)) ++ filter (lacks D C kind) (common_facts C kind) ≡ gained D C kind
unfolding gained facts
gained-facts C D kind = sym (filter-append (lacks D C kind) (flat_map (own_facts C D kind) (numbered C.plan)) (common_facts C kind))

-- Common facts

no-own : {A B : Type 0} (xs : List A) → flat_map {A = B} (λ x. []) xs ≡ []
no-own [] = refl
no-own (x ∷ xs) = no-own xs

among-cells : (C D : Configuration) (x : CellRef) → among (facts D C kinds.Cell) (HasCell x) ≡ is_cell D.plan x
unfolding facts
among-cells C D x = ap (λ fs. list_any (same_fact (HasCell x)) (fs ++ map HasCell (cells D.plan))) (no-own (numbered D.plan)) ∙ list_any-map (same_fact (HasCell x)) HasCell (cells D.plan)

among-edges : (C D : Configuration) (e : Edge) → among (facts D C kinds.Edge) (HasEdge e) ≡ list_any (same_edge e) (edges D.plan)
unfolding facts
among-edges C D e = ap (λ fs. list_any (same_fact (HasEdge e)) (fs ++ map HasEdge (edges D.plan))) (no-own (numbered D.plan)) ∙ list_any-map (same_fact (HasEdge e)) HasEdge (edges D.plan)

-- the cells that the other lacks
pub cells-lacked : (C D : Configuration) → filter (lacks D C kinds.Cell) (common_facts C kinds.Cell) ≡ map HasCell (filter (λ x. not (is_cell D.plan x)) (cells C.plan))
cells-lacked C D =
    filter-map (lacks D C kinds.Cell) HasCell (cells C.plan)
    ∙ ap (map HasCell) (filter-agree (λ x. lacks D C kinds.Cell (HasCell x)) (λ x. not (is_cell D.plan x)) (cells C.plan) (λ x i. ap not (among-cells C D x)))

-- and the edges
pub edges-lacked : (C D : Configuration) → filter (lacks D C kinds.Edge) (common_facts C kinds.Edge) ≡ map HasEdge (filter (λ e. not (list_any (same_edge e) (edges D.plan))) (edges C.plan))
edges-lacked C D =
    filter-map (lacks D C kinds.Edge) HasEdge (edges C.plan)
    ∙ ap (map HasEdge) (filter-agree (λ e. lacks D C kinds.Edge (HasEdge e)) (λ e. not (list_any (same_edge e) (edges D.plan))) (edges C.plan) (λ e i. ap not (among-edges C D e)))

-- Kinds, one by one

-- one kind more
pub kind-more : (old new : Configuration) (all : List Kind) (i : ℕ) (d : Kind) (start : List KindShown) (before after : List KindFacts) (told : KindFacts) → i < length all → map kind_shown before ≡ start ++ map (changes_of_kind old new) (take i all) →
    told.kind ≡ get_or all i d → map shown told.gained.items ≡ gained old new (get_or all i d) → map shown told.lost.items ≡ gained new old (get_or all i d) → after ≡ before ++ told ∷ [] →
    map kind_shown after ≡ start ++ map (changes_of_kind old new) (take (i + 1) all)
kind-more old new all i d start before after told within so_far kind gain lose pushed =
    seen-more kind_shown (changes_of_kind old new) all i d start before after told within so_far (λ j. record { kind = kind j; gained = gain j; lost = lose j }) pushed

-- whether one of these kinds has a fact of the client that it gains
abbrev pub gains_by : Configuration → Configuration → List Kind → Numbered → Bool
gains_by old new some n = list_any (λ kind. list_any (lacks old new kind) (own_facts new old kind n)) some

pub gains-more : (old new : Configuration) (all : List Kind) (i : ℕ) (d : Kind) (n : Numbered) → i < length all →
    (gains_by old new (take i all) n || list_any (lacks old new (get_or all i d)) (own_facts new old (get_or all i d) n)) ≡ gains_by old new (take (i + 1) all) n
gains-more old new all i d n within = sym (list_any_more (λ kind. list_any (lacks old new kind) (own_facts new old kind n)) all i d within)

pub gains-all : (old new : Configuration) (n : Numbered) → gains_by old new all_kinds n ≡ gains old new n
unfolding gains
gains-all old new n = refl
