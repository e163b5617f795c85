-- What a page tells of what has changed against the configuration before.
use Rattle.std.specs.Prelude.{◌≡◌, ℕ, ◌-◌, cond, List, [], ◌∷◌, ◌++◌, flat_map, length, map, take, Option, Some, None, string_bytes}
use Rattle.std.specs.List.{range_with_len}
use Rattle.cosem_data.specs.declared.cell.CellRef.{CellRef}
use Rattle.cosem_data.specs.declared.clients.ClientSet.{ClientSet}
use Rattle.label_certificate.specs.LabelText.{cell_place}
use Rattle.flow_edges.specs.Table.{cell_at}
use Rattle.meter_theory.specs.Labels.{has}
use Rattle.meter_theory.specs.Lists.{for_some}
use Rattle.meter_theory.specs.Plan.{Plan, cells, client_named}
use Rattle.meter_theory.specs.declared.flow.Reach.{Reach}
use Rattle.flow_changes.specs.Changes.{KindShown}
use Rattle.flow_changes.specs.Facts.{Fact, Reaches, fact_text}
use Rattle.flow_changes.specs.Shown.{kind_shown, shown}
use Rattle.flow_changes.specs.declared.compare.Comparison.{Comparison}
use Rattle.flow_map.specs.declared.kind.Change.{Change}
use Rattle.flow_map.specs.declared.kind.Change.TheVariants.{Gained, Lost}
use Rattle.flow_map.specs.declared.kind.Kind.{Kind}
use Rattle.flow_map.specs.declared.kind.Kind.TheVariants.{May}
use Rattle.flow_page.specs.declared.changes.ChangedFact.{ChangedFact}
use Rattle.flow_page.specs.declared.changes.Changes.{Changes}
use Rattle.flow_page.specs.declared.changes.KindChanges.{KindChanges}
use Rattle.flow_page.specs.Clients.{client_at}
use Rattle.flow_page.specs.Lines.{Line, line_shown, whole_way_of}
use Rattle.flow_page.specs.declared.view.changes.Changed.{Changed}
use Rattle.flow_page.specs.declared.view.limits.TheConstants.{CHANGES}

-- the name of a client, if it is in the set
abbrev pub name_in : Plan → ClientSet → ℕ → List (List ℕ)
name_in P set c = cond (has set c) ((client_at P c).name ∷ []) []

-- the names of the clients in the set, in the order of the plan
abbrev pub names_of : Plan → ClientSet → List (List ℕ)
names_of P set = flat_map (name_in P set) (range_with_len 0 (length P.clients))

-- a fact of a kind that is gained or lost
pub record ChangedShown : Type 0 where
  pub kind : Kind
  pub change : Change
  pub fact : Fact

abbrev pub changed_shown : Changed → ChangedShown
changed_shown x = record { kind = x.kind; change = x.change; fact = shown x.fact }

abbrev pub changed : Kind → Change → Fact → ChangedShown
changed kind change fact = record { kind = kind; change = change; fact = fact }

-- those of a kind that are gained, and then those that are lost
abbrev pub all_changed : KindShown → List ChangedShown
all_changed k = map (changed k.kind Gained) k.gained ++ map (changed k.kind Lost) k.lost

-- What is told of a changed fact

-- the lines of the way that is shown of a client to the cell, if there is one: own profile
abbrev pub way_to : Plan → Reach → ℕ → CellRef → List Line
way_to P reach c x = for_some (cell_place P x) (λ i. whole_way_of P reach c (cell_at (cells P) i))

-- of the client with this name: own profile
abbrev pub named_way : Plan → Reach → (name : List ℕ) → CellRef → List Line
named_way P reach name x = for_some (client_named P name) (λ c. way_to P reach c x)

-- of a client that may now influence or learn a cell its way, and none of another fact: own profile
abbrev pub way_of_fact : Plan → Kind → Change → Fact → List Line
way_of_fact P May Gained (Reaches name reach x) = named_way P reach name x
way_of_fact P kind change fact = []

abbrev pub new_way : Plan → ChangedShown → List Line
new_way P x = way_of_fact P x.kind x.change x.fact

-- whether it is gained or lost, its words, and that way: own profile
pub record FactShown : Type 0 where
  pub change : Change
  pub words : List ℕ
  pub way : List Line

abbrev pub fact_shown : ChangedFact → FactShown
fact_shown fact = record { change = fact.change; words = string_bytes fact.words; way = map line_shown fact.way.items }

abbrev pub fact_told : Plan → ChangedShown → FactShown
fact_told P x = record { change = x.change; words = fact_text x.fact; way = new_way P x }

-- What is told of a kind

-- its kind, what is told of its facts, and for how many more there is no room: own profile
pub record KindTold : Type 0 where
  pub kind : Kind
  pub facts : List FactShown
  pub more : ℕ

abbrev pub kind_told : KindChanges → KindTold
kind_told changes = record { kind = changes.kind; facts = map fact_shown changes.facts.items; more = changes.more }

-- of the first 500 facts each is told: own profile
abbrev pub kind_changes : Plan → Kind → List ChangedShown → KindTold
kind_changes P kind xs = record { kind = kind; facts = map (fact_told P) (take CHANGES xs); more = length xs - CHANGES }

-- nothing is told of a kind of which nothing has changed: own profile
abbrev pub changes_if_any : Plan → Kind → List ChangedShown → List KindTold
changes_if_any P kind [] = []
changes_if_any P kind (x ∷ xs) = kind_changes P kind (x ∷ xs) ∷ []

abbrev pub kind_part : Plan → KindShown → List KindTold
kind_part P k = changes_if_any P k.kind (all_changed k)

abbrev pub kinds_of : Plan → List KindShown → List KindTold
kinds_of P ks = flat_map (kind_part P) ks

-- what is told of a comparison: who gains, and kind by kind what has changed (own profile)
pub record AreChanges (P : Plan) (comparison : Comparison) (changes : Changes) : Type 0 where
  pub gainers_are : map string_bytes changes.gainers.items ≡ names_of P comparison.gainers
  pub kinds_are : map kind_told changes.kinds.items ≡ kinds_of P (map kind_shown comparison.kinds.items)

-- the same where a configuration before is given, and nothing where none is
abbrev pub AreChangesOf : Plan → Option Comparison → Option Changes → Type 0
AreChangesOf P None changes = changes ≡ None
AreChangesOf P (Some comparison) None = ⊥
AreChangesOf P (Some comparison) (Some changes) = AreChanges P comparison changes
