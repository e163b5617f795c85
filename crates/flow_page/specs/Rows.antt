-- The rows of the matrix: which cells share one.
use Rattle.std.specs.Prelude.{◌≡◌, ◌<◌, ◌≤◌, ℕ, cond, nat_le, List, [], ◌∷◌, flat_map, length, map, Option, None}
use Rattle.std.specs.Bool.{MatchBool}
use Rattle.std.specs.List.{All, range_with_len}
use Rattle.meter_theory.specs.Plan.{cells}
use Rattle.meter_theory.specs.declared.flow.Reach.{Reach}
use Rattle.meter_theory.specs.declared.flow.Reach.TheVariants.{Influence, Learn}
use Rattle.flow_map.specs.Grouping.{AreGrouped}
use Rattle.flow_edges.specs.Table.{cell_at}
use Rattle.flow_map.specs.declared.request.GrantedRequest.{GrantedRequest}
use Rattle.flow_page.specs.Keys.{RowFacts, word_of}
use Rattle.flow_page.specs.Marks.{Told, request_of, standing_of}
use Rattle.flow_page.specs.declared.view.keys.MarkKey.{MarkKey}
use Rattle.flow_page.specs.declared.view.limits.TheConstants.{ROWS}
use Rattle.flow_page.specs.declared.view.marks.Standing.{Standing}

-- what marks have alike: the word of what is found, whether it is allowed, its change, and of one that isn't allowed the request at
-- the other end of its way (own profile)
abbrev pub key_from : Standing → Option GrantedRequest → MarkKey
key_from s request = record { word = word_of s.found; allowed = s.allowed; change = s.change; refused = cond s.allowed None request }

abbrev pub mark_key : Told → Reach → ℕ → ℕ → MarkKey
mark_key t reach c i = key_from (standing_of t reach c i) (request_of t.plan reach c (cell_at (cells t.plan) i))

-- that of a client's mark of influence, and then of its mark of learning: own profile
abbrev pub client_keys : Told → ℕ → ℕ → List MarkKey
client_keys t i c = mark_key t Influence c i ∷ mark_key t Learn c i ∷ []

-- what the cells of a row have alike: their class, their attribute, and their marks (own profile)
abbrev pub row_key : Told → ℕ → RowFacts
row_key t i = record {
  class_id = (cell_at (cells t.plan) i).class_id;
  index = (cell_at (cells t.plan) i).index;
  marks = flat_map (client_keys t i) (range_with_len 0 (length t.plan.clients));
}

-- one number a row
abbrev pub singles : ℕ → List (List ℕ)
singles count = map (λ i. i ∷ []) (range_with_len 0 count)

-- the numbers of the items of each row, where each number has this key: up to 100 items have a row each, and past it those of equal
-- keys share one (own profile)
abbrev pub AreAlike : {A : Type 0} → (ℕ → A) → ℕ → List (List ℕ) → Type 0
AreAlike key count rows = MatchBool (nat_le count ROWS) (rows ≡ singles count) (AreGrouped (map key (range_with_len 0 count)) rows)

-- those of the cells
abbrev pub AreRows : Told → List (List ℕ) → Type 0
AreRows t rows = AreAlike (row_key t) (length (cells t.plan)) rows

-- a row of items of which there are so many: it has one at least
pub record IsRow (count : ℕ) (row : List ℕ) : Type 0 where
  pub some : 1 ≤ length row
  pub few : length row ≤ count
  pub within : All (λ i. i < count) row

abbrev pub AreRowsOf : ℕ → List (List ℕ) → Type 0
AreRowsOf count rows = All (IsRow count) rows
