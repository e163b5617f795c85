-- The arrows between boxes.
use Rattle.std.specs.Prelude.{◌≡◌, ◌≤◌, true, false, ℕ, Bool, ◌==◌, ◌&&◌, List, get_or, map, Option, Some, None}
use Rattle.std.specs.List.{All, AllPairs, count_by, filter_map, list_any, position_from}
use Rattle.meter_theory.specs.Edges.{same_cause}
use Rattle.meter_theory.specs.declared.flow.Cause.{Cause}
use Rattle.flow_map.specs.Grouping.{firsts}
use Rattle.flow_edges.specs.declared.table.Link.{Link}
use Rattle.flow_picture.specs.declared.picture.Arrow.{Arrow}
use Rattle.flow_picture.specs.declared.drawing.arrows.Between.{Between}

-- the number of a cell stands in a box
abbrev pub has_number : ℕ → List ℕ → Bool
has_number i box = list_any (λ other. other == i) box

-- the number of the first box in which it does: own profile
abbrev pub place_of : List (List ℕ) → ℕ → Option ℕ
place_of boxes i = position_from (has_number i) 0 boxes

-- the places of cells, by their numbers: own profile
abbrev pub ArePlaces : List (List ℕ) → List (Option ℕ) → Type 0
ArePlaces boxes places = (i : ℕ) → get_or places i None ≡ place_of boxes i

-- from which box to which an edge leads whose ends stand in these, and why: own profile
abbrev pub between_places : Option ℕ → Option ℕ → Cause → Option Between
between_places (Some source) (Some target) cause = Some (record { source = source; target = target; cause = cause })
between_places (Some source) None cause = None
between_places None target cause = None

abbrev pub between_of : List (List ℕ) → Link → Option Between
between_of boxes link = between_places (place_of boxes link.source) (place_of boxes link.target) link.cause

-- that of each edge that has both ends in boxes: own profile
abbrev pub all_between : List (List ℕ) → List Link → List Between
all_between boxes links = filter_map (between_of boxes) links

abbrev pub same_between : Between → Between → Bool
same_between a b = (a.source == b.source) && ((a.target == b.target) && same_cause a.cause b.cause)

-- the arrow with these ends and this cause says how many edges have them: own profile
abbrev pub arrow_of : List Between → Between → Arrow
arrow_of all one = record { source = one.source; target = one.target; cause = one.cause; edges = count_by (same_between one) all }

-- one for each that an edge has, in the order of their first edges: own profile
abbrev pub arrows_of : List (List ℕ) → List Link → List Arrow
arrows_of boxes links = let all = all_between boxes links in map (arrow_of all) (firsts same_between all)

-- the ends and the cause of an arrow
abbrev pub ends_of : Arrow → Between
ends_of arrow = record { source = arrow.source; target = arrow.target; cause = arrow.cause }

-- arrows of edges between boxes: own profile
pub record AreArrows (all : List Between) (arrows : List Arrow) : Type 0 where
  -- each edge has one with its ends and its cause
  pub each : All (λ one. list_any (λ arrow. same_between (ends_of arrow) one) arrows ≡ true) all
  -- no two have the same
  pub apart : AllPairs (λ arrow other. same_between (ends_of arrow) (ends_of other) ≡ false) arrows
  -- each says how many edges have its ends and its cause, and there is one at least
  pub counted : All (λ arrow. arrow.edges ≡ count_by (same_between (ends_of arrow)) all) arrows
  pub some : All (λ arrow. 1 ≤ arrow.edges) arrows
