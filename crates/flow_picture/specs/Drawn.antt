-- Which cells stand in boxes.
use Rattle.std.specs.Prelude.{◌≡◌, ◌<◌, ℕ, Bool, false, ◌==◌, ◌&&◌, ◌||◌, cond, nat_le, nat_lt, List, get_or, length, map}
use Rattle.std.specs.List.{filter, list_any, range_with_len}
use Rattle.cosem_data.specs.declared.cell.CellRef.{CellRef}
use Rattle.meter_theory.specs.Plan.{Plan, cells}
use Rattle.flow_map.specs.Grouping.{firsts, groups, same_at}
use Rattle.flow_edges.specs.declared.table.Link.{Link}
use Rattle.flow_picture.specs.Arrows.{all_between, same_between}
use Rattle.flow_picture.specs.declared.drawing.classes.Kind.{Kind}
use Rattle.flow_picture.specs.declared.drawing.limits.TheConstants.{ARROWS, BOXES}

-- the cell with this number is an end of an edge
abbrev pub is_end : List Link → ℕ → Bool
is_end links i = list_any (λ link. (link.source == i) || (link.target == i)) links

abbrev pub has_end : List Link → List ℕ → Bool
has_end links box = list_any (is_end links) box

-- the numbers of a group that are those of one of so many cells
abbrev pub known_of : ℕ → List ℕ → List ℕ
known_of count group = filter (λ i. nat_lt i count) group

-- a box for each group of which a cell is an end of an edge: own profile
abbrev pub boxes_of : ℕ → List Link → List (List ℕ) → List (List ℕ)
boxes_of count links given = filter (has_end links) (map (known_of count) given)

-- for each cell it is marked whether it is an end of an edge
pub record AreEnds (links : List Link) (ends : List Bool) : Type 0 where
  pub each : (i : ℕ) → i < length ends → get_or ends i false ≡ is_end links i

abbrev pub has_mark : (ends : List Bool) → List ℕ → Bool
has_mark ends box = list_any (λ i. get_or ends i false) box

-- the boxes of the groups of which a cell is marked
abbrev pub marked_boxes : (ends : List Bool) → List (List ℕ) → List (List ℕ)
marked_boxes ends given = filter (has_mark ends) (map (known_of (length ends)) given)

-- so many boxes and arrows can be drawn: own profile
abbrev pub are_few : List Link → List (List ℕ) → Bool
are_few links boxes = nat_le (length boxes) BOXES && nat_le (length (firsts same_between (all_between boxes links))) ARROWS

-- two cells are of one class and attribute
abbrev pub same_kind : CellRef → CellRef → Bool
same_kind x y = (x.class_id == y.class_id) && (x.index == y.index)

abbrev pub kind_of : CellRef → Kind
kind_of x = record { class_id = x.class_id; index = x.index }

-- the cells of a plan by class and attribute, in the order of the first cells: own profile
abbrev pub by_class : Plan → List (List ℕ)
by_class P = groups (same_at same_kind (cells P)) (range_with_len 0 (length (cells P)))

-- the boxes of the given groups, or those by class and attribute where the given make too many boxes or arrows: own profile
abbrev pub drawn : Plan → List Link → List (List ℕ) → List (List ℕ)
drawn P links given =
    let count = length (cells P) in
    let boxes = boxes_of count links given in
    cond (are_few links boxes) boxes (boxes_of count links (by_class P))
