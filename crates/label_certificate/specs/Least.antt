-- Labels from sets of clients by the numbers of cells.
use Rattle.std.specs.Prelude.{◌≡◌, ◌<◌, ℕ, List, [], ◌∷◌, length}
use Rattle.cosem_data.specs.declared.cell.CellRef.{CellRef}
use Rattle.cosem_data.specs.declared.clients.ClientSet.{ClientSet}
use Rattle.meter_theory.specs.Labels.{Labels}
use Rattle.meter_theory.specs.Lists.{IsIn}
use Rattle.meter_theory.specs.declared.flow.Reach.{Reach}
use Rattle.flow_edges.specs.Ends.{far_of, near_of}
use Rattle.flow_edges.specs.declared.table.Link.{Link}
use Rattle.label_certificate.specs.Closing.{Below, IsClosedBy}
use Rattle.label_certificate.specs.declared.arrows.Arrow.{Arrow}

-- who influences the source of an edge influences its target, and who learns its target learns its source: own profile
abbrev pub arrow_of : Reach → Link → Arrow
arrow_of reach l = record { from = near_of reach l; to = far_of reach l }

-- the links are between the first n numbers: own profile
abbrev pub AreLinks : ℕ → List Link → Type 0
AreLinks n links = (l : Link) → IsIn links l → (l.source < n) × (l.target < n)

-- the least sets above the first, closed along these arrows: own profile
pub record AreClosed (arrows : List Arrow) (start sets : List ClientSet) : Type 0 where
  pub above : Below start sets
  pub closed : IsClosedBy arrows sets
  pub least : (f : List ClientSet) → IsClosedBy arrows f → Below start f → Below sets f
  pub size : length sets ≡ length start

-- each cell with the sets that have its number: own profile
abbrev pub labels_of_sets : List CellRef → (influence learn : List ClientSet) → Labels
labels_of_sets (x ∷ xs) (i ∷ is) (l ∷ ls) = (x, record { influence = i; learn = l }) ∷ labels_of_sets xs is ls
labels_of_sets _ _ _ = []
