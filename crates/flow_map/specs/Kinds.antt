-- The words of kinds of facts, and the signs of what is gained and lost. Texts are lists of bytes. All of it is own profile.
use Rattle.std.specs.Prelude.{ℕ, List, [], ◌∷◌, codes}
use Rattle.flow_map.specs.declared.kind.Change.{Change}
use Rattle.flow_map.specs.declared.kind.Change.TheVariants as changes
use Rattle.flow_map.specs.declared.kind.Kind.{Kind}
use Rattle.flow_map.specs.declared.kind.Kind.TheVariants as kinds

-- the kinds of facts, in the order in which they are printed
abbrev pub all_kinds : List Kind
all_kinds = kinds.May ∷ kinds.Allowed ∷ kinds.Right ∷ kinds.Client ∷ kinds.Cell ∷ kinds.Edge ∷ []

abbrev pub kind_word : Kind → List ℕ
kind_word kinds.May = codes "may"
kind_word kinds.Allowed = codes "allowed"
kind_word kinds.Right = codes "right"
kind_word kinds.Client = codes "client"
kind_word kinds.Cell = codes "cell"
kind_word kinds.Edge = codes "edge"

abbrev pub change_sign : Change → List ℕ
change_sign changes.Gained = codes "+"
change_sign changes.Lost = codes "-"
