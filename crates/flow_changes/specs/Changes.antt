-- How two configurations differ, and who gains by it. All of it is own profile.
use Rattle.std.specs.Prelude.{ℕ, Bool, not, List, [], ◌∷◌, ◌++◌, codes, filter, flat_map, map}
use Rattle.std.specs.List.{join_with_byte, list_any}
use Rattle.flow_changes.specs.Facts.{Fact, Numbered, among, fact_text, facts, numbered, own_facts}
use Rattle.flow_map.specs.Map.{Configuration}
use Rattle.flow_map.specs.Kinds.{all_kinds, change_sign, kind_word}
use Rattle.flow_map.specs.declared.kind.Change.{Change}
use Rattle.flow_map.specs.declared.kind.Change.TheVariants as changes
use Rattle.flow_map.specs.declared.kind.Kind.{Kind}

-- the one configuration lacks this fact of the other
abbrev pub lacks : Configuration → Configuration → Kind → Fact → Bool
lacks C other kind f = not (among (facts C other kind) f)

-- the facts of the new configuration that the old one lacks, in its order
unfoldable pub gained : (old new : Configuration) → Kind → List Fact
gained old new kind = filter (lacks old new kind) (facts new old kind)

-- the facts of the old configuration that the new one lacks, in its order
abbrev pub lost : (old new : Configuration) → Kind → List Fact
lost old new kind = gained new old kind

-- what is gained and lost of a kind
pub record KindShown : Type 0 where
  pub kind : Kind
  pub gained : List Fact
  pub lost : List Fact

abbrev pub changes_of_kind : (old new : Configuration) → Kind → KindShown
changes_of_kind old new kind = record { kind = kind; gained = gained old new kind; lost = lost old new kind }

-- a client of the new configuration gains: of its own facts the old one lacks some
unfoldable pub gains : (old new : Configuration) → Numbered → Bool
gains old new c = list_any (λ kind. list_any (lacks old new kind) (own_facts new old kind c)) all_kinds

-- the names of those who gain, in the order of the new configuration
abbrev pub gainers : (old new : Configuration) → List (List ℕ)
gainers old new = map (λ c. c.1.name) (filter (gains old new) (numbered new.plan))

-- somebody gains
abbrev pub somebody_gains : (old new : Configuration) → Bool
somebody_gains old new = list_any (gains old new) (numbered new.plan)

-- The text

-- a fact that is gained or lost, in a line of its own
abbrev pub line : Change → Kind → Fact → List ℕ
line change kind f = join_with_byte 32 (change_sign change ∷ kind_word kind ∷ fact_text f ∷ []) ++ 10 ∷ []

abbrev pub lines : Change → Kind → List Fact → List ℕ
lines change kind fs = flat_map (line change kind) fs

-- what is gained of a kind, then what is lost
abbrev pub kind_lines : KindShown → List ℕ
kind_lines k = lines changes.Gained k.kind k.gained ++ lines changes.Lost k.kind k.lost

-- names between commas, or nobody
abbrev pub names_or_nobody : List (List ℕ) → List ℕ
names_or_nobody [] = codes "nobody"
names_or_nobody (name ∷ names) = join_with_byte 44 (name ∷ names)

-- who gains
abbrev pub first_line : List (List ℕ) → List ℕ
first_line names = (codes "gained by " ++ names_or_nobody names) ++ 10 ∷ []

-- of each kind what is gained, then what is lost
abbrev pub changes_text : (old new : Configuration) → List ℕ
changes_text old new = flat_map (λ kind. lines changes.Gained kind (gained old new kind) ++ lines changes.Lost kind (lost old new kind)) all_kinds

-- who gains, and what is gained and lost
abbrev pub compare_text : (old new : Configuration) → List ℕ
compare_text old new = first_line (gainers old new) ++ changes_text old new
