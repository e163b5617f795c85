-- The tests behind `==`, and that each is true exactly where the two are equal.
use Rattle.std.specs.Prelude.{◌≡◌, refl, ℕ, ◌==◌, Bool, true, false, ◌&&◌, List, [], ◌∷◌, Option, Some, find}
use Rattle.std.specs.Ordering.{int_eq}
use Rattle.std.specs.Str.{bytes_eq}
use Rattle.std.specs.Bool.{Decides}
use Rattle.std.specs.Cmp.{IsEquivalence, decided, unsigned_Decides, signed_Decides, booleans_Decides}
use Rattle.std.proofs.Common.{sym, ap, ◌∙◌, eqb-true}
use Rattle.std.proofs.Math.Bool.{beq}
use Rattle.std.proofs.lemmas.Bool.{and_parts, and_from, false≢true}
use Rattle.std.proofs.lemmas.Slice.Eq.{bytes_eq-Decides}
use Rattle.cosem_data.specs.Tree.{Tree, Trees, null_data, array, structure, boolean, double_long, double_long_unsigned, octet_string, visible_string, integer, long, unsigned, long_unsigned, long64, long64_unsigned, enumerated, no_trees, more_trees, trees, parts}
use Rattle.cosem_data.specs.TreeCode.{parts-trees}
use Rattle.cosem_data.specs.View.{tree, tree_injective}
use Rattle.cosem_data.specs.Kinds.{tag_of, same_kind}
use Rattle.cosem_data.specs.Cells.{same_name, same_cell, same_method}
use Rattle.cosem_data.specs.declared.data.Data.{Data}
use Rattle.cosem_data.specs.declared.name.LogicalName.{LogicalName}
use Rattle.cosem_data.specs.declared.cell.CellRef.{CellRef}
use Rattle.cosem_data.specs.declared.cell.MethodRef.{MethodRef}
use Rattle.cosem_data.specs.declared.kind.Kind.{Kind}
use Rattle.cosem_data.specs.declared.kind.Kind.TheVariants.{NullData, Array, Structure, Boolean, DoubleLong, DoubleLongUnsigned, OctetString, VisibleString, Integer, Long, Unsigned, LongUnsigned, Long64, Long64Unsigned, Enumerated}

-- two values are of one kind and hold the same: own profile
abbrev mutual
  pub same_tree : Tree → Tree → Bool
  same_tree null_data null_data = true
  same_tree (array a) (array b) = same_trees a b
  same_tree (structure a) (structure b) = same_trees a b
  same_tree (boolean a) (boolean b) = beq a b
  same_tree (double_long a) (double_long b) = int_eq a b
  same_tree (double_long_unsigned a) (double_long_unsigned b) = a == b
  same_tree (octet_string a) (octet_string b) = bytes_eq a b
  same_tree (visible_string a) (visible_string b) = bytes_eq a b
  same_tree (integer a) (integer b) = int_eq a b
  same_tree (long a) (long b) = int_eq a b
  same_tree (unsigned a) (unsigned b) = a == b
  same_tree (long_unsigned a) (long_unsigned b) = a == b
  same_tree (long64 a) (long64 b) = int_eq a b
  same_tree (long64_unsigned a) (long64_unsigned b) = a == b
  same_tree (enumerated a) (enumerated b) = a == b
  same_tree _ _ = false

  -- two lists of parts are equally long, and equal part by part: own profile
  pub same_trees : Trees → Trees → Bool
  same_trees no_trees no_trees = true
  same_trees (more_trees t ts) (more_trees u us) = same_tree t u && same_trees ts us
  same_trees _ _ = false

-- two values of the code are the same: own profile
abbrev pub same_data : Data → Data → Bool
same_data a b = same_tree (tree a) (tree b)

-- two lists of parts of the code are the same: own profile
abbrev pub same_parts : List Tree → List Tree → Bool
same_parts ts us = same_trees (trees ts) (trees us)

-- ---- values

mutual
  pub same_tree-true : (a b : Tree) → same_tree a b ≡ true → a ≡ b
  same_tree-true null_data null_data h = refl
  same_tree-true (array a) (array b) h = ap array (same_trees-true a b h)
  same_tree-true (structure a) (structure b) h = ap structure (same_trees-true a b h)
  same_tree-true (boolean a) (boolean b) h = ap boolean ((booleans_Decides a b).0 h)
  same_tree-true (double_long a) (double_long b) h = ap double_long ((signed_Decides a b).0 h)
  same_tree-true (double_long_unsigned a) (double_long_unsigned b) h = ap double_long_unsigned ((unsigned_Decides a b).0 h)
  same_tree-true (octet_string a) (octet_string b) h = ap octet_string ((bytes_eq-Decides a b).0 h)
  same_tree-true (visible_string a) (visible_string b) h = ap visible_string ((bytes_eq-Decides a b).0 h)
  same_tree-true (integer a) (integer b) h = ap integer ((signed_Decides a b).0 h)
  same_tree-true (long a) (long b) h = ap long ((signed_Decides a b).0 h)
  same_tree-true (unsigned a) (unsigned b) h = ap unsigned ((unsigned_Decides a b).0 h)
  same_tree-true (long_unsigned a) (long_unsigned b) h = ap long_unsigned ((unsigned_Decides a b).0 h)
  same_tree-true (long64 a) (long64 b) h = ap long64 ((signed_Decides a b).0 h)
  same_tree-true (long64_unsigned a) (long64_unsigned b) h = ap long64_unsigned ((unsigned_Decides a b).0 h)
  same_tree-true (enumerated a) (enumerated b) h = ap enumerated ((unsigned_Decides a b).0 h)
  same_tree-true _ _ h = absurd (false≢true h)

  pub same_trees-true : (a b : Trees) → same_trees a b ≡ true → a ≡ b
  same_trees-true no_trees no_trees h = refl
  same_trees-true (more_trees t ts) (more_trees u us) h =
      let both = and_parts _ _ h in
      ap (λ (x : Tree). more_trees x ts) (same_tree-true t u both.0) ∙ ap (more_trees u) (same_trees-true ts us both.1)
  same_trees-true _ _ h = absurd (false≢true h)

mutual
  pub same_tree-refl : (a : Tree) → same_tree a a ≡ true
  same_tree-refl null_data = refl
  same_tree-refl (array a) = same_trees-refl a
  same_tree-refl (structure a) = same_trees-refl a
  same_tree-refl (boolean a) = (booleans_Decides a a).1 refl
  same_tree-refl (double_long a) = (signed_Decides a a).1 refl
  same_tree-refl (double_long_unsigned a) = (unsigned_Decides a a).1 refl
  same_tree-refl (octet_string a) = (bytes_eq-Decides a a).1 refl
  same_tree-refl (visible_string a) = (bytes_eq-Decides a a).1 refl
  same_tree-refl (integer a) = (signed_Decides a a).1 refl
  same_tree-refl (long a) = (signed_Decides a a).1 refl
  same_tree-refl (unsigned a) = (unsigned_Decides a a).1 refl
  same_tree-refl (long_unsigned a) = (unsigned_Decides a a).1 refl
  same_tree-refl (long64 a) = (signed_Decides a a).1 refl
  same_tree-refl (long64_unsigned a) = (unsigned_Decides a a).1 refl
  same_tree-refl (enumerated a) = (unsigned_Decides a a).1 refl

  pub same_trees-refl : (a : Trees) → same_trees a a ≡ true
  same_trees-refl no_trees = refl
  same_trees-refl (more_trees t ts) = and_from _ _ (same_tree-refl t) (same_trees-refl ts)

-- the test of two values is true exactly where they are equal
pub same_data-Decides : (a b : Data) → Decides (same_data a b) (a ≡ b)
same_data-Decides a b = (
  λ h. tree_injective a b (same_tree-true (tree a) (tree b) h),
  λ e. ap (λ (x : Data). same_data a x) (sym e) ∙ same_tree-refl (tree a),
)

-- the test of two lists of parts is true exactly where they are equal
pub same_parts-Decides : (ts us : List Tree) → Decides (same_parts ts us) (ts ≡ us)
same_parts-Decides ts us = (
  λ h. sym (parts-trees ts) ∙ ap parts (same_trees-true (trees ts) (trees us) h) ∙ parts-trees us,
  λ e. ap (λ (x : List Tree). same_parts ts x) (sym e) ∙ same_trees-refl (trees ts),
)

pub same_data_equiv : IsEquivalence same_data
same_data_equiv = decided same_data same_data-Decides

pub same_parts_equiv : IsEquivalence same_parts
same_parts_equiv = decided same_parts same_parts-Decides

pub bytes_eq_equiv : IsEquivalence bytes_eq
bytes_eq_equiv = decided bytes_eq bytes_eq-Decides

-- ---- kinds

-- the kind with a tag
kind_at : ℕ → Option Kind
kind_at n = find (λ k. tag_of k == n) (NullData ∷ Array ∷ Structure ∷ Boolean ∷ DoubleLong ∷ DoubleLongUnsigned ∷ OctetString ∷ VisibleString ∷ Integer ∷ Long ∷ Unsigned ∷ LongUnsigned ∷ Long64 ∷ Long64Unsigned ∷ Enumerated ∷ [])

kind_at-tag_of : (k : Kind) → kind_at (tag_of k) ≡ Some k
unfolding kind_at
kind_at-tag_of NullData = refl
kind_at-tag_of Array = refl
kind_at-tag_of Structure = refl
kind_at-tag_of Boolean = refl
kind_at-tag_of DoubleLong = refl
kind_at-tag_of DoubleLongUnsigned = refl
kind_at-tag_of OctetString = refl
kind_at-tag_of VisibleString = refl
kind_at-tag_of Integer = refl
kind_at-tag_of Long = refl
kind_at-tag_of Unsigned = refl
kind_at-tag_of LongUnsigned = refl
kind_at-tag_of Long64 = refl
kind_at-tag_of Long64Unsigned = refl
kind_at-tag_of Enumerated = refl

some_kind : (a b : Kind) → Some a ≡ Some b → a ≡ b
some_kind a b e = cc

-- the test of two kinds is true exactly where they are equal
pub same_kind-Decides : (a b : Kind) → Decides (same_kind a b) (a ≡ b)
same_kind-Decides a b = (
  λ h. some_kind a b (sym (kind_at-tag_of a) ∙ ap kind_at (eqb-true (tag_of a) (tag_of b) h) ∙ kind_at-tag_of b),
  λ e. (unsigned_Decides (tag_of a) (tag_of b)).1 (ap tag_of e),
)

pub same_kind_equiv : IsEquivalence same_kind
same_kind_equiv = decided same_kind same_kind-Decides

-- ---- names, cells and methods

-- the test of two names is true exactly where they are equal
pub same_name-Decides : (a b : LogicalName) → Decides (same_name a b) (a ≡ b)
same_name-Decides a b = (λ h. ap name_from ((bytes_eq-Decides a.0 b.0).0 h), λ e. (bytes_eq-Decides a.0 b.0).1 (ap (λ n. n.0) e))
  where
    name_from : List ℕ → LogicalName
    name_from bytes = record { 0 = bytes }

pub same_name_equiv : IsEquivalence same_name
same_name_equiv = decided same_name same_name-Decides

-- the test of three fields, as of a cell and of a method
three_parts : (m n i j : ℕ) (a b : LogicalName) → ((m == n) && (same_name a b && (i == j))) ≡ true → (m ≡ n) × (a ≡ b) × (i ≡ j)
three_parts m n i j a b h =
    let front = and_parts _ _ h in
    let back = and_parts _ _ front.1 in
    (eqb-true m n front.0, (same_name-Decides a b).0 back.0, eqb-true i j back.1)

three_refl : (m i : ℕ) (a : LogicalName) → ((m == m) && (same_name a a && (i == i))) ≡ true
three_refl m i a = and_from _ _ ((unsigned_Decides m m).1 refl) (and_from _ _ ((same_name-Decides a a).1 refl) ((unsigned_Decides i i).1 refl))

-- the test of two cells is true exactly where they are equal
pub same_cell-Decides : (x y : CellRef) → Decides (same_cell x y) (x ≡ y)
same_cell-Decides x y = (
  λ h. let p = three_parts x.class_id y.class_id x.index y.index x.name y.name h in λ i. record { class_id = p.0 i; name = p.1 i; index = p.2 i },
  λ e. ap (λ (z : CellRef). same_cell x z) (sym e) ∙ three_refl x.class_id x.index x.name,
)

pub same_cell_equiv : IsEquivalence same_cell
same_cell_equiv = decided same_cell same_cell-Decides

-- the test of two methods is true exactly where they are equal
pub same_method-Decides : (x y : MethodRef) → Decides (same_method x y) (x ≡ y)
same_method-Decides x y = (
  λ h. let p = three_parts x.class_id y.class_id x.index y.index x.name y.name h in λ i. record { class_id = p.0 i; name = p.1 i; index = p.2 i },
  λ e. ap (λ (z : MethodRef). same_method x z) (sym e) ∙ three_refl x.class_id x.index x.name,
)

pub same_method_equiv : IsEquivalence same_method
same_method_equiv = decided same_method same_method-Decides
