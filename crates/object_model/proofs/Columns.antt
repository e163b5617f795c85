-- The numbers of those to which objects refer, and the alternatives among them.
use Rattle.std.proofs.Common.{◌≡◌, ◌∙◌, ◌<◌, ◌≤◌, ◌+◌, ℕ, zero, suc, refl, ap, sym, subst, arith, true, false, cond, List, [], ◌∷◌, ◌++◌, length, map, take, drop, get_or, flat_map, find, Option, Some, None, length-append}
use Rattle.std.specs.Prelude.{slice_get, option_map, IfSome}
use Rattle.std.specs.List.{position_from}
use Rattle.std.specs.Option.{unwrap_or}
use Rattle.std.proofs.lemmas.List.{length-map, map-append}
use Rattle.std.proofs.lemmas.Option.{slice_get-map, slice_get-get_or}
use Rattle.std.proofs.Math.Seq.{drop-cons}
use Rattle.cosem_data.specs.Cells.{same_name}
use Rattle.cosem_data.specs.Tree.{Tree}
use Rattle.cosem_data.specs.Equal.{same_tree}
use Rattle.cosem_data.specs.declared.cell.CellRef.{CellRef}
use Rattle.cosem_data.specs.declared.name.LogicalName.{LogicalName}
use Rattle.meter_theory.specs.Edges.{captured_by}
use Rattle.meter_theory.specs.Lists.{for_some}
use Rattle.meter_theory.specs.declared.refs.ScriptRef.{ScriptRef}
use Rattle.meter_theory.specs.Menus.{Choice, alternatives, chosen, capture_objects_value, script_ref_value}
use Rattle.meter_theory.specs.Plan.{Plan, Object, Part, ProfileGeneric, SingleActionSchedule, object_at}
use Rattle.meter_theory.specs.Steps.{Captures, captures_in, captures_of}
use Rattle.class_profile.specs.PartView.{captures_of_part}
use Rattle.class_profile.specs.declared.profile.ProfilePart.{ProfilePart}
use Rattle.cosem_class.specs.Parts.{references}
use Rattle.object_model.specs.Grants.{place_in}
use Rattle.object_model.specs.Tables.{AreNumbers, AreReferences, references_at}
use Rattle.object_model.proofs.ByObject.{position-map}
use Rattle.object_model.proofs.Positions.{first, first-none}

-- What a table says of each object, a list an object

module _ {A X : Type 0} (value : A → Option X) (listed : Object → List A) where
  -- its row of one object
  pub row : (os : List Object) (table : List (List X)) (k : ℕ) (xs : List X) → map (map Some) table ≡ map (λ o. map value (listed o)) os → slice_get table k ≡ Some xs →
      IfSome (slice_get os k) (λ o. map Some xs ≡ map value (listed o))
  row os table k xs is there =
      at (slice_get os k) (ap (option_map (map Some)) (sym there) ∙ sym (slice_get-map (map Some) table k) ∙ ap (λ t. slice_get t k) is ∙ slice_get-map (λ o. map value (listed o)) os k)
    where
      at : (o : Option Object) → Some (map Some xs) ≡ option_map (λ o. map value (listed o)) o → IfSome o (λ o. map Some xs ≡ map value (listed o))
      at None h = cc
      at (Some o) h = cc

  -- the same of the object that has this number and name
  pub row-at : (P : Plan) (n : LogicalName) (k : ℕ) (xs : List X) → position_from (λ o. same_name o.name n) 0 P.objects ≡ Some k →
      IfSome (slice_get P.objects k) (λ o. map Some xs ≡ map value (listed o)) → map Some xs ≡ map value (for_some (object_at P n) listed)
  row-at P n k xs is h = at (object_at P n) refl
    where
      here : object_at P n ≡ slice_get P.objects k
      here = (first (λ o. same_name o.name n) P.objects k is).found

      at : (o : Option Object) → object_at P n ≡ o → map Some xs ≡ map value (for_some o listed)
      at (Some o) e = subst (λ z. IfSome z (λ o. map Some xs ≡ map value (listed o))) (sym here ∙ e) h
      at None e =
          let within = (first (λ o. same_name o.name n) P.objects k is).within in
          absurd (lost P.objects k within (sym here ∙ e))
        where
          lost : (os : List Object) (k : ℕ) → k < length os → slice_get os k ≡ None → ⊥
          lost [] k less g = omega arith
          lost (o ∷ os) zero less g = cc
          lost (o ∷ os) (suc k) less g = lost os k (omega arith) g

  -- and what has no number has nothing
  pub row-none : (P : Plan) (n : LogicalName) → position_from (λ o. same_name o.name n) 0 P.objects ≡ None → map Some [] ≡ map value (for_some (object_at P n) listed)
  row-none P n is = ap (λ f. map value (for_some f listed)) (sym (first-none (λ o. same_name o.name n) P.objects is))

-- what stands in the table of references for one object
pub numbers-of : (P : Plan) (names : List LogicalName) (numbers : List (List ℕ)) (k : ℕ) (ns : List ℕ) → names ≡ map (λ o. o.name) P.objects → AreReferences names P.objects numbers →
    slice_get numbers k ≡ Some ns → IfSome (slice_get P.objects k) (λ o. AreNumbers P (references o.part) ns)
numbers-of P names numbers k ns named is there =
    subst (λ all. IfSome (slice_get P.objects k) (λ o. map Some ns ≡ map (place_in all) (references o.part))) named (row (place_in names) (λ o. references o.part) P.objects numbers k ns is there)

-- the same for the object that has this number and name
pub numbers-at : (P : Plan) (n : LogicalName) (k : ℕ) (ns : List ℕ) → position_from (λ o. same_name o.name n) 0 P.objects ≡ Some k →
    IfSome (slice_get P.objects k) (λ o. AreNumbers P (references o.part) ns) → AreNumbers P (references_at P n) ns
numbers-at P = row-at (place_in (map (λ o. o.name) P.objects)) (λ o. references o.part) P

-- and what has no number refers to nothing
pub numbers-none : (P : Plan) (n : LogicalName) → position_from (λ o. same_name o.name n) 0 P.objects ≡ None → AreNumbers P (references_at P n) []
numbers-none P = row-none (place_in (map (λ o. o.name) P.objects)) (λ o. references o.part) P

-- a profile refers to the cells that it may capture
pub captures-refer : (P : Plan) (n : LogicalName) (c : Captures) → captures_of (object_at P n) ≡ Some c → references_at P n ≡ map (λ x. x.name) (captured_by c.captured)
captures-refer P n c is = at (object_at P n) is
  where
    in_part : (p : Part) → captures_in p ≡ Some c → references p ≡ map (λ x. x.name) (captured_by c.captured)
    in_part (ProfileGeneric captured period entries) e =
        let same : record { captured = captured; entries = entries } ≡ c = cc in
        ap (λ (z : Captures). map (λ x. x.name) (captured_by z.captured)) same
    in_part p e = cc

    at : (o : Option Object) → captures_of o ≡ Some c → for_some o (λ o. references o.part) ≡ map (λ x. x.name) (captured_by c.captured)
    at None e = cc
    at (Some o) e = in_part o.part e

-- Numbers in two parts

module _ {A : Type 0} (number : A → Option ℕ) where
  pub first-numbers : (xs ys : List A) (ns : List ℕ) → map Some ns ≡ map number (xs ++ ys) → map Some (take (length xs) ns) ≡ map number xs
  first-numbers [] ys ns h = refl
  first-numbers (x ∷ xs) ys [] h = cc
  first-numbers (x ∷ xs) ys (n ∷ ns) h =
      let head : Some n ≡ number x = cc in
      let rest : map Some ns ≡ map number (xs ++ ys) = cc in
      ap (λ k. k ∷ map Some (take (length xs) ns)) head ∙ ap (λ ks. number x ∷ ks) (first-numbers xs ys ns rest)

  pub last-numbers : (xs ys : List A) (ns : List ℕ) → map Some ns ≡ map number (xs ++ ys) → map Some (drop (length xs) ns) ≡ map number ys
  last-numbers [] ys ns h = h
  last-numbers (x ∷ xs) ys [] h = cc
  last-numbers (x ∷ xs) ys (n ∷ ns) h =
      let rest : map Some ns ≡ map number (xs ++ ys) = cc in
      last-numbers xs ys ns rest

  pub few-numbers : (xs ys : List A) (ns : List ℕ) → map Some ns ≡ map number (xs ++ ys) → length xs ≤ length ns
  few-numbers xs ys ns h =
      let same : length ns ≡ length (xs ++ ys) = sym (length-map ns Some) ∙ ap length h ∙ length-map (xs ++ ys) number in
      omega (arith, same, length-append xs ys)

-- The alternatives of a profile, one after another

-- the alternatives of a menu that are still to be looked at, and the numbers from them on
pub record IsLeft (P : Plan) (objects : Tree) (menu left : List (List CellRef)) (numbers : List ℕ) : Type 0 where
  pub numbered : AreNumbers P (map (λ x. x.name) (flat_map (λ cells. cells) left)) numbers
  pub found : find (λ cells. same_tree (capture_objects_value cells) objects) menu ≡ find (λ cells. same_tree (capture_objects_value cells) objects) left

abbrev number : Plan → LogicalName → Option ℕ
number P = place_in (map (λ o. o.name) P.objects)

module _ (P : Plan) (cells : List CellRef) (others : List CellRef) (numbers : List ℕ) (are : AreNumbers P (map (λ x. x.name) (cells ++ others)) numbers) where
  parted : map Some numbers ≡ map (number P) (map (λ x. x.name) cells ++ map (λ x. x.name) others)
  parted = are ∙ ap (map (number P)) (map-append (λ x. x.name) cells others)

  pub numbers-first : (k : ℕ) → k ≡ length cells → AreNumbers P (map (λ x. x.name) cells) (take k numbers)
  numbers-first k is =
      ap (λ n. map Some (take n numbers)) (is ∙ sym (length-map cells (λ x. x.name)))
      ∙ first-numbers (number P) (map (λ x. x.name) cells) (map (λ x. x.name) others) numbers parted

  pub numbers-rest : (k : ℕ) → k ≡ length cells → AreNumbers P (map (λ x. x.name) others) (drop k numbers)
  numbers-rest k is =
      ap (λ n. map Some (drop n numbers)) (is ∙ sym (length-map cells (λ x. x.name)))
      ∙ last-numbers (number P) (map (λ x. x.name) cells) (map (λ x. x.name) others) numbers parted

  pub numbers-few : length cells ≤ length numbers
  numbers-few = omega (arith, few-numbers (number P) (map (λ x. x.name) cells) (map (λ x. x.name) others) numbers parted, length-map cells (λ x. x.name))

-- the next alternative, before those behind it
pub left-here : {X : Type 0} (P : Plan) (t : Tree) (cells_of : X → List CellRef) (xs : List X) (i : ℕ) (x : X) (numbers : List ℕ) → i < length xs → x ≡ get_or xs i x →
    IsLeft P t (map cells_of xs) (map cells_of (drop i xs)) numbers → IsLeft P t (map cells_of xs) (cells_of x ∷ map cells_of (drop (i + 1) xs)) numbers
left-here P t cells_of xs i x numbers h is left =
    let next : suc i ≡ i + 1 = omega arith in
    subst (λ rest. IsLeft P t (map cells_of xs) rest numbers)
    (ap (map cells_of) (drop-cons xs i x h) ∙ ap (λ y. cells_of y ∷ map cells_of (drop (suc i) xs)) (sym is) ∙ ap (λ n. cells_of x ∷ map cells_of (drop n xs)) next) left

-- the numbers of all the cells that a profile may capture
pub numbers-all : (P : Plan) (n : LogicalName) (part : ProfilePart) (numbers : List ℕ) → captures_of (object_at P n) ≡ Some (record { captured = captures_of_part part; entries = part.profile_entries }) →
    AreNumbers P (references_at P n) numbers → AreNumbers P (map (λ x. x.name) ((captures_of_part part).configured ++ flat_map (λ xs. xs) (captures_of_part part).menu)) numbers
numbers-all P n part numbers is are =
    are ∙ ap (map (number P)) (captures-refer P n (record { captured = captures_of_part part; entries = part.profile_entries }) is)

-- it is that which is looked for, or it isn't
pub found-here : (P : Plan) (t : Tree) (menu left : List (List CellRef)) (cells : List CellRef) (numbers : List ℕ) → IsLeft P t menu (cells ∷ left) numbers →
    same_tree (capture_objects_value cells) t ≡ true → find (λ cells. same_tree (capture_objects_value cells) t) menu ≡ Some cells
found-here P t menu left cells numbers is here =
    is.found ∙ ap (λ b. cond b (Some cells) (find (λ cells. same_tree (capture_objects_value cells) t) left)) here

pub left-on : (P : Plan) (t : Tree) (menu left : List (List CellRef)) (cells : List CellRef) (numbers : List ℕ) → IsLeft P t menu (cells ∷ left) numbers →
    same_tree (capture_objects_value cells) t ≡ false → (k : ℕ) → k ≡ length cells → IsLeft P t menu left (drop k numbers)
left-on P t menu left cells numbers is other k size = record {
  numbered = numbers-rest P cells (flat_map (λ cells. cells) left) numbers is.numbered k size;
  found = is.found ∙ ap (λ b. cond b (Some cells) (find (λ cells. same_tree (capture_objects_value cells) t) left)) other;
}

-- The script that a schedule runs, by its place

pub schedule-refers : (P : Plan) (n : LogicalName) (script : Choice ScriptRef) (type : ℕ) (times : Tree) → option_map (λ o. o.part) (object_at P n) ≡ Some (SingleActionSchedule script type times) →
    references_at P n ≡ map (λ r. r.table) (alternatives script)
schedule-refers P n script type times is = at (object_at P n) is
  where
    at : (o : Option Object) → option_map (λ o. o.part) o ≡ Some (SingleActionSchedule script type times) → for_some o (λ o. references o.part) ≡ map (λ r. r.table) (alternatives script)
    at None e = cc
    at (Some o) e = let same : o.part ≡ SingleActionSchedule script type times = cc in ap references same

pub script-there : (c : Choice ScriptRef) (t : Tree) (p : ℕ) (x : ScriptRef) → position_from (λ script. same_tree (script_ref_value script) t) 0 c.menu ≡ Some p → x ≡ get_or c.menu p x →
    (slice_get (alternatives c) (p + 1) ≡ Some (chosen script_ref_value c t)) × (x ≡ chosen script_ref_value c t)
script-there c t p x is here =
    let at = first (λ script. same_tree (script_ref_value script) t) c.menu p is in
    let there : slice_get c.menu p ≡ Some (get_or c.menu p x) = slice_get-get_or c.menu p x at.within in
    let same : chosen script_ref_value c t ≡ get_or c.menu p x = ap (λ o. unwrap_or o c.configured) (at.found ∙ there) in
    let next : p + 1 ≡ suc p = omega arith in
    (ap (slice_get (alternatives c)) next ∙ there ∙ ap Some (sym same), here ∙ sym same)

pub script-configured : (c : Choice ScriptRef) (t : Tree) → position_from (λ script. same_tree (script_ref_value script) t) 0 c.menu ≡ None → chosen script_ref_value c t ≡ c.configured
script-configured c t is = ap (λ o. unwrap_or o c.configured) (first-none (λ script. same_tree (script_ref_value script) t) c.menu is)

-- the number of the object of one of several cells
pub number-at : (P : Plan) (cells : List CellRef) (numbers : List ℕ) (i : ℕ) (x : CellRef) (k : ℕ) → AreNumbers P (map (λ x. x.name) cells) numbers → i < length cells →
    position_from (λ o. same_name o.name (get_or cells i x).name) 0 P.objects ≡ Some (get_or numbers i k)
number-at P [] numbers i x k are h = absurd (omega arith)
number-at P (c ∷ cells) [] i x k are h = cc
number-at P (c ∷ cells) (n ∷ numbers) zero x k are h =
    let here : Some n ≡ number P c.name = cc in
    sym (position-map P.objects c.name 0) ∙ sym here
number-at P (c ∷ cells) (n ∷ numbers) (suc i) x k are h =
    let rest : AreNumbers P (map (λ x. x.name) cells) numbers = cc in
    number-at P cells numbers i x k rest (omega arith)
