-- The alternatives of a menu are distinct.
use Rattle.std.proofs.Common.{◌≡◌, ◌⊎◌, ℕ, arith, ◌==◌, Bool, true, not, List, [], ◌∷◌, map, refl, sym, ap, subst, ◌∙◌, inl, inr, Option, Some, None, is_some, eqb-true, eq-eqb}
use Rattle.std.specs.Prelude.{ℤ, pos, negsuc, int_le, unsigned_abs, ◌&&◌}
use Rattle.std.specs.List.{list_all, list_any}
use Rattle.std.specs.Str.{bytes_eq}
use Rattle.std.proofs.Math.Nat.{le_refl}
use Rattle.std.proofs.lemmas.Bool.{or_cases, or_parts, and_parts, and_from, cond-true, le-leb, false≢true}
use Rattle.std.proofs.lemmas.Slice.Eq.{bytes_eq-Decides}
use Rattle.meter_theory.specs.declared.classes.Class.TheVariants as classes
use Rattle.meter_theory.specs.Classes.{is_of_class}
use Rattle.meter_theory.specs.Lists.{IsIn, AreDistinct}
use Rattle.meter_theory.specs.Sound.{HasOwnAlternatives, is_script_number}
use Rattle.meter_theory.proofs.Lists.{none_in, any_in, in_map, from_map}
use Rattle.config_text.specs.Fault.{fault_where}
use Rattle.config_text.specs.Parts.{Text, MenuText, ConfigText, ObjectText, TargetText, CaptureText, ScriptRefText, ScriptText, BodyText, DataText, RegisterText, ProfileText, ClockText, ScriptTableText, MonitorText, ScheduleText, UnknownText}
use Rattle.config_rules.specs.Names.{object_named, class_named, menu_in, scripts_in}
use Rattle.config_rules.specs.PlanOf.{part_of, cell_named, cells_named, script_named, script_number}
use Rattle.config_rules.specs.Read.{has_ranges}
use Rattle.config_rules.specs.Passes as passes
use Rattle.config_rules.specs.Walks.{each_new}
use Rattle.config_rules.proofs.Nothing.{neither_found, holds, not_faulty, each_new_distinct, each_new_in, AsksNewKey, each_ok}
use Rattle.config_rules.proofs.Passed.{alternatives_in, EachReference}
use Rattle.config_rules.proofs.Named.{IsName, one_text, found_named}
use Rattle.config_rules.proofs.Cells.{IsRight}
use Rattle.config_rules.proofs.Fits.{IsFound, found_of}

-- what stands for texts that differ in a key differs, where what stands for two is the same only at one key
distinct_keys : {A B K : Type 0} (key : A → K) (stands : A → B) (xs : List A) → ((x y : A) → IsIn xs x → IsIn xs y → stands x ≡ stands y → key x ≡ key y) →
    AreDistinct (map key xs) → AreDistinct (map stands xs)
distinct_keys key stands [] tells distinct = tt
distinct_keys key stands (x ∷ xs) tells distinct = (other, distinct_keys key stands xs (λ y z i j. tells y z (inr i) (inr j)) distinct.1)
  where
    other : IsIn (map stands xs) (stands x) → ⊥
    other i =
        let y = from_map stands xs (stands x) i in
        distinct.0 (subst (IsIn (map key xs)) (sym (tells x y.0 (inl refl) (inr y.1) y.2)) (in_map key xs y.0 y.1))

-- alternatives that were each judged against what is configured and those before them differ in a key
alternatives_new : {A K : Type 0} (key : A → K) (same : A → A → Bool) → ((x y : A) → key x ≡ key y → same x y ≡ true) → (name : Text) (m : MenuText A) →
    each_new (passes.new_alternative same m.start) name (menu_in m) ≡ [] → AreDistinct (map key (alternatives_in m))
alternatives_new key same told name m h = (not_start, each_new_distinct key (passes.new_alternative same m.start) other name (menu_in m) h)
  where
    other : AsksNewKey key (passes.new_alternative same m.start)
    other earlier at x ok y i is =
        let none = (or_parts (same m.start x) (list_any (λ z. same z x) earlier) (not_faulty _ at _ ok)).1 in
        false≢true (sym (none_in (λ z. same z x) earlier y none i) ∙ told y x is)

    not_start : IsIn (map key (menu_in m)) (key m.start) → ⊥
    not_start i =
        let x = from_map key (menu_in m) (key m.start) i in
        let r = each_new_in (passes.new_alternative same m.start) name (menu_in m) h x.0 x.1 in
        let apart = (or_parts (same m.start x.0) (list_any (λ z. same z x.0) r.0) (not_faulty _ r.1 _ r.2)).0 in
        false≢true (sym apart ∙ told m.start x.0 x.2)

-- Captured attributes

abbrev targets : List CaptureText → List TargetText
targets xs = map (λ x. x.target) xs

same_target : (s t : TargetText) → s ≡ t → passes.same_target s t ≡ true
same_target s t is =
    and_from (bytes_eq s.object t.object) (s.index == t.index) ((bytes_eq-Decides s.object t.object).1 (ap (λ z. z.object) is)) (eq-eqb s.index t.index (ap (λ z. z.index) is))

same_captures : (xs ys : List CaptureText) → targets xs ≡ targets ys → passes.same_captures xs ys ≡ true
same_captures [] [] h = refl
same_captures [] (y ∷ ys) h = cc
same_captures (x ∷ xs) [] h = cc
same_captures (x ∷ xs) (y ∷ ys) h =
    let first : x.target ≡ y.target = cc in
    let rest : targets xs ≡ targets ys = cc in
    and_from (passes.same_target x.target y.target) (passes.same_captures xs ys) (same_target x.target y.target first) (same_captures xs ys rest)

-- one cell is named in one way
one_target : (c : ConfigText) (s t : TargetText) → IsName s.object → IsName t.object → cell_named c s ≡ cell_named c t → s ≡ t
one_target c s t a b is =
    let object = one_text s.object t.object a b (ap (λ x. x.name) is) in
    let index : s.index ≡ t.index = ap (λ x. x.index) is in
    λ k. record { object = object k; index = index k }

one_capture : (c : ConfigText) (xs ys : List CaptureText) → ((x : CaptureText) → IsIn xs x → IsName x.target.object) → ((y : CaptureText) → IsIn ys y → IsName y.target.object) →
    cells_named c xs ≡ cells_named c ys → targets xs ≡ targets ys
one_capture c [] [] a b is = refl
one_capture c [] (y ∷ ys) a b is = cc
one_capture c (x ∷ xs) [] a b is = cc
one_capture c (x ∷ xs) (y ∷ ys) a b is =
    let first : cell_named c x.target ≡ cell_named c y.target = cc in
    let rest : cells_named c xs ≡ cells_named c ys = cc in
    let target = one_target c x.target y.target (a x (inl refl)) (b y (inl refl)) first in
    let others = one_capture c xs ys (λ z i. a z (inr i)) (λ z i. b z (inr i)) rest in
    λ k. target k ∷ others k

-- Scripts

same_integer : (z : ℤ) → int_le z z ≡ true
same_integer (pos n) = le-leb n n (le_refl n)
same_integer (negsuc n) = le-leb n n (le_refl n)

same_script : (r s : ScriptRefText) → r ≡ s → passes.same_script r s ≡ true
same_script r s is =
    subst (λ q. passes.same_script r q ≡ true) is
    (and_from (bytes_eq r.table r.table) (int_le r.script r.script && int_le r.script r.script) ((bytes_eq-Decides r.table r.table).1 refl)
    (and_from (int_le r.script r.script) (int_le r.script r.script) (same_integer r.script) (same_integer r.script)))

-- an integer that can be the number of a script
abbrev IsNumber : ℤ → Type 0
IsNumber z = (n : ℕ) × (z ≡ pos n) × (is_script_number n ≡ true)

script_number_is : (n : ℕ) → is_script_number n ≡ true → script_number (pos n) ≡ n
script_number_is n h =
    cond-true (int_le (pos 0) (pos n) && int_le (pos n) (pos 65535)) (unsigned_abs (pos n)) 0 (and_from (int_le (pos 0) (pos n)) (int_le (pos n) (pos 65535)) (le-leb 0 n (omega arith)) h)

one_number : (y z : ℤ) → IsNumber y → IsNumber z → script_number y ≡ script_number z → y ≡ z
one_number y z a b is =
    let first = ap script_number a.1 ∙ script_number_is a.0 a.2 in
    let other = ap script_number b.1 ∙ script_number_is b.0 b.2 in
    a.1 ∙ (ap pos (sym first ∙ (is ∙ other)) ∙ sym b.1)

passes_in : {A : Type 0} (test : A → Bool) (xs : List A) → list_all test xs ≡ true → (x : A) → IsIn xs x → test x ≡ true
passes_in test [] h x none = absurd none
passes_in test (y ∷ ys) h x (inl is) = subst (λ z. test z ≡ true) (sym is) (and_parts (test y) (list_all test ys) h).0
passes_in test (y ∷ ys) h x (inr i) = passes_in test ys (and_parts (test y) (list_all test ys) h).1 x i

-- a number that the scripts of a table know, whose own keep to their range
known_number : (scripts : List ScriptText) (z : ℤ) → list_all (λ s. is_script_number s.id) scripts ≡ true → passes.has_script scripts z ≡ true → IsNumber z
known_number scripts (pos n) ranges h = (n, refl, at (or_cases (n == 0) (list_any (λ s. s.id == n) scripts) h))
  where
    at : ((n == 0) ≡ true) ⊎ (list_any (λ s. s.id == n) scripts ≡ true) → is_script_number n ≡ true
    at (inl e) = subst (λ k. is_script_number k ≡ true) (sym (eqb-true n 0 e)) refl
    at (inr e) =
        let s = any_in (λ z. z.id == n) scripts e in
        subst (λ k. is_script_number k ≡ true) (eqb-true s.0.id n s.2) (passes_in (λ z. is_script_number z.id) scripts ranges s.0 s.1)
known_number scripts (negsuc n) ranges h = absurd (false≢true h)

ranges_in : (body : BodyText) → has_ranges body ≡ true → list_all (λ s. is_script_number s.id) (scripts_in body) ≡ true
ranges_in (DataText value) h = refl
ranges_in (RegisterText value default scaler unit) h = refl
ranges_in (ProfileText captures period entries sort_method) h = refl
ranges_in (ClockText time) h = refl
ranges_in (ScriptTableText scripts) h = h
ranges_in (MonitorText monitored thresholds actions) h = refl
ranges_in (ScheduleText script type times) h = refl
ranges_in UnknownText h = refl

-- a script that was found has a number
found_number : (c : ConfigText) → IsRight c → (r : ScriptRefText) → IsFound c r → IsNumber r.script
unfolding passes.known_script
found_number c ok r found =
    let both = neither_found (fault_where _ _ (not (is_of_class (class_named c r.table) classes.ScriptTable))) _ found.2 in
    at (object_named c r.table) refl (holds _ _ _ both.1)
  where
    at : (o : Option ObjectText) → object_named c r.table ≡ o → passes.has_script (passes.scripts_of o) r.script ≡ true → IsNumber r.script
    at None is h = known_number [] r.script refl h
    at (Some o) is h = known_number (scripts_in o.body) r.script (ranges_in o.body (ok.read.ranges o (found_named c r.table o is).0)) h

-- one script is named in one way
one_script : (r s : ScriptRefText) → IsName r.table → IsName s.table → IsNumber r.script → IsNumber s.script → script_named r ≡ script_named s → r ≡ s
one_script r s a b m n is =
    let table = one_text r.table s.table a b (ap (λ z. z.table) is) in
    let script = one_number r.script s.script m n (ap (λ z. z.script) is) in
    λ k. record { table = table k; script = script k }

-- The alternatives of an object

pub own_alternatives : (c : ConfigText) → IsRight c → (o : ObjectText) → IsIn c.objects o → (body : BodyText) → o.body ≡ body → HasOwnAlternatives (part_of c body)
unfolding passes.new_alternatives passes.new_alternatives_in
own_alternatives c ok o i (DataText value) is = tt
own_alternatives c ok o i (RegisterText value default scaler unit) is = tt
own_alternatives c ok o i (ProfileText captures period entries sort_method) is =
    let names = subst (EachReference (λ t. IsName t.object) (λ r. IsName r.table)) is (ok.names.references o i) in
    let at = each_ok _ _ _ _ ok.judged.alternatives o i in
    let new = subst (λ b. passes.new_alternatives_in at.0 b ≡ []) is at.1 in
    distinct_keys targets (cells_named c) (alternatives_in captures) (λ xs ys j k. one_capture c xs ys (names xs j) (names ys k))
    (alternatives_new targets passes.same_captures same_captures _ captures new)
own_alternatives c ok o i (ClockText time) is = tt
own_alternatives c ok o i (ScriptTableText scripts) is = tt
own_alternatives c ok o i (MonitorText monitored ths actions) is = tt
own_alternatives c ok o i (ScheduleText script type times) is =
    let names = subst (EachReference (λ t. IsName t.object) (λ r. IsName r.table)) is (ok.names.references o i) in
    let found = subst (EachReference (λ t. is_some (object_named c t.object) ≡ true) (IsFound c)) is (found_of c ok o i) in
    let at = each_ok _ _ _ _ ok.judged.alternatives o i in
    let new = subst (λ b. passes.new_alternatives_in at.0 b ≡ []) is at.1 in
    distinct_keys (λ r. r) script_named (alternatives_in script) (λ r s j k. one_script r s (names r j) (names s k) (found_number c ok r (found r j)) (found_number c ok s (found s k)))
    (alternatives_new (λ r. r) passes.same_script same_script _ script new)
own_alternatives c ok o i UnknownText is = tt
