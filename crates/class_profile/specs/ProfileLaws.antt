-- The laws of class 7.
use Rattle.std.proofs.lemmas.Bool.{false≢true}
use Rattle.std.proofs.Common.{inl, inr, ◌⊎◌, ◌≡◌, ℕ, ◌≤◌, refl, sym, ap, ◌∙◌, subst, ⊎_elim, arith, Bool, true, false, Option, List}
use Rattle.std.specs.Prelude.{not, Some, None, option_map, ◌==◌, ◌||◌, ◌&&◌, ◌∷◌, [], ◌++◌, length, if◌then◌else◌, nat_le}
use Rattle.std.specs.List.{list_all}
use Rattle.std.proofs.lemmas.Bool.{and_parts, and_from, or_cases, or_right, eqb-true, le-leb, leb-true}
use Rattle.cosem_data.specs.Tree.{Tree, array, parts, trees}
use Rattle.cosem_data.specs.TreeCode.{parts-trees}
use Rattle.meter_theory.specs.Lists.{keep_last}
use Rattle.meter_theory.specs.Value.{meets, elements, array_of, structure_of}
use Rattle.meter_theory.specs.Steps.{buffer_after, in_use_after}
use Rattle.cosem_class.specs.declared.class.Op.TheVariants.{Write, Invoke, Remember}
use Rattle.cosem_data.specs.declared.cell.CellRef.{CellRef}
use Rattle.meter_theory.specs.Menus.{Choice, has_menu}
use Rattle.cosem_class.specs.Objects.{DependsOnlyOnSources, KeepsRules, WritesItsValue}
use Rattle.cosem_class.specs.Judged.{judged, meets_of_judged, settable_of_accepted, fault_of_accepted}
use Rattle.class_profile.specs.Fifo.{length-keep_last, list_all-keep_last}
use Rattle.class_profile.specs.ProfileClass.{ProfileFixed, objects_rule, profile_rule, is_settable, is_attribute, is_row_length, profile_refusal, after_reset, profile_new_value, profile_touched, profile_own_sources, profile_row_cells, is_entry, is_buffer, is_count, ProfileMeetsRule, IsProfileRow}

-- one new value over one buffer, one count and one row, as far as they are asked for
same_new : (reset capture buffer in_use : Bool) (entries : ℕ) (rows rows' counts counts' : Option Tree) (row row' : List Tree) →
    ((reset || capture) && (buffer || in_use)) ≡ true →
    ((capture && ((buffer && true) || (in_use && false))) ≡ true → rows ≡ rows') →
    ((capture && ((buffer && false) || (in_use && true))) ≡ true → counts ≡ counts') →
    ((capture && buffer) ≡ true → row ≡ row') →
    (if reset then Some (if buffer then after_reset 2 else after_reset 7)
    else if buffer then option_map (λ old. buffer_after entries old (structure_of row)) rows else option_map (in_use_after entries) counts)
    ≡ (if reset then Some (if buffer then after_reset 2 else after_reset 7)
    else if buffer then option_map (λ old. buffer_after entries old (structure_of row')) rows' else option_map (in_use_after entries) counts')
same_new true capture buffer in_use entries rows rows' counts counts' row row' inside same_rows same_counts same_row = refl
same_new false true true in_use entries rows rows' counts counts' row row' inside same_rows same_counts same_row =
    ap (option_map (λ old. buffer_after entries old (structure_of row))) (same_rows refl)
    ∙ ap (λ r. option_map (λ old. buffer_after entries old (structure_of r)) rows') (same_row refl)
same_new false true false true entries rows rows' counts counts' row row' inside same_rows same_counts same_row =
    ap (option_map (in_use_after entries)) (same_counts refl)
same_new false true false false entries rows rows' counts counts' row row' inside same_rows same_counts same_row = cc
same_new false false buffer in_use entries rows rows' counts counts' row row' inside same_rows same_counts same_row = cc

-- what a write puts is its argument, what a reset leaves is fixed, and a capture looks at the cell that it changes
pub profile_depends_only_on_sources : DependsOnlyOnSources profile_touched profile_own_sources profile_row_cells profile_new_value
profile_depends_only_on_sources fixed (Write index) argument row other cells others i inside agree same_row = refl
profile_depends_only_on_sources fixed (Invoke method) argument row other cells others i inside agree same_row =
    same_new (method == 1) (method == 2) (i == 2) (i == 7) fixed.entries (cells 2) (others 2) (cells 7) (others 7) row other inside (agree 2) (agree 7) same_row
profile_depends_only_on_sources fixed Remember argument row other cells others i inside agree same_row = cc

-- a write that is not refused is of 4 or of 3
accepted_index : (fixed : ProfileFixed) (index : ℕ) (value : Tree) → profile_refusal fixed (Write index) value ≡ None → (index ≡ 4) ⊎ (index ≡ 3)
accepted_index fixed index value accepted =
    ⊎_elim (λ is. inl (eqb-true index 4 is)) (λ is. inr (eqb-true index 3 (and_parts (has_menu fixed.captured) (index == 3) is).1))
    (or_cases (index == 4) (has_menu fixed.captured && (index == 3)) (settable_of_accepted (is_settable fixed index) (is_attribute index) (judged (profile_rule fixed index) value) accepted))

-- and puts its value there
pub profile_writes_its_value : WritesItsValue profile_refusal profile_touched profile_new_value
profile_writes_its_value fixed index value cells accepted =
    ⊎_elim (λ is. subst (λ (k : ℕ). Written k) (sym is) refl) (λ is. subst (λ (k : ℕ). Written k) (sym is) refl) (accepted_index fixed index value accepted)
  where
    Written : ℕ → Type 0
    Written k = (if profile_touched (Write k) k then profile_new_value fixed (Write k) value [] cells k else cells k) ≡ Some value

-- a number is one of two, so what holds of both holds of it
at_either : (P : ℕ → Type 0) (a b i : ℕ) → ((i == a) || (i == b)) ≡ true → P a → P b → P i
at_either P a b i one at_a at_b =
    ⊎_elim (λ is. subst P (sym (eqb-true i a is)) at_a) (λ is. subst P (sym (eqb-true i b is)) at_b) (or_cases (i == a) (i == b) one)

-- the elements of a buffer are entries
pub entries-of_buffer : (columns : Choice (List CellRef)) (entries : ℕ) (buffer : Tree) → is_buffer columns entries buffer ≡ true → list_all (is_entry columns) (elements buffer) ≡ true
entries-of_buffer columns entries (array rows) is = (and_parts (nat_le (length (parts rows)) entries) _ is).1
entries-of_buffer columns entries _ is = refl

-- a buffer has at most so many entries
pub room_in_buffer : (columns : Choice (List CellRef)) (entries : ℕ) (rows : List Tree) → is_buffer columns entries (array_of rows) ≡ true → length rows ≤ entries
room_in_buffer columns entries rows is =
    leb-true (length rows) entries (ap (λ ts. nat_le (length ts) entries) (sym (parts-trees rows)) ∙ (and_parts (nat_le (length (parts (trees rows))) entries) _ is).0)

-- so many values are an entry
pub is_entry-structure : (columns : Choice (List CellRef)) (row : List Tree) → is_row_length columns (length row) ≡ true → is_entry columns (structure_of row) ≡ true
is_entry-structure columns row fits = ap (λ ts. is_row_length columns (length ts)) (parts-trees row) ∙ fits

-- a buffer stays one through a capture
pub is_buffer-after : (columns : Choice (List CellRef)) (entries : ℕ) (buffer : Tree) (row : List Tree) → is_buffer columns entries buffer ≡ true → is_row_length columns (length row) ≡ true → is_buffer columns entries (buffer_after entries buffer (structure_of row)) ≡ true
is_buffer-after columns entries buffer row is fits =
    ap (λ rows. nat_le (length rows) entries && list_all (is_entry columns) rows) (parts-trees (keep_last entries (elements buffer ++ structure_of row ∷ [])))
    ∙ and_from _ _ (le-leb _ entries (length-keep_last entries (elements buffer ++ structure_of row ∷ [])))
    (list_all-keep_last (is_entry columns) entries (elements buffer) (structure_of row) (entries-of_buffer columns entries buffer is) (is_entry-structure columns row fits))

-- the entries in use stay within their number through a capture
pub is_count-after : (entries : ℕ) (count : Tree) → is_count entries (in_use_after entries count) ≡ true
is_count-after entries count = le-leb _ entries (omega arith)

-- what a reset leaves of the buffer and of the entries in use
pub is_buffer-reset : (columns : Choice (List CellRef)) (entries : ℕ) → is_buffer columns entries (after_reset 2) ≡ true
is_buffer-reset columns entries = and_from (nat_le 0 entries) true (le-leb 0 entries (omega arith)) refl

pub is_count-reset : (entries : ℕ) → is_count entries (after_reset 7) ≡ true
is_count-reset entries = le-leb 0 entries (omega arith)

-- the buffer after a reset or a capture
kept_buffer : (fixed : ProfileFixed) (reset capture : Bool) (cell : Option Tree) (row : List Tree) → (reset || capture) ≡ true →
    (capture ≡ true → is_row_length fixed.captured (length row) ≡ true) → ProfileMeetsRule fixed 2 cell →
    ProfileMeetsRule fixed 2 (if reset then Some (after_reset 2) else option_map (λ old. buffer_after fixed.entries old (structure_of row)) cell)
kept_buffer fixed true capture cell row one fits met = is_buffer-reset fixed.captured fixed.entries
kept_buffer fixed false true (Some buffer) row one fits met = is_buffer-after fixed.captured fixed.entries buffer row met (fits refl)
kept_buffer fixed false true None row one fits met = met
kept_buffer fixed false false cell row one fits met = cc

-- the entries in use after a reset or a capture
kept_count : (fixed : ProfileFixed) (reset : Bool) (cell : Option Tree) → ProfileMeetsRule fixed 7 cell →
    ProfileMeetsRule fixed 7 (if reset then Some (after_reset 7) else option_map (in_use_after fixed.entries) cell)
kept_count fixed true cell met = is_count-reset fixed.entries
kept_count fixed false (Some count) met = is_count-after fixed.entries count
kept_count fixed false None met = met

-- a write that is not refused puts a value of the kind, and reset and capture leave entries and their number
pub profile_keeps_rules : KeepsRules profile_refusal IsProfileRow ProfileMeetsRule profile_touched profile_new_value
profile_keeps_rules fixed (Write index) argument row cells i accepted is_row meets_all inside =
    ⊎_elim (λ is. at_period (subst (λ (k : ℕ). profile_touched (Write k) i ≡ true) is inside) is) (λ is. at_objects (subst (λ (k : ℕ). profile_touched (Write k) i ≡ true) is inside) is)
    (accepted_index fixed index argument accepted)
  where
    After : ℕ → ℕ → Type 0
    After k at = ProfileMeetsRule fixed at (profile_new_value fixed (Write k) argument row cells at)

    fits : meets (profile_rule fixed index) argument ≡ true
    fits = meets_of_judged (profile_rule fixed index) argument (fault_of_accepted (is_settable fixed index) (is_attribute index) (judged (profile_rule fixed index) argument) accepted)

    at_period : profile_touched (Write 4) i ≡ true → index ≡ 4 → After index i
    at_period touched is =
        subst (λ (k : ℕ). After k i) (sym is)
        (subst (λ (k : ℕ). After 4 k) (sym (eqb-true i 4 (⊎_elim (λ here. here) (λ none. absurd (false≢true none)) (or_cases (i == 4) false touched))))
        (subst (λ (k : ℕ). meets (profile_rule fixed k) argument ≡ true) is fits))

    objects_fit : index ≡ 3 → After 3 3
    objects_fit is = or_right (not (has_menu fixed.captured)) (meets (objects_rule fixed) argument) (subst (λ (k : ℕ). meets (profile_rule fixed k) argument ≡ true) is fits)

    at_objects : profile_touched (Write 3) i ≡ true → index ≡ 3 → After index i
    at_objects touched is =
        subst (λ (k : ℕ). After k i) (sym is)
        (⊎_elim (λ here. subst (λ (k : ℕ). After 3 k) (sym (eqb-true i 3 here)) (objects_fit is))
        (λ beside. at_either (λ k. After 3 k) 2 7 i beside (is_buffer-reset fixed.captured fixed.entries) (is_count-reset fixed.entries))
        (or_cases (i == 3) ((i == 2) || (i == 7)) touched))
profile_keeps_rules fixed (Invoke method) argument row cells i accepted is_row meets_all inside =
    let parts = and_parts ((method == 1) || (method == 2)) ((i == 2) || (i == 7)) inside in
    at_either (λ k. ProfileMeetsRule fixed k (profile_new_value fixed (Invoke method) argument row cells k)) 2 7 i parts.1
    (kept_buffer fixed (method == 1) (method == 2) (cells 2) row parts.0 (λ capture. is_row (eqb-true method 2 capture)) (meets_all 2))
    (kept_count fixed (method == 1) (cells 7) (meets_all 7))
profile_keeps_rules fixed Remember argument row cells i accepted is_row meets_all inside = cc
