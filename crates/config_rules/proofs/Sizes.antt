-- Sizes: lists keep within the limits, and names have six bytes.
use Rattle.std.proofs.Common.{◌≡◌, ℕ, Bool, true, not, List, [], ◌∷◌, map, length, refl, sym, subst, inl, inr, Option, Some, None, nat_lt, nat_le}
use Rattle.std.specs.Prelude.{ℤ, ◌||◌}
use Rattle.std.specs.List.{list_all}
use Rattle.std.specs.Option.{unwrap_or}
use Rattle.std.proofs.lemmas.Bool.{and_from, or_parts, ltb-false, le-leb}
use Rattle.std.proofs.lemmas.List.{length-map}
use Rattle.meter_theory.specs.Lists.{IsIn}
use Rattle.meter_theory.specs.Value.{is_within_limits}
use Rattle.meter_theory.specs.Sound.{is_name, has_capture_sizes}
use Rattle.meter_theory.specs.declared.limits.TheConstants as limits
use Rattle.config_text.specs.Fault.{fault_where}
use Rattle.config_text.specs.declared.cause.Limit as of
use Rattle.config_text.specs.Parts.{Text, MenuText, ConfigText, ObjectText, CaptureText, ScriptRefText, ProfileText, ScheduleText}
use Rattle.config_rules.specs.Names.{menu_in}
use Rattle.config_rules.specs.PlanOf.{name_of, cell_named, cells_named, script_named, times_value}
use Rattle.config_rules.specs.Passes as passes
use Rattle.config_rules.proofs.Nothing.{both_none, not_faulty, each_ok}
use Rattle.config_rules.proofs.Passed.{EachReference, alternatives_in, profile_limits}
use Rattle.config_rules.proofs.Named.{IsName, six_bytes, name_of_is}
use Rattle.config_rules.proofs.Cells.{IsRight}
use Rattle.config_rules.proofs.Starts.{of_body}

pub at_most_ok : {A : Type 0} (what : of.Limit) (limit : ℕ) (at : Text) (xs : List A) → passes.at_most what limit at xs ≡ [] → nat_le (length xs) limit ≡ true
at_most_ok what limit at xs h = le-leb (length xs) limit (ltb-false limit (length xs) (not_faulty _ at (nat_lt limit (length xs)) h))

pub few_of_map : {A B : Type 0} (f : A → B) (limit : ℕ) (xs : List A) → nat_le (length xs) limit ≡ true → nat_le (length (map f xs)) limit ≡ true
few_of_map f limit xs h = subst (λ n. nat_le n limit ≡ true) (sym (length-map xs f)) h

pub each_of_map : {A B : Type 0} (test : B → Bool) (f : A → B) (xs : List A) → ((x : A) → IsIn xs x → test (f x) ≡ true) → list_all test (map f xs) ≡ true
each_of_map test f [] h = refl
each_of_map test f (x ∷ xs) h = and_from (test (f x)) (list_all test (map f xs)) (h x (inl refl)) (each_of_map test f xs (λ y i. h y (inr i)))

pub six : (text : Text) → IsName text → is_name (name_of text) ≡ true
six text name = subst (λ n. is_name n ≡ true) (sym (name_of_is text name.0 name.1)) (six_bytes text name.0 name.1)

-- Menus

menu_few : {A B : Type 0} (f : A → B) (at : Text) (menu : Option (List A)) → passes.menu_size at menu ≡ [] → nat_le (length (map f (unwrap_or menu []))) limits.MENU ≡ true
menu_few f at None h = refl
menu_few f at (Some xs) h =
    let apart = or_parts (nat_lt (length xs) 1) (nat_lt limits.MENU (length xs)) (not_faulty _ at (nat_lt (length xs) 1 || nat_lt limits.MENU (length xs)) h) in
    few_of_map f limits.MENU xs (le-leb (length xs) limits.MENU (ltb-false limits.MENU (length xs) apart.1))

-- what the passes found of the sizes of a profile
pub record AreProfileSizes (c : ConfigText) (captures : MenuText (List CaptureText)) (entries : ℕ) : Type 0 where
  pub few : nat_le (length (map (cells_named c) (menu_in captures))) limits.MENU ≡ true
  pub each : (xs : List CaptureText) → IsIn (alternatives_in captures) xs → has_capture_sizes (cells_named c xs) ≡ true
  pub kept : nat_le entries limits.PROFILE_ENTRIES ≡ true

pub profile_sizes : (c : ConfigText) → IsRight c → (o : ObjectText) → IsIn c.objects o → (captures : MenuText (List CaptureText)) (period entries : ℕ) (sort_method : Option ℤ) →
    o.body ≡ ProfileText captures period entries sort_method → AreProfileSizes c captures entries
unfolding passes.limits_in
profile_sizes c ok o i captures period entries sort_method is =
    let names = subst (EachReference (λ t. IsName t.object) (λ r. IsName r.table)) is (ok.names.references o i) in
    let found = (of_body c ok o i (ProfileText captures period entries sort_method) is).limits in
    let sizes = profile_limits found.0 captures period entries sort_method found.1 in
    let few : (xs : List CaptureText) → IsIn (alternatives_in captures) xs → nat_le (length xs) limits.CAPTURE_OBJECTS ≡ true = λ xs j.
    elim j [
      | inl e ↦ subst (λ ys. nat_le (length ys) limits.CAPTURE_OBJECTS ≡ true) (sym e) (at_most_ok _ limits.CAPTURE_OBJECTS _ captures.start sizes.0)
      | inr k ↦ at_most_ok _ limits.CAPTURE_OBJECTS _ xs (each_ok (passes.at_most _ limits.CAPTURE_OBJECTS) _ 0 (menu_in captures) sizes.3 xs k).1
    ] in
    record {
      few = menu_few (cells_named c) _ captures.menu sizes.2;
      each = λ xs j. and_from (nat_le (length (cells_named c xs)) limits.CAPTURE_OBJECTS) (list_all (λ x. is_name x.name) (cells_named c xs))
          (few_of_map (λ x. cell_named c x.target) limits.CAPTURE_OBJECTS xs (few xs j))
          (each_of_map (λ x. is_name x.name) (λ x. cell_named c x.target) xs (λ x k. six x.target.object (names xs j x k)));
      kept = le-leb entries limits.PROFILE_ENTRIES (ltb-false limits.PROFILE_ENTRIES entries (not_faulty _ _ _ sizes.1));
    }

-- and of those of a schedule
pub record AreScheduleSizes (script : MenuText ScriptRefText) : Type 0 where
  pub few : nat_le (length (map script_named (menu_in script))) limits.MENU ≡ true
  pub each : (r : ScriptRefText) → IsIn (alternatives_in script) r → is_name (name_of r.table) ≡ true

pub schedule_sizes : (c : ConfigText) → IsRight c → (o : ObjectText) → IsIn c.objects o → (script : MenuText ScriptRefText) (type : ℕ) (times : List Text) →
    o.body ≡ ScheduleText script type times → AreScheduleSizes script
unfolding passes.limits_in
schedule_sizes c ok o i script type times is =
    let names = subst (EachReference (λ t. IsName t.object) (λ r. IsName r.table)) is (ok.names.references o i) in
    let size = both_none (fault_where _ _ (nat_lt limits.EXECUTION_TIMES (length times) || not (is_within_limits (times_value times)))) _
    (of_body c ok o i (ScheduleText script type times) is).limits.1 in
    record {
      few = menu_few script_named _ script.menu size.1;
      each = λ r j. six r.table (names r j);
    }
