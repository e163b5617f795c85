-- The plan of a configuration in which the passes find nothing has one clock at most.
use Rattle.std.proofs.Common.{◌≡◌, ◌==◌, Bool, true, false, List, [], ◌∷◌, ◌++◌, length, refl, sym, ap, subst, ◌∙◌, inl, inr, Option, Some, None, not, Ok}
use Rattle.std.specs.Prelude.{codes, ◌&&◌, ◌||◌}
use Rattle.std.specs.List.{list_any}
use Rattle.std.proofs.lemmas.Bool.{false≢true}
use Rattle.std.proofs.lemmas.List.Folds.{list_any-append}
use Rattle.meter_theory.specs.Classes.{is_known, is_of_class, may_be_fed}
use Rattle.meter_theory.specs.declared.classes.Class.TheVariants as classes
use Rattle.meter_theory.specs.Lists.{IsIn}
use Rattle.meter_theory.specs.Plan.{Object, class_of, clock_object}
use Rattle.meter_theory.specs.Sound.{IsClock, HasAtMostOneClock}
use Rattle.meter_theory.proofs.Lists.{found, from_map}
use Rattle.config_text.specs.Parts.{Text, ConfigText, ObjectText}
use Rattle.config_rules.specs.Passes as passes
use Rattle.config_rules.specs.Passes.{is_clock, new_clock, judged}
use Rattle.config_rules.specs.PlanOf.{object_of, plan_of}
use Rattle.config_rules.specs.Read.{IsRead}
use Rattle.config_rules.specs.Walks.{each_after, element_place}
use Rattle.config_rules.proofs.Nothing.{both_none, not_faulty, each_ok}
use Rattle.config_rules.proofs.Passed.{passed}
use Rattle.config_rules.proofs.Cells.{IsRight, right, class_is, only_place}

-- Objects behind a clock

-- a clock among some stays among more, and the last counts too
still_there : (earlier : List ObjectText) (o : ObjectText) → list_any is_clock earlier ≡ true → list_any is_clock (earlier ++ o ∷ []) ≡ true
still_there earlier o h = list_any-append is_clock earlier (o ∷ []) ∙ ap (λ b. b || (is_clock o || false)) h

or_true : (b : Bool) → (b || true) ≡ true
or_true true = refl
or_true false = refl

last_there : (earlier : List ObjectText) (o : ObjectText) → is_clock o ≡ true → list_any is_clock (earlier ++ o ∷ []) ≡ true
last_there earlier o h =
    list_any-append is_clock earlier (o ∷ [])
    ∙ (ap (λ b. list_any is_clock earlier || (b || false)) h ∙ or_true (list_any is_clock earlier))

not_second : (clock some : Bool) → some ≡ true → (clock && some) ≡ false → clock ≡ false
not_second true some h apart = absurd (false≢true (sym apart ∙ h))
not_second false some h apart = refl

none_behind : (name : Text) (earlier xs : List ObjectText) → each_after new_clock name earlier xs ≡ [] → list_any is_clock earlier ≡ true →
    (y : ObjectText) → IsIn xs y → is_clock y ≡ false
unfolding each_after
none_behind name earlier [] h some y none = absurd none
none_behind name earlier (z ∷ zs) h some y there =
    let r = both_none (new_clock earlier (element_place name (length earlier)) z) (each_after new_clock name (earlier ++ z ∷ []) zs) h in
    elim there [
      | inl e ↦ subst (λ q. is_clock q ≡ false) (sym e) (not_second (is_clock z) (list_any is_clock earlier) some (not_faulty _ _ _ r.0))
      | inr j ↦ none_behind name (earlier ++ z ∷ []) zs r.1 (still_there earlier z some) y j
    ]

one_clock : (name : Text) (earlier xs : List ObjectText) → each_after new_clock name earlier xs ≡ [] →
    (x y : ObjectText) → IsIn xs x → IsIn xs y → is_clock x ≡ true → is_clock y ≡ true → x ≡ y
unfolding each_after
one_clock name earlier [] h x y none j one other = absurd none
one_clock name earlier (z ∷ zs) h x y i j one other = at (λ k l. one_clock name (earlier ++ z ∷ []) zs rest x y k l one other) i j
  where
    rest : each_after new_clock name (earlier ++ z ∷ []) zs ≡ []
    rest = (both_none (new_clock earlier (element_place name (length earlier)) z) (each_after new_clock name (earlier ++ z ∷ []) zs) h).1

    -- a clock at the front has none behind it
    apart : {A : Type 0} (v w : ObjectText) → v ≡ z → IsIn zs w → is_clock v ≡ true → is_clock w ≡ true → A
    apart v w e k first second =
        let front = last_there earlier z (subst (λ q. is_clock q ≡ true) e first) in
        absurd (false≢true (sym (none_behind name (earlier ++ z ∷ []) zs rest front w k) ∙ second))

    at : (IsIn zs x → IsIn zs y → x ≡ y) → IsIn (z ∷ zs) x → IsIn (z ∷ zs) y → x ≡ y
    at later (inl e) (inl f) = e ∙ sym f
    at later (inl e) (inr k) = apart x y e k one other
    at later (inr k) (inl f) = apart y x f k other one
    at later (inr k) (inr l) = later k l

-- Objects of the plan

-- a clock of the plan is one of the configuration
clock_text : (c : ConfigText) → IsRight c → (o : Object) → IsIn (plan_of c).objects o → IsClock o →
    (t : ObjectText) × IsIn c.objects t × (o ≡ object_of c t) × (is_clock t ≡ true)
clock_text c ok o i h =
    let t = from_map (object_of c) c.objects o i in
    let same : class_of o.part ≡ t.0.class = ap (λ z. class_of z.part) t.2
    ∙ sym (class_is c t.0.class t.0.body (ok.read.bodies t.0 t.1) (ok.known t.0 t.1)) in
    (t.0, t.1, t.2, subst (λ k. is_of_class k classes.Clock ≡ true) same h)

not_both : (b : Bool) → (b && true) ≡ false → b ≡ false
not_both true h = h
not_both false h = refl

pub one_clock_at_most : (c : ConfigText) → IsRead c → judged c ≡ Ok tt → HasAtMostOneClock (plan_of c)
unfolding passes.new_clocks passes.fed_values
one_clock_at_most c read h = record {
  one = λ o p i j first second.
      let t = clock_text c ok o i first in
      let u = clock_text c ok p j second in
      let same = one_clock (codes "object") [] c.objects ok.judged.clocks t.0 u.0 t.1 u.1 t.3 u.3 in
      t.2 ∙ (ap (object_of c) same ∙ sym u.2);
  fed = λ o i class.
      let t = clock_text c ok o i class in
      let at = each_ok _ _ _ _ ok.judged.inputs t.0 t.1 in
      ap (λ z. z.fed) t.2 ∙ not_both t.0.fed (subst (λ k. (t.0.fed && not (may_be_fed k)) ≡ false) (only_place 8 t.0.class t.3) (not_faulty _ _ _ at.1));
  since = λ version. none version (clock_object (plan_of c)) refl;
}
  where
    ok : IsRight c
    ok = right c read (passed c h)

    none : c.version ≡ 1 → (r : Option Object) → clock_object (plan_of c) ≡ r → r ≡ None
    none version None is = refl
    none version (Some o) is =
        let there = found (λ z. class_of z.part == 8) (plan_of c).objects o is in
        let t = clock_text c ok o there.0 (ap (λ b. b || false) there.1) in
        let known : is_known 1 8 ≡ true = subst (λ k. is_known 1 k ≡ true) (only_place 8 t.0.class t.3) (subst (λ v. is_known v t.0.class ≡ true) version (ok.known t.0 t.1)) in
        absurd (false≢true known)
