-- Each edge has exactly one arrow.
use Rattle.std.proofs.Common.{◌≡◌, ◌+◌, ◌<◌, ◌≤◌, Bool, true, false, cond, ◌||◌, List, [], ◌∷◌, get_or, map, refl, ap, ap₂, sym, subst, ◌∙◌, arith}
use Rattle.std.specs.List.{count_by, list_any}
use Rattle.std.specs.Cmp.{unsigned_Decides}
use Rattle.std.proofs.lemmas.Bool.{and_from, false≢true}
use Rattle.std.proofs.lemmas.List.{get_or-map, length-map}
use Rattle.std.proofs.lemmas.List.Elements.{All-map}
use Rattle.std.proofs.lemmas.List.Folds.{list_any_at}
use Rattle.std.proofs.lemmas.List.Sums.{sum_by-append}
use Rattle.meter_theory.specs.Edges.{same_cause}
use Rattle.meter_theory.specs.declared.flow.Cause.{Cause}
use Rattle.meter_theory.specs.declared.flow.Cause.TheVariants.{Monitored, Monitor, Captured, Menu, Period, Schedule, Clock}
use Rattle.flow_map.specs.Grouping.{firsts}
use Rattle.flow_map.proofs.Firsts.{apart, covers, held}
use Rattle.flow_picture.specs.Arrows.{AreArrows, arrow_of, ends_of, same_between}
use Rattle.flow_picture.specs.declared.drawing.arrows.Between.{Between}

some-counted : {X : Type 0} (test : X → Bool) (xs : List X) → list_any test xs ≡ true → 1 ≤ count_by test xs
some-counted test [] h = absurd (false≢true h)
some-counted test (x ∷ xs) h =
    subst (λ n. 1 ≤ n) (sym (sum_by-append (λ y. cond (test y) 1 0) (x ∷ []) xs)) (at (test x) h (λ is. some-counted test xs is))
  where
    at : (b : Bool) → (b || list_any test xs) ≡ true → (list_any test xs ≡ true → 1 ≤ count_by test xs) → 1 ≤ (0 + cond b 1 0) + count_by test xs
    at true is more = omega arith
    at false is more = omega (arith, more is)

any-map : {X Y : Type 0} (test : Y → Bool) (f : X → Y) (xs : List X) → list_any test (map f xs) ≡ list_any (λ x. test (f x)) xs
any-map test f [] = refl
any-map test f (x ∷ xs) = ap (λ b. test (f x) || b) (any-map test f xs)

cause-itself : (c : Cause) → same_cause c c ≡ true
cause-itself Monitored = refl
cause-itself Monitor = refl
cause-itself Captured = refl
cause-itself Menu = refl
cause-itself Period = refl
cause-itself Schedule = refl
cause-itself Clock = refl

itself : (one : Between) → same_between one one ≡ true
itself one = and_from _ _ ((unsigned_Decides one.source one.source).1 refl) (and_from _ _ ((unsigned_Decides one.target one.target).1 refl) (cause-itself one.cause))

pub are-arrows : (all : List Between) → AreArrows all (map (arrow_of all) (firsts same_between all))
are-arrows all =
    let fs = firsts same_between all in
    let make = arrow_of all in
    record {
      each = λ k d less. any-map (λ arrow. same_between (ends_of arrow) (get_or all k d)) make fs ∙ covers same_between all (λ j e low. itself (get_or all j e)) k d less;
      apart = λ i j d before low.
          let end = subst (λ n. j < n) (length-map fs make) low in
          let first = get_or-map make fs i (ends_of d) d (omega (arith, before, end)) in
          let second = get_or-map make fs j (ends_of d) d end in
          ap₂ (λ a b. same_between (ends_of a) (ends_of b)) first second ∙ apart same_between all i j (ends_of d) before end;
      counted = All-map (λ arrow. arrow.edges ≡ count_by (same_between (ends_of arrow)) all) make fs (λ k d less. refl);
      some = All-map (λ arrow. 1 ≤ arrow.edges) make fs
          (held same_between (λ one. 1 ≤ count_by (same_between one) all) all
          (λ k d less. some-counted (same_between (get_or all k d)) all (list_any_at (same_between (get_or all k d)) all k d less (itself (get_or all k d)))));
    }
