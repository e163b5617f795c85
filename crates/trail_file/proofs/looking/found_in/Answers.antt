use Rattle.std.proofs.Common.{◌≡◌, ◌∷◌, ◌∙◌, ◌-◌, ap, arith, drop, drop-drop, get_or, length, length-drop, List, subst, sym, take, ℕ}
use Rattle.std.specs.Prelude.{Err, Result}
use Rattle.trail_file.specs.Rest.{IsFront}
use Rattle.trail_file.specs.Text.{recovered}
use Rattle.trail_file.specs.declared.fault.TrailFault.{TrailFault}
use Rattle.trail_file.specs.declared.head.Head.{Head}
use Rattle.trail_file.specs.declared.looking.Found.{Found}
use Rattle.trail_file.proofs.Cuts.{open_end}
use Rattle.trail_file.proofs.Openings.{held_is, other_is, some_is}
use Rattle.trail_file.proofs.Walks.{first_is, rest_is}
use Rattle.trail_file.proofs.looking.found_in.Goals as goal

-- the same fault of either call
same_fault : (e f : TrailFault) → ◌≡◌ {A = Result Found TrailFault} (Err e) (Err f) → ◌≡◌ {A = Result Head TrailFault} (Err e) (Err f)
same_fault e f same = cc

-- what stands at the end of what was read
ended : (lent bytes : List ℕ) (end : ℕ) → lent ≡ bytes → take (length lent - end) (drop end lent) ≡ drop end bytes
ended lent bytes end value = rest_is end lent ∙ ap (drop end) value

pub returns-in-Err-clause-other : goal.returns-in-Err-clause-other
returns-in-Err-clause-other c result =
    let told = c.in-Err.ensures.other (same_fault _ _ result) in
    other_is c.args.bytes.items c.deref.result.now c.in_ok-entries.entries.items c.in-Some.entries.items c.in-Some.first c.deref.ensures.value c.in_ok-entries.ensures.entries c.in-Some.ensures
    told.0 c.args.head.now.digest told.1 told.2

pub returns-in_err-behind-clause-damaged : goal.returns-in_err-behind-clause-damaged
returns-in_err-behind-clause-damaged c result =
    let bytes = c.args.bytes.items in
    let end = c.in_ok-entries.end in
    let is = ended c.deref-2.result.now bytes end c.deref-2.ensures.value in
    let told = c.in_err-behind.ensures.damaged in
    let low = ap length (sym is) in
    open_end bytes end (omega (arith, told.1, low, length-drop end bytes))
    (sym (first_is end bytes) ∙ ap (λ (l : List ℕ). get_or l 0 0) (sym is) ∙ told.2)
    (subst (λ (b : List ℕ). IsFront (take end b) (recovered b)) c.deref.ensures.value c.in_ok-entries.ensures.front)

pub invariant_of-result : goal.invariant_of-result
invariant_of-result c =
    let bytes = c.args.bytes.items in
    let end = c.in_ok-entries.end in
    let all = c.in_ok-entries.entries.items in
    let rest = c.in-Some.entries.items in
    let first = c.in-Some.first in
    let value = c.deref.ensures.value in
    let is = ended c.deref-2.result.now bytes end c.deref-2.ensures.value in
    let long = ap length value in
    let low = ap length (sym is) in
    record {
      within = omega (arith, c.in_ok-entries.ensures.within, long);
      front = subst (λ (b : List ℕ). IsFront (take end b) (recovered b)) value c.in_ok-entries.ensures.front;
      shut = λ some. λ latch. c.in_ok-behind.ensures.shut (omega (arith, some, low, length-drop end bytes))
          (ap (λ (l : List ℕ). get_or l 0 0) is ∙ first_is end bytes ∙ latch);
      held = held_is bytes c.deref.result.now all rest first value c.in_ok-entries.ensures.entries c.in-Some.ensures c.in-Ok.found c.in-Ok.ensures.found.1;
      some = λ _. some_is bytes c.deref.result.now all rest first value c.in_ok-entries.ensures.entries c.in-Some.ensures;
      few = c.in_ok-behind.ensures.count ∙ ap (λ (l : List ℕ). length (recovered (35 ∷ drop 1 l))) is ∙ ap (λ (l : List ℕ). length (recovered (35 ∷ l))) (drop-drop 1 end bytes);
    }
