use Rattle.std.proofs.Common.{◌∷◌, ◌++◌, List, ap, drop, length, sym, ◌∙◌, refl, arith, ℕ}
use Rattle.trail_file.specs.Opening.{is_new}
use Rattle.trail_file.specs.Text.{Entry, recovered}
use Rattle.trail_file.proofs.Openings.{new_head, new_is_shut}
use Rattle.trail_file.proofs.looking.new_file.Goals as goal

pub invariant_of-result : goal.invariant_of-result
invariant_of-result c =
    let bytes = c.args.bytes.items in
    record {
      within = omega arith;
      front = λ rest. sym (ap (λ (es : List Entry). es ++ recovered rest) c.requires);
      shut = new_is_shut bytes (ap is_new (sym c.deref.ensures.value) ∙ sym c.if-not-is_new.ensures);
      held = new_head c.args.head.now bytes c.new.result.items c.requires c.new.ensures.items;
      some = λ other. absurd (other refl);
      few = c.count_behind.ensures ∙ ap (λ (l : List ℕ). length (recovered (35 ∷ drop 1 l))) c.deref-2.ensures.value;
    }
