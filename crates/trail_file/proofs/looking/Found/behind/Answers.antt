use Rattle.std.proofs.Common.{◌∷◌, ◌∙◌, length, take, drop, drop-drop, take-append-drop, sym, ap, arith, List, ℕ}
use Rattle.trail_file.specs.Text.{recovered}
use Rattle.trail_file.proofs.looking.Found.behind.Goals as goal

pub returns : goal.returns
returns c =
    let found = c.args.self.now in
    let count = found.few ∙ ap (λ (l : List ℕ). length (recovered (35 ∷ l))) (sym (drop-drop 1 found.end found.bytes.items)) in
    record {
      front = take found.end found.bytes.items;
      tail = drop found.end found.bytes.items;
      is = sym (take-append-drop found.end found.bytes.items);
      whole = found.front;
      few = omega (arith, count);
    }
