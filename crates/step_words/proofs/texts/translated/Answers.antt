use Rattle.std.proofs.Common.{◌≡◌, ◌+◌, ◌++◌, ◌∷◌, [], Ok, length, sym, ap, ◌∙◌, arith}
use Rattle.step_words.specs.Texts.{placed, line_at, lines_at, text_at}
use Rattle.step_words.proofs.Lines.{lines_of, with_front, line_more}
use Rattle.step_words.proofs.texts.translated.Goals as goal

pub loop-line-preserved : goal.loop-line-preserved
loop-line-preserved c =
    let made : placed c.loop-line.number (length c.in-Some.line.now) (line_at c.args.way c.in-Some.line.now) ≡ Ok c.in_ok-line.line.items = c.in_ok-line.ensures in
    let items : c.push.new.self.items ≡ (c.loop-line.made.items ++ c.in_ok-line.line.items) ++ 10 ∷ [] = grind arith in
    record {
      made = line_more c.args.way c.loop-line.number c.loop-line.rest.now c.in-Some.line.now c.in-Some.behind.now c.loop-line.made.items c.in_ok-line.line.items (text_at c.args.way c.args.text.now) c.in-Some.ensures.more made c.loop-line.invariant.made
          ∙ ap (λ t. with_front t (lines_at c.args.way (c.loop-line.number + 1) (lines_of c.in-Some.behind.now))) (sym items);
      few = let few = c.loop-line.invariant.few in let shorter = c.in-Some.ensures.shorter in omega (arith, few, shorter);
    }
