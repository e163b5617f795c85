use Rattle.std.proofs.Common.{◌≡◌, ◌∙◌, ℕ, Some, cond, refl, sym, ap, subst, false, ◌&&◌}
use Rattle.std.specs.Prelude.{◌==◌, ◌||◌, true}
use Rattle.std.proofs.lemmas.Bool.{eq-eqb}
use Rattle.cosem_data.specs.Tree.{Tree}
use Rattle.cosem_data.specs.View.{tree}
use Rattle.class_control.proofs.schedule.Schedule.put.Goals as goal

-- a write of the script touches nothing else
script_alone : (i : ℕ) → i ≡ 2 → (((i == 4) && true) || ((i == 2) && false)) ≡ false
script_alone i e = subst (λ (j : ℕ). (((j == 4) && true) || ((j == 2) && false)) ≡ false) (sym e) refl

same_value : (a b : Tree) → Some a ≡ Some b → a ≡ b
same_value a b e = cc

pub returns-then-index-eq-EXECUTED_SCRIPT-clause-times : goal.returns-then-index-eq-EXECUTED_SCRIPT-clause-times
returns-then-index-eq-EXECUTED_SCRIPT-clause-times c =
    same_value _ _ (c.put_into.ensures.others 4 (script_alone c.args.index c.if-index-eq-EXECUTED_SCRIPT.true))
    ∙ sym (ap (λ b. cond b (tree c.args.self.now.times) (tree c.args.given)) (eq-eqb c.args.index 2 c.if-index-eq-EXECUTED_SCRIPT.true))

pub returns-then-index-eq-EXECUTED_SCRIPT-clause-times_before : goal.returns-then-index-eq-EXECUTED_SCRIPT-clause-times_before
returns-then-index-eq-EXECUTED_SCRIPT-clause-times_before c = same_value _ _ (c.put_into.ensures.others 4 (script_alone c.args.index c.if-index-eq-EXECUTED_SCRIPT.true))
