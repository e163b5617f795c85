use Rattle.std.proofs.Common.{List, ℕ, ◌≤◌, length, subst, sym, ◌∙◌, ap}
use Rattle.std.proofs.Common.{Vec, Global}
use Rattle.trail_file.proofs.Heads.{head_batch, head_recovered, head_short}
use Rattle.trail_file.proofs.head.Head.batch.Goals as goal

pub returns-clause-batch : goal.returns-clause-batch
returns-clause-batch c = head_batch c.into_bytes.result.items c.args.self.now c.known.ensures (ap (λ (v : Vec ℕ Global). v.items) c.into_bytes.ensures.value ∙ c.in_ok-text.ensures.ok)

pub returns-clause-entry : goal.returns-clause-entry
returns-clause-entry c = head_recovered c.into_bytes.result.items c.args.self.now c.known.ensures (ap (λ (v : Vec ℕ Global). v.items) c.into_bytes.ensures.value ∙ c.in_ok-text.ensures.ok)

pub returns-clause-short : goal.returns-clause-short
returns-clause-short c = subst (λ (l : List ℕ). length l ≤ 105) (sym (ap (λ (v : Vec ℕ Global). v.items) c.into_bytes.ensures.value ∙ c.in_ok-text.ensures.ok)) (head_short c.args.self.now c.known.ensures)
