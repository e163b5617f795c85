use Rattle.std.proofs.Common.{◌≡◌, ℕ, ◌+◌, List, ◌∷◌, ◌++◌, length, drop, Bool, IsTrue, sym, ◌∙◌, ap, subst, arith}
use Rattle.trail_file.specs.Text.{Entry, recovered}
use Rattle.trail_file.specs.Rest.{IsBatch, IsFront, RestsAt}
use Rattle.trail_file.proofs.Tears.{latch_crash, opened, opened_is}
use Rattle.trail_file.proofs.latch.open_latch.Goals as goal

batch_front : (batch : List ℕ) → IsBatch batch → IsFront (35 ∷ drop 1 batch) (recovered batch)
batch_front batch it = subst (λ (f : List ℕ). IsFront f (recovered batch)) it.is_open it.whole

pub returns-in-Err-clause-crash : goal.returns-in-Err-clause-crash
returns-in-Err-clause-crash g c clean =
    let staged = c.requires.staged (subst (λ (b : Bool). IsTrue b) c.write_at.ensures.calm clean) in
    latch_crash (g.D.Disk.seen c.args.disk.now) (g.D.Disk.may_leave c.args.disk.now) (g.D.Disk.may_leave c.write_at.new.self) c.args.end (recovered c.args.batch.now) (drop 1 c.args.batch.now) c.requires.durable staged (batch_front c.args.batch.now c.requires.batch) c.write_at.ensures.crash

pub returns-in-Ok-clause-crash : goal.returns-in-Ok-clause-crash
returns-in-Ok-clause-crash g c clean f left =
    let staged = c.requires.staged (subst (λ (b : Bool). IsTrue b) (c.is_synced.ensures.calm ∙ c.write_at.ensures.calm) clean) in
    latch_crash (g.D.Disk.seen c.args.disk.now) (g.D.Disk.may_leave c.args.disk.now) (g.D.Disk.may_leave c.write_at.new.self) c.args.end (recovered c.args.batch.now) (drop 1 c.args.batch.now) c.requires.durable staged (batch_front c.args.batch.now c.requires.batch) c.write_at.ensures.crash
    f (c.is_synced.ensures.crash f left)

pub returns-in-Ok-clause-added : goal.returns-in-Ok-clause-added
returns-in-Ok-clause-added g c done clean =
    let old = g.D.Disk.seen c.args.disk.now in
    let staged = c.requires.staged (subst (λ (b : Bool). IsTrue b) (c.is_synced.ensures.calm ∙ c.write_at.ensures.calm) clean) in
    ap recovered c.is_synced.ensures.seen ∙ opened_is old c.args.end (recovered old) (recovered c.args.batch.now) (drop 1 c.args.batch.now) staged (batch_front c.args.batch.now c.requires.batch) (g.D.Disk.seen c.write_at.new.self) c.write_at.ensures.others (c.in-Ok.ensures.written (omega arith))

pub returns-in-Ok-clause-settled : goal.returns-in-Ok-clause-settled
returns-in-Ok-clause-settled g c done clean =
    let old = g.D.Disk.seen c.args.disk.now in
    let batch = c.args.batch.now in
    let staged = c.requires.staged (subst (λ (b : Bool). IsTrue b) (c.is_synced.ensures.calm ∙ c.write_at.ensures.calm) clean) in
    let rests = opened old c.args.end (recovered old) (recovered batch) (drop 1 batch) staged (batch_front batch c.requires.batch) (g.D.Disk.seen c.write_at.new.self) c.write_at.ensures.others (c.in-Ok.ensures.written (omega arith)) in
    let long : c.args.end + length (drop 1 batch) + 1 ≡ c.args.end + length batch = omega (arith, ap length c.requires.batch.is_open) in
    let there = subst (λ (at : ℕ). RestsAt (g.D.Disk.seen c.write_at.new.self) at (recovered old ++ recovered batch)) long rests in
    record {
      rests = subst (λ (es : List Entry). RestsAt (g.D.Disk.seen c.is_synced.new.disk) (c.args.end + length batch) es) (sym (returns-in-Ok-clause-added g c done clean)) (subst (λ (f : List ℕ). RestsAt f (c.args.end + length batch) (recovered old ++ recovered batch)) (sym c.is_synced.ensures.seen) there);
      durable = c.is_synced.ensures.durable done;
    }
