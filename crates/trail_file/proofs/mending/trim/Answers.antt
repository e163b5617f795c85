use Rattle.std.proofs.Common.{◌≡◌, ◌≢◌, ℕ, ◌<◌, List, Bool, IsTrue, length, get_or, take, sym, ◌∙◌, subst, arith}
use Rattle.trail_file.specs.Text.{recovered}
use Rattle.trail_file.specs.Rest.{IsFront, EndsAt}
use Rattle.trail_file.proofs.Cuts.{cut_ends, cut_crash}
use Rattle.trail_file.proofs.mending.trim.Goals as goal

-- what was read is the file
record IsCuttable (file : List ℕ) (end : ℕ) : Type 0 where
  within : end < length file
  shut : get_or file end 0 ≢ 35
  whole : IsFront (take end file) (recovered file)

cuttable : (bytes file : List ℕ) (end : ℕ) → bytes ≡ file → end < length bytes → get_or bytes end 0 ≢ 35 → IsFront (take end bytes) (recovered bytes) → IsCuttable file end
cuttable bytes file end same within shut whole = subst (λ (f : List ℕ). IsCuttable f end) same (record { within = within; shut = shut; whole = whole })

pub returns-in-Err-clause-crash : goal.returns-in-Err-clause-crash
returns-in-Err-clause-crash g c clean =
    let it = cuttable c.args.bytes.now (g.D.Disk.seen c.args.disk.now) c.args.end (c.requires.bytes (subst (λ (b : Bool). IsTrue b) c.set_len.ensures.calm clean)) (omega arith) (c.requires.shut (omega arith)) c.requires.front in
    cut_crash (g.D.Disk.seen c.args.disk.now) (g.D.Disk.may_leave c.args.disk.now) (g.D.Disk.may_leave c.set_len.new.self) c.args.end it.within it.shut it.whole c.requires.durable c.set_len.ensures.crash

pub returns-else-is_synced-clause-crash : goal.returns-else-is_synced-clause-crash
returns-else-is_synced-clause-crash g c clean f left =
    let it = cuttable c.args.bytes.now (g.D.Disk.seen c.args.disk.now) c.args.end (c.requires.bytes (subst (λ (b : Bool). IsTrue b) (c.is_synced.ensures.calm ∙ c.set_len.ensures.calm) clean)) (omega arith) (c.requires.shut (omega arith)) c.requires.front in
    cut_crash (g.D.Disk.seen c.args.disk.now) (g.D.Disk.may_leave c.args.disk.now) (g.D.Disk.may_leave c.set_len.new.self) c.args.end it.within it.shut it.whole c.requires.durable c.set_len.ensures.crash f (c.is_synced.ensures.crash f left)

pub returns-then-is_synced-clause-crash : goal.returns-then-is_synced-clause-crash
returns-then-is_synced-clause-crash g c clean f left =
    let it = cuttable c.args.bytes.now (g.D.Disk.seen c.args.disk.now) c.args.end (c.requires.bytes (subst (λ (b : Bool). IsTrue b) (c.is_synced.ensures.calm ∙ c.set_len.ensures.calm) clean)) (omega arith) (c.requires.shut (omega arith)) c.requires.front in
    cut_crash (g.D.Disk.seen c.args.disk.now) (g.D.Disk.may_leave c.args.disk.now) (g.D.Disk.may_leave c.set_len.new.self) c.args.end it.within it.shut it.whole c.requires.durable c.set_len.ensures.crash f (c.is_synced.ensures.crash f left)

pub returns-then-is_synced-clause-done : goal.returns-then-is_synced-clause-done
returns-then-is_synced-clause-done g c clean =
    let old = g.D.Disk.seen c.args.disk.now in
    let it = cuttable c.args.bytes.now old c.args.end (c.requires.bytes (subst (λ (b : Bool). IsTrue b) (c.is_synced.ensures.calm ∙ c.set_len.ensures.calm) clean)) (omega arith) (c.requires.shut (omega arith)) c.requires.front in
    subst (λ (f : List ℕ). EndsAt f c.args.end (recovered old)) (sym c.is_synced.ensures.seen) (cut_ends old c.args.end it.within it.shut it.whole (g.D.Disk.seen c.set_len.new.self) c.set_len.ensures.others c.in-Ok.ensures.len)
