use Rattle.std.proofs.Common.{◌≡◌, List, ℕ, [], take, length, refl, subst, inl, inr, arith, Option, lit<, ap, length-append}
use Rattle.std.proofs.lemmas.Result.{err_from_is_err_and}
use Rattle.std.proofs.KnownBytes.{Consumes-kept, Consumes-nil}
use Rattle.std.specs.Io.KnownBytes.{Consumes}
use Rattle.line_server.specs.declared.fault.LineFault.TheVariants.{Read}
use Rattle.line_server.proofs.Taking.{stands-init, stands-written, stands-kept, stands-fed, stands-few, halts-breaks, halts-between}
use Rattle.line_server.proofs.lines.answer_input.Goals as goal

pub loop-init : goal.loop-init
loop-init g c = record {
  so_far = ([], [], rw (c.requires.held, c.requires.count, c.requires.waiting) (stands-init c.args.asker.now _), refl);
  held = rw c.requires.held (λ k d h. absurd (omega arith));
  fits = lit< tt;
  room = lit< tt;
}

pub returns-in_default : goal.returns-in_default
returns-in_default g c =
    let cut = c.in_default.ensures.err in
    halts-breaks cut.0 cut.1 c.loop.invariant.so_far.2 c.in_default.ensures.emptied cut.2 cut.3 cut.4

pub returns-in_default-read : goal.returns-in_default-read
returns-in_default-read g c =
    let stands = stands-written c.loop.invariant.so_far.2 c.in-Ok.ensures.emptied c.in-Ok.ensures.ok in
    let unread = g.R.Read.remaining c.loop.reader in
    halts-between Read (stands-kept stands (Consumes-kept unread unread (g.R.Read.remaining c.read.new.self) [] (Consumes-nil unread) c.in_default-read.ensures.bytes)) (inl c.loop.invariant.held)

pub end_run-requires : goal.end_run-requires
end_run-requires g c = omega (arith, stands-few c.loop.invariant.so_far.2, c.loop.invariant.so_far.3, c.loop.invariant.fits)

none-taken : (old new : Option (List ℕ)) (n : ℕ) (bytes : List ℕ) → n ≡ 0 → Consumes old new (take n bytes) → Consumes old new []
none-taken old new n bytes e h = subst (λ (k : ℕ). Consumes old new (take k bytes)) e h

pub returns-then-taken-eq0 : goal.returns-then-taken-eq0
returns-then-taken-eq0 g c =
    let zero = c.if-taken-eq0.true in
    let stands = stands-written c.loop.invariant.so_far.2 c.in-Ok.ensures.emptied c.in-Ok.ensures.ok in
    let at_end = c.in-Ok-read.ensures.bytes.1 zero (omega (arith, c.loop.invariant.room, c.read.auto.buf)) in
    c.end_run.ensures _ _ _ _ _ (stands-kept stands (none-taken (g.R.Read.remaining c.loop.reader) (g.R.Read.remaining c.read.new.self) c.in-Ok-read.taken c.read.new.buf zero c.in-Ok-read.ensures.bytes.0)) c.loop.invariant.held at_end

pub returns-in_default-checked_add : goal.returns-in_default-checked_add
returns-in_default-checked_add g c =
    let stands = stands-written c.loop.invariant.so_far.2 c.in-Ok.ensures.emptied c.in-Ok.ensures.ok in
    let piece = take c.in-Ok-read.taken c.read.new.buf in
    let fed = stands-fed piece stands c.in-Ok-read.ensures.bytes.0 in
    halts-between Read fed
    (inr (omega (arith, c.in_default-checked_add.ensures, c.in-Ok-read.ensures.bound.1, c.loop.invariant.so_far.3, ap (λ (t : List ℕ). length t) fed.whole, length-append c.loop.invariant.so_far.0 piece)))

pub take_piece-requires : goal.take_piece-requires
take_piece-requires g c =
    omega (arith, stands-few c.loop.invariant.so_far.2, c.loop.invariant.so_far.3, c.in-Some.ensures.0, c.in-Ok-read.ensures.bound.1)

pub returns-in_err-take_piece : goal.returns-in_err-take_piece
returns-in_err-take_piece g c =
    let stands = stands-written c.loop.invariant.so_far.2 c.in-Ok.ensures.emptied c.in-Ok.ensures.ok in
    let p = err_from_is_err_and c.from_residual.result c.from_residual.ensures.1 in
    rw (p.1, p.2) (c.in_err-take_piece.ensures _ _ _ _ _ (stands-fed (take c.in-Ok-read.taken c.read.new.buf) stands c.in-Ok-read.ensures.bytes.0))

pub loop-preserved : goal.loop-preserved
loop-preserved g c =
    let stands = stands-written c.loop.invariant.so_far.2 c.in-Ok.ensures.emptied c.in-Ok.ensures.ok in
    let piece = take c.in-Ok-read.taken c.read.new.buf in
    let took = c.in_ok-take_piece.ensures _ _ _ _ _ (stands-fed piece stands c.in-Ok-read.ensures.bytes.0) in record {
      so_far = (_, took.0, took.1, omega (arith, c.in-Some.ensures.1, c.in-Ok-read.ensures.bound.1, c.loop.invariant.so_far.3, length-append c.loop.invariant.so_far.0 piece));
      held = took.2;
      fits = omega (arith, c.in-Some.ensures.0, c.in-Some.ensures.1);
      room = omega (arith, c.loop.invariant.room, c.read.auto.buf);
    }

pub returns : goal.returns
returns g c = halts-between Read c.loop.invariant.so_far.2 (inl c.loop.invariant.held)
