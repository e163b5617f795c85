use Rattle.std.proofs.Common.{ℕ, ◌≡◌, length, sym, subst, arith}
use Rattle.std.specs.Prelude.{bit_or, bit_xor}
use Rattle.std.proofs.lemmas.List.{length_push}
use Rattle.std.proofs.lemmas.Slice.Zip.{zip_turn, zip_end}
use Rattle.acse_association.proofs.Differences.{SameSoFar, SameSoFar-more, SameSoFar-all}
use Rattle.acse_association.proofs.password.differences.Goals as goal

pub loop-x-preserved : goal.loop-x-preserved
loop-x-preserved c =
    let given = c.args.given.now in
    let password = c.args.password.now in
    let t = zip_turn given password c.loop-x.yielded c.into_iter-x-iterator.result c.loop-x.x-iterator c.next.new.self _ (cc) (cc) c.loop-x.yielded_by (c.in-Some.x, c.in-Some.y) c.in-Some.is c.next.ensures.steps in
    subst (λ (n : ℕ). SameSoFar (bit_or c.loop-x.differences (bit_xor c.in-Some.x.now c.in-Some.y.now)) n given password) (sym (length_push c.loop-x.yielded (c.in-Some.x, c.in-Some.y)))
    (SameSoFar-more c.loop-x.differences (length c.loop-x.yielded) c.in-Some.x.now c.in-Some.y.now given password c.loop-x.invariant (t.2 0) (t.3 0))

pub returns : goal.returns
returns c =
    let given = c.args.given.now in
    let password = c.args.password.now in
    let n = zip_end given password c.loop-x.yielded c.into_iter-x-iterator.result c.loop-x.x-iterator c.next.new.self _ (cc) (cc) c.loop-x.yielded_by c.in-None.is c.next.ensures.steps in
    let all : length c.loop-x.yielded ≡ length given = omega arith in
    SameSoFar-all c.loop-x.differences (length c.loop-x.yielded) given password c.loop-x.invariant c.requires all
