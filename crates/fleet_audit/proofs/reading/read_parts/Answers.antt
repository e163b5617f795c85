use Rattle.std.proofs.Common.{◌≡◌, ℕ, ◌+◌, ◌*◌, ◌<◌, ◌≤◌, [], ◌∷◌, length, drop, get_or, ap, subst, ◌∙◌, arith, Ok}
use native.Mathlib.Nat.{zero-mul}
use Rattle.std.specs.Vec.Iter.{into_iter_items}
use Rattle.std.proofs.lemmas.List.{nil_from_length}
use Rattle.fleet_audit.specs.Reading.{part}
use Rattle.fleet_audit.proofs.Fleets.{Deals, IsPart, IsSoFar, Names, Part, begun, dealt, ended, gone_on, reach}
use Rattle.fleet_audit.proofs.reading.read_parts.Goals as goal

pub loop-part-init : goal.loop-part-init
loop-part-init g c =
    let reads = g.F.TextFiles.may_read c.args.files.now in
    let names = c.args.names.now in
    let size = c.max-each.result in
    let parts = c.in_ok-parts.parts.items in
    let some : 0 < size = omega (arith, c.max-each.ensures) in
    let each : (i : ℕ) (d : Part) → i < length parts → IsPart reads (part names size (0 + i)) (get_or parts i d) = λ i d within.
    let number : i ≡ 0 + i = omega arith in
    let below : i < c.div_ceil-2.result = omega (arith, c.in_ok-parts.ensures.len, c.in_ok-parts.parts.ok.0) in
    subst (λ n. IsPart reads (part names size n) (get_or parts i d)) number (c.in_ok-parts.ensures.each i d below).1.met in
    let short : length names ≤ (0 + length parts) * size =
    let all : length parts ≡ 0 + length parts = omega arith in
    subst (λ n. length names ≤ n * size) all (reach (length parts) (length names) size some (omega (arith, c.in_ok-parts.ensures.len, c.in_ok-parts.parts.ok.0))) in
    let first : drop (0 * size) names ≡ names = ap (λ n. drop n names) (zero-mul size) in
    let all = subst (λ (l : Names). Deals reads size l parts) first (dealt reads size names 0 parts short each) in
    let all-left : into_iter_items c.into_iter-part-iterator.result ≡ parts = c.into_iter-part-iterator.ensures.into_iter_gives.0 in
    rw all-left (begun reads size names _ _ parts c.in_ok-reading.ensures.texts c.in_ok-reading.ensures.unread all)

pub loop-part-preserved : goal.loop-part-preserved
loop-part-preserved g c =
    let reads = g.F.TextFiles.may_read c.args.files.now in
    let size = c.max-each.result in
    let names = c.args.names.now in
    let behind = into_iter_items c.next.new.self in
    let reading = c.loop-part.reading in
    let left : into_iter_items c.loop-part.part-iterator ≡ Ok c.in_ok-part.field-0 ∷ behind = c.in-Some.ensures.steps.0 ∙ ap (λ part. part ∷ behind) c.in_ok-part.was in
    rw (c.in_ok-append.ensures.texts, c.in_ok-append.ensures.unread)
    (gone_on reads size names reading.texts.items reading.unread.items c.in_ok-part.field-0 behind (subst (IsSoFar reads size names reading.texts.items reading.unread.items) left c.loop-part.invariant))

pub returns : goal.returns
returns g c =
    let reads = g.F.TextFiles.may_read c.args.files.now in
    let size = c.max-each.result in
    let reading = c.loop-part.reading in
    let none : into_iter_items c.loop-part.part-iterator ≡ [] = nil_from_length _ (omega (arith, c.in-None.ensures.steps.0, c.loop-part.part-iterator.rest.ok.0)) in
    ended reads size c.args.names.now reading.texts.items reading.unread.items (subst (IsSoFar reads size c.args.names.now reading.texts.items reading.unread.items) none c.loop-part.invariant)
