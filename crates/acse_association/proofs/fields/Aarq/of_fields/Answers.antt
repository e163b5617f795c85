use Rattle.std.proofs.Common.{◌≡◌, ℕ, ◌≤◌, List, length, None, sym, subst, arith}
use Rattle.std.proofs.lemmas.Bool.Decides.{nat_tests}
use Rattle.std.proofs.lemmas.List.{nil_from_length}
use Rattle.acse_association.specs.Fields.{field_at}
use Rattle.acse_association.proofs.Kept.{Reads, Reads-more, Reads-stop, Reads-all}
use Rattle.acse_association.proofs.fields.Aarq.of_fields.Goals as goal

pub returns-in_err-field : goal.returns-in_err-field
returns-in_err-field c =
    let stop : field_at c.loop-rest.rest.now ≡ None = sym c.in_err-field.ensures.value in
    let long : 1 ≤ length c.loop-rest.rest.now = grind (arith, nat_tests) in
    let none = Reads-stop c.args.fields.now c.loop-rest.rest.now c.loop-rest.aarq c.loop-rest.invariant long stop in
    cc

pub loop-rest-preserved : goal.loop-rest-preserved
loop-rest-preserved c =
    Reads-more c.args.fields.now c.loop-rest.rest.now c.in_ok-field.behind.now c.loop-rest.aarq c.with-aarq.result c.in_ok-field.field c.loop-rest.invariant (sym c.in_ok-field.ensures.value) c.with-aarq.ensures

pub returns : goal.returns
returns c =
    let none : length c.loop-rest.rest.now ≡ 0 = grind (arith, nat_tests) in
    sym (Reads-all c.args.fields.now c.loop-rest.aarq (subst (λ (rest : List ℕ). Reads c.args.fields.now c.loop-rest.aarq rest) (nil_from_length c.loop-rest.rest.now none) c.loop-rest.invariant))
