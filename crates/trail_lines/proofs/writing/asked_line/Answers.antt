use Rattle.std.proofs.Common.{rules, ◌≡◌, [], ◌∷◌, string_bytes, subst, sym}
use Rattle.hex.specs.Hex.{encode_upper}
use Rattle.trail_lines.specs.Writing.{Says, worded}
use Rattle.trail_lines.proofs.Written.{asked-line}
use Rattle.trail_lines.proofs.writing.asked_line.Goals as goal

pub returns-clause-says : goal.returns-clause-says
returns-clause-says c asked asks =
    let text : string_bytes c.in_ok-format.field-0 ≡ worded c.in-Some.client.now.name (encode_upper c.args.apdu.now) = search rules in
    subst (Says c.args.plan.now (asked.step ∷ [])) (sym text)
    (asked-line c.args.plan.now c.known.ensures.sound c.args.client c.in-Some.client.now (sym c.in-Some.ensures) c.args.apdu.now c.requires c.know_bytes.ensures asked asks)
