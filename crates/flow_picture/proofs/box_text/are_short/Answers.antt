use Rattle.std.proofs.Common.{◌≡◌, ◌∙◌, arith, length, nat_le, string_bytes, ap}
use Rattle.flow_picture.specs.declared.box_text.TheConstants.{BETWEEN, LETTERS}
use Rattle.flow_picture.proofs.Words.{join-of-map}
use Rattle.flow_picture.proofs.box_text.are_short.Goals as goal

pub returns : goal.returns
returns c =
    let long : c.len.result ≡ length (string_bytes c.in_ok-join.field-0) = omega (arith, c.len.ensures) in
    ap (λ n. nat_le n LETTERS) (long ∙ ap length (c.in_ok-join.ensures.ok ∙ join-of-map (λ name. name.now) BETWEEN.now c.args.names.now))
