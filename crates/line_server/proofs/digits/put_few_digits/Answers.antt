use Rattle.std.proofs.Common.{◌≡◌, ◌+◌, ◌*◌, ◌/◌, ◌%◌, ℕ, arith, ap, ◌∙◌, slice_index}
use Rattle.hex.specs.Hex.{upper_digits}
use Rattle.hex.proofs.Pairs.{encode_step, encode_done}
use Rattle.line_server.specs.declared.digits.TheConstants.{PAIRS}
use Rattle.line_server.proofs.DigitTables.{digits_at_byte}
use Rattle.line_server.proofs.digits.put_few_digits.Goals as goal

pub bytes-preserved : goal.bytes-preserved
bytes-preserved c =
    let byte : ℕ = slice_index c.args.bytes.now c.bytes.i in
    let pair = digits_at_byte byte (omega arith) in
    let high : slice_index PAIRS (2 * c.from-place.result) ≡ slice_index upper_digits (byte / 16) =
    ap (λ (k : ℕ). slice_index PAIRS (2 * k)) c.from-place.ensures ∙ pair.0 in
    let low : slice_index PAIRS (2 * c.from-place.result + 1) ≡ slice_index upper_digits (byte % 16) =
    ap (λ (k : ℕ). slice_index PAIRS (2 * k + 1)) c.from-place.ensures ∙ pair.1 in
    encode_step upper_digits c.args.bytes.now c.bytes.room c.bytes.i _ _ (omega arith) (omega arith) high low c.bytes.invariant

pub returns : goal.returns
returns c = encode_done _ _ _ c.bytes.i (omega arith) (omega arith) c.bytes.invariant
