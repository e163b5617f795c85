use Rattle.std.proofs.Common.{◌≡◌, ◌+◌, ◌*◌, ℕ, List, arith, ap, sym, ◌∙◌, slice_index}
use Rattle.std.specs.Result.{result_ok}
use Rattle.hex.specs.Hex.{hex_digit_value}
use Rattle.hex.proofs.HexLemmas.{decode_of-even}
use Rattle.hex.proofs.Pairs.{decode_done, decode_err, decode_step}
use Rattle.line_server.proofs.DigitTables.{pair_read, pair_refused, sum_of}
use Rattle.line_server.proofs.digits.take_few_digits.Goals as goal

pub returns-then-value-ge-NO_DIGIT : goal.returns-then-value-ge-NO_DIGIT
returns-then-value-ge-NO_DIGIT c =
    let digits : List ℕ = c.args.digits.now in
    let first : ℕ = slice_index digits (2 * c.bytes.i) in
    let second : ℕ = slice_index digits (2 * c.bytes.i + 1) in
    let high = c.value_of.ensures in
    let low = c.value_of-in-bytes.ensures in
    let bad = pair_refused first second (2 * c.bytes.i) (omega (arith, high, low, c.if-value-ge-NO_DIGIT.true)) in
    let fault = decode_err digits c.bytes.room c.bytes.i bad.0 (omega arith) bad.1 c.bytes.invariant in
    sym (ap result_ok (decode_of-even digits (omega arith) ∙ fault))

pub bytes-preserved : goal.bytes-preserved
bytes-preserved c =
    let digits : List ℕ = c.args.digits.now in
    let first : ℕ = slice_index digits (2 * c.bytes.i) in
    let second : ℕ = slice_index digits (2 * c.bytes.i + 1) in
    let high = c.value_of.ensures in
    let low = c.value_of-in-bytes.ensures in
    let same : 16 * c.value_of.result + c.value_of-in-bytes.result ≡ sum_of (hex_digit_value first) (hex_digit_value second) = omega (arith, high, low) in
    let pair = pair_read first second (2 * c.bytes.i) (omega (arith, same, c.if-value-ge-NO_DIGIT.false)) in
    decode_step digits c.bytes.room c.bytes.i _ (omega arith) (omega arith) (rw (← same) at pair) c.bytes.invariant

pub returns : goal.returns
returns c =
    let digits : List ℕ = c.args.digits.now in
    sym (ap result_ok (decode_of-even digits (omega arith) ∙ decode_done digits c.bytes.room c.bytes.i (omega arith) (omega arith) c.bytes.invariant))
