use Rattle.std.proofs.Common.{◌≡◌, ◌∙◌, None, Some, ap, arith, codes, refl, rules, sym}
use Rattle.std.specs.Prelude.{option_map}
use Rattle.std.specs.Int.NonZero.{non_zero_u16_get}
use Rattle.std.specs.Str.Parse.{ExplainsUnsignedError, HasUnsignedDigitsIfOk, ParsesUnsigned}
use Rattle.clap.specs.Words.{found_of, one_of, rows_of}
use Rattle.clap.proofs.WalkLemmas.{one_text-rows}
use Rattle.command_words.proofs.NumberLemmas.{at_least, number_read, without_zero}
use Rattle.command_words.proofs.serving.given_port.Goals as goal

pub returns-in_err-get_one : goal.returns-in_err-get_one
returns-in_err-get_one c =
    let text = one_text-rows (found_of c.args.found.now) (codes "port") in
    let read = number_read _ 16 1 65535 refl (omega arith) (λ t r. ParsesUnsigned 16 10 t r × ExplainsUnsignedError 10 t r × HasUnsignedDigitsIfOk t r) (λ t x g. g.0)
    (one_of (codes "port") (rows_of (found_of c.args.found.now))) c.get_one.result
    (λ none. c.get_one.ensures.none (text ∙ none)) (λ t some. c.get_one.ensures.value t (text ∙ some)) in
    let nothing : c.get_one.result ≡ None = search rules in
    let none : c.from_residual.result ≡ None = search rules in
    ap (option_map non_zero_u16_get) none ∙ sym (read ∙ ap (at_least 1) nothing)

pub returns : goal.returns
returns c =
    let text = one_text-rows (found_of c.args.found.now) (codes "port") in
    let read = number_read _ 16 1 65535 refl (omega arith) (λ t r. ParsesUnsigned 16 10 t r × ExplainsUnsignedError 10 t r × HasUnsignedDigitsIfOk t r) (λ t x g. g.0)
    (one_of (codes "port") (rows_of (found_of c.args.found.now))) c.get_one.result
    (λ none. c.get_one.ensures.none (text ∙ none)) (λ t some. c.get_one.ensures.value t (text ∙ some)) in
    let is : c.get_one.result ≡ Some c.in_ok-get_one.field-0 = search rules in
    without_zero non_zero_u16_get (λ x. x.ok) c.in_ok-get_one.field-0 c.new.result c.new.ensures ∙ sym (read ∙ ap (at_least 1) is)
