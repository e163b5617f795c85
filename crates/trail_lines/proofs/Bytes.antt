-- The bytes of the texts of lines: none is a space or a newline where none may be.
use Rattle.std.proofs.Common.{◌≡◌, ◌≢◌, ◌∙◌, ℕ, ◌/◌, ◌%◌, ◌<◌, List, [], ◌∷◌, None, Some, ap, arith, refl, sym}
use Rattle.std.specs.Prelude.{slice_index}
use Rattle.std.specs.Result.{result_ok}
use Rattle.std.proofs.lemmas.List.Elements.{All-cons, All-nil}
use Rattle.hex.specs.Hex.{encode_upper, encode_with, upper_digits}
use Rattle.hex.proofs.HexLemmas.{decode_of-encode_upper}
use Rattle.civil_moment.specs.Texts.{moment_text}
use Rattle.civil_moment.specs.MomentText.{moment_in}
use Rattle.civil_moment.proofs.Readings.{numbers_again}
use Rattle.meter_theory.specs.Times.{IsMoment, Moment}
use Rattle.meter_theory.proofs.Clock.{true-moment}
use Rattle.value_text.specs.Texts.{bytes_in}
use Rattle.value_words.specs.WordReading.{digit_value}
use Rattle.value_words.proofs.Octets.{digit_again}
use Rattle.line_server.specs.Lines.{IsLine}
use Rattle.label_certificate.proofs.Joined.{Lacks}
use Rattle.step_words.proofs.Bytes.{each_byte}
use Rattle.step_words.proofs.Ranges.{AreBytes}

-- a text without a newline is a line
pub is-line : (text : List ℕ) → Lacks 10 text → IsLine text
is-line [] h = All-nil (λ b. b ≢ 10)
is-line (b ∷ text) h = All-cons (λ b. b ≢ 10) b text h.0 (is-line text h.1)

-- Hex digits

digit_other : (c d : ℕ) → digit_value c ≡ None → d < 16 → slice_index upper_digits d ≢ c
digit_other c d none low is = let wrong : None ≡ Some d = sym none ∙ ap digit_value (sym is) ∙ digit_again d low in absurd cc

-- a byte that is no hex digit stands in no hex
pub hex-lacks : (c : ℕ) → digit_value c ≡ None → (s : List ℕ) → AreBytes s → Lacks c (encode_upper s)
unfolding encode_with
hex-lacks c none [] h = tt
hex-lacks c none (b ∷ s) h =
    let low : b < 256 = h.0 in
    (digit_other c (b / 16) none (omega arith), (digit_other c (b % 16) none (omega arith), hex-lacks c none s h.1))

pub hex-again : (s : List ℕ) → AreBytes s → bytes_in (encode_upper s) ≡ Some s
hex-again s h = ap result_ok (decode_of-encode_upper s (each_byte s h))

-- Moments

-- two digits each, and the marks between them
pub moment-lacks : (c : ℕ) → c < 45 → (t : Moment) → Lacks c (moment_text t)
moment-lacks c low t = ((λ e. omega arith), ((λ e. omega arith), ((λ e. omega arith), ((λ e. omega arith), ((λ e. omega arith), ((λ e. omega arith), ((λ e. omega arith), ((λ e. omega arith), ((λ e. omega arith), ((λ e. omega arith), ((λ e. omega arith), ((λ e. omega arith), ((λ e. omega arith), ((λ e. omega arith), ((λ e. omega arith), ((λ e. omega arith), ((λ e. omega arith), ((λ e. omega arith), ((λ e. omega arith), tt)))))))))))))))))))

pub moment-again : (t : Moment) → IsMoment t → moment_in (moment_text t) ≡ Some t
moment-again t is = rw (numbers_again t is, true-moment t is) refl
