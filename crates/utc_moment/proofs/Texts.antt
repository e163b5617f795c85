-- What is read of the text of what a clock shows.
use Rattle.std.proofs.Common.{◌≡◌, ℕ, List, Result, Ok, Err, ap, ◌∙◌}
use Rattle.jiff_core.specs.declared.civil.datetime.DateTime.{DateTime}
use Rattle.jiff_core.specs.declared.error.Error.{Error}
use Rattle.jiff_core.specs.DateTime.{civil_nanos}
use Rattle.jiff.specs.Words.{datetime_view, parse_datetime}
use Rattle.jiff.proofs.Family.{parse_datetime-datetime_text, same_datetime}
use Rattle.jiff.specs.Names.{iso_datetime_text}

ok_is : {A E : Type 0} {x y : A} → ◌≡◌ {A = Result A E} (Ok x) (Ok y) → x ≡ y
ok_is e = cc

-- two that show the same numbers are as far from 1970
same_parts : (a b : DateTime) → datetime_view (Ok a) ≡ datetime_view (Ok b) → civil_nanos a ≡ civil_nanos b
unfolding civil_nanos
same_parts a b e =
    let both = ok_is e in
    let year : a.date.year ≡ b.date.year = ap (λ p. p.0.year) both in
    let month : a.date.month ≡ b.date.month = ap (λ p. p.0.month) both in
    let day : a.date.day ≡ b.date.day = ap (λ p. p.0.day) both in
    let hour : a.time.hour ≡ b.time.hour = ap (λ p. p.1.hour) both in
    let minute : a.time.minute ≡ b.time.minute = ap (λ p. p.1.minute) both in
    let second : a.time.second ≡ b.time.second = ap (λ p. p.1.second) both in
    let subsec : a.time.subsec_nanosecond ≡ b.time.subsec_nanosecond = ap (λ p. p.1.subsec) both in
    rw (year, month, day, hour, minute, second, subsec)

pub read_again : (clock : DateTime) (text : List ℕ) (read : Result DateTime Error) → datetime_view read ≡ parse_datetime text
    → text ≡ iso_datetime_text clock → read ≡ Ok clock
read_again clock text (Ok found) e is =
    ap (λ (x : DateTime). Ok x) (same_datetime found clock (same_parts found clock (e ∙ ap parse_datetime is ∙ parse_datetime-datetime_text clock)))
read_again clock text (Err error) e is =
    let wrong = e ∙ ap parse_datetime is ∙ parse_datetime-datetime_text clock in absurd cc
