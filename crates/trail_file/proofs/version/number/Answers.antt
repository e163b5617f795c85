use Rattle.std.proofs.Common.{◌≡◌, ℕ, Some, Ok, Result, subst, sym, ◌∙◌, ap, arith}
use Rattle.std.proofs.lemmas.Bool.{not-true}
use Rattle.std.proofs.lemmas.Fmt.{IsAscii-decimal, parse-decimal}
use Rattle.std.proofs.lemmas.Str.{IsUtf8-from_ascii}
use Rattle.std.specs.Cmp.Lexicographic.{other_text}
use Rattle.std.specs.Str.{IsUtf8}
use Rattle.std.specs.Fmt.{decimal}
use Rattle.trail_file.proofs.version.number.Goals as goal

ok_is : {E : Type 0} (x y : ℕ) → ◌≡◌ {A = Result ℕ E} (Ok x) (Ok y) → x ≡ y
ok_is x y e = cc

pub returns-in_default-clause-exact : goal.returns-in_default-clause-exact
returns-in_default-clause-exact c n small is =
    absurd (c.in_default.ensures.cases.0 (subst IsUtf8 (sym is) (IsUtf8-from_ascii (decimal n) (IsAscii-decimal n (omega arith)))))

pub returns-in_default-parse-clause-exact : goal.returns-in_default-parse-clause-exact
returns-in_default-parse-clause-exact c n small is =
    absurd (c.in_default-parse.not-Ok n (parse-decimal 16 n _ _ small (omega arith) (c.in-Ok.ensures.cases.0 ∙ is) c.parse.ensures.value.0))

pub returns-then-ne-clause-exact : goal.returns-then-ne-clause-exact
returns-then-ne-clause-exact c n small is =
    let read = parse-decimal 16 n _ _ small (omega arith) (c.in-Ok.ensures.cases.0 ∙ is) c.parse.ensures.value.0 in
    let same = ok_is c.in-Ok-parse.n n (sym c.in-Ok-parse.is ∙ read) in
    absurd (other_text _ _ (sym (not-true _ (sym c.if-ne.ensures))) (c.as_bytes.ensures.value ∙ c.format.ensures.text ∙ ap decimal same ∙ sym is))

pub returns-clause-exact : goal.returns-clause-exact
returns-clause-exact c n small is =
    let read = parse-decimal 16 n _ _ small (omega arith) (c.in-Ok.ensures.cases.0 ∙ is) c.parse.ensures.value.0 in
    ap (λ (m : ℕ). Some m) (ok_is c.in-Ok-parse.n n (sym c.in-Ok-parse.is ∙ read))
