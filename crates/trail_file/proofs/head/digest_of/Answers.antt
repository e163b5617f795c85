use Rattle.std.proofs.Common.{◌≡◌, ℕ, List, Some, Ok, Result, length, sym, ◌∙◌, ap}
use Rattle.std.proofs.lemmas.Bool.{not-true}
use Rattle.std.specs.Cmp.Lexicographic.{other_text}
use Rattle.hex.specs.Hex.{IsBytes, decode_sized, encode_lower}
use Rattle.hex.proofs.HexLemmas.{decode_sized-encode_lower}
use Rattle.trail_file.proofs.head.digest_of.Goals as goal

read_back : (digits digest : List ℕ) → length digest ≡ 32 → IsBytes digest → digits ≡ encode_lower digest → decode_sized digits 32 ≡ Ok digest
read_back digits digest long bytes is = ap (λ (t : List ℕ). decode_sized t 32) is ∙ decode_sized-encode_lower digest 32 long bytes

pub returns-in_default-clause-exact : goal.returns-in_default-clause-exact
returns-in_default-clause-exact c digest long bytes is =
    let read = read_back c.args.digits.now digest long bytes is in
    let was = c.in_default.ensures in
    absurd cc

ok_is : {E : Type 0} (x y : List ℕ) → ◌≡◌ {A = Result (List ℕ) E} (Ok x) (Ok y) → x ≡ y
ok_is x y e = cc

pub returns-then-ne-clause-exact : goal.returns-then-ne-clause-exact
returns-then-ne-clause-exact c digest long bytes is =
    let same = ok_is c.in-Ok.digest digest (c.in-Ok.ensures ∙ read_back c.args.digits.now digest long bytes is) in
    absurd (other_text _ _ (sym (not-true _ (sym c.if-ne.ensures))) (c.as_slice.ensures ∙ c.digits_of.ensures ∙ ap encode_lower same ∙ sym is))

pub returns-clause-exact : goal.returns-clause-exact
returns-clause-exact c digest long bytes is =
    ap (λ (d : List ℕ). Some d) (ok_is c.in-Ok.digest digest (c.in-Ok.ensures ∙ read_back c.args.digits.now digest long bytes is))
