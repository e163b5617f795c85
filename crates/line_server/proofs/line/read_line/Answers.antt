use Rattle.std.proofs.Common.{◌≡◌, ◌==◌, false, ℕ, List, ◌∷◌, sym, subst}
use Rattle.std.specs.Prelude.{position}
use Rattle.meter_theory.specs.Plan.{Plan}
use Rattle.line_server.specs.declared.line.Line.{Line}
use Rattle.line_server.specs.Spelling.{ends_in_return, line_of, said_at, with_return}

-- a line that is neither empty nor begins with `#`
says : (plan : Plan) (line : List ℕ) (b : ℕ) (bs : List ℕ) (x : Line) → line ≡ b ∷ bs → (b == 35) ≡ false
    → x ≡ with_return (ends_in_return line) (said_at plan line (position (λ (c : ℕ). c == 32) line)) → x ≡ line_of plan line
says plan line b bs x split other h =
    let said : List ℕ → Line = λ t. with_return (ends_in_return t) (said_at plan t (position (λ (c : ℕ). c == 32) t)) in
    subst (λ t. x ≡ line_of plan t) (sym split) (rw other (subst (λ t. x ≡ said t) split h))
