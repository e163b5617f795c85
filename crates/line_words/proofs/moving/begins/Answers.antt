use Rattle.std.proofs.Common.{◌≡◌, ◌∙◌, ◌-◌, ap, arith, inl, inr, length, List, sym, take, ℕ}
use Rattle.std.specs.Cmp.Lexicographic.{pointwise}
use Rattle.cosem_data.specs.Equal.{same_data}
use Rattle.cosem_data.specs.declared.data.Data.{Data}
use Rattle.line_words.proofs.Gone.{begins_by, begins_not}
use Rattle.line_words.proofs.moving.begins.Goals as goal

pub returns-in-Some : goal.returns-in-Some
returns-in-Some c =
    let older = c.args.older.now in
    let newer = c.args.newer.now in
    let found = c.in-Some.ensures.lookup.0 in
    let all : length older - 0 ≡ length older = omega arith in
    let front = found.2 ∙ ap (λ (n : ℕ). take n newer) all in
    c.eq.ensures ∙ ap (λ (rows : List Data). pointwise same_data rows older) front ∙ begins_by older newer found.1

pub returns-in-None : goal.returns-in-None
returns-in-None c =
    elim c.in-None.ensures.lookup.0 [
      | inl h ↦ absurd (omega (arith, h))
      | inr h ↦ sym (begins_not c.args.older.now c.args.newer.now h)
    ]
