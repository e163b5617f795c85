use Rattle.std.proofs.Common.{◌≡◌, ◌∙◌, ◌⊎◌, ◌++◌, List, ℕ, [], ◌∷◌, map, string_bytes, refl, sym, ap, ap₂, inl, inr, append-nil, append_assoc}
use denote.Ref.{Bor}
use Rattle.std.specs.Iterator.Adapters.{zip_first, zip_second}
use Rattle.std.specs.Slice.Iter.{iter_rest}
use Rattle.std.proofs.lemmas.Slice.Zip.{Zip-more, either_empty_from_Zip}
use Rattle.verdict.specs.declared.Verdict.{Verdict}
use Rattle.fleet_audit.specs.Telling.{named_line, verdicts_text}
use Rattle.fleet_audit.proofs.telling.text_of.Goals as goal

-- where one of the lists is at its end there are no lines
none-left : (names : List (Bor (List ℕ))) (verdicts : List Verdict) → (names ≡ []) ⊎ (verdicts ≡ []) → verdicts_text (map (λ name. name.now) names) verdicts ≡ []
none-left names verdicts (inl e) = ap (λ (l : List (Bor (List ℕ))). verdicts_text (map (λ name. name.now) l) verdicts) e
none-left [] verdicts (inr e) = refl
none-left (name ∷ names) verdicts (inr e) = ap (verdicts_text (map (λ n. n.now) (name ∷ names))) e

pub loop-name-preserved : goal.loop-name-preserved
loop-name-preserved c =
    let old = string_bytes c.loop-name.text in
    let more = Zip-more c.loop-name.name-iterator c.next.new.self c.next.result (c.in-Some.name, c.in-Some.verdict) c.in-Some.is c.next.ensures.steps in
    let rest = verdicts_text (map (λ (name : Bor (List ℕ)). name.now) (iter_rest (zip_first c.next.new.self))) (iter_rest (zip_second c.next.new.self)) in
    ap (λ (text : List ℕ). text ++ rest) c.in_ok-push_line.ensures
    ∙ append_assoc old (named_line c.in-Some.name.now.now c.in-Some.verdict.now) rest
    ∙ ap (λ (text : List ℕ). old ++ text) (sym (ap₂ (λ (names : List (List ℕ)) (verdicts : List Verdict). verdicts_text names verdicts) (ap (map (λ (name : Bor (List ℕ)). name.now)) more.0) more.1))
    ∙ c.loop-name.invariant

pub returns : goal.returns
returns c =
    let text = string_bytes c.loop-name.text in
    let none = none-left (iter_rest (zip_first c.loop-name.name-iterator)) (iter_rest (zip_second c.loop-name.name-iterator))
    (either_empty_from_Zip c.loop-name.name-iterator c.next.new.self c.next.result c.in-None.is c.next.ensures.steps) in
    sym (append-nil text) ∙ ap (λ (behind : List ℕ). text ++ behind) (sym none) ∙ c.loop-name.invariant
