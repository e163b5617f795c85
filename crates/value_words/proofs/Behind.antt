-- What stands behind bytes at the front of a text.
use Rattle.std.proofs.Common.{◌≡◌, ℕ, Bool, true, false, cond, eqb, List, [], ◌∷◌, ◌++◌, refl, sym, ap, ◌∙◌, Option, Some, None, Ok, option_map}
use Rattle.std.specs.Prelude.{◌≢◌, MatchOption}
use Rattle.std.specs.Borrow.{Bor}
use Rattle.std.proofs.lemmas.Bool.{eqb-true, eq-eqb}
use Rattle.value_words.specs.Stopping.{behind, mark_at, mark_step}

-- what stands behind bytes is found
pub behind-again : (word text : List ℕ) → behind word (word ++ text) ≡ Some text
behind-again [] text = refl
behind-again (b ∷ word) text = ap (λ t. cond t (behind word (word ++ text)) None) (eq-eqb b b refl) ∙ behind-again word text

-- and nothing else is
pub behind-takes : (word text rest : List ℕ) → behind word text ≡ Some rest → text ≡ word ++ rest
behind-takes [] text rest e = cc
behind-takes (b ∷ word) [] rest e = cc
behind-takes (b ∷ word) (c ∷ text) rest e = at (eqb c b) refl e (behind-takes word text rest)
  where
    at : (t : Bool) → eqb c b ≡ t → cond t (behind word text) None ≡ Some rest → (behind word text ≡ Some rest → text ≡ word ++ rest) → c ∷ text ≡ b ∷ (word ++ rest)
    at true same h again = ap (λ x. x ∷ text) (eqb-true c b same) ∙ ap (λ x. b ∷ x) (again h)
    at false same h again = cc

pub behind-none : (word text : List ℕ) → ((rest : List ℕ) → text ≢ word ++ rest) → behind word text ≡ None
behind-none word text other = at (behind word text) refl
  where
    at : (r : Option (List ℕ)) → behind word text ≡ r → behind word text ≡ None
    at None is = is
    at (Some rest) is = absurd (other rest (behind-takes word text rest is))

-- what the code finds
pub behind-is : (word text : List ℕ) (r : Option (Bor (List ℕ))) → MatchOption r ((rest : List ℕ) → text ≢ word ++ rest) (λ x. text ≡ word ++ x.now) → option_map (λ x. x.now) r ≡ behind word text
behind-is word text None h = sym (behind-none word text h)
behind-is word text (Some x) h = sym (ap (behind word) h ∙ behind-again word x.now)

-- what was asked stands there
pub mark_takes : {Q : Type 0} (what : Q) (word text rest : List ℕ) → mark_at what word text ≡ Ok rest → text ≡ word ++ rest
mark_takes what word text rest e = at (behind word text) refl e
  where
    at : (r : Option (List ℕ)) → behind word text ≡ r → mark_step what text r ≡ Ok rest → text ≡ word ++ rest
    at (Some x) is h = let same : x ≡ rest = cc in behind-takes word text rest (is ∙ ap Some same)
    at None is h = absurd cc
