-- Texts that pass through one that waits, piece by piece.
use Rattle.std.proofs.Common.{◌≡◌, ℕ, List, ◌++◌, Option, Ok, Err, length-append, sym, ap, ◌∙◌, append_assoc, arith}
use Rattle.std.specs.Io.KnownBytes.{Appends}
use Rattle.std.proofs.KnownBytes.{Appends-trans}
use Rattle.trail_words.specs.Pieces.{Leaves, PassesText, WritesText}
use Rattle.trail_words.specs.declared.fault.TrailTextFault.{TrailTextFault}
use Rattle.trail_words.specs.declared.fault.TrailTextFault.TheVariants.{NoTrail, Memory, Write, Damaged}

-- of a text a front was written, what stands behind that waits, and this is left
pub record Waits (whole left waiting : List ℕ) (before after : Option (List ℕ)) : Type 0 where
  pub front : List ℕ
  pub is : whole ≡ front ++ (waiting ++ left)
  pub written : Appends before after front

-- what waited and a piece behind it, cut anew, with what is left
cut-anew : (whole front waited text more f rest : List ℕ) → whole ≡ front ++ (waited ++ (text ++ more)) → waited ++ text ≡ f ++ rest → whole ≡ (front ++ f) ++ (rest ++ more)
cut-anew whole front waited text more f rest is pass =
    is
    ∙ ap (λ (t : List ℕ). front ++ t) (sym (append_assoc waited text more) ∙ ap (λ (t : List ℕ). t ++ more) pass ∙ append_assoc f rest more)
    ∙ sym (append_assoc front f (rest ++ more))

-- what a fault leaves is left whatever follows
leaves-more : (fault : TrailTextFault) (left more : List ℕ) → Leaves fault left → Leaves fault (left ++ more)
leaves-more NoTrail left more h = absurd h
leaves-more Memory left more h = tt
leaves-more Write left more h = omega (arith, h, length-append left more)
leaves-more Damaged left more h = absurd h

-- a piece passed
pub passed : (whole left text more waited waits : List ℕ) (before between after : Option (List ℕ)) (u : Unit {0}) → Waits whole left waited before between → left ≡ text ++ more
    → PassesText text waited waits between after (Ok u) → Waits whole more waits before after
passed whole left text more waited waits before between after u old is pass = record {
  front = old.front ++ pass.0;
  is = cut-anew whole old.front waited text more pass.0 waits (old.is ∙ ap (λ (t : List ℕ). old.front ++ (waited ++ t)) is) pass.1;
  written = Appends-trans before between after old.front pass.0 old.written pass.2;
}

-- a fault stopped it
pub stopped : (whole left text more waited waits : List ℕ) (before between after : Option (List ℕ)) (fault : TrailTextFault) → Waits whole left waited before between → left ≡ text ++ more
    → PassesText text waited waits between after (Err fault) → WritesText whole before after (Err fault)
stopped whole left text more waited waits before between after fault old is pass = (
  old.front ++ pass.0,
  pass.1 ++ more,
  cut-anew whole old.front waited text more pass.0 pass.1 (old.is ∙ ap (λ (t : List ℕ). old.front ++ (waited ++ t)) is) pass.2,
  Appends-trans before between after old.front pass.0 old.written pass.3,
  leaves-more fault pass.1 more pass.4,
)

-- what waits and the last piece are all that is left
pub last : (whole left waiting full : List ℕ) (before after : Option (List ℕ)) (old : Waits whole left waiting before after) → full ≡ waiting ++ left → whole ≡ old.front ++ full
last whole left waiting full before after old is = old.is ∙ ap (λ (t : List ℕ). old.front ++ t) (sym is)
