-- The scripts that are due at one threshold more.
use Rattle.std.proofs.Common.{◌≡◌, ℕ, zero, suc, ◌+◌, ◌<◌, List, [], ◌∷◌, ◌++◌, length, take, get_or, refl, sym, ap, ◌∙◌, append_assoc, add-one, arith}
use Rattle.std.specs.Prelude.{ℤ, Option, option_and_then, slice_get}
use Rattle.std.proofs.lemmas.List.{append-nil}
use Rattle.cosem_data.specs.Tree.{Tree}
use Rattle.cosem_data.specs.Kinds.{number_of}
use Rattle.meter_theory.specs.declared.refs.ScriptRef.{ScriptRef}
use Rattle.meter_theory.specs.declared.refs.UpDown.{UpDown}
use Rattle.meter_theory.specs.Steps.{due_at, due_scripts}
use Rattle.class_control.specs.DueScript.{as_list}

due_next : (actions : List UpDown) (thresholds : List Tree) (before now : Tree) (i : ℕ) (action : UpDown) → i < length actions →
    due_scripts (take (suc i) actions) thresholds before now
    ≡ due_scripts (take i actions) thresholds before now
    ++ due_at (get_or actions i action) (option_and_then number_of (slice_get thresholds i)) (number_of before) (number_of now)
due_next [] thresholds before now i action within = absurd (omega arith)
due_next (a ∷ actions) [] before now zero action within = refl
due_next (a ∷ actions) [] before now (suc i) action within = refl
due_next (a ∷ actions) (th ∷ thresholds) before now zero action within =
    append-nil (due_at a (number_of th) (number_of before) (number_of now))
due_next (a ∷ actions) (th ∷ thresholds) before now (suc i) action within =
    ap (λ (xs : List ScriptRef). due_at a (number_of th) (number_of before) (number_of now) ++ xs) (due_next actions thresholds before now i action (omega arith))
    ∙ sym (append_assoc (due_at a (number_of th) (number_of before) (number_of now)) (due_scripts (take i actions) thresholds before now)
    (due_at (get_or actions i action) (option_and_then number_of (slice_get thresholds i)) (number_of before) (number_of now)))

-- those of one action more are those before, and what is due at its threshold
pub due_more : (actions : List UpDown) (thresholds : List Tree) (seen now : Tree) (i : ℕ) (d : UpDown) (scripts : List ScriptRef) (due : Option ScriptRef)
    (threshold before after : Option ℤ) → i < length actions → scripts ≡ due_scripts (take i actions) thresholds seen now →
    threshold ≡ option_and_then number_of (slice_get thresholds i) → before ≡ number_of seen → after ≡ number_of now →
    as_list due ≡ due_at (get_or actions i d) threshold before after →
    scripts ++ as_list due ≡ due_scripts (take (i + 1) actions) thresholds seen now
due_more actions thresholds seen now i d scripts due threshold before after within so_far at_threshold at_seen at_now is_due =
    ap (λ (xs : List ScriptRef). xs ++ as_list due) so_far
    ∙ ap (λ (xs : List ScriptRef). due_scripts (take i actions) thresholds seen now ++ xs) (
    is_due ∙ ap (λ (t : Option ℤ). due_at (get_or actions i d) t before after) at_threshold
    ∙ ap (λ (b : Option ℤ). due_at (get_or actions i d) (option_and_then number_of (slice_get thresholds i)) b after) at_seen
    ∙ ap (λ (n : Option ℤ). due_at (get_or actions i d) (option_and_then number_of (slice_get thresholds i)) (number_of seen) n) at_now)
    ∙ sym (due_next actions thresholds seen now i d within)
    ∙ sym (ap (λ (n : ℕ). due_scripts (take n actions) thresholds seen now) (add-one i))
