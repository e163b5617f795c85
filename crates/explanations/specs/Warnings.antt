-- What is told of the width of labels. All of it is own profile.
use Rattle.std.specs.Prelude.{ℕ, List, [], ◌∷◌, codes, if◌then◌else◌, ◌==◌}
use Rattle.std.specs.Fmt.{decimal}
use Rattle.std.specs.List.{concat}
use Rattle.explanations.specs.declared.warnings.Whose.{Whose}
use Rattle.explanations.specs.declared.warnings.Whose.TheVariants.{Policy, Labels}
use Rattle.shown_text.specs.Printable.{printable}

-- whose labels a warning is of
abbrev pub admitting_words : Whose → List ℕ
admitting_words Policy = codes "the policy admits"
admitting_words Labels = codes "the labels admit"

-- at how many of the cells these admit clients that the least labels don't; nothing where there are none
abbrev pub width_line : (file : List ℕ) → Whose → (wider cells : ℕ) → List ℕ
width_line file whose wider cells =
    if wider == 0 then []
    else concat (
    codes "cosem-flow: " ∷ printable file ∷ codes ": warning: at " ∷ decimal wider ∷ codes " of " ∷ decimal cells ∷ codes " cells " ∷ admitting_words whose
    ∷ codes " clients that the least labels don't\n" ∷ [])
