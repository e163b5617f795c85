-- The judgement of a whole configuration, as that of its names and indexes and then of the rest.
use Rattle.std.proofs.Common.{◌≡◌, List, [], ◌∷◌, ◌++◌, refl}
use Rattle.config_text.specs.Fault.{Fault, first_found}
use Rattle.config_text.specs.Parts.{ConfigText}
use Rattle.config_rules.specs.Passes.{found, forms, new_objects, known_classes, known_clients, new_clients, known_references, known_indexes, valid_values, settable_rights, equal_counts, new_scripts, no_executes, within_limits, new_labels, fed_values, valid_times, valid_sorting, new_clocks, new_alternatives}
use Rattle.config_judge.specs.JudgedNames.{both_halves, found_in_names, found_in_rest}

alone : (faults : List Fault) → first_found (faults ∷ []) ≡ faults
alone [] = refl
alone (fault ∷ faults) = refl

-- passes may be cut anywhere
cut : (front behind : List (List Fault)) → first_found (first_found front ∷ first_found behind ∷ []) ≡ first_found (front ++ behind)
cut [] behind = alone (first_found behind)
cut ([] ∷ front) behind = cut front behind
cut ((fault ∷ faults) ∷ front) behind = refl

-- the names come first, and then the rest
pub judged_by_halves : (c : ConfigText) → both_halves c ≡ found c
unfolding found found_in_names found_in_rest
judged_by_halves c =
    cut
    (forms c ∷ new_objects c ∷ known_classes c ∷ known_clients c ∷ new_clients c ∷ known_references c ∷ known_indexes c ∷ [])
    (
    valid_values c ∷ settable_rights c ∷ equal_counts c ∷ new_scripts c ∷ no_executes c ∷ within_limits c ∷ new_labels c
    ∷ fed_values c ∷ valid_times c ∷ valid_sorting c ∷ new_clocks c ∷ new_alternatives c ∷ []
    )
