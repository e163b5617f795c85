-- The judgement of a configuration, in two halves: its names and indexes, and the rest.
use Rattle.std.specs.Prelude.{List, [], ◌∷◌}
use Rattle.config_text.specs.Fault.{Fault, first_found}
use Rattle.config_text.specs.Parts.{ConfigText}
use Rattle.config_rules.specs.Passes.{forms, new_objects, known_classes, known_clients, new_clients, known_references, known_indexes, valid_values, settable_rights, equal_counts, new_scripts, no_executes, within_limits, new_labels, fed_values, valid_times, valid_sorting, new_clocks, new_alternatives}

-- the faults of names and indexes, by the first pass over them that has any (own profile)
unfoldable pub found_in_names : ConfigText → List Fault
found_in_names c =
    first_found
    (
    forms c  -- C4
    ∷ new_objects c  -- C5
    ∷ known_classes c  -- C6
    ∷ known_clients c  -- C7
    ∷ new_clients c  -- C8
    ∷ known_references c  -- C9
    ∷ known_indexes c  -- C10
    ∷ []
    )

-- the faults of values, limits and labels, by the first of the passes that are left (own profile)
unfoldable pub found_in_rest : ConfigText → List Fault
found_in_rest c =
    first_found
    (
    valid_values c  -- C11
    ∷ settable_rights c  -- C12
    ∷ equal_counts c  -- C13
    ∷ new_scripts c  -- C14
    ∷ no_executes c  -- C15
    ∷ within_limits c  -- C16
    ∷ new_labels c  -- C17
    ∷ fed_values c  -- C18
    ∷ valid_times c  -- C19
    ∷ valid_sorting c  -- C20
    ∷ new_clocks c  -- C21
    ∷ new_alternatives c  -- C22
    ∷ []
    )

-- one half, and then the other
abbrev pub both_halves : ConfigText → List Fault
both_halves c = first_found (found_in_names c ∷ found_in_rest c ∷ [])
