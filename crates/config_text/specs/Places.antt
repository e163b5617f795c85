-- The texts of places.
use Rattle.std.specs.Prelude.{◌++◌}
use Rattle.config_text.specs.Parts.{Text}
use Rattle.config_text.specs.Lists.{element_place}
use Rattle.config_text.specs.declared.place.Steps.{Steps, Top, Key', Element'}

-- the path to a place: keys as they stand, and each index in brackets (own profile)
abbrev pub steps_text : Steps → Text
steps_text (Top key) = key.now
steps_text (Key' p above key) = steps_text above ++ key.now
steps_text (Element' p above i) = element_place (steps_text above) i
