-- The tables of rights, of the policy and of labels.
use Rattle.std.specs.Prelude.{ℕ, List, [], ◌∷◌, codes, Result, Ok}
use Rattle.toml.specs.Data.{Members}
use Rattle.config_text.specs.Fault.{Faults, ◌<*>◌, ◌<*◌}
use Rattle.config_text.specs.Parts.{Text, TargetText, RightText, SetsText, LabelText}
use Rattle.config_text.specs.Keys.{others}
use Rattle.config_text.specs.declared.takes.KeyTakes.TheVariants.{ClientName, ClientNames, LogicalName}
use Rattle.config_text.specs.Lists.{indexes_at, texts_at}
use Rattle.config_text.specs.Values.{text_at}
use Rattle.config_text.specs.Targets.{target_of}

abbrev pub right_text : Text → Text → List ℕ → List ℕ → List ℕ → RightText
right_text client object gets sets acts = record { client = client; object = object; gets = gets; sets = sets; acts = acts }

unfoldable pub right_of : Text → Members → Result RightText Faults
right_of at t =
    Ok right_text
    <*> text_at ClientName at (codes "client") t
    <*> text_at LogicalName at (codes "object") t
    <*> indexes_at at (codes "get") t
    <*> indexes_at at (codes "set") t
    <*> indexes_at at (codes "act") t
    <* others (codes "client" ∷ codes "object" ∷ codes "get" ∷ codes "set" ∷ codes "act" ∷ []) at t

-- the policy
abbrev pub sets_text : List Text → List Text → SetsText
sets_text influence learn = record { influence = influence; learn = learn }

unfoldable pub sets_of : Text → Members → Result SetsText Faults
sets_of at t = Ok sets_text <*> texts_at ClientNames at (codes "influence") t <*> texts_at ClientNames at (codes "learn") t

unfoldable pub policy_of : Text → Members → Result SetsText Faults
policy_of at t = sets_of at t <* others (codes "influence" ∷ codes "learn" ∷ []) at t

-- a label
abbrev pub label_text : TargetText → SetsText → LabelText
label_text target sets = record { target = target; sets = sets }

unfoldable pub label_of : Text → Members → Result LabelText Faults
label_of at t = Ok label_text <*> target_of at t <*> sets_of at t <* others (codes "object" ∷ codes "index" ∷ codes "influence" ∷ codes "learn" ∷ []) at t
