-- Values against the kinds that are asked for.
use Rattle.std.specs.Prelude.{◌==◌, ◌&&◌, ℕ, Bool, length, Option}
use Rattle.std.specs.List.{list_all}
use Rattle.cosem_data.specs.Tree.{Tree}
use Rattle.cosem_data.specs.Kinds.{kind_of, same_kind}
use Rattle.cosem_data.specs.declared.kind.Kind.{Kind}
use Rattle.cosem_data.specs.declared.kind.Kind.TheVariants.{Array}
use Rattle.meter_theory.specs.Value.{elements}
use Rattle.config_rules.specs.Values.{has_kind}

-- an array of so many values of a kind (own profile)
abbrev pub may_be_thresholds : ℕ → Option Kind → Tree → Bool
may_be_thresholds number kind v =
    same_kind (kind_of v) Array && ((length (elements v) == number) && list_all (has_kind kind) (elements v))
