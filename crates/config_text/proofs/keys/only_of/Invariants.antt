use Rattle.std.proofs.Common.{◌≡◌, ◌++◌, map, string_bytes}
use Rattle.std.specs.List.{flat_map}
use Rattle.toml.specs.View.{table_view}
use Rattle.config_text.specs.Keys.{known_key, member_keys}
use Rattle.config_text.proofs.keys.only_of.Given as goal

-- what was found, and the faults of the keys that are left
abbrev pub invariant-loop-key : goal.invariant-loop-key
invariant-loop-key l =
    let one = known_key (map (λ k. k.now) l.known) (map (λ k. k.now) l.later) l.at in
    l.faults.items ++ flat_map one (map (λ k. string_bytes k) l.key-iterator) ≡ l.fn.faults.items ++ flat_map one (member_keys (table_view l.table))
