use Rattle.std.proofs.Common.{◌≡◌, drop, map}
use Rattle.config_text.specs.Near as spec
use Rattle.config_text.proofs.near.nearest.Given as goal

abbrev pub invariant-loop-key : goal.invariant-loop-key
invariant-loop-key l = spec.nearest l.text (map (λ key. key.now) (drop l.key-index l.keys)) ≡ spec.nearest l.text (map (λ key. key.now) l.keys)
