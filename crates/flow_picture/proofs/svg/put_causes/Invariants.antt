use Rattle.std.proofs.Common.{◌≡◌, ◌++◌, flat_map, take}
use Rattle.shown_text.specs.Pieces.{facts}
use Rattle.flow_picture.specs.Svg.{cause_facts}
use Rattle.flow_picture.proofs.svg.put_causes.Given as goal

-- the causes before
abbrev pub invariant-loop-cause : goal.invariant-loop-cause
invariant-loop-cause l = facts l.pieces.items ≡ facts l.initial.pieces.items ++ flat_map (cause_facts l.arrows) (take l.cause-index l.causes)
