use Rattle.std.proofs.Common.{◌≡◌, drop}
use Rattle.value_words.specs.WordReading.{kind_among}
use Rattle.value_words.proofs.kinds.kind_among.Given as goal

-- the word of none of the kinds before stands in front
abbrev pub invariant-loop-kind : goal.invariant-loop-kind
invariant-loop-kind l = kind_among (drop l.kind-index l.kinds) l.text ≡ kind_among l.kinds l.text
