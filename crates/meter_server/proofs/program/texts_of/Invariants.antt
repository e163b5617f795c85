use Rattle.std.proofs.Common.{◌≡◌, map, take, string_bytes}
use Rattle.meter_server.proofs.program.texts_of.Given as goal

-- the words before stand there as texts
abbrev pub invariant-loop-word : goal.invariant-loop-word
invariant-loop-word l = map (λ text. text.now) l.texts.items ≡ map string_bytes (take l.word-index l.words)
