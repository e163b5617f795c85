use Rattle.std.proofs.Common.{◌≡◌, ◌++◌, map, string_bytes}
use Rattle.std.specs.Iterator.Adapters.{zip_first, zip_second}
use Rattle.std.specs.Slice.Iter.{iter_rest}
use Rattle.fleet_audit.specs.Telling.{verdicts_text}
use Rattle.fleet_audit.proofs.telling.text_of.Given as goal

-- the lines so far, and those of the rest
abbrev pub invariant-loop-name : goal.invariant-loop-name
invariant-loop-name l =
    string_bytes l.text ++ verdicts_text (map (λ name. name.now) (iter_rest (zip_first l.name-iterator))) (iter_rest (zip_second l.name-iterator)) ≡ verdicts_text (map (λ name. name.now) l.names) l.verdicts
