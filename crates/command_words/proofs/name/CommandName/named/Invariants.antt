use Rattle.std.proofs.Common.{◌≡◌, bytes_eq, drop, find}
use Rattle.command_words.specs.CommandLine.{all_names, word_of}
use Rattle.command_words.proofs.name.CommandName.named.Given as goal

-- none before is it
abbrev pub invariant-loop-name : goal.invariant-loop-name
invariant-loop-name l = find (λ name. bytes_eq l.word (word_of name)) all_names ≡ find (λ name. bytes_eq l.word (word_of name)) (drop l.name-index all_names)
