use Rattle.std.proofs.Common.{rules}
use Rattle.hex.specs.Hex.{encode_with}
use Rattle.value_words.proofs.writing.push_letter.Goals as goal

pub returns-in_ok-extend_from_slice : goal.returns-in_ok-extend_from_slice
unfolding encode_with
returns-in_ok-extend_from_slice c = search rules
