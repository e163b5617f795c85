-- What is read as a value that can be sent can be sent, also by the calls that write it.
use Rattle.std.proofs.Common.{◌≡◌, ℕ, ◌^◌, ◌-◌, true, leb, List, length, Ok, ap, ◌∙◌, arith}
use Rattle.std.proofs.lemmas.Bool.{and_parts, leb-true}
use Rattle.cosem_data.specs.Tree.{Tree, depth}
use Rattle.cosem_data.specs.View.{tree, data_of, data_of-tree}
use Rattle.cosem_data.specs.declared.data.Data.{Data}
use Rattle.cosem_axdr.specs.Canonical.{canonical}
use Rattle.cosem_axdr.proofs.Room.{small_has_lengths}
use Rattle.object_model.specs.declared.argument.Argument.TheVariants.{Value}
use Rattle.value_words.specs.Stopping.{◌>>=◌}
use Rattle.value_words.specs.WordReading as words
use Rattle.step_words.specs.Parts.{can_be_sent, CanBeSent, value_at}
use Rattle.step_words.specs.RequestReading.{argument_at}
use Rattle.step_words.proofs.Ranges.{read_in_range}

pub sent_is : (text : List ℕ) (t : Tree) (rest : List ℕ) → words.value_at 16 text ≡ Ok (t, rest) → can_be_sent t ≡ true → CanBeSent t
sent_is text t rest e h =
    let p = and_parts (leb (depth t) 16) (leb (length (canonical t)) (2 ^ 32 - 1)) h in
    record {
      lengths = small_has_lengths t (2 ^ 32 - 1) (leb-true (length (canonical t)) (2 ^ 32 - 1) p.1) (omega arith);
      nested = leb-true (depth t) 16 p.0;
      ranges = read_in_range text t rest e;
    }

pub argument_is : (text rest : List ℕ) (d : Data) → value_at text ≡ Ok (tree d, rest) → argument_at text ≡ Ok (Value d, rest)
unfolding argument_at
argument_is text rest d e = ap (λ r. r >>= λ v. Ok (Value (data_of v.0), v.1)) e ∙ ap (λ x. Ok (Value x, rest)) (data_of-tree d)
