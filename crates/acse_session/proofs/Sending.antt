-- Values that are sent whole or in blocks.
use Rattle.std.proofs.Common.{◌≡◌, ℕ, ◌+◌, ◌-◌, ◌≤◌, List, [], ◌++◌, true, false, length, Ok, refl, ap, arith}
use Rattle.std.specs.Prelude.{nat_le}
use Rattle.std.proofs.lemmas.Bool.{leb-true}
use Rattle.std.proofs.lemmas.Bool.Decides.{nat_tests}
use Rattle.std.proofs.lemmas.List.{length-append}
use Rattle.cosem_data.specs.Tree.{Tree}
use Rattle.cosem_axdr.specs.Canonical.{canonical}
use Rattle.meter_theory.specs.Replies.{Value}
use Rattle.xdlms_services.specs.Blocks.{start, behind}
use Rattle.acse_association.specs.declared.association.Association.{Association}
use Rattle.acse_association.specs.Judging.{takes_blocks}
use Rattle.acse_session.specs.Stepping.{begun}
use Rattle.acse_session.specs.Turns.{after_blocks, if_left, is_within, long_value}

-- a value within what the four bytes in front of it leave
pub within-behind : (limit : ℕ) (value : Tree) → 16 ≤ limit → nat_le (length (canonical value)) (limit - 4) ≡ is_within limit value
unfolding is_within
within-behind limit value room = grind (arith, nat_tests)

-- a reply that keeps within the limit has the room of a frame
pub within-fits : (limit : ℕ) (value : Tree) (out old reply : List ℕ) → is_within limit value ≡ true → limit ≤ 1024 → old ≡ [] → out ≡ old ++ reply → length reply ≡ 4 + length (canonical value) → length out ≤ 1024
unfolding is_within
within-fits limit value out old reply within most none is size =
    let few : 4 + length (canonical value) ≤ limit = leb-true _ _ within in
    omega (arith, few, size, length-append old reply, ap (λ (xs : List ℕ). length xs) none, ap (λ (xs : List ℕ). length xs) is)

-- the transfer behind the first block
pub first-begun : (a : Association) (value : Tree) → is_within a.limit value ≡ false → takes_blocks a ≡ true → if_left (behind (start value a.limit)) ≡ begun a (long_value a (Ok (Value value)))
unfolding after_blocks
first-begun a value long blocks = rw (long, blocks) refl
