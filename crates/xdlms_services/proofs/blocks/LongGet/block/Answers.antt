use Rattle.std.proofs.Common.{ℕ, List, length, ap, arith}
use Rattle.std.proofs.lemmas.List.{length-take, length-drop}
use Rattle.xdlms_services.specs.Blocks.{Transfer}
use Rattle.xdlms_services.proofs.Sizes.{most_fits, most_some, block_fits}
use Rattle.xdlms_services.proofs.blocks.LongGet.block.Goals as goal

pub raw_block-requires : goal.raw_block-requires
raw_block-requires c =
    let limit = c.self.inside.limit in
    omega (arith, length-take {A = ℕ}, most_fits limit (omega arith), c.most_raw.ensures, c.min-count.ensures)

pub invariant_of-self : goal.invariant_of-self
invariant_of-self c =
    let left = ap (λ (t : Transfer). length t.unsent) c.self.view_is in
    let some = most_some c.self.inside.limit (omega arith) in
    let same = ap (λ (bytes : List ℕ). length bytes) c.deref.ensures.value in
    record {
      byte_each = omega (arith, length-take {A = ℕ}, length-drop {A = ℕ}, left, some, same, c.most_raw.ensures, c.min-count.ensures);
      within = omega (arith, length-take {A = ℕ}, length-drop {A = ℕ}, same, c.most_raw.ensures, c.min-count.ensures);
      numbered = c.self.invariant.numbered;
      room = c.self.invariant.room;
      bounded = c.self.invariant.bounded;
    }

pub returns-clause-fits : goal.returns-clause-fits
returns-clause-fits c =
    let limit = c.self.inside.limit in
    let same = ap (λ (t : Transfer). t.limit) c.self.view_is in
    omega (arith, same, block_fits limit c.args.invoke _ c.in_ok-apdu.apdu.items c.in_ok-apdu.ensures (omega (arith, length-take {A = ℕ}, c.most_raw.ensures, c.min-count.ensures)) (omega arith))
