use Rattle.std.proofs.Common.{subst, bit_or}
use Rattle.std.specs.Prelude.{slice_set}
use Rattle.std.proofs.lemmas.List.{get_or_default}
use Rattle.object_model.specs.Grants.{IsJoined}
use Rattle.object_model.proofs.Granted.{joined}
use Rattle.object_model.proofs.grants.join_in.Goals as goal

pub returns : goal.returns
returns c =
    subst (λ old. IsJoined c.args.masks.now c.args.place c.args.indexes.now (slice_set c.args.masks.now c.args.place (bit_or old c.mask_of.result)))
    (get_or_default c.args.masks.now c.args.place _ 0 c.requires.within)
    (joined c.args.masks.now c.args.place c.mask_of.result c.args.indexes.now c.requires.within c.mask_of.ensures)
