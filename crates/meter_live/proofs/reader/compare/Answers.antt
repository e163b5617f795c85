use Rattle.meter_live.proofs.Kept.{enters}
use Rattle.meter_live.proofs.reader.compare.Goals as goal

pub enter_as-requires : goal.enter_as-requires
enter_as-requires c x views h at = enters x.accepted.plan x.state x.front _ _ views h at
