use Rattle.std.proofs.Common.{◌-◌, sym, arith}
use Rattle.xdlms_services.proofs.Sizes.{most_in_one, most_in_two, most_in_three}
use Rattle.xdlms_services.proofs.blocks.most_raw.Goals as goal

pub returns-then-room-le128 : goal.returns-then-room-le128
returns-then-room-le128 c = sym (most_in_one c.args.limit (c.from-room.result - 9 - 1) (omega arith) (omega arith))

pub returns-then-room-le257 : goal.returns-then-room-le257
returns-then-room-le257 c = sym (most_in_two c.args.limit (c.from-room.result - 9 - 2) (omega arith) (omega arith) (omega arith))

pub returns-else-room-le257 : goal.returns-else-room-le257
returns-else-room-le257 c = sym (most_in_three c.args.limit (c.from-room.result - 9 - 3) (omega arith) (omega arith) (omega arith))
