-- How long the values are that a meter replies.
use Rattle.std.specs.Prelude.{◌≡◌, ◌<◌, ◌^◌, length}
use Rattle.cosem_data.specs.Tree.{Tree}
use Rattle.cosem_axdr.specs.Canonical.{HasLengths, canonical}
use Rattle.meter_theory.specs.State.{State}
use Rattle.meter_theory.specs.Plan.{Plan}
use Rattle.meter_theory.specs.Steps.{Step}
use Rattle.meter_theory.specs.Replies.{Value, reply_to}
use Rattle.meter_theory.specs.Sound.{IsSound}
use Rattle.meter_theory.specs.States.{IsState}

-- the encoding of each value that a sound plan's meter replies has fewer than 2 ^ 32 bytes, so that block-numbers of four bytes
-- are enough for it (IEC 62056-5-3, Get-Response-With-Datablock; the limits from which it follows are own profile)
abbrev pub ReplyLengthsFitFourBytes : Type 0
ReplyLengthsFitFourBytes =
    (P : Plan) (s : State) (step : Step) (v : Tree) → IsSound P → IsState P s → reply_to P s step ≡ Value v → length (canonical v) < 2 ^ 32

-- each value that a sound plan's meter replies can be written: its lengths and counts fit four bytes (A-XDR)
abbrev pub RepliesCanBeWritten : Type 0
RepliesCanBeWritten = (P : Plan) (s : State) (step : Step) (v : Tree) → IsSound P → IsState P s → reply_to P s step ≡ Value v → HasLengths v
