-- What may cross threads, by being sent to one and by being shared: both laws of a type at once, and how a type has them from its
-- parts.
use mathlib.Core.Path.{◌≡◌}
use mathlib.Core.List.{List, [], ◌∷◌}
use base.Stored.{Coded}
use denote.RattleType.{RattleType}
use denote.Hole.{as_row}
use denote.Model.{View}
use denote.Struct.Field.{Field}
use denote.Struct.Recorded.{Recorded}
use denote.Struct.Declared as structs
use denote.Enum.Declared as enums
use denote.Param.Send.{IsSend, IsSync, recorded_send, recorded_sync, sendable, view_send, view_sync}
use denote.Param.SendFields.{FieldsHave, VariantsHave, as_row_send, as_row_sync}
use denote.Param.SendFields.{declared_send, declared_sync, variants_send, variants_sync}
use Rattle.std.specs.contracts.alloc.Global as Heap
use Rattle.std.specs.contracts.impls.GlobalAllocator.TheImpl.{ghosts}
use Rattle.std.specs.contracts.vec.Vec as vectors
use Rattle.std.proofs.Crossing.{Vec-send, Vec-sync}
use Rattle.std.proofs.Crossing as below

pub record Crosses (R : RattleType) : Type 0 where
  pub send : IsSend R
  pub sync : IsSync R

-- a type of which the toolchain's search finds both
pub both_cross : (R : RattleType) → IsSend R → IsSync R → Crosses R
both_cross R s y = record { send = s; sync = y }

module _ (H : RattleType → Type 0) (says : (R : RattleType) → Crosses R → H R) where
  fields_have : (Fs : List Field) → FieldsHave Crosses Fs → FieldsHave H Fs
  fields_have [] c = tt
  fields_have (F ∷ Fs) c = (says _ c.0, fields_have Fs c.1)

  variants_have : (Fss : List (List Field)) → VariantsHave Crosses Fss → VariantsHave H Fss
  variants_have [] c = tt
  variants_have (Fs ∷ Fss) c = (fields_have Fs c.0, variants_have Fss c.1)

send_of : (R : RattleType) → Crosses R → IsSend R
send_of R c = c.send

sync_of : (R : RattleType) → Crosses R → IsSync R
sync_of R c = c.sync

-- a struct of fields that may
pub struct_crosses : (T : structs.Declared) → FieldsHave Crosses T.parts → Crosses (structs.row T)
struct_crosses T c = record {
  send = declared_send T (fields_have IsSend send_of T.parts c);
  sync = declared_sync T (fields_have IsSync sync_of T.parts c);
}

-- an enum of such variants
pub enum_crosses : (N : enums.Record) → VariantsHave Crosses N.parts → Crosses (enums.row (enums.declared N))
enum_crosses N c = record {
  send = variants_send N (variants_have IsSend send_of N.parts c);
  sync = variants_sync N (variants_have IsSync sync_of N.parts c);
}

-- a vector of what may
pub vec_crosses : (T : RattleType) → Crosses T → Crosses (vectors.the_row T Heap.the_row ghosts)
vec_crosses T c = record { send = Vec-send T c.send; sync = Vec-sync T c.sync }

-- a type that contracts see by a view of its fields
module _ (F : RattleType) (D : Type 0) (coded : Coded D) (view : F.Denot → D) (holds : F.Denot → Type 0) where
  pub view_crosses : Crosses F → Crosses (View F D coded view holds)
  view_crosses c = record { send = view_send F D coded view holds c.send; sync = view_sync F D coded view holds c.sync }

-- a type at other values
module _ (R : RattleType) (D : Type 0) (to : D → R.Denot) (one : (x y : D) → to x ≡ to y → x ≡ y) where
  pub recorded_crosses : Crosses R → Crosses (Recorded R D to one)
  recorded_crosses c = record { send = recorded_send R D to one c.send; sync = recorded_sync R D to one c.sync }

-- a field at the values that a declared type has there
pub field_crosses : (F : Field) → Crosses F.row → Crosses (as_row F)
field_crosses F c = record { send = as_row_send F c.send; sync = as_row_sync F c.sync }

-- for `search`, which finds the law of a type from those of its fields' types, where these are listed
pub ruleset crosses =
    (view_crosses, struct_crosses, enum_crosses, vec_crosses, recorded_crosses, both_cross, below.crosses, sendable)
