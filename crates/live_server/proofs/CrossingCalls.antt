-- What the threads of a server take along may cross to them.
use mathlib.Core.List.{[], ◌∷◌}
use denote.RattleType.{RattleType}
use denote.Ref.{NamedLft}
use denote.Struct.Field.{row_field, u64-field}
use denote.Struct.Tuple.{TupleAt, type_at}
use denote.Param.Send.{IsSend, IsSync, shr_send, shr_sync, sendable}
use denote.Param.SendFields.{as_row_send, declared_send, declared_sync}
use mir.Syntax.{Sym}
use Rattle.core.specs.contracts.sync.Mutex as mutexes
use Rattle.std.proofs.Crossing.{crosses}
use Rattle.std.specs.declared.io.Read as reads
use Rattle.gates.specs.declared.Gate as gates
use Rattle.live_server.specs.contracts.by_line.ByLine as by_lines
use Rattle.live_server.specs.contracts.seats.Taken as taken
use Rattle.live_server.specs.contracts.sitting.Shared as shareds
use Rattle.live_server.proofs.sitting.Manners.TheSendSync as manners
use Rattle.live_server.proofs.asking.Standing.TheSendSync as standings

-- three things that a closure takes along
pub three_send : (ν : Sym) (A B C : RattleType) → IsSend A → IsSend B → IsSend C → IsSend (TupleAt ν (A ∷ B ∷ C ∷ []))
three_send ν A B C a b c = declared_send (type_at ν (A ∷ B ∷ C ∷ [])) (as_row_send (row_field A) a, (as_row_send (row_field B) b, (as_row_send (row_field C) c, tt)))

-- six
pub six_send : (ν : Sym) (A B C D E F : RattleType) → IsSend A → IsSend B → IsSend C → IsSend D → IsSend E → IsSend F → IsSend (TupleAt ν (A ∷ B ∷ C ∷ D ∷ E ∷ F ∷ []))
six_send ν A B C D E F a b c d e f = declared_send (type_at ν (A ∷ B ∷ C ∷ D ∷ E ∷ F ∷ []))
    (as_row_send (row_field A) a, (as_row_send (row_field B) b, (as_row_send (row_field C) c, (as_row_send (row_field D) d, (as_row_send (row_field E) e, (as_row_send (row_field F) f, tt))))))

-- lines that are read one at a time
pub by_line_send : (I : RattleType) (r : reads.Ghosts I.Denot) → IsSend I → IsSend (by_lines.the_row I r)
by_line_send I r i = declared_send (by_lines.the_type I r)
    (as_row_send (row_field I) i, (search (crosses, sendable) depth 20, (search sendable depth 12, (search sendable depth 12, (search sendable depth 12, tt)))))

taken_send : (a : NamedLft) (G : RattleType) (h : gates.Ghosts G.Denot) → IsSync G → IsSend (taken.the_row a G h)
taken_send a G h y = declared_send (taken.the_type a G h) (search (crosses, sendable) depth 20, (search sendable depth 12, (shr_send a.mir a.lft G y, tt)))

taken_sync : (a : NamedLft) (G : RattleType) (h : gates.Ghosts G.Denot) → IsSync G → IsSync (mutexes.the_row (taken.the_row a G h))
taken_sync a G h y = let sent = taken_send a G h y in search (sent, crosses, sendable) depth 20

pub number_send : IsSend u64-field.row
number_send = search sendable depth 12

-- what the connections of a server share
pub shared_sync : (a b : NamedLft) (G F : RattleType) (h : gates.Ghosts G.Denot) → IsSync G → IsSend F → IsSync (shareds.the_row a b G F h)
shared_sync a b G F h y f =
    let output : IsSync (mutexes.the_row F) = search (f, crosses, sendable) depth 12 in
    let taken = taken_sync a G h y in
    declared_sync (shareds.the_type a b G F h)
    (shr_sync a.mir a.lft G y, (taken, (shr_sync b.mir b.lft (mutexes.the_row F) output, (search (crosses, standings.the_send, standings.the_sync, sendable) depth 20, (search (crosses, sendable) depth 20, (manners.the_sync, tt))))))
