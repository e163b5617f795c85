-- Facts as the code keeps them.
use Rattle.std.specs.Prelude.{map}
use Rattle.flow_changes.specs.Changes.{KindShown}
use Rattle.flow_changes.specs.Facts.{Fact, HasCell, HasEdge, HasSap, Holds, IsOpen, Reaches, Views}
use Rattle.flow_changes.specs.declared.compare.KindFacts.{KindFacts}
use Rattle.flow_changes.specs.declared.fact.Fact.{Fact as FactKept}
use Rattle.flow_changes.specs.declared.fact.Fact.TheVariants as kept

-- what such a fact says
abbrev pub shown : FactKept → Fact
shown (kept.Reaches client reach x) = Reaches client.now reach x
shown (kept.Views client class_id object) = Views client.now class_id object
shown (kept.Holds client access x) = Holds client.now access x
shown (kept.HasSap client sap) = HasSap client.now sap
shown (kept.IsOpen client) = IsOpen client.now
shown (kept.HasCell x) = HasCell x
shown (kept.HasEdge e) = HasEdge e

-- and the facts of a kind
abbrev pub kind_shown : KindFacts → KindShown
kind_shown k = record { kind = k.kind; gained = map shown k.gained.items; lost = map shown k.lost.items }
