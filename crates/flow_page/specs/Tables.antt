-- What a page says of clients, of objects and the rights on them, and of what has changed.
use Rattle.std.specs.Prelude.{ℕ, ◌==◌, ◌||◌, zero, suc, List, [], ◌∷◌, ◌++◌, flat_map, if◌then◌else◌, length, Option, Some, None, String, string_bytes}
use Rattle.std.specs.declared.alloc.Global.{Global}
use Rattle.cosem_data.specs.declared.name.LogicalName.{LogicalName}
use Rattle.flow_map.specs.ClassWords.{class_name}
use Rattle.flow_map.specs.declared.kind.Change.{Change}
use Rattle.flow_map.specs.declared.kind.Change.TheVariants.{Gained, Lost}
use Rattle.flow_map.specs.declared.kind.Kind.{Kind}
use Rattle.flow_map.specs.declared.kind.Kind.TheVariants as kinds
use Rattle.shown_text.specs.Pieces.{Fact, mark, text, number, name}
use Rattle.flow_page.specs.Ways.{has_some, line_facts, or_none}
use Rattle.flow_page.specs.declared.changes.ChangedFact.{ChangedFact}
use Rattle.flow_page.specs.declared.changes.Changes.{Changes}
use Rattle.flow_page.specs.declared.changes.KindChanges.{KindChanges}
use Rattle.flow_page.specs.declared.changes_text.TheConstants.{NOBODY, GAINED, LOST, MAY, ALLOWED, RIGHT, CLIENT, CELL, EDGE}
use Rattle.flow_page.specs.declared.clients_text.TheConstants.{PASSWORD, NO_PASSWORD, ALARM, NO_CLIENTS}
use Rattle.flow_page.specs.declared.lines_text.TheConstants.{GET, SET, ACT}
use Rattle.flow_page.specs.declared.lists.TheConstants.{FIELD, ROW}
use Rattle.flow_page.specs.declared.objects.Held.{Held}
use Rattle.flow_page.specs.declared.objects.ObjectRow.{ObjectRow}
use Rattle.flow_page.specs.declared.objects_text.TheConstants.{FED, VIEW, NO_OBJECTS}
use Rattle.flow_page.specs.declared.page.ClientRow.{ClientRow}
use Rattle.flow_page.specs.declared.page.Counts.{Counts}
use Rattle.flow_page.specs.declared.page.Page.{Page}

-- Clients

-- the name of a client
abbrev pub name_facts : ClientRow → List Fact
name_facts who = text (string_bytes who.name) ∷ []

-- an alarm, unless the number is 0
abbrev pub alarm_of : ℕ → List ℕ
alarm_of zero = []
alarm_of (suc n) = ALARM.now

-- how many cells a client reaches by a right, and by edges, and how many of both against the policy
unfoldable pub counts_facts : Counts → List Fact
counts_facts n = number n.by_right ∷ number n.by_edges ∷ mark (alarm_of n.not_allowed) ∷ number n.not_allowed ∷ []

-- a row: the client, whether it needs a password, and how many objects it sees and cells it may change and learn
abbrev pub client_facts : ClientRow → List Fact
client_facts who =
    mark ROW.now ∷ text (string_bytes who.name) ∷ number who.sap
    ∷ mark (if who.needs_password then PASSWORD.now else NO_PASSWORD.now) ∷ number who.objects
    ∷ counts_facts who.influence ++ counts_facts who.learn

-- the clients, or that there are none
abbrev pub clients_facts : Page → List Fact
clients_facts page = or_none NO_CLIENTS.now client_facts page.clients.items

-- Objects

-- an attribute or a method
abbrev pub index_facts : ℕ → List Fact
index_facts index = number index ∷ []

-- a logical name
abbrev pub object_name : LogicalName → List Fact
object_name n = name n ∷ []

-- a right to some attributes or methods
abbrev pub right_facts : (right : List ℕ) → List ℕ → List Fact
right_facts right [] = []
right_facts right (i ∷ is) = mark right ∷ flat_map index_facts (i ∷ is)

-- what the client may get, set and call
abbrev pub rights_facts : Held → List Fact
rights_facts h = right_facts GET.now h.gets.items ++ right_facts SET.now h.sets.items ++ right_facts ACT.now h.acts.items

-- the rights of a client that sees the object, or that it may do nothing but see it
abbrev pub held_facts : Held → List Fact
held_facts h =
    if h.sees then (
    if has_some h.gets.items || has_some h.sets.items || has_some h.acts.items then rights_facts h else (mark VIEW.now ∷ []))
    else []

-- a field of the table
abbrev pub field_facts : Held → List Fact
field_facts h = mark FIELD.now ∷ held_facts h

-- the objects of a row, and how many they are, unless there is one
abbrev pub names_facts : List LogicalName → List Fact
names_facts ns = (if length ns == 1 then [] else (number (length ns) ∷ [])) ++ flat_map object_name ns

-- a row: the objects, their class, whether inputs go to them, and what each client may do with them
abbrev pub object_facts : ObjectRow → List Fact
object_facts r =
    mark ROW.now ∷ names_facts r.names.items
    ++ number r.class_id ∷ mark (class_name r.class_id) ∷ mark (if r.is_fed then FED.now else [])
    ∷ flat_map field_facts r.held.items

-- the clients, and these objects with the rights on them; or that there are none
abbrev pub objects_facts : List ClientRow → List ObjectRow → List Fact
objects_facts clients [] = mark NO_OBJECTS.now ∷ []
objects_facts clients (r ∷ rs) = flat_map name_facts clients ++ flat_map object_facts (r ∷ rs)

-- Changes

-- whether a fact is gained or lost
abbrev pub change_sign : Change → List ℕ
change_sign Gained = GAINED.now
change_sign Lost = LOST.now

-- what the facts of a kind are about
abbrev pub title_of : Kind → List ℕ
title_of kinds.May = MAY.now
title_of kinds.Allowed = ALLOWED.now
title_of kinds.Right = RIGHT.now
title_of kinds.Client = CLIENT.now
title_of kinds.Cell = CELL.now
title_of kinds.Edge = EDGE.now

-- a fact: whether it is gained or lost, its words, and the way by which a client now reaches a cell, if it is of that
abbrev pub change_facts : ChangedFact → List Fact
change_facts x = mark (change_sign x.change) ∷ text (string_bytes x.words) ∷ flat_map line_facts x.way.items

-- the facts of a kind below its title
abbrev pub rows_facts : Kind → List ChangedFact → List Fact
rows_facts kind [] = []
rows_facts kind (x ∷ xs) = mark (title_of kind) ∷ flat_map change_facts (x ∷ xs)

-- what has changed of one kind of facts, and for how many changes of it there is no room
abbrev pub kind_facts : KindChanges → List Fact
kind_facts k = rows_facts k.kind k.facts.items ++ (if k.more == 0 then [] else (mark (title_of k.kind) ∷ number k.more ∷ []))

-- the name of a client that gains
abbrev pub gainer_facts : String Global → List Fact
gainer_facts who = text (string_bytes who) ∷ []

-- the clients that gain, or that nobody does
abbrev pub gainers_facts : List (String Global) → List Fact
gainers_facts names = or_none NOBODY.now gainer_facts names

-- who gains, and what has changed
abbrev pub changed_facts : Changes → List Fact
changed_facts changes = gainers_facts changes.gainers.items ++ flat_map kind_facts changes.kinds.items

-- the same where a configuration before is given
abbrev pub changes_facts : Option Changes → List Fact
changes_facts None = []
changes_facts (Some changes) = changed_facts changes
