-- What a page says of edges and ways.
use Rattle.std.specs.Prelude.{ℕ, ◌==◌, Bool, true, false, List, [], ◌∷◌, ◌++◌, flat_map, if◌then◌else◌, length, Option, Some, None, string_bytes}
use Rattle.cosem_data.specs.declared.cell.CellRef.{CellRef}
use Rattle.cosem_data.specs.declared.cell.MethodRef.{MethodRef}
use Rattle.meter_theory.specs.declared.flow.Edge.{Edge as FlowEdge}
use Rattle.meter_theory.specs.declared.flow.Reach.{Reach}
use Rattle.meter_theory.specs.declared.flow.Reach.TheVariants.{Influence, Learn}
use Rattle.value_text.specs.Edges.{cause_word}
use Rattle.flow_map.specs.ClassWords.{attribute_name, class_name}
use Rattle.flow_map.specs.declared.request.GrantedRequest.{GrantedRequest}
use Rattle.flow_map.specs.declared.request.GrantedRequest.TheVariants.{Get, Set, Act, Execute}
use Rattle.shown_text.specs.Pieces.{Fact, mark, text, number, name, cell}
use Rattle.flow_page.specs.declared.edges_text.TheConstants.{PRINTED}
use Rattle.flow_page.specs.declared.lines_text.TheConstants.{GET, SET, ACT}
use Rattle.flow_page.specs.declared.page.CauseCount.{CauseCount}
use Rattle.flow_page.specs.declared.page.Page.{Page}
use Rattle.flow_page.specs.declared.ways.Anchor.{Anchor}
use Rattle.flow_page.specs.declared.ways.WayGroup.{WayGroup}
use Rattle.flow_page.specs.declared.ways.WayLine.{WayLine}
use Rattle.flow_page.specs.declared.ways.WayLine.TheVariants.{Request, Edge, Long}
use Rattle.flow_page.specs.declared.ways.WayRow.{WayRow}
use Rattle.flow_page.specs.declared.ways.WayTable.{WayTable}
use Rattle.flow_page.specs.declared.ways_text.TheConstants.{INFLUENCED, LEARNED, CHANGES, LEARNS, BY_ITSELF, THAT_IT_ALLOWS, AS_IT_ALLOWS}

-- a list has something
abbrev pub has_some : {A : Type 0} → List A → Bool
has_some [] = false
has_some (x ∷ xs) = true

-- what is said of each thing of a list, or that there is none
abbrev pub or_none : {A : Type 0} → (none : List ℕ) → (A → List Fact) → List A → List Fact
or_none none says [] = mark none ∷ []
or_none none says (x ∷ xs) = flat_map says (x ∷ xs)

-- a number, unless it is 0
abbrev pub number_if_any : ℕ → List Fact
number_if_any n = if n == 0 then [] else (number n ∷ [])

-- Edges

-- an edge: its source, its target, and the word of its cause
abbrev pub edge_facts : FlowEdge → List Fact
edge_facts e = cell e.source ∷ cell e.target ∷ mark (cause_word e.cause) ∷ []

-- how many edges there are of a cause
abbrev pub cause_facts : CauseCount → List Fact
cause_facts n = mark (cause_word n.cause) ∷ number n.edges ∷ []

-- how many edges there are, and each of them; or who prints them
abbrev pub list_facts : List FlowEdge → List Fact
list_facts [] = mark PRINTED.now ∷ []
list_facts (e ∷ es) = number (length (e ∷ es)) ∷ flat_map edge_facts (e ∷ es)

-- how many edges there are of each cause, and the edges
abbrev pub edges_facts : Page → List Fact
edges_facts page = flat_map cause_facts page.causes.items ++ (if page.edge_count == 0 then [] else list_facts page.edges.items)

-- Lines

-- the call of a method
abbrev pub call_facts : MethodRef → List Fact
call_facts m = mark ACT.now ∷ number m.class_id ∷ name m.name ∷ number m.index ∷ []

-- a request
abbrev pub request_facts : GrantedRequest → List Fact
request_facts (Get x) = mark GET.now ∷ cell x ∷ []
request_facts (Set x) = mark SET.now ∷ cell x ∷ []
request_facts (Act m) = call_facts m
request_facts (Execute m script) = call_facts m ++ number script ∷ []

-- a line of a way: a client's request, an edge, or how many edges a way has and of whom to what it is
abbrev pub line_facts : WayLine → List Fact
line_facts (Request client request) = text (string_bytes client) ∷ request_facts request
line_facts (Edge e) = edge_facts e
line_facts (Long n client x) = number n ∷ text (string_bytes client) ∷ cell x ∷ []

-- Tables

-- the first for influence, and the second for learning
abbrev pub by_reach : Reach → (influence learn : List ℕ) → List ℕ
by_reach Influence influence learn = influence
by_reach Learn influence learn = learn

-- the place of a way: whether it is of influence or of learning, the number of the client, and that of the cell
abbrev pub anchor_facts : Anchor → List Fact
anchor_facts a = mark (by_reach a.reach INFLUENCED.now LEARNED.now) ∷ number a.client ∷ number a.cell ∷ []

-- the words for a cell's class and its attribute
abbrev pub cell_words : CellRef → List Fact
cell_words x = mark (class_name x.class_id) ∷ mark (attribute_name x.class_id x.index) ∷ []

-- the cell to which a way leads, and how many others are alike
abbrev pub cell_facts : WayRow → List Fact
cell_facts r = cell r.cell ∷ number_if_any r.alike ++ cell_words r.cell

-- the cell, and the lines of the way to it, or that the right reaches it by itself
abbrev pub fields_facts : WayRow → List Fact
fields_facts r = cell_facts r ++ or_none BY_ITSELF.now line_facts r.edges.items

-- a row: its place, the cell, and the way to it
abbrev pub row_facts : WayRow → List Fact
row_facts r = anchor_facts r.anchor ++ fields_facts r

-- how many cells a right reaches, where that is known
abbrev pub reached_facts : Option ℕ → List Fact
reached_facts None = []
reached_facts (Some n) = number n ∷ []

-- a right: the client, the request, and what it lets the client do to how many cells
abbrev pub head_facts : WayGroup → List Fact
head_facts g =
    text (string_bytes g.client) ∷ request_facts g.request
    ++ text (string_bytes g.client) ∷ mark (by_reach g.reach CHANGES.now LEARNS.now) ∷ reached_facts g.cells

-- rows, of which the first has the right after its place
abbrev pub rows_facts : WayGroup → List WayRow → List Fact
rows_facts g [] = []
rows_facts g (r ∷ rs) = anchor_facts r.anchor ++ head_facts g ++ fields_facts r ++ flat_map row_facts rs

-- the rows of a right
abbrev pub group_facts : WayGroup → List Fact
group_facts g = rows_facts g g.rows.items

-- the ways by their rights, and for how many there is no room
abbrev pub table_facts : WayTable → List Fact
table_facts t = flat_map group_facts t.groups.items ++ number_if_any t.left

-- the ways that the policy does not allow
abbrev pub refused_facts : Page → List Fact
refused_facts page = if has_some page.refused.groups.items then table_facts page.refused else []

-- the ways by edges that the policy allows; for how many there is no room, where none is shown; or that there are none
abbrev pub why_facts : Page → List Fact
why_facts page =
    if has_some page.reached.groups.items then
    mark (if has_some page.refused.groups.items then THAT_IT_ALLOWS.now else []) ∷ table_facts page.reached else
    if page.reached.left == 0 then mark (if has_some page.refused.groups.items then AS_IT_ALLOWS.now else []) ∷ [] else
    number_if_any page.reached.left
