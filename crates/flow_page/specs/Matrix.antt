-- What the matrix says: who reaches what.
use Rattle.std.specs.Prelude.{ℕ, ◌+◌, ◌==◌, List, [], ◌∷◌, ◌++◌, flat_map, if◌then◌else◌, length, slice_get, Option, Some, None}
use Rattle.cosem_data.specs.declared.cell.CellRef.{CellRef}
use Rattle.flow_map.specs.declared.kind.Change.{Change}
use Rattle.flow_map.specs.declared.kind.Change.TheVariants.{Gained, Lost}
use Rattle.flow_map.specs.declared.request.GrantedRequest.TheVariants.{Get, Set, Act, Execute}
use Rattle.shown_text.specs.Pieces.{Fact, mark, number, name, cell}
use Rattle.flow_page.specs.Tables.{name_facts}
use Rattle.flow_page.specs.Ways.{anchor_facts, by_reach, cell_words, line_facts, request_facts}
use Rattle.flow_page.specs.declared.lines_text.TheConstants.{GET, SET, ACT}
use Rattle.flow_page.specs.declared.lists.TheConstants.{FIELD, ROW}
use Rattle.flow_page.specs.declared.marks_text.TheConstants.{GAINED, LOST, NO_WAY, NEITHER, MAY_CHANGE, MAY_LEARN, NOT_ALLOWED, ALARM, BY_EDGES}
use Rattle.flow_page.specs.declared.matrix.Found.{Found}
use Rattle.flow_page.specs.declared.matrix.Found.TheVariants.{Right, Edges}
use Rattle.flow_page.specs.declared.matrix.Mark.{Mark}
use Rattle.flow_page.specs.declared.matrix.MatrixRow.{MatrixRow}
use Rattle.flow_page.specs.declared.matrix.WayLink.{WayLink}
use Rattle.flow_page.specs.declared.matrix_text.TheConstants.{NOBODY, SEEN}
use Rattle.flow_page.specs.declared.page.ClientRow.{ClientRow}

-- Marks: whether, and how, a client reaches a cell

-- what is gained or lost against the configuration before
abbrev pub sign_of : Option Change → List ℕ
sign_of None = []
sign_of (Some Gained) = GAINED.now
sign_of (Some Lost) = LOST.now

-- by what right a cell is reached, or by how many edges
abbrev pub found_facts : Found → List Fact
found_facts (Right (Get x)) = mark GET.now ∷ []
found_facts (Right (Set x)) = mark SET.now ∷ []
found_facts (Right (Act m)) = mark ACT.now ∷ []
found_facts (Right (Execute m script)) = mark ACT.now ∷ []
found_facts (Edges n) = mark BY_EDGES.now ∷ number n ∷ []

-- of a right to a method which it is
abbrev pub title_facts : Found → List Fact
title_facts (Right (Get x)) = []
title_facts (Right (Set x)) = []
title_facts (Right (Act m)) = request_facts (Act m)
title_facts (Right (Execute m script)) = request_facts (Execute m script)
title_facts (Edges n) = []

-- whether the policy allows it, and of what it allows whether it is influence or learning
abbrev pub sort_of : Mark → List ℕ
sort_of m = if m.allowed then by_reach m.reach MAY_CHANGE.now MAY_LEARN.now else NOT_ALLOWED.now

-- what is read in a mark by which a client reaches a cell
abbrev pub word_facts : Mark → Found → List Fact
word_facts m found = mark (sign_of m.change) ∷ mark (if m.allowed then [] else ALARM.now) ∷ found_facts found

-- the place of a way and its first lines
abbrev pub link_facts : WayLink → List Fact
link_facts link = anchor_facts link.anchor ++ flat_map line_facts link.title.items

-- the way, if the page shows it, and else the request of a right to a method
abbrev pub way_facts : Found → Option WayLink → List Fact
way_facts found None = title_facts found
way_facts found (Some link) = link_facts link

-- a mark by which a client reaches a cell
abbrev pub reached_facts : Mark → Found → List Fact
reached_facts m found = mark (sort_of m) ∷ way_facts found m.link ++ word_facts m found

-- by what a client reaches a cell, or that there is no way, and whether the policy allows one
abbrev pub inside_facts : Mark → Option Found → List Fact
inside_facts m None = mark (sign_of m.change) ∷ mark (if m.allowed then NO_WAY.now else NEITHER.now) ∷ []
inside_facts m (Some found) = reached_facts m found

-- a field of the matrix
abbrev pub mark_facts : Mark → List Fact
mark_facts m = mark FIELD.now ∷ inside_facts m m.found

-- Rows

-- a cell of a list
abbrev pub listed_cell : CellRef → List Fact
listed_cell x = cell x ∷ []

-- an attribute by its index, and what a register monitor has seen by a word
abbrev pub index_fact : ℕ → Fact
index_fact index = if index == 0 then mark SEEN.now else number index

-- a cell with the words for it; of several how many they are, what they have in common, the first name, and each of them
abbrev pub cells_facts : CellRef → List CellRef → List Fact
cells_facts x xs =
    if length xs == 1 then cell x ∷ cell_words x else
    (number (length xs) ∷ number x.class_id ∷ index_fact x.index ∷ cell_words x ++ name x.name ∷ flat_map listed_cell xs)

-- the cells of a row, by the first of them
abbrev pub row_cells : Option CellRef → List CellRef → List Fact
row_cells None xs = []
row_cells (Some x) xs = cells_facts x xs

-- a row: its cells, and for each client the mark of influence and that of learning
abbrev pub row_facts : MatrixRow → List Fact
row_facts r = mark ROW.now ∷ row_cells (slice_get r.cells.items 0) r.cells.items ++ flat_map mark_facts r.marks.items

-- how many cells a client may change, and how many it may learn
abbrev pub column_facts : ClientRow → List Fact
column_facts who = number (who.influence.by_right + who.influence.by_edges) ∷ number (who.learn.by_right + who.learn.by_edges) ∷ []

-- the clients, and how many cells each of them reaches
abbrev pub head_facts : List ClientRow → List Fact
head_facts clients = flat_map name_facts clients ++ flat_map column_facts clients

-- the matrix, or that there are no clients
abbrev pub matrix_facts : List ClientRow → List MatrixRow → List Fact
matrix_facts [] rows = mark NOBODY.now ∷ []
matrix_facts (who ∷ others) rows = head_facts (who ∷ others) ++ flat_map row_facts rows
