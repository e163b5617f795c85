-- What is printed of edges and of labels, and how such a list is written. All of it is own profile.
use Rattle.std.specs.Prelude.{ℕ, List, [], ◌∷◌, ◌++◌, codes, flat_map, get_or, Option, Result, Err, IfSome, slice_get}
use Rattle.std.specs.Io.KnownBytes.{Appends}
use Rattle.cosem_data.specs.declared.cell.CellRef.{CellRef}
use Rattle.meter_theory.specs.Labels.{Labels, Policy}
use Rattle.meter_theory.specs.Plan.{Plan, cells}
use Rattle.meter_theory.specs.declared.flow.Edge.{Edge}
use Rattle.value_text.specs.Texts.{cell_text}
use Rattle.value_text.specs.Edges.{cause_word, edge_text}
use Rattle.flow_edges.specs.Table.{cell_at}
use Rattle.flow_map.specs.Map.{AreLeastOf}
use Rattle.flow_edges.specs.declared.table.Link.{Link}
use Rattle.flow_ways.specs.Why.{IsWhy}
use Rattle.label_certificate.specs.LabelText.{text_of_labels}
use Rattle.flow_forms.specs.declared.edges.Form.{Form}
use Rattle.whole_writes.specs.Written.{WritesText}
use Rattle.whole_writes.specs.declared.fault.ListFault.{ListFault}
use Rattle.whole_writes.specs.declared.fault.ListFault.TheVariants as faults

-- Edges

-- edges, each in a line of its own (own profile)
abbrev pub edges_text : List Edge → List ℕ
edges_text edges = flat_map (λ e. edge_text e ++ 10 ∷ []) edges

-- an edge as Graphviz reads it, in a line of its own (own profile)
abbrev pub dot_line : Edge → List ℕ
dot_line e =
    codes "  \"" ++ (cell_text e.source ++ (codes "\" -> \"" ++ (cell_text e.target ++ (codes "\" [label=\"" ++ (cause_word e.cause ++ codes "\"];\n")))))

-- edges as a graph that Graphviz reads (own profile)
abbrev pub dot_text : List Edge → List ℕ
dot_text edges = codes "digraph cells {\n" ++ (flat_map dot_line edges ++ codes "}\n")

-- the line of an edge with these texts of its cells and its cause, in a form (own profile)
abbrev pub form_line : Form → (source target cause : List ℕ) → List ℕ
form_line form source target cause = form.start.now ++ (source ++ (form.between.now ++ (target ++ (form.label.now ++ (cause ++ form.end.now)))))

-- the text of a cell with what stands before and behind it in a line (own profile)
abbrev pub cell_within : (before behind : List ℕ) → CellRef → List ℕ
cell_within before behind cell = before ++ (cell_text cell ++ behind)

-- the line of an edge between numbers of cells, whose texts as sources and as targets are these, with what a form has around them (own profile)
abbrev pub link_text : Form → (sources targets : List (List ℕ)) → Link → List ℕ
link_text form sources targets l = get_or sources l.source [] ++ (get_or targets l.target [] ++ (cause_word l.cause ++ form.end.now))

-- those of many, one behind the other (own profile)
abbrev pub links_text : Form → (sources targets : List (List ℕ)) → List Link → List ℕ
links_text form sources targets links = flat_map (link_text form sources targets) links

-- the whole list, between its head and its foot (own profile)
abbrev pub list_text : Form → (sources targets : List (List ℕ)) → List Link → List ℕ
list_text form sources targets links = form.head.now ++ (links_text form sources targets links ++ form.foot.now)

-- the same of edges between cells (own profile)
abbrev pub form_text : Form → List Edge → List ℕ
form_text form edges = form.head.now ++ (flat_map (λ e. form_line form (cell_text e.source) (cell_text e.target) (cause_word e.cause)) edges ++ form.foot.now)

-- A list that is written

-- the least labels of a plan were written, or a beginning of their text; they are made before the first byte is written (own profile)
abbrev pub WritesLeast : Plan → (before after : Option (List ℕ)) → Result (Unit {0}) ListFault → Type 0
WritesLeast P before after (Err faults.Memory) = Appends before after []
WritesLeast P before after r = (labels : Labels) × AreLeastOf P labels × WritesText (text_of_labels P labels) before after r

-- Ways

-- what is told of the client at this place and of the cell with this number, if the plan has them (own profile)
abbrev pub IsWhyOf : Plan → Policy → (client cell : ℕ) → List ℕ → Type 0
IsWhyOf P Q client cell text = IfSome (slice_get P.clients client) (λ who. IsWhy P Q client who.name (cell_at (cells P) cell) text)

-- it was written, or a beginning of it; it is made before the first byte is written (own profile)
abbrev pub WritesWhy : Plan → Policy → (client cell : ℕ) → (before after : Option (List ℕ)) → Result (Unit {0}) ListFault → Type 0
WritesWhy P Q client cell before after (Err faults.Memory) = Appends before after []
WritesWhy P Q client cell before after r = (text : List ℕ) × IsWhyOf P Q client cell text × WritesText text before after r
