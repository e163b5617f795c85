-- Lists of edges, line by line.
use Rattle.std.proofs.Common.{◌≡◌, ℕ, ◌+◌, ◌<◌, ◌≤◌, List, [], ◌∷◌, ◌++◌, length, map, take, drop, get_or, refl, sym, ap, ap₂, ◌∙◌, append-nil, append_assoc, arith, length-append}
use Rattle.std.specs.Prelude.{codes, flat_map}
use Rattle.std.proofs.lemmas.List.{get_or-map, take_all, take_more, take-append-drop}
use Rattle.std.proofs.lemmas.Grind.{flat_map-append}
use Rattle.cosem_data.specs.declared.cell.CellRef.{CellRef}
use Rattle.value_text.specs.Texts.{cell_text}
use Rattle.meter_theory.specs.declared.flow.Edge.{Edge}
use Rattle.flow_edges.specs.declared.table.Link.{Link}
use Rattle.flow_edges.specs.Table.{IsLink, AreWithin, edge_at, no_cell}
use Rattle.value_text.specs.Edges.{cause_word, edge_text}
use Rattle.flow_forms.specs.declared.edges.Form.{Form}
use Rattle.flow_forms.specs.Listing.{cell_within, edges_text, form_line, form_text, link_text, links_text, list_text}

-- a line put together from its cells as source and as target is the line of its parts
line-within : (s a b t l c e : List ℕ) → (s ++ (a ++ b)) ++ ((t ++ l) ++ (c ++ e)) ≡ s ++ (a ++ (b ++ (t ++ (l ++ (c ++ e)))))
line-within s a b t l c e =
    append_assoc s (a ++ b) ((t ++ l) ++ (c ++ e))
    ∙ ap (λ (z : List ℕ). s ++ z) (append_assoc a b ((t ++ l) ++ (c ++ e)))
    ∙ ap (λ (z : List ℕ). s ++ (a ++ (b ++ z))) (append_assoc t l (c ++ e))

-- the texts of cells as sources and as targets of a form
abbrev pub sources_of : Form → List CellRef → List (List ℕ)
sources_of form cells = map (cell_within form.start.now form.between.now) cells

abbrev pub targets_of : Form → List CellRef → List (List ℕ)
targets_of form cells = map (cell_within [] form.label.now) cells

-- the line of an edge between numbers is that of the edge between cells
link-line : (form : Form) (cells : List CellRef) (l : Link) → IsLink cells l
    → link_text form (sources_of form cells) (targets_of form cells) l ≡ form_line form (cell_text (edge_at cells l).source) (cell_text (edge_at cells l).target) (cause_word l.cause)
link-line form cells l w =
    ap₂ (λ (s t : List ℕ). s ++ (t ++ (cause_word l.cause ++ form.end.now)))
    (get_or-map (cell_within form.start.now form.between.now) cells l.source no_cell [] w.0)
    (get_or-map (cell_within [] form.label.now) cells l.target no_cell [] w.1)
    ∙ line-within form.start.now (cell_text (edge_at cells l).source) form.between.now (cell_text (edge_at cells l).target) form.label.now (cause_word l.cause) form.end.now

-- and so are all lines
links-lines : (form : Form) (cells : List CellRef) (links : List Link) → AreWithin cells links
    → links_text form (sources_of form cells) (targets_of form cells) links ≡ flat_map (λ e. form_line form (cell_text e.source) (cell_text e.target) (cause_word e.cause)) (map (edge_at cells) links)
links-lines form cells [] w = refl
links-lines form cells (l ∷ ls) w = ap₂ (λ (a b : List ℕ). a ++ b) (link-line form cells l w.0) (links-lines form cells ls w.1)

pub list-lines : (form : Form) (cells : List CellRef) (links : List Link) → AreWithin cells links → list_text form (sources_of form cells) (targets_of form cells) links ≡ form_text form (map (edge_at cells) links)
list-lines form cells links w = ap (λ (t : List ℕ). form.head.now ++ (t ++ form.foot.now)) (links-lines form cells links w)

-- the same lines one by one are the same lines
same-lines : (f g : Edge → List ℕ) (edges : List Edge) → ((e : Edge) → f e ≡ g e) → flat_map f edges ≡ flat_map g edges
same-lines f g [] same = refl
same-lines f g (e ∷ edges) same = ap₂ (λ (a b : List ℕ). a ++ b) (same e) (same-lines f g edges same)

-- the form of lines
plain-line : (s a t b c n : List ℕ) → s ++ (a ++ (t ++ (b ++ (c ++ n)))) ≡ (s ++ (a ++ (t ++ (b ++ c)))) ++ n
plain-line s a t b c n =
    ap (λ (z : List ℕ). s ++ (a ++ (t ++ z))) (sym (append_assoc b c n))
    ∙ ap (λ (z : List ℕ). s ++ (a ++ z)) (sym (append_assoc t (b ++ c) n))
    ∙ ap (λ (z : List ℕ). s ++ z) (sym (append_assoc a (t ++ (b ++ c)) n))
    ∙ sym (append_assoc s (a ++ (t ++ (b ++ c))) n)

abbrev plain : Form
plain = record {
  head = record { ref_ptr = (0, 0); now = [] };
  start = record { ref_ptr = (0, 0); now = [] };
  between = record { ref_ptr = (0, 0); now = codes " -> " };
  label = record { ref_ptr = (0, 0); now = codes " " };
  end = record { ref_ptr = (0, 0); now = codes "\n" };
  foot = record { ref_ptr = (0, 0); now = [] };
}

pub plain-text : (edges : List Edge) → form_text plain edges ≡ edges_text edges
plain-text edges =
    append-nil (flat_map (λ e. form_line plain (cell_text e.source) (cell_text e.target) (cause_word e.cause)) edges)
    ∙ same-lines (λ e. form_line plain (cell_text e.source) (cell_text e.target) (cause_word e.cause)) (λ e. edge_text e ++ 10 ∷ []) edges
    (λ e. plain-line (cell_text e.source) (codes " -> ") (cell_text e.target) (codes " ") (cause_word e.cause) (10 ∷ []))

-- the lines of one link more
line-more : (form : Form) (sources targets : List (List ℕ)) (links : List Link) (i : ℕ) (d : Link) → i < length links →
    links_text form sources targets (take (i + 1) links) ≡ links_text form sources targets (take i links) ++ link_text form sources targets (get_or links i d)
line-more form sources targets links i d within =
    ap (links_text form sources targets) (take_more links i d within)
    ∙ flat_map-append (link_text form sources targets) (take i links) (get_or links i d ∷ [])
    ∙ ap (λ (t : List ℕ). links_text form sources targets (take i links) ++ t) (append-nil (link_text form sources targets (get_or links i d)))

-- what follows the first lines: the other lines, and the foot
abbrev pub rest_text : Form → (sources targets : List (List ℕ)) → List Link → ℕ → List ℕ
rest_text form sources targets links i = links_text form sources targets (drop i links) ++ form.foot.now

-- the whole list is its head with the first lines, and what follows
list-split : (form : Form) (sources targets : List (List ℕ)) (links : List Link) (i : ℕ) →
    list_text form sources targets links ≡ (form.head.now ++ links_text form sources targets (take i links)) ++ rest_text form sources targets links i
list-split form sources targets links i =
    ap (λ (t : List ℕ). form.head.now ++ (t ++ form.foot.now))
    (ap (links_text form sources targets) (sym (take-append-drop i links)) ∙ flat_map-append (link_text form sources targets) (take i links) (drop i links))
    ∙ ap (λ (t : List ℕ). form.head.now ++ t) (append_assoc (links_text form sources targets (take i links)) (links_text form sources targets (drop i links)) form.foot.now)
    ∙ sym (append_assoc form.head.now (links_text form sources targets (take i links)) (rest_text form sources targets links i))

-- what is left behind a front of head and first lines: what waits of them, and what follows
pub behind-front : (form : Form) (sources targets : List (List ℕ)) (links : List Link) (i : ℕ) (front waiting : List ℕ) → form.head.now ++ links_text form sources targets (take i links) ≡ front ++ waiting →
    list_text form sources targets links ≡ front ++ (waiting ++ rest_text form sources targets links i)
behind-front form sources targets links i front waiting e =
    list-split form sources targets links i
    ∙ ap (λ (t : List ℕ). t ++ rest_text form sources targets links i) e
    ∙ append_assoc front waiting (rest_text form sources targets links i)

-- the line of one link more waits behind the others
pub line-waits : (form : Form) (sources targets : List (List ℕ)) (links : List Link) (i : ℕ) (d : Link) (front waiting full : List ℕ) → i < length links →
    form.head.now ++ links_text form sources targets (take i links) ≡ front ++ waiting → full ≡ waiting ++ link_text form sources targets (get_or links i d) →
    form.head.now ++ links_text form sources targets (take (i + 1) links) ≡ front ++ full
line-waits form sources targets links i d front waiting full within e more =
    ap (λ (t : List ℕ). form.head.now ++ t) (line-more form sources targets links i d within)
    ∙ sym (append_assoc form.head.now (links_text form sources targets (take i links)) (link_text form sources targets (get_or links i d)))
    ∙ ap (λ (t : List ℕ). t ++ link_text form sources targets (get_or links i d)) e
    ∙ append_assoc front waiting (link_text form sources targets (get_or links i d))
    ∙ ap (λ (t : List ℕ). front ++ t) (sym more)

-- behind the last line the foot is left
pub foot-left : (form : Form) (sources targets : List (List ℕ)) (links : List Link) (i : ℕ) (front waiting : List ℕ) → length links ≤ i → form.head.now ++ links_text form sources targets (take i links) ≡ front ++ waiting →
    list_text form sources targets links ≡ front ++ (waiting ++ form.foot.now)
foot-left form sources targets links i front waiting end e =
    sym (append_assoc form.head.now (links_text form sources targets links) form.foot.now)
    ∙ ap (λ (t : List ℕ). t ++ form.foot.now) (ap (λ (ls : List Link). form.head.now ++ links_text form sources targets ls) (sym (take_all i links end)) ∙ e)
    ∙ append_assoc front waiting form.foot.now

-- a front of what waits goes to the front
pub front-more : (text front waiting f l : List ℕ) → text ≡ front ++ waiting → waiting ≡ f ++ l → text ≡ (front ++ f) ++ l
front-more text front waiting f l e w = e ∙ ap (λ (t : List ℕ). front ++ t) w ∙ sym (append_assoc front f l)

-- a write broke off in what waits, and other lines were to follow
pub cut-front : (text front waiting f l rest : List ℕ) → text ≡ front ++ (waiting ++ rest) → waiting ≡ f ++ l → text ≡ (front ++ f) ++ (l ++ rest)
cut-front text front waiting f l rest e w =
    e ∙ ap (λ (t : List ℕ). front ++ (t ++ rest)) w ∙ ap (λ (t : List ℕ). front ++ t) (append_assoc f l rest) ∙ sym (append_assoc front f (l ++ rest))

-- something is left, whatever follows
pub some-left : (l rest : List ℕ) → 0 < length l → 0 < length (l ++ rest)
some-left l rest some = omega (arith, some, length-append l rest)
