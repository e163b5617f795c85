-- What a page says, and what its text is.
use Rattle.std.specs.Prelude.{◌≡◌, ℕ, ◌==◌, Bool, ◌||◌, nat_lt, List, [], ◌∷◌, ◌++◌, flat_map, if◌then◌else◌, is_some, string_bytes, vec_len}
use Rattle.std.specs.List.{list_any}
use Rattle.shown_text.specs.Pieces.{Fact, mark, text, number, facts, rendered}
use Rattle.shown_text.specs.declared.pieces.Piece.{Piece}
use Rattle.flow_page.specs.Matrix.{matrix_facts}
use Rattle.flow_page.specs.Tables.{changes_facts, clients_facts, objects_facts}
use Rattle.flow_page.specs.Ways.{edges_facts, has_some, refused_facts, why_facts}
use Rattle.flow_page.specs.declared.page.ClientRow.{ClientRow}
use Rattle.flow_page.specs.declared.page.Page.{Page}
use Rattle.flow_page.specs.declared.page_text.Part.{Part}
use Rattle.flow_page.specs.declared.page_text.Part.TheVariants as parts
use Rattle.flow_page.specs.declared.verdict_text.TheConstants.{ACCEPTED, REFUSED, GIVEN_FIT, LEAST_FIT, KEPT, EXCEEDED, OUTDATED, MAY_CHANGE, MAY_LEARN, TO_REFUSED, TO_CHANGES}

-- the name of the page, as its title and as its heading
abbrev pub head_facts : Page → List Fact
head_facts page = text (string_bytes page.heading.name) ∷ text (string_bytes page.heading.name) ∷ []

-- the client reaches a cell against the policy
abbrev pub exceeds : ClientRow → Bool
exceeds who = nat_lt 0 who.influence.not_allowed || nat_lt 0 who.learn.not_allowed

-- how many cells a client reaches so against the policy, if it does
abbrev pub excess_facts : (reach : List ℕ) → ℕ → List Fact
excess_facts reach n = if n == 0 then [] else (mark reach ∷ number n ∷ [])

-- a client that reaches cells against the policy, and how many it may change and learn
abbrev pub excesses_facts : ClientRow → List Fact
excesses_facts who =
    if exceeds who then (
    text (string_bytes who.name) ∷ excess_facts MAY_CHANGE.now who.influence.not_allowed
    ++ excess_facts MAY_LEARN.now who.learn.not_allowed)
    else []

-- why labels are refused: clients reach what the policy does not allow, or else the labels do not fit
abbrev pub refusal_facts : List ClientRow → List Fact
refusal_facts clients =
    if list_any exceeds clients then mark EXCEEDED.now ∷ flat_map excesses_facts clients else (mark OUTDATED.now ∷ [])

-- the verdict and its line, and what it means: which labels fit and that they keep within the policy, or why labels are refused
abbrev pub verdict_facts : Page → List Fact
verdict_facts page =
    if page.heading.accepted then
    (mark ACCEPTED.now ∷ text (string_bytes page.heading.verdict)
    ∷ mark (if page.heading.given_labels then GIVEN_FIT.now else LEAST_FIT.now) ∷ mark KEPT.now ∷ [])
    else (mark REFUSED.now ∷ text (string_bytes page.heading.verdict) ∷ refusal_facts page.clients.items)

-- how many things there are
abbrev pub numbers_facts : Page → List Fact
numbers_facts page =
    number page.object_count ∷ number page.cell_count ∷ number (vec_len page.clients) ∷ number page.edge_count
    ∷ number page.total.by_right ∷ number page.total.by_edges ∷ number page.total.not_allowed ∷ number page.total.no_way ∷ []

-- links to the two parts that not every page has
abbrev pub contents_facts : Page → List Fact
contents_facts page =
    mark (if has_some page.refused.groups.items then TO_REFUSED.now else [])
    ∷ mark (if is_some page.changes then TO_CHANGES.now else []) ∷ []

-- what a part of a page says; the heading of the picture and the foot say the same of every page
abbrev pub part_facts : Page → Part → List Fact
part_facts page parts.Head = head_facts page
part_facts page parts.Verdict = verdict_facts page
part_facts page parts.Numbers = numbers_facts page
part_facts page parts.Contents = contents_facts page
part_facts page parts.Matrix = matrix_facts page.clients.items page.rows.items
part_facts page parts.Refused = refused_facts page
part_facts page parts.Changes = changes_facts page.changes
part_facts page parts.Picture = []
part_facts page parts.Why = why_facts page
part_facts page parts.Clients = clients_facts page
part_facts page parts.Objects = objects_facts page.clients.items page.objects.items
part_facts page parts.Edges = edges_facts page
part_facts page parts.Foot = []

-- the parts before the picture, in their order
abbrev pub before_picture : List Part
before_picture =
    parts.Head ∷ parts.Verdict ∷ parts.Numbers ∷ parts.Contents ∷ parts.Matrix ∷ parts.Refused ∷ parts.Changes ∷ parts.Picture ∷ []

-- the parts after it
abbrev pub after_picture : List Part
after_picture = parts.Why ∷ parts.Clients ∷ parts.Objects ∷ parts.Edges ∷ parts.Foot ∷ []

-- after a text stands one that says this, and nothing else
abbrev pub Says : List Fact → (old new : List ℕ) → Type 0
Says fs old new = (pieces : List Piece) × (facts pieces ≡ fs) × (new ≡ old ++ rendered pieces)

-- the text of a page: what its parts before the picture say, the picture as it is, and what its parts after it say
abbrev pub IsPageText : Page → (picture whole : List ℕ) → Type 0
IsPageText page picture whole =
    (top : List ℕ) × (Says (flat_map (part_facts page) before_picture) [] top)
    × (Says (flat_map (part_facts page) after_picture) (top ++ picture) whole)
