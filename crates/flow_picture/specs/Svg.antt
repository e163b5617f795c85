-- What a picture says, and which texts are pictures. Facts are those of the pieces that a text is put together of; where boxes and
-- arrows stand is none. Texts are lists of bytes. All of it is own profile.
use Rattle.std.specs.Prelude.{◌≡◌, ℕ, Bool, ◌==◌, ◌+◌, ◌||◌, List, [], ◌∷◌, ◌++◌, flat_map, length, map, nat_le, not, if◌then◌else◌, Option, Some, None, option_map, option_to_list, slice_get, String, string_bytes}
use Rattle.std.specs.Global.{Global}
use Rattle.std.specs.List.{join_by, list_any, range_with_len}
use Rattle.cosem_data.specs.Clients.{has_client}
use Rattle.cosem_data.specs.declared.cell.CellRef.{CellRef}
use Rattle.cosem_data.specs.declared.clients.ClientSet.{ClientSet}
use Rattle.meter_theory.specs.Edges.{same_cause}
use Rattle.meter_theory.specs.declared.flow.Cause.{Cause}
use Rattle.meter_theory.specs.declared.flow.Cause.TheVariants.{Monitored, Monitor, Captured, Menu, Period, Schedule, Clock}
use Rattle.meter_theory.specs.declared.limits.TheConstants as limits
use Rattle.shown_text.specs.Pieces.{Fact, mark, text, number, cell, facts, rendered}
use Rattle.shown_text.specs.declared.pieces.Piece.{Piece}
use Rattle.value_text.specs.Edges.{cause_word}
use Rattle.flow_map.specs.ClassWords.{attribute_name, class_name}
use Rattle.flow_picture.specs.declared.arrows.TheConstants as arrow
use Rattle.flow_picture.specs.declared.box_text.TheConstants as words
use Rattle.flow_picture.specs.declared.boxes.TheConstants as box
use Rattle.flow_picture.specs.declared.svg.TheConstants as page
use Rattle.flow_picture.specs.declared.picture.Arrow.{Arrow}
use Rattle.flow_picture.specs.declared.picture.Picture.{Picture}
use Rattle.flow_picture.specs.declared.picture.PictureBox.{PictureBox}

-- the clients of a set, each after what it may do
abbrev pub class_of : (doing : List ℕ) → ClientSet → ℕ → List Fact
class_of doing set client = if has_client set client then mark doing ∷ number client ∷ [] else []

abbrev pub classes_of : (doing : List ℕ) → ClientSet → List Fact
classes_of doing set = flat_map (class_of doing set) (range_with_len 0 limits.CLIENTS)

-- the names of the clients of a set, in the order of the clients
abbrev pub name_if_in : List (String Global) → ClientSet → ℕ → List (List ℕ)
name_if_in clients set client = if has_client set client then option_to_list (option_map string_bytes (slice_get clients client)) else []

abbrev pub names_in : List (String Global) → ClientSet → List (List ℕ)
names_in clients set = flat_map (name_if_in clients set) (range_with_len 0 limits.CLIENTS)

-- names are short that are at most 26 letters, with what stands between them
abbrev pub are_short : List (List ℕ) → Bool
are_short names = nat_le (length (join_by (λ name. name) words.BETWEEN.now names)) words.LETTERS

-- who may do something, if anybody may: their names as texts from outside where these are short, and else how many clients they are
abbrev pub who_facts : (doing : List ℕ) → (names : List (List ℕ)) → List Fact
who_facts doing names = mark doing ∷ (if are_short names then map text names else number (length names) ∷ [])

abbrev pub who_if_any : (doing : List ℕ) → (names : List (List ℕ)) → List Fact
who_if_any doing [] = []
who_if_any doing (name ∷ names) = who_facts doing (name ∷ names)

-- which cells a box has: its cell, or how many there are, and their class and attribute, where the inner one has a word
abbrev pub name_facts : PictureBox → List Fact
name_facts shown =
    if shown.cells == 1 then cell shown.cell ∷ [] else
    number shown.cells ∷ number shown.cell.class_id ∷ (if shown.cell.index == 0 then mark words.SEEN.now else number shown.cell.index) ∷ []

-- the names of the class and the attribute of its cells
abbrev pub kind_facts : PictureBox → List Fact
kind_facts shown = mark (class_name shown.cell.class_id) ∷ mark (attribute_name shown.cell.class_id shown.cell.index) ∷ []

-- the words in it: its cells and what they are, who has a right to change and who has one to read them
abbrev pub words_facts : List (String Global) → PictureBox → List Fact
words_facts clients shown =
    name_facts shown ++ (kind_facts shown
    ++ (who_if_any box.CHANGERS.now (names_in clients shown.changers) ++ who_if_any box.READERS.now (names_in clients shown.readers)))

-- what a client that is chosen may do: to one cell, or to some of more
abbrev pub chosen_facts : (cells : ℕ) → List Fact
chosen_facts cells =
    if cells == 1 then mark box.MAY_CHANGE.now ∷ mark box.MAY_LEARN.now ∷ [] else
    mark box.MAY_CHANGE_SOME.now ∷ mark box.MAY_LEARN_SOME.now ∷ []

-- a box: who may influence and who may learn it, its words, and what a client that is chosen may do
abbrev pub box_facts : List (String Global) → PictureBox → List Fact
box_facts clients shown =
    mark box.BOX.now ∷ (classes_of box.INFLUENCES.now shown.influence ++ (classes_of box.LEARNS.now shown.learn
    ++ (words_facts clients shown ++ chosen_facts shown.cells)))

-- what is said of a box at an end of an arrow: nothing where there is no box
abbrev pub of_end : (PictureBox → List Fact) → Option PictureBox → List Fact
of_end says None = []
of_end says (Some shown) = says shown

-- who lights an arrow: who may influence its source, and who may learn its target
abbrev pub lit_facts : (source target : Option PictureBox) → List Fact
lit_facts source target =
    of_end (λ shown. classes_of box.INFLUENCES.now shown.influence) source ++ of_end (λ shown. classes_of box.LEARNS.now shown.learn) target

-- its title: the cells of its source and of its target, its cause, and how many edges it stands for, where that isn't one
abbrev pub title_facts : (source target : Option PictureBox) → Arrow → List Fact
title_facts source target shown =
    of_end name_facts source ++ (mark arrow.LEADS_TO.now ∷ (of_end name_facts target
    ++ (mark (cause_word shown.cause) ∷ (if shown.edges == 1 then [] else number shown.edges ∷ []))))

-- an arrow between these boxes: who lights it, its cause, by which its line is drawn, and its title
abbrev pub arrow_facts : List PictureBox → Arrow → List Fact
arrow_facts boxes shown =
    mark arrow.ARROW.now ∷ (lit_facts (slice_get boxes shown.source) (slice_get boxes shown.target)
    ++ (mark (cause_word shown.cause) ∷ title_facts (slice_get boxes shown.source) (slice_get boxes shown.target) shown))

-- a cause in the legend, if an arrow has it: the line of its arrows, and its word
abbrev pub cause_facts : List Arrow → Cause → List Fact
cause_facts arrows cause =
    if list_any (λ shown. same_cause shown.cause cause) arrows then mark (cause_word cause) ∷ mark (cause_word cause) ∷ [] else []

-- clients to choose from this number on, each with its number and its name, which is a text from outside
abbrev pub clients_facts : ℕ → List (String Global) → List Fact
clients_facts n [] = []
clients_facts n (name ∷ names) = mark page.CLIENT.now ∷ number n ∷ text (string_bytes name) ∷ clients_facts (n + 1) names

-- the legend, with the causes that an arrow has, and the choice of no client or one
abbrev pub head_facts : Picture → List Fact
head_facts picture =
    mark page.LEGEND.now ∷ (flat_map (cause_facts picture.arrows.items) (Monitored ∷ Monitor ∷ Captured ∷ Menu ∷ Period ∷ Schedule ∷ Clock ∷ [])
    ++ (mark page.CHOICE.now ∷ clients_facts 0 picture.clients.items))

-- the cells without edges, where there are some and at most 40
abbrev pub alone_facts : List CellRef → List Fact
alone_facts cells = if length cells == 0 || not (nat_le (length cells) page.MOST_ALONE) then [] else mark page.ALONE.now ∷ map cell cells

-- a picture: its legend and the choice of a client, each arrow once and each box once, in their order, and the cells without edges
abbrev pub drawn_facts : Picture → List Fact
drawn_facts picture =
    head_facts picture ++ (flat_map (arrow_facts picture.boxes.items) picture.arrows.items
    ++ (flat_map (box_facts picture.clients.items) picture.boxes.items ++ alone_facts picture.alone.items))

-- one without arrows says only that there are none
abbrev pub picture_facts : Picture → List Fact
picture_facts picture = if length picture.arrows.items == 0 then mark page.NO_EDGES.now ∷ [] else drawn_facts picture

-- a text that goes on by pieces that say this and nothing else
pub record Says (said : List Fact) (old new : List ℕ) : Type 0 where
  pub pieces : List Piece
  pub they_say : facts pieces ≡ said
  pub goes_on : new ≡ old ++ rendered pieces

-- the text of a picture: pieces that say what it says and nothing else
abbrev pub IsPicture : Picture → (shown : List ℕ) → Type 0
IsPicture picture shown = Says (picture_facts picture) [] shown
