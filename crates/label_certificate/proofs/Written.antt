-- Names that are written one by one, and the parts of a line's text.
use Rattle.std.proofs.Common.{◌≡◌, ℕ, suc, ◌+◌, ◌<◌, Bool, true, false, cond, eqb, List, [], ◌∷◌, ◌++◌, length, drop, flat_map, Some, None, refl, sym, ap, ◌∙◌, append_assoc, arith}
use Rattle.std.specs.Prelude.{slice_get, codes}
use Rattle.std.specs.Fmt.{decimal}
use Rattle.std.specs.List.{join_with_byte}
use Rattle.std.proofs.Common.{inl, inr}
use Rattle.std.proofs.Math.Seq.{drop-cons}
use Rattle.std.proofs.lemmas.List.{append-nil, drop_all}
use Rattle.std.proofs.lemmas.Option.{slice_get_within, get_or_from_slice_get, slice_get_cases}
use Rattle.cosem_data.specs.Clients.{has_client}
use Rattle.cosem_data.specs.Names.{name_text}
use Rattle.cosem_data.specs.declared.cell.CellRef.{CellRef}
use Rattle.cosem_data.specs.declared.clients.ClientSet.{ClientSet}
use Rattle.meter_theory.specs.Plan.{Client, Plan}
use Rattle.meter_theory.specs.declared.flow.Label.{Label}
use Rattle.value_text.specs.Texts.{cell_text}
use Rattle.label_certificate.specs.LabelLine.{attribute_text, names_text, line_cell_text, line_text}
use Rattle.label_certificate.specs.LabelText.{label_line, text_of_labels}
use Rattle.meter_theory.specs.Labels.{Labels}
use Rattle.std.proofs.Common.{get_or}
use Rattle.label_certificate.specs.Members.{names_from}

-- names behind those that are written: a comma before each, unless there were none
abbrev pub continued : Bool → List (List ℕ) → List ℕ
continued true names = flat_map (λ name. 44 ∷ name) names
continued false names = names_text names

joined_is : (name : List ℕ) (names : List (List ℕ)) → join_with_byte 44 (name ∷ names) ≡ name ++ flat_map (λ n. 44 ∷ n) names
joined_is name [] = sym (append-nil name)
joined_is name (next ∷ names) = ap (λ t. name ++ 44 ∷ t) (joined_is next names)

-- one name more is written
pub continued-more : (some : Bool) (name : List ℕ) (names : List (List ℕ)) → continued some (name ∷ names) ≡ cond some (44 ∷ name) name ++ continued true names
continued-more true name names = refl
continued-more false name names = joined_is name names

-- the clients from a place on
pub clients-more : (clients : List Client) (place : ℕ) (client : Client) → slice_get clients place ≡ Some client → drop place clients ≡ client ∷ drop (place + 1) clients
clients-more clients place client e =
    let next : suc place ≡ place + 1 = omega arith in
    drop-cons clients place client (slice_get_within clients place client e)
    ∙ ap (λ x. x ∷ drop (suc place) clients) (get_or_from_slice_get clients place client client e)
    ∙ ap (λ k. client ∷ drop k clients) next

pub clients-end : (clients : List Client) (place : ℕ) → slice_get clients place ≡ None → drop place clients ≡ []
clients-end clients place e =
    elim (slice_get_cases clients place).1 [
      | inl s ↦ let there = s.2 in absurd cc
      | inr past ↦ drop_all place clients past.0
    ]

-- a client of the set is written
pub written-in : (set : ClientSet) (clients : List Client) (place : ℕ) (client : Client) (text name new : List ℕ) (some : Bool) → slice_get clients place ≡ Some client → has_client set place ≡ true →
    name ≡ client.name → new ≡ text ++ cond some (44 ∷ name) name →
    new ++ continued true (names_from set (place + 1) (drop (place + 1) clients)) ≡ text ++ continued some (names_from set place (drop place clients))
written-in set clients place client text name new some there in_set is put =
    let rest = names_from set (place + 1) (drop (place + 1) clients) in
    let here : client.name ∷ rest ≡ names_from set place (drop place clients) =
    ap (λ b. cond b (client.name ∷ rest) rest) (sym in_set) ∙ ap (names_from set place) (sym (clients-more clients place client there)) in
    ap (λ t. t ++ continued true rest) put
    ∙ append_assoc text (cond some (44 ∷ name) name) (continued true rest)
    ∙ ap (λ n. text ++ (cond some (44 ∷ n) n ++ continued true rest)) is
    ∙ ap (λ t. text ++ t) (sym (continued-more some client.name rest))
    ∙ ap (λ ns. text ++ continued some ns) here

-- a client outside of it is not
pub written-out : (set : ClientSet) (clients : List Client) (place : ℕ) (client : Client) (text : List ℕ) (some : Bool) → slice_get clients place ≡ Some client → has_client set place ≡ false →
    text ++ continued some (names_from set (place + 1) (drop (place + 1) clients)) ≡ text ++ continued some (names_from set place (drop place clients))
written-out set clients place client text some there out =
    let rest = names_from set (place + 1) (drop (place + 1) clients) in
    let here : rest ≡ names_from set place (drop place clients) =
    ap (λ b. cond b (client.name ∷ rest) rest) (sym out) ∙ ap (names_from set place) (sym (clients-more clients place client there)) in
    ap (λ ns. text ++ continued some ns) here

-- no client is left
pub written-all : (set : ClientSet) (clients : List Client) (place : ℕ) (text : List ℕ) (some : Bool) → slice_get clients place ≡ None → text ++ continued some (names_from set place (drop place clients)) ≡ text ++ continued some []
written-all set clients place text some none = ap (λ cs. text ++ continued some (names_from set place cs)) (clients-end clients place none)

-- the text of a cell is that of its line
pub cell_is : (P : Plan) (cell : CellRef) (label : Label) → cell_text cell ≡ line_cell_text (label_line P (cell, label))
cell_is P cell label = at (eqb cell.index 0) refl
  where
    at : (b : Bool) → eqb cell.index 0 ≡ b → cell_text cell ≡ line_cell_text (label_line P (cell, label))
    at b is = ap (λ t. join_with_byte 47 (decimal cell.class_id ∷ name_text cell.name.0 ∷ t ∷ [])) (text b is)
      where
        text : (b : Bool) → eqb cell.index 0 ≡ b → cond (eqb cell.index 0) (codes "seen") (decimal cell.index) ≡ attribute_text (cond (eqb cell.index 0) None (Some cell.index))
        text true e = rw e refl
        text false e = rw e refl

-- one label more is written
pub labels-more : (P : Plan) (labels : Labels) (k : ℕ) (entry : CellRef × Label) (text new : List ℕ) → k < length labels → entry ≡ get_or labels k entry →
    new ≡ text ++ (line_text (label_line P entry) ++ 10 ∷ []) → new ++ text_of_labels P (drop (k + 1) labels) ≡ text ++ text_of_labels P (drop k labels)
labels-more P labels k entry text new within is put =
    let line = line_text (label_line P entry) ++ 10 ∷ [] in
    let next : suc k ≡ k + 1 = omega arith in
    let here : entry ∷ drop (k + 1) labels ≡ drop k labels =
    sym (drop-cons labels k entry within ∙ ap (λ x. x ∷ drop (suc k) labels) (sym is) ∙ ap (λ n. entry ∷ drop n labels) next) in
    ap (λ t. t ++ text_of_labels P (drop (k + 1) labels)) put
    ∙ append_assoc text line (text_of_labels P (drop (k + 1) labels))
    ∙ ap (λ ls. text ++ text_of_labels P ls) here
