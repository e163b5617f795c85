-- What a picture of the flow shows of a plan.
use Rattle.std.specs.Prelude.{◌≡◌, ℕ, List, [], None, get_or, is_none, length, map, string_bytes}
use Rattle.std.specs.List.{filter, range_with_len}
use Rattle.meter_theory.specs.Plan.{Client, Plan, cells}
use Rattle.flow_edges.specs.Table.{cell_at}
use Rattle.flow_edges.specs.declared.table.Link.{Link}
use Rattle.flow_ways.specs.Rounds.{AreLinksOf}
use Rattle.flow_picture.specs.declared.picture.Picture.{Picture}
use Rattle.flow_picture.specs.Arrows.{arrows_of, place_of}
use Rattle.flow_picture.specs.Boxes.{box_of, box_shown}
use Rattle.flow_picture.specs.Drawn.{drawn}

-- the client at a place
abbrev pub client_at : List Client → ℕ → Client
client_at clients c = get_or clients c (record { name = []; sap = 0; password = None })

-- the numbers of the cells of a plan that stand in no box: own profile
abbrev pub alone_of : ℕ → List (List ℕ) → List ℕ
alone_of count boxes = filter (λ i. is_none (place_of boxes i)) (range_with_len 0 count)

-- a picture of these boxes of a plan's cells and these edges between their numbers: own profile
pub record IsDrawn (P : Plan) (links : List Link) (boxes : List (List ℕ)) (picture : Picture) : Type 0 where
  -- the names of the clients
  pub clients_are : map string_bytes picture.clients.items ≡ map (λ client. client.name) P.clients
  -- a box each, with its first cell, how many it has, and who has one of them
  pub boxes_are : map box_shown picture.boxes.items ≡ map (box_of P) boxes
  -- an arrow for each source, target and cause that edges have, with how many edges do
  pub arrows_are : picture.arrows.items ≡ arrows_of boxes links
  -- the cells that stand in no box
  pub alone_are : picture.alone.items ≡ map (cell_at (cells P)) (alone_of (length (cells P)) boxes)

-- the picture of a plan whose cells are given in groups: own profile
pub record IsPictureOf (P : Plan) (given : List (List ℕ)) (picture : Picture) : Type 0 where
  -- the edges of the plan, by the numbers of its cells
  pub links : List Link
  pub are_links : AreLinksOf P links
  pub is_drawn : IsDrawn P links (drawn P links given) picture
