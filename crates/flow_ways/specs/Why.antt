-- What is told of a client and a cell: whether there are ways, and the shortest that are shown.
use Rattle.std.specs.Prelude.{◌≡◌, ℕ, zero, suc, Bool, true, false, List, [], ◌∷◌, ◌++◌, codes, flat_map, length, map, reverse, Option, Some, None, option_map}
use Rattle.std.specs.Fmt.{decimal}
use Rattle.std.specs.List.{join_with_byte}
use Rattle.cosem_data.specs.Names.{name_text}
use Rattle.cosem_data.specs.declared.cell.CellRef.{CellRef}
use Rattle.cosem_data.specs.declared.cell.MethodRef.{MethodRef}
use Rattle.meter_theory.specs.Labels.{Policy, has, labelling_of_policy}
use Rattle.meter_theory.specs.Plan.{Plan}
use Rattle.meter_theory.specs.Ways.{near_end, set_for}
use Rattle.meter_theory.specs.declared.flow.Edge.{Edge}
use Rattle.meter_theory.specs.declared.flow.Reach.{Reach}
use Rattle.meter_theory.specs.declared.flow.Reach.TheVariants.{Influence, Learn}
use Rattle.value_text.specs.Edges.{edge_text}
use Rattle.value_text.specs.Texts.{cell_text}
use Rattle.flow_map.specs.FlowWords.{reach_word}
use Rattle.flow_map.specs.Requests.{request_text}
use Rattle.flow_map.specs.Granting.{shown_request}
use Rattle.flow_ways.specs.Kept.{IsShown}
use Rattle.flow_map.specs.declared.request.GrantedRequest.{GrantedRequest}
use Rattle.flow_map.specs.declared.request.GrantedRequest.TheVariants.{Get, Set, Act, Execute}

-- the cell at the other end of a way, which a right grants: own profile
abbrev pub way_end : Reach → CellRef → List Edge → CellRef
way_end reach x [] = x
way_end reach x (e ∷ es) = way_end reach (near_end reach e) es

-- the client's request, if one is shown: own profile
abbrev pub right_lines : List ℕ → Option GrantedRequest → List (List ℕ)
right_lines client None = []
right_lines client (Some request) = (client ++ (codes " " ++ request_text request)) ∷ []

-- the lines of a way in the order in which things happen: influence begins with the request and ends at the cell, and learning
-- begins at the cell and ends with the request (own profile)
abbrev pub in_order : Reach → (right : List (List ℕ)) → List Edge → List (List ℕ)
in_order Influence right edges = right ++ map edge_text (reverse edges)
in_order Learn right edges = map edge_text edges ++ right

abbrev pub way_lines : Plan → Reach → ℕ → List ℕ → CellRef → List Edge → List (List ℕ)
way_lines P reach c client x es = in_order reach (right_lines client (shown_request P reach c (way_end reach x es))) es

-- a line of its own, two spaces in: own profile
abbrev pub indented : List ℕ → List ℕ
indented line = codes "  " ++ (line ++ 10 ∷ [])

-- how far the shortest ways lead: own profile
abbrev pub finding : Option ℕ → List ℕ
finding None = codes "no way"
finding (Some zero) = codes "by a right"
finding (Some (suc zero)) = codes "by 1 edge"
finding (Some (suc (suc n))) = codes "by " ++ (decimal (suc (suc n)) ++ codes " edges")

abbrev pub allowance : Bool → List ℕ
allowance true = codes "allowed"
allowance false = codes "not allowed"

abbrev pub shown_lines : Plan → Reach → ℕ → List ℕ → CellRef → Option (List Edge) → List (List ℕ)
shown_lines P reach c client x None = []
shown_lines P reach c client x (Some es) = way_lines P reach c client x es

-- the first line of a block: own profile
abbrev pub head : Reach → Option ℕ → Bool → List ℕ
head reach distance allowed =
    reach_word reach ++ (codes ": " ++ (finding distance ++ (codes ", " ++ (allowance allowed ++ 10 ∷ []))))

-- what is told of one reach: the finding and whether the policy allows it, and behind it the way (own profile)
abbrev pub block : Plan → Policy → Reach → ℕ → List ℕ → CellRef → Option (List Edge) → List ℕ
block P Q reach c client x shown =
    head reach (option_map length shown) (has (set_for reach (labelling_of_policy P Q x)) c)
    ++ flat_map indented (shown_lines P reach c client x shown)

-- both blocks, of the ways that are shown: own profile
pub record IsWhy (P : Plan) (Q : Policy) (c : ℕ) (client : List ℕ) (x : CellRef) (text : List ℕ) : Type 0 where
  pub influence : Option (List Edge)
  pub learn : Option (List Edge)
  pub influence_shown : IsShown P Influence c x influence
  pub learn_shown : IsShown P Learn c x learn
  pub text_is : text ≡ block P Q Influence c client x influence ++ block P Q Learn c client x learn

-- a block was put behind a text: own profile
pub record IsBlockPut (P : Plan) (Q : Policy) (reach : Reach) (c : ℕ) (client : List ℕ) (x : CellRef) (old new : List ℕ) : Type 0 where
  pub shown : Option (List Edge)
  pub is_shown : IsShown P reach c x shown
  pub put : new ≡ old ++ block P Q reach c client x shown
