-- The lines by which a way is told.
use Rattle.std.specs.Prelude.{ℕ, cond, nat_lt, List, [], ◌∷◌, ◌++◌, length, map, reverse, take, Option, Some, None, string_bytes}
use Rattle.cosem_data.specs.declared.cell.CellRef.{CellRef}
use Rattle.meter_theory.specs.Lists.{for_some}
use Rattle.meter_theory.specs.Plan.{Plan}
use Rattle.meter_theory.specs.declared.flow.Edge.{Edge}
use Rattle.meter_theory.specs.declared.flow.Reach.{Reach}
use Rattle.meter_theory.specs.declared.flow.Reach.TheVariants.{Influence, Learn}
use Rattle.flow_ways.specs.Found.{way_of}
use Rattle.flow_map.specs.Granting.{shown_request}
use Rattle.flow_ways.specs.Why.{way_end}
use Rattle.flow_map.specs.declared.request.GrantedRequest.{GrantedRequest}
use Rattle.flow_page.specs.declared.ways.WayLine.{WayLine}
use Rattle.flow_page.specs.declared.ways.WayLine.TheVariants as line
use Rattle.flow_page.specs.Clients.{client_at}
use Rattle.flow_page.specs.declared.view.limits.TheConstants.{LONG, TIP}

-- a line: the request of a client, an edge, or how many edges the way of a client to a cell has (own profile)
pub data Line : Type 0 where
  Asked : (client : List ℕ) → GrantedRequest → Line
  Along : Edge → Line
  InAll : (edges : ℕ) → (client : List ℕ) → CellRef → Line

abbrev pub line_shown : WayLine → Line
line_shown (line.Request client request) = Asked (string_bytes client) request
line_shown (line.Edge e) = Along e
line_shown (line.Long edges client x) = InAll edges (string_bytes client) x

-- the edges of a way in the order in which values flow: a way of influence is kept from its cell back to the request (own profile)
abbrev pub flowing : Reach → List Edge → List Edge
flowing Influence es = reverse es
flowing Learn es = es

-- these lines, or one in their place for a way of more than 24 edges: own profile
abbrev pub unless_long : (client : List ℕ) → CellRef → List Edge → List Line → List Line
unless_long client x es lines = cond (nat_lt LONG (length es)) (InAll (length es) client x ∷ []) lines

-- the lines of the edges of a way: own profile
abbrev pub edge_lines : Reach → (client : List ℕ) → CellRef → List Edge → List Line
edge_lines reach client x es = unless_long client x es (map Along (flowing reach es))

abbrev pub asked : (client : List ℕ) → Option GrantedRequest → List Line
asked client None = []
asked client (Some request) = Asked client request ∷ []

-- the lines of the edges of a way and of its request, in the order in which things happen: own profile
abbrev pub all_lines : Reach → List Edge → List Line → List Line
all_lines Influence es request = request ++ map Along (reverse es)
all_lines Learn es request = map Along es ++ request

abbrev pub whole_lines : Reach → (client : List ℕ) → CellRef → List Edge → Option GrantedRequest → List Line
whole_lines reach client x es request = unless_long client x es (all_lines reach es (asked client request))

-- the lines of the edges of the way that is shown, if there is a way: own profile
abbrev pub lines_of : Plan → Reach → ℕ → CellRef → List Line
lines_of P reach c x = for_some (way_of P reach c x) (edge_lines reach (client_at P c).name x)

-- the lines of the way that is shown with its request, if there is a way: own profile
abbrev pub whole_lines_of : Plan → Reach → ℕ → CellRef → List Edge → List Line
whole_lines_of P reach c x es = whole_lines reach (client_at P c).name x es (shown_request P reach c (way_end reach x es))

abbrev pub whole_way_of : Plan → Reach → ℕ → CellRef → List Line
whole_way_of P reach c x = for_some (way_of P reach c x) (whole_lines_of P reach c x)

-- the first of them, 6 at most: own profile
abbrev pub title_of : Plan → Reach → ℕ → CellRef → List Line
title_of P reach c x = take TIP (whole_way_of P reach c x)
