-- The tables of ways: which ways they tell, and in which groups.
use Rattle.std.specs.Prelude.{◌≡◌, ◌<◌, ℕ, ◌-◌, ◌==◌, suc, Bool, false, not, ◌&&◌, cond, List, [], ◌++◌, flat_map, get_or, length, map, take, Option, Some, None, option_map, string_bytes}
use Rattle.std.specs.List.{All, range_with_len, sum_by}
use Rattle.std.specs.Option.{option_to_list}
use Rattle.cosem_data.specs.declared.cell.CellRef.{CellRef}
use Rattle.meter_theory.specs.Plan.{Plan, cells}
use Rattle.meter_theory.specs.declared.flow.Reach.{Reach}
use Rattle.meter_theory.specs.declared.flow.Reach.TheVariants.{Influence, Learn}
use Rattle.flow_map.specs.Grouping.{AreGrouped}
use Rattle.flow_edges.specs.Table.{cell_at, no_cell}
use Rattle.flow_changes.specs.Facts.{same_reach}
use Rattle.flow_ways.specs.Found.{distance_of}
use Rattle.flow_map.specs.declared.request.GrantedRequest.{GrantedRequest}
use Rattle.flow_map.specs.declared.request.GrantedRequest.TheVariants.{Get}
use Rattle.flow_page.specs.declared.ways.Anchor.{Anchor}
use Rattle.flow_page.specs.declared.ways.WayGroup.{WayGroup}
use Rattle.flow_page.specs.declared.ways.WayRow.{WayRow}
use Rattle.flow_page.specs.declared.ways.WayTable.{WayTable}
use Rattle.flow_page.specs.Clients.{client_at}
use Rattle.flow_page.specs.Lines.{Line, line_shown, lines_of}
use Rattle.flow_page.specs.Marks.{Told, has_at, request_of}
use Rattle.flow_page.specs.declared.view.limits.TheConstants.{WAYS}
use Rattle.flow_page.specs.declared.view.picks.Pick.{Pick}
use Rattle.flow_page.specs.declared.view.picks.Sort.{Sort}
use Rattle.flow_page.specs.declared.view.picks.Sort.TheVariants.{Refused, Reached}

-- the numbers of the cells of a row, and the first of them
abbrev pub row_at : List (List ℕ) → ℕ → List ℕ
row_at rows r = get_or rows r []

abbrev pub first_of : List (List ℕ) → ℕ → ℕ
first_of rows r = get_or (row_at rows r) 0 0

-- Which ways are told

-- a way of this length, which the policy allows or not, is one of this sort: refused where it isn't allowed, and reached where it is
-- by edges and allowed (own profile)
abbrev pub is_of : Sort → Option ℕ → Bool → Bool
is_of Refused (Some d) allowed = not allowed
is_of Refused None allowed = false
is_of Reached (Some (suc d)) allowed = allowed
is_of Reached _ allowed = false

abbrev pub pick_of : Reach → ℕ → ℕ → GrantedRequest → Pick
pick_of reach c r request = record { reach = reach; client = c; row = r; request = request }

-- that of a client to the first cell of a row, with the request at its other end, if it is of this sort: own profile
abbrev pub pick_at : Told → Sort → List (List ℕ) → Reach → ℕ → ℕ → Option Pick
pick_at t sort rows reach c r =
    let i = first_of rows r in
    let x = cell_at (cells t.plan) i in
    cond (is_of sort (distance_of t.plan reach c x) (has_at t.allowed reach c i)) (option_map (pick_of reach c r) (request_of t.plan reach c x)) None

-- those of a client, row by row: own profile
abbrev pub row_picks : Told → Sort → List (List ℕ) → Reach → ℕ → ℕ → List Pick
row_picks t sort rows reach c r = option_to_list (pick_at t sort rows reach c r)

abbrev pub reach_picks : Told → Sort → List (List ℕ) → Reach → ℕ → List Pick
reach_picks t sort rows reach c = flat_map (row_picks t sort rows reach c) (range_with_len 0 (length rows))

-- influence before learning: own profile
abbrev pub client_picks : Told → Sort → List (List ℕ) → ℕ → List Pick
client_picks t sort rows c = reach_picks t sort rows Influence c ++ reach_picks t sort rows Learn c

-- client by client: own profile
abbrev pub picks : Told → Sort → List (List ℕ) → List Pick
picks t sort rows = flat_map (client_picks t sort rows) (range_with_len 0 (length t.plan.clients))

-- Of the refused ways the first 2,000 are told, and of those that are reached as many as are left of 2,000 without all that are
-- refused (own profile).

abbrev pub refused_told : Told → List (List ℕ) → List Pick
refused_told t rows = take WAYS (picks t Refused rows)

abbrev pub refused_left : Told → List (List ℕ) → ℕ
refused_left t rows = length (picks t Refused rows) - WAYS

abbrev pub reached_room : Told → List (List ℕ) → ℕ
reached_room t rows = WAYS - length (picks t Refused rows)

abbrev pub reached_told : Told → List (List ℕ) → List Pick
reached_told t rows = take (reached_room t rows) (picks t Reached rows)

abbrev pub reached_left : Told → List (List ℕ) → ℕ
reached_left t rows = length (picks t Reached rows) - reached_room t rows

-- the way leads to a row, and is of a client: own profile
abbrev pub leads_to : ℕ → Pick → Bool
leads_to r pick = pick.row == r

abbrev pub is_way : Reach → ℕ → Pick → Bool
is_way reach c pick = same_reach pick.reach reach && (pick.client == c)

-- Tables

abbrev pub anchor_of : Reach → ℕ → ℕ → Anchor
anchor_of reach c i = record { reach = reach; client = c; cell = i }

-- a way without its request: own profile
pub record WayShown : Type 0 where
  pub anchor : Anchor
  pub cell : CellRef
  pub alike : ℕ
  pub edges : List Line

abbrev pub way_shown : WayRow → WayShown
way_shown row = record { anchor = row.anchor; cell = row.cell; alike = row.alike; edges = map line_shown row.edges.items }

abbrev pub way_row : Plan → List (List ℕ) → Pick → WayShown
way_row P rows pick =
    let i = first_of rows pick.row in
    let x = cell_at (cells P) i in
    record {
      anchor = anchor_of pick.reach pick.client i;
      cell = x;
      alike = length (row_at rows pick.row) - 1;
      edges = lines_of P pick.reach pick.client x;
    }

-- what the ways of a group have alike: own profile
pub record WayKey : Type 0 where
  pub request : GrantedRequest
  pub client : ℕ
  pub reach : Reach

abbrev pub way_key : Pick → WayKey
way_key pick = record { request = pick.request; client = pick.client; reach = pick.reach }

-- the ways of one request: own profile
pub record GroupShown : Type 0 where
  pub reach : Reach
  pub client : List ℕ
  pub request : GrantedRequest
  pub cells_told : Option ℕ
  pub rows : List WayShown

abbrev pub group_shown : WayGroup → GroupShown
group_shown group = record {
  reach = group.reach;
  client = string_bytes group.client;
  request = group.request;
  cells_told = group.cells;
  rows = map way_shown group.rows.items;
}

-- the way with a number
abbrev pub pick_numbered : List Pick → ℕ → Pick
pick_numbered told k = get_or told k (pick_of Influence 0 0 (Get no_cell))

-- to how many cells ways lead: own profile
abbrev pub size_of : List (List ℕ) → List Pick → ℕ → ℕ
size_of rows told k = length (row_at rows (pick_numbered told k).row)

abbrev pub cells_reached : List (List ℕ) → List Pick → List ℕ → ℕ
cells_reached rows told numbers = sum_by (size_of rows told) numbers

-- those with these numbers, and to how many cells they lead if that is told: own profile
abbrev pub group_of : Plan → List (List ℕ) → List Pick → Bool → List ℕ → GroupShown
group_of P rows told counted numbers =
    let first = pick_numbered told (get_or numbers 0 0) in
    record {
      reach = first.reach;
      client = (client_at P first.client).name;
      request = first.request;
      cells_told = cond counted (Some (cells_reached rows told numbers)) None;
      rows = map (λ k. way_row P rows (pick_numbered told k)) numbers;
    }

-- the table of these ways, those of one request, client and reach together, and how many more there are: own profile
pub record IsTable (P : Plan) (rows : List (List ℕ)) (told : List Pick) (left : ℕ) (counted : Bool) (table : WayTable) : Type 0 where
  pub numbers : List (List ℕ)
  pub are_grouped : AreGrouped (map way_key told) numbers
  pub groups_are : map group_shown table.groups.items ≡ map (group_of P rows told counted) numbers
  pub left_is : table.left ≡ left

-- ways of so many clients to so many rows
pub record IsPick (clients rows : ℕ) (pick : Pick) : Type 0 where
  pub client_within : pick.client < clients
  pub row_within : pick.row < rows

abbrev pub ArePicks : ℕ → ℕ → List Pick → Type 0
ArePicks clients rows told = All (IsPick clients rows) told
