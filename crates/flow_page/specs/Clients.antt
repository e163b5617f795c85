-- What is told of the clients: their names, never a password, and how many cells each reaches.
use Rattle.std.specs.Prelude.{◌≡◌, ℕ, ◌+◌, ◌==◌, Bool, not, List, [], count_by, get_or, length, map, nat_lt, Option, Some, None, is_some, string_bytes}
use Rattle.std.specs.Int.{from_bool}
use Rattle.std.specs.List.{range_with_len, sum_by}
use Rattle.meter_theory.specs.Plan.{Client, Plan, cells}
use Rattle.meter_theory.specs.Rights.{in_view}
use Rattle.meter_theory.specs.declared.flow.Reach.{Reach}
use Rattle.meter_theory.specs.declared.flow.Reach.TheVariants.{Influence, Learn}
use Rattle.flow_edges.specs.Table.{cell_at}
use Rattle.flow_ways.specs.Found.{distance_of}
use Rattle.flow_page.specs.declared.page.ClientRow.{ClientRow}
use Rattle.flow_page.specs.declared.page.Counts.{Counts}
use Rattle.flow_page.specs.Marks.{Told, has_at}

-- as what a cell counts at this distance, which the policy allows or not: own profile
abbrev pub counted : Option ℕ → Bool → Counts
counted None allowed = record { by_right = 0; by_edges = 0; not_allowed = 0; no_way = from_bool allowed }
counted (Some d) allowed = record {
  by_right = from_bool (d == 0);
  by_edges = from_bool (nat_lt 0 d);
  not_allowed = from_bool (not allowed);
  no_way = 0;
}

abbrev pub counted_at : Told → Reach → ℕ → ℕ → Counts
counted_at t reach c i = counted (distance_of t.plan reach c (cell_at (cells t.plan) i)) (has_at t.allowed reach c i)

-- the sums of counts: own profile
abbrev pub plus : Counts → Counts → Counts
plus a b = record {
  by_right = a.by_right + b.by_right;
  by_edges = a.by_edges + b.by_edges;
  not_allowed = a.not_allowed + b.not_allowed;
  no_way = a.no_way + b.no_way;
}

abbrev pub sum_of : {A : Type 0} → (A → Counts) → List A → Counts
sum_of f xs = record {
  by_right = sum_by (λ x. (f x).by_right) xs;
  by_edges = sum_by (λ x. (f x).by_edges) xs;
  not_allowed = sum_by (λ x. (f x).not_allowed) xs;
  no_way = sum_by (λ x. (f x).no_way) xs;
}

abbrev pub size_of : Counts → ℕ
size_of n = n.by_right + n.by_edges + n.not_allowed + n.no_way

-- what the first cells count as: own profile
abbrev pub counts_of : Told → Reach → ℕ → ℕ → Counts
counts_of t reach c n = sum_of (counted_at t reach c) (range_with_len 0 n)

-- what is told of a client: own profile
pub record ClientShown : Type 0 where
  pub name : List ℕ
  pub sap : ℕ
  pub needs_password : Bool
  pub objects : ℕ
  pub influence : Counts
  pub learn : Counts

abbrev pub client_shown : ClientRow → ClientShown
client_shown row = record {
  name = string_bytes row.name;
  sap = row.sap;
  needs_password = row.needs_password;
  objects = row.objects;
  influence = row.influence;
  learn = row.learn;
}

-- the client at a place
abbrev pub client_at : Plan → ℕ → Client
client_at P c = get_or P.clients c (record { name = []; sap = 0; password = None })

-- what is told of it: own profile
abbrev pub client_row : Told → ℕ → ClientShown
client_row t c = record {
  name = (client_at t.plan c).name;
  sap = (client_at t.plan c).sap;
  needs_password = is_some (client_at t.plan c).password;
  objects = count_by (λ o. in_view t.plan c o.name) t.plan.objects;
  influence = counts_of t Influence c (length (cells t.plan));
  learn = counts_of t Learn c (length (cells t.plan));
}

-- the sum of what is counted of clients, for influence and for learning: own profile
abbrev pub total_of : List ClientRow → Counts
total_of rows = sum_of (λ row. plus row.influence row.learn) rows

-- what is told of the clients of a plan: own profile
pub record AreClients (t : Told) (rows : List ClientRow) (total : Counts) : Type 0 where
  pub rows_are : map client_shown rows ≡ map (client_row t) (range_with_len 0 (length t.plan.clients))
  pub total_is : total ≡ total_of rows
