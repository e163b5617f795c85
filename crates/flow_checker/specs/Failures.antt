-- All failures of the six clauses of admission, each with the clients that are too many or missing.
use Rattle.std.specs.Prelude.{ℕ, Bool, not, ◌&&◌, cond, List, [], ◌∷◌, ◌++◌, flat_map}
use Rattle.std.specs.List.{filter, range_with_len}
use Rattle.cosem_data.specs.declared.cell.CellRef.{CellRef}
use Rattle.cosem_data.specs.declared.clients.ClientSet.{ClientSet}
use Rattle.meter_theory.specs.Check.{admits_changer, admits_reader, clients_with_cells, influence_flows, is_labelled, learn_flows}
use Rattle.meter_theory.specs.Edges.{edges}
use Rattle.meter_theory.specs.Labels.{Labels, Labelling, has, labelling_of, nobody, within}
use Rattle.meter_theory.specs.Plan.{Plan, cells}
use Rattle.meter_theory.specs.Ways.{set_for}
use Rattle.meter_theory.specs.declared.flow.Edge.{Edge}
use Rattle.meter_theory.specs.declared.flow.Reach.{Reach}
use Rattle.meter_theory.specs.declared.flow.Reach.TheVariants.{Influence, Learn}
use Rattle.meter_theory.specs.declared.limits.TheConstants as limits
use Rattle.label_certificate.specs.Members.{with_clients}
use Rattle.flow_checker.specs.declared.failure.Failure.{Failure}
use Rattle.flow_checker.specs.declared.failure.Failure.TheVariants.{NotLabelled, InfluencePastPolicy, LearnPastPolicy, Changer, Reader, InfluenceEscapes, LearnEscapes}

-- By reach: the failure of a label past the policy, of a right that a label denies, and of an edge along which clients are lost

abbrev pub past_failure : Reach → CellRef → ClientSet → Failure
past_failure Influence x clients = InfluencePastPolicy x clients
past_failure Learn x clients = LearnPastPolicy x clients

abbrev pub right_failure : Reach → ℕ → CellRef → Failure
right_failure Influence c x = Changer c x
right_failure Learn c x = Reader c x

abbrev pub edge_failure : Reach → Edge → ClientSet → Failure
edge_failure Influence e clients = InfluenceEscapes e clients
edge_failure Learn e clients = LearnEscapes e clients

-- a failure, where its test doesn't pass: own profile
abbrev pub unless : Bool → Failure → List Failure
unless passes failure = cond passes [] (failure ∷ [])

-- the client is in the one set and not in the other: own profile
abbrev pub is_beyond : ClientSet → ClientSet → ℕ → Bool
is_beyond set other c = has set c && not (has other c)

-- the clients of the one set that aren't in the other: own profile
abbrev pub beyond : ClientSet → ClientSet → ClientSet
beyond set other = with_clients nobody (filter (is_beyond set other) (range_with_len 0 limits.CLIENTS))

-- a failure with the clients of the one set that aren't in the other, where it has some: own profile
abbrev pub exceeding : (ClientSet → Failure) → ClientSet → ClientSet → List Failure
exceeding failure set other = unless (within set other) (failure (beyond set other))

-- a cell that has no label: own profile
abbrev pub unlabelled : Labels → CellRef → List Failure
unlabelled labels x = unless (is_labelled labels x) (NotLabelled x)

-- the set of a cell's label that is past that of the policy: own profile
abbrev pub past : Labelling → Labels → Reach → CellRef → List Failure
past policy labels reach x = exceeding (past_failure reach x) (set_for reach (labelling_of labels x)) (set_for reach (policy x))

-- the sets of a cell's label that are: own profile
abbrev pub past_policy : Labelling → Labels → CellRef → List Failure
past_policy policy labels x = past policy labels Influence x ++ past policy labels Learn x

-- a client with a right at a cell whose label denies it: own profile
abbrev pub denied : Plan → Labels → Reach → ℕ × CellRef → List Failure
denied P labels Influence cx = unless (admits_changer P labels cx) (Changer cx.0 cx.1)
denied P labels Learn cx = unless (admits_reader P labels cx) (Reader cx.0 cx.1)

-- an edge along which clients are lost: own profile
abbrev pub lost : Labels → Reach → Edge → List Failure
lost labels Influence e =
    unless (influence_flows labels e) (InfluenceEscapes e (beyond (labelling_of labels e.source).influence (labelling_of labels e.target).influence))
lost labels Learn e = unless (learn_flows labels e) (LearnEscapes e (beyond (labelling_of labels e.target).learn (labelling_of labels e.source).learn))

-- all that fails the six clauses, clause by clause, and of each in the order of its cells, clients with cells, or edges: own profile
abbrev pub failures : Plan → Labelling → Labels → List Failure
failures P policy labels =
    flat_map (unlabelled labels) (cells P)
    ++ (flat_map (past_policy policy labels) (cells P)
    ++ (flat_map (denied P labels Influence) (clients_with_cells P)
    ++ (flat_map (denied P labels Learn) (clients_with_cells P)
    ++ (flat_map (lost labels Influence) (edges P)
    ++ flat_map (lost labels Learn) (edges P)))))
