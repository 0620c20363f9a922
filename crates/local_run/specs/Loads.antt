-- What the edges between items carry.
use Rattle.std.specs.Prelude.{ℕ, zero, suc, ◌-◌, List, [], ◌∷◌, ◌++◌, length, map, slice_get, Option, Some, None}
use Rattle.std.specs.List.{flat_map}
use Rattle.share_types.specs.Sums.{each}
use Rattle.turn_core.specs.declared.edge.Edge.{Edge}
use Rattle.turn_core.specs.Graph.{Graph}
use Rattle.turn_core.specs.declared.edge.TheConstants.{TERMINAL}
use Rattle.mot_base.specs.declared.Party.{Party}
use Rattle.plan_gates.specs.Plan.{Gates}
use Rattle.plan_gates.specs.Messages.{rounds, stages, awaits, sent_in}
use Rattle.gate_tasks.specs.Stage.{operands_at, senders, receivers}
use Rattle.gate_tasks.specs.Report.{told_to}
use Rattle.local_run.specs.declared.item.Item.{Item}
use Rattle.local_run.specs.declared.item.Load.{Load}
use Rattle.local_run.specs.declared.item.Load.TheVariants.{Wire, Kept, Message}
use Rattle.local_run.specs.Items.{item, all_items, number_of, IsItem}

abbrev pub party : ℕ → Party
party p = record { 0 = p }

-- ---- into an item

-- the values of a gate's operands at a party
abbrev pub wires_to : Gates → ℕ → Party → List Load
wires_to plan g p = map (λ x. Wire x p) (operands_at plan.gates g)

-- what a party is sent in a round of a gate, by sender
abbrev pub sent_to : Gates → ℕ → ℕ → Party → List Load
sent_to plan g round p = map (λ from. Message g round (party from) p) (senders plan p.0 g round)

-- what flows into a party's stage that waits for a round, if it waits for one: what the party carries to it, and what it is
-- sent
abbrev pub waited_for : Gates → ℕ → Party → Option ℕ → List Load
waited_for plan g p None = []
waited_for plan g p (Some round) = Kept g round p ∷ sent_to plan g round p

abbrev pub loads_to : Gates → Item → List Load
loads_to plan i =
    wires_to plan i.gate i.party
    ++ waited_for plan i.gate i.party (awaits plan i.party.0 i.gate i.stage)

-- ---- to the end

-- what a party sends in a round of a gate, by receiver, at the gate, by round, and at the first n gates
abbrev pub sent_round : Gates → Party → ℕ → ℕ → List Load
sent_round plan p g round = map (λ to. Message g round p (party to)) (receivers plan p.0 g round)

abbrev pub sent_at : Gates → Party → ℕ → List Load
sent_at plan p g = flat_map (sent_round plan p g) (each (rounds plan g) (λ round. round))

abbrev pub sent_before : Gates → Party → ℕ → List Load
sent_before plan p zero = []
sent_before plan p (suc g) = sent_before plan p g ++ sent_at plan p g

-- what the report of a party needs: what it is told, and what it sent
abbrev pub report_loads : Gates → Party → List Load
report_loads plan p =
    map (λ g. Wire g p) (told_to plan p.0) ++ sent_before plan p (length plan.gates)

-- what the reports of the first n parties need
abbrev pub reports_loads : Gates → ℕ → List Load
reports_loads plan zero = []
reports_loads plan (suc n) = reports_loads plan n ++ report_loads plan (party n)

-- ---- all edges: those to the items one after another, and then those to the end

abbrev pub loads_at : Gates → Option Item → List Load
loads_at plan None = []
loads_at plan (Some i) = loads_to plan i

abbrev pub loads_before : Gates → List Item → ℕ → List Load
loads_before plan items zero = []
loads_before plan items (suc k) = loads_before plan items k ++ loads_at plan (slice_get items k)

abbrev pub all_loads : Gates → List Load
all_loads plan =
    loads_before plan (all_items plan) (length (all_items plan)) ++ reports_loads plan plan.parties

-- the item that gives what an edge carries: a value comes from the party's last stage of the gate, a payload of a round from
-- the stage in which the party sends it, and what is carried to a stage that waits for the round from the same
abbrev pub giver : Gates → Load → Item
giver plan (Wire g p) = item g (stages plan p.0 g - 1) p.0
giver plan (Kept g round p) = item g (sent_in plan p.0 g round) p.0
giver plan (Message g round from to) = item g (sent_in plan from.0 g round) from.0

abbrev pub edge_to : Gates → ℕ → Load → Edge
edge_to plan target load = record { source = number_of plan (giver plan load); target = target }

abbrev pub edges_before : Gates → List Item → ℕ → List Edge
edges_before plan items zero = []
edges_before plan items (suc k) =
    edges_before plan items k ++ map (edge_to plan k) (loads_at plan (slice_get items k))

abbrev pub all_edges : Gates → List Edge
all_edges plan =
    edges_before plan (all_items plan) (length (all_items plan))
    ++ map (edge_to plan TERMINAL) (reports_loads plan plan.parties)

-- what an edge carries is given by an item of the plan
abbrev pub IsGiven : Gates → Load → Type 0
IsGiven plan load = IsItem plan (giver plan load)

-- the graph of the runs of a plan
abbrev pub graph_of : Gates → Graph
graph_of plan = record { items = length (all_items plan); edges = all_edges plan }
