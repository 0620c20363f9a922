-- The items of a run of all parties: each party's stages of each gate.
use Rattle.std.specs.Prelude.{ℕ, zero, suc, ◌<◌, ◌+◌, List, [], ◌++◌, length, map, filter, Option, Some, None}
use Rattle.share_types.specs.Sums.{each}
use Rattle.plan_gates.specs.Plan.{Gates}
use Rattle.plan_gates.specs.Messages.{hears, rounds, stages, awaits, sent_in}
use Rattle.local_run.specs.declared.item.Item.{Item}

abbrev pub item : ℕ → ℕ → ℕ → Item
item g stage p = record { gate = g; stage = stage; party = record { 0 = p } }

-- which of the first n parties receive something in a round of a gate
abbrev pub listeners : Gates → ℕ → ℕ → ℕ → List ℕ
listeners plan g round n = filter (λ p. hears plan p g round) (each n (λ p. p))

-- the stage of such a party that waits for the round: the one behind that in which it sends it
abbrev pub waiting : Gates → ℕ → ℕ → ℕ → Item
waiting plan g round p = item g (suc (sent_in plan p g round)) p

-- the items of a gate that wait for a round, by party, and those that wait for one of the first n rounds
abbrev pub items_waiting : Gates → ℕ → ℕ → List Item
items_waiting plan g round = map (waiting plan g round) (listeners plan g round plan.parties)

abbrev pub items_behind : Gates → ℕ → ℕ → List Item
items_behind plan g zero = []
items_behind plan g (suc round) = items_behind plan g round ++ items_waiting plan g round

-- the items of a gate: the first stages of all parties, and then those that wait for a round
abbrev pub items_of : Gates → ℕ → List Item
items_of plan g = each plan.parties (item g 0) ++ items_behind plan g (rounds plan g)

-- the items of the gates before a place, and how many they are
abbrev pub items_before : Gates → ℕ → List Item
items_before plan zero = []
items_before plan (suc g) = items_before plan g ++ items_of plan g

abbrev pub first_item : Gates → ℕ → ℕ
first_item plan g = length (items_before plan g)

-- all items
abbrev pub all_items : Gates → List Item
all_items plan = items_before plan (length plan.gates)

-- the place of a party's stage among the items of its gate, by the round that the stage waits for
abbrev pub place_by : Gates → ℕ → ℕ → Option ℕ → ℕ
place_by plan g p None = p
place_by plan g p (Some round) =
    plan.parties + (length (items_behind plan g round) + length (listeners plan g round p))

abbrev pub place_of : Gates → Item → ℕ
place_of plan i = place_by plan i.gate i.party.0 (awaits plan i.party.0 i.gate i.stage)

-- the number of an item: the items of earlier gates are before it, and then those of its own gate
abbrev pub number_of : Gates → Item → ℕ
number_of plan i = first_item plan i.gate + place_of plan i

-- an item of the plan: a party's stage of a gate
pub record IsItem (plan : Gates) (i : Item) : Type 0 where
  pub gate : i.gate < length plan.gates
  pub party : i.party.0 < plan.parties
  pub stage : i.stage < stages plan i.party.0 i.gate
