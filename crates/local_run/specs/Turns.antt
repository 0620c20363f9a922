-- How many items a run has, in the parties' own terms. `Turns::drain` hands out each of them once.
use Rattle.std.specs.Prelude.{ℕ, ◌≡◌, ◌<◌, ◌≤◌, ◌+◌, ◌^◌, length}
use Rattle.share_types.specs.Sums.{sum_to}
use Rattle.plan_gates.specs.Plan.{Gates, IsPlan}
use Rattle.plan_gates.specs.Messages.{rounds, stages}
use Rattle.gate_tasks.specs.Stage.{senders}
use Rattle.local_run.specs.Items.{all_items}
use Rattle.local_run.specs.Loads.{all_edges}

-- how many items a party has: its stages of all gates
abbrev pub items_at : Gates → ℕ → ℕ
items_at plan p = sum_to (length plan.gates) (λ g. stages plan p g)

-- how many payloads are sent to a party at a gate, in all rounds, and at all gates together
abbrev pub payloads_at : Gates → ℕ → ℕ → ℕ
payloads_at plan p g = sum_to (rounds plan g) (λ round. length (senders plan p g round))

abbrev pub payloads_to : Gates → ℕ → ℕ
payloads_to plan p = sum_to (length plan.gates) (payloads_at plan p)

-- one party has at most as many items as there are gates and payloads that are sent to it
abbrev pub APartyHasFewItems : Type 0
APartyHasFewItems = (plan : Gates) (p : ℕ) → items_at plan p ≤ length plan.gates + payloads_to plan p

-- a run of all parties has the items of its parties
abbrev pub ItemsAreThoseOfParties : Type 0
ItemsAreThoseOfParties = (plan : Gates) → length (all_items plan) ≡ sum_to plan.parties (items_at plan)

-- so it has at most as many items as each party has gates and payloads that are sent to it, together
abbrev pub TurnsAreFew : Type 0
TurnsAreFew =
    (plan : Gates) →
    length (all_items plan) ≤ sum_to plan.parties (λ p. length plan.gates + payloads_to plan p)

-- within the limits of a plan these are at most 2 ^ 27
abbrev pub TurnsAreWithinLimits : Type 0
TurnsAreWithinLimits = (plan : Gates) → IsPlan plan → length (all_items plan) ≤ 2 ^ 27

-- within the limits of a plan the edges of a run can be numbered: a graph takes fewer than 2 ^ 32 - 1
abbrev pub EdgesAreFew : Type 0
EdgesAreFew = (plan : Gates) → IsPlan plan → length (all_edges plan) + 1 < 2 ^ 32
