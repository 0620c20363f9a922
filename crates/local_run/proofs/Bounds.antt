-- The edges of a run can be numbered.
use Rattle.std.proofs.Common.{ℕ, zero, suc, ◌+◌, ◌*◌, ◌<◌, ◌≤◌, ◌^◌, List, [], ◌∷◌, ◌++◌, length, map, Option, Some, None, ap, arith}
use Rattle.std.specs.Prelude.{slice_get, is_some}
use Rattle.std.specs.List.{flat_map}
use Rattle.std.proofs.lemmas.List.{length-append, length-map}
use Rattle.std.proofs.lemmas.Grind.{flat_map-append}
use Rattle.share_types.specs.Sums.{each}
use Rattle.mot_base.specs.declared.Party.{Party}
use Rattle.plan_gates.specs.Plan.{Gates, IsPlan}
use Rattle.plan_gates.specs.Messages.{rounds, awaits, message}
use Rattle.plan_gates.proofs.MessageLemmas.{rounds_are_few}
use Rattle.gate_tasks.specs.Stage.{operands_at, kind_at, senders, receivers}
use Rattle.gate_tasks.specs.Report.{tells_at, told_to}
use Rattle.local_run.specs.declared.item.Item.{Item}
use Rattle.local_run.specs.declared.item.Load.{Load}
use Rattle.local_run.specs.declared.item.Load.TheVariants.{Wire, Message}
use Rattle.local_run.specs.Items.{all_items, number_of}
use Rattle.local_run.specs.Loads.{party, wires_to, waited_for, loads_to, sent_round, sent_at, sent_before, report_loads, reports_loads, loads_at, loads_before, all_loads, all_edges, giver}
use Rattle.local_run.proofs.Lists.{passing_few}
use Rattle.local_run.proofs.Numbers.{few_items}
use Rattle.local_run.proofs.Few.{few_of}
use Rattle.local_run.proofs.Ranges.{all_sources}

-- ---- to an item

waited_few : (plan : Gates) (g : ℕ) (p : Party) (o : Option ℕ) → IsPlan plan → length (waited_for plan g p o) ≤ 9
waited_few plan g p None is = omega arith
waited_few plan g p (Some round) is =
    let same = length-map (senders plan p.0 g round) (λ from. Message g round (party from) p) in
    let few = passing_few (λ from. is_some (message plan from p.0 g round)) plan.parties in
    omega (arith, same, few, is.most_parties)

item_few : (plan : Gates) (i : Item) → IsPlan plan → length (loads_to plan i) ≤ 13
item_few plan i is =
    let split = length-append (wires_to plan i.gate i.party) (waited_for plan i.gate i.party (awaits plan i.party.0 i.gate i.stage)) in
    let same = length-map (operands_at plan.gates i.gate) (λ x. Wire x i.party) in
    let three = few_of (kind_at plan.gates i.gate) in
    omega (arith, split, same, three, waited_few plan i.gate i.party (awaits plan i.party.0 i.gate i.stage) is)

at_few : (plan : Gates) (o : Option Item) → IsPlan plan → length (loads_at plan o) ≤ 13
at_few plan None is = omega arith
at_few plan (Some i) is = item_few plan i is

before_few : (plan : Gates) (items : List Item) (k : ℕ) → IsPlan plan → length (loads_before plan items k) ≤ 13 * k
before_few plan items zero is = omega arith
before_few plan items (suc k) is =
    let split = length-append (loads_before plan items k) (loads_at plan (slice_get items k)) in
    omega (arith, split, before_few plan items k is, at_few plan (slice_get items k) is)

-- ---- to the end

round_few : (plan : Gates) (p : Party) (g round : ℕ) → IsPlan plan → length (sent_round plan p g round) ≤ 8
round_few plan p g round is =
    let same = length-map (receivers plan p.0 g round) (λ to. Message g round p (party to)) in
    let few = passing_few (λ to. is_some (message plan p.0 to g round)) plan.parties in
    omega (arith, same, few, is.most_parties)

rounds_few : (plan : Gates) (p : Party) (g n : ℕ) → IsPlan plan → length (flat_map (sent_round plan p g) (each n (λ round. round))) ≤ 8 * n
rounds_few plan p g zero is = omega arith
rounds_few plan p g (suc n) is =
    let more = ap (λ (ls : List Load). length ls) (flat_map-append (sent_round plan p g) (each n (λ round. round)) (n ∷ [])) in
    let split = length-append (flat_map (sent_round plan p g) (each n (λ round. round))) (sent_round plan p g n ++ []) in
    let last = length-append (sent_round plan p g n) [] in
    omega (arith, more, split, last, rounds_few plan p g n is, round_few plan p g n is)

sent_few : (plan : Gates) (p : Party) (n : ℕ) → IsPlan plan → length (sent_before plan p n) ≤ 24 * n
sent_few plan p zero is = omega arith
sent_few plan p (suc g) is =
    let split = length-append (sent_before plan p g) (sent_at plan p g) in
    omega (arith, split, sent_few plan p g is, rounds_few plan p g (rounds plan g) is, rounds_are_few plan g)

report_few : (plan : Gates) (p : Party) → IsPlan plan → length (report_loads plan p) ≤ 25 * 2 ^ 22
report_few plan p is =
    let split = length-append (map (λ g. Wire g p) (told_to plan p.0)) (sent_before plan p (length plan.gates)) in
    let same = length-map (told_to plan p.0) (λ g. Wire g p) in
    let told = passing_few (λ g. tells_at (slice_get plan.gates g) p.0) (length plan.gates) in
    omega (arith, split, same, told, sent_few plan p (length plan.gates) is, is.few)

reports_few : (plan : Gates) (n : ℕ) → IsPlan plan → length (reports_loads plan n) ≤ 25 * 2 ^ 22 * n
reports_few plan zero is = omega arith
reports_few plan (suc n) is =
    let split = length-append (reports_loads plan n) (report_loads plan (party n)) in
    omega (arith, split, reports_few plan n is, report_few plan (party n) is)

-- ---- all

loads_few : (plan : Gates) → IsPlan plan → length (all_loads plan) + 1 < 2 ^ 32
loads_few plan is =
    let items = all_items plan in
    let split = length-append (loads_before plan items (length items)) (reports_loads plan plan.parties) in
    let before = before_few plan items (length items) is in
    let few = few_items plan (length plan.gates) is (omega arith) in
    omega (arith, split, before, few, reports_few plan plan.parties is, is.most_parties)

pub edges_few : (plan : Gates) → IsPlan plan → length (all_edges plan) + 1 < 2 ^ 32
edges_few plan is =
    let long = ap (λ (ns : List ℕ). length ns) (all_sources plan) in
    omega (arith, long, loads_few plan is, length-map (all_edges plan) (λ edge. edge.source), length-map (all_loads plan) (λ load. number_of plan (giver plan load)))
