-- Items stand at their numbers.
use Rattle.std.proofs.Common.{◌≡◌, ◌≢◌, ℕ, zero, suc, ◌+◌, ◌*◌, ◌<◌, ◌≤◌, ◌^◌, true, List, length, get_or, Option, Some, None, refl, sym, ap, ◌∙◌, subst, arith, ⊎_elim, suc-mul}
use Rattle.std.specs.Prelude.{slice_get}
use Rattle.std.proofs.lemmas.Bool.{cases_eq}
use Rattle.std.proofs.lemmas.List.{length-append, length-map}
use Rattle.std.proofs.lemmas.Option.{slice_get_within}
use Rattle.std.proofs.Math.Nat.{mul-le-mul_left, mul-le-mul_right}
use Rattle.share_types.specs.Sums.{each}
use Rattle.share_types.proofs.Parties.{length-each}
use Rattle.plan_gates.specs.Plan.{Gates, IsPlan}
use Rattle.plan_gates.specs.Messages.{hears, rounds, heard_rounds, stages, awaits, sent_in}
use Rattle.plan_gates.proofs.MessageLemmas.{rounds_are_few, waits}
use Rattle.plan_gates.proofs.NeedsLemmas.{slice_get-each}
use Rattle.joint_run.proofs.Grown.{got, there_is}
use Rattle.local_run.specs.declared.item.Item.{Item}
use Rattle.local_run.specs.Items.{item, listeners, waiting, items_waiting, items_behind, items_of, items_before, first_item, all_items, place_by, place_of, number_of, IsItem}
use Rattle.local_run.proofs.Lists.{at_left, at_right, passing_few, passing_found}
use Rattle.mot_base.proofs.Lists.{mapped_at as mapped}

-- ---- how many items there are

behind_few : (plan : Gates) (g n : ℕ) → length (items_behind plan g n) ≤ n * plan.parties
behind_few plan g zero = omega arith
behind_few plan g (suc round) =
    let split = length-append (items_behind plan g round) (items_waiting plan g round) in
    let same = length-map (listeners plan g round plan.parties) (waiting plan g round) in
    let few = passing_few (λ p. hears plan p g round) plan.parties in
    omega (arith, split, same, few, behind_few plan g round, suc-mul round plan.parties)

few_of_gate : (plan : Gates) (g : ℕ) → length (items_of plan g) ≤ 4 * plan.parties
few_of_gate plan g =
    let split = length-append (each plan.parties (item g 0)) (items_behind plan g (rounds plan g)) in
    let first = length-each plan.parties (item g 0) in
    let more = mul-le-mul_right plan.parties (rounds_are_few plan g) in
    omega (arith, split, first, behind_few plan g (rounds plan g), more)

few_before : (plan : Gates) (g : ℕ) → length (items_before plan g) ≤ g * (4 * plan.parties)
few_before plan zero = omega arith
few_before plan (suc g) =
    let split = length-append (items_before plan g) (items_of plan g) in
    omega (arith, split, few_before plan g, few_of_gate plan g, suc-mul g (4 * plan.parties))

-- all numbers are small
pub few_items : (plan : Gates) (g : ℕ) → IsPlan plan → g ≤ length plan.gates → length (items_before plan g) ≤ 2 ^ 27
few_items plan g is within =
    let few = few_before plan g in
    let wide : 4 * plan.parties ≤ 32 = omega (arith, is.most_parties) in
    let more : g * (4 * plan.parties) ≤ g * 32 = mul-le-mul_left g wide in
    omega (arith, few, more, within, is.few)

-- those of a gate are few, too
pub few_behind : (plan : Gates) (g round : ℕ) → IsPlan plan → round ≤ 3 → length (items_behind plan g round) ≤ 24
few_behind plan g round is few =
    let least = behind_few plan g round in
    let more = mul-le-mul_right plan.parties few in
    omega (arith, least, more, is.most_parties)

-- ---- an item is found

first_found : (plan : Gates) (g p : ℕ) → p < plan.parties → slice_get (items_of plan g) p ≡ Some (item g 0 p)
first_found plan g p known =
    at_left (each plan.parties (item g 0)) (items_behind plan g (rounds plan g)) p (item g 0 p) (slice_get-each plan.parties (item g 0) p known)

behind_found : (plan : Gates) (g n round p : ℕ) → round < n → p < plan.parties → hears plan p g round ≡ true →
    slice_get (items_behind plan g n) (length (items_behind plan g round) + length (listeners plan g round p)) ≡ Some (waiting plan g round p)
behind_found plan g zero round p less known receives = absurd (omega (arith, less))
behind_found plan g (suc n) round p less known receives =
    ⊎_elim
    (λ (same : round ≡ n).
    let there = passing_found (λ q. hears plan q g round) plan.parties p known receives in
    let found = at_right (items_behind plan g round) (items_waiting plan g round) (length (listeners plan g round p)) (waiting plan g round p)
    (mapped (waiting plan g round) (listeners plan g round plan.parties) _ p there) in
    subst (λ (k : ℕ). slice_get (items_behind plan g (suc k)) (length (items_behind plan g round) + length (listeners plan g round p)) ≡ Some (waiting plan g round p)) same found)
    (λ (other : round ≢ n).
    at_left (items_behind plan g n) (items_waiting plan g n) _ (waiting plan g round p)
    (behind_found plan g n round p (omega (arith, less, other)) known receives))
    (cases_eq round n)

later_stage_found : (plan : Gates) (g round p : ℕ) → round < rounds plan g → p < plan.parties → hears plan p g round ≡ true →
    slice_get (items_of plan g) (place_by plan g p (Some round)) ≡ Some (waiting plan g round p)
later_stage_found plan g round p inside known receives =
    let front = each plan.parties (item g 0) in
    let place = length (items_behind plan g round) + length (listeners plan g round p) in
    let found = at_right front (items_behind plan g (rounds plan g)) place (waiting plan g round p) (behind_found plan g (rounds plan g) round p inside known receives) in
    let at : length front + place ≡ plan.parties + place = ap (λ (n : ℕ). n + place) (length-each plan.parties (item g 0)) in
    subst (λ (k : ℕ). slice_get (items_of plan g) k ≡ Some (waiting plan g round p)) at found

-- a stage that waits for no round is the first one
pub awaits_none : (plan : Gates) (p g stage : ℕ) → stage < stages plan p g → awaits plan p g stage ≡ None → stage ≡ 0
awaits_none plan p g zero less none = refl
awaits_none plan p g (suc stage) less none =
    let contrary = sym none ∙ there_is (heard_rounds plan p g) stage 0 (omega (arith, less)) in
    cc

pub place_found : (plan : Gates) (i : Item) → IsItem plan i → slice_get (items_of plan i.gate) (place_of plan i) ≡ Some i
place_found plan i is = by (awaits plan i.party.0 i.gate i.stage) refl
  where
    by : (o : Option ℕ) → awaits plan i.party.0 i.gate i.stage ≡ o → slice_get (items_of plan i.gate) (place_by plan i.gate i.party.0 o) ≡ Some i
    by None e =
        let first = awaits_none plan i.party.0 i.gate i.stage is.stage e in
        first_found plan i.gate i.party.0 is.party ∙ ap (λ (s : ℕ). Some (item i.gate s i.party.0)) (sym first)
    by (Some round) e =
        let known = waits plan i.party.0 i.gate i.stage round e in
        let behind : suc (sent_in plan i.party.0 i.gate round) ≡ i.stage = omega (arith, known.behind) in
        later_stage_found plan i.gate round i.party.0 known.inside is.party known.heard ∙ ap (λ (s : ℕ). Some (item i.gate s i.party.0)) behind

-- what stands among the items of the gates before one stands there among more
later_found : (plan : Gates) (n g k : ℕ) (i : Item) → g ≤ n → slice_get (items_before plan g) k ≡ Some i → slice_get (items_before plan n) k ≡ Some i
later_found plan zero g k i less there = let none : g ≡ 0 = omega arith in subst (λ (m : ℕ). slice_get (items_before plan m) k ≡ Some i) none there
later_found plan (suc n) g k i less there =
    ⊎_elim
    (λ (same : g ≡ suc n). subst (λ (m : ℕ). slice_get (items_before plan m) k ≡ Some i) same there)
    (λ (other : g ≢ suc n). at_left (items_before plan n) (items_of plan n) k i (later_found plan n g k i (omega (arith, less, other)) there))
    (cases_eq g (suc n))

pub item_found : (plan : Gates) (i : Item) → IsItem plan i → slice_get (all_items plan) (number_of plan i) ≡ Some i
item_found plan i is =
    let here = at_right (items_before plan i.gate) (items_of plan i.gate) (place_of plan i) i (place_found plan i is) in
    later_found plan (length plan.gates) (suc i.gate) (number_of plan i) i (omega (arith, is.gate)) here

pub number_within : (plan : Gates) (i : Item) → IsItem plan i → number_of plan i < length (all_items plan)
number_within plan i is = slice_get_within (all_items plan) (number_of plan i) i (item_found plan i is)

-- ---- what the code looks up

-- the first item of a gate, as it stands in the list of all gates
pub first_at : (plan : Gates) (firsts : List ℕ) (g first : ℕ) → firsts ≡ each (length plan.gates) (first_item plan) → g < length plan.gates → first ≡ get_or firsts g first → first ≡ first_item plan g
first_at plan firsts g first are known read =
    let there = slice_get-each (length plan.gates) (first_item plan) g known in
    read ∙ ap (λ (xs : List ℕ). get_or xs g first) are ∙ got (each (length plan.gates) (first_item plan)) g (first_item plan g) first there

-- one round more of those that wait
pub behind_more : (plan : Gates) (g round count more : ℕ) → count ≡ length (items_behind plan g round) → more ≡ length (listeners plan g round plan.parties) →
    count + more ≡ length (items_behind plan g (suc round))
behind_more plan g round count more before here =
    let split = length-append (items_behind plan g round) (items_waiting plan g round) in
    let same = length-map (listeners plan g round plan.parties) (waiting plan g round) in
    omega (arith, split, same, before, here)

-- the round that a stage waits for is one of the gate's
pub round_small : (plan : Gates) (p g stage round : ℕ) → awaits plan p g stage ≡ Some round → round < 3
round_small plan p g stage round e = let known = waits plan p g stage round e in omega (arith, known.inside, rounds_are_few plan g)
