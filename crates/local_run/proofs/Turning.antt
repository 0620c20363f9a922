-- How many items a run of all parties has.
use Rattle.std.proofs.Common.{◌≡◌, ℕ, zero, suc, ◌+◌, ◌≤◌, Bool, true, false, cond, List, [], ◌∷◌, length, refl, sym, ap, ◌∙◌, arith}
use Rattle.std.specs.Prelude.{is_some}
use Rattle.std.specs.List.{filter, list_any}
use Rattle.std.proofs.lemmas.List.{length-append, length-map}
use Rattle.std.proofs.lemmas.List.Elements.{filter-append}
use Rattle.share_types.specs.Sums.{sum_to, each}
use Rattle.share_types.proofs.Parties.{length-each}
use Rattle.plan_gates.specs.Plan.{Gates}
use Rattle.plan_gates.specs.Messages.{hears, rounds, stages, message}
use Rattle.gate_tasks.specs.Stage.{senders}
use Rattle.local_run.specs.Items.{item, listeners, waiting, items_waiting, items_behind, items_of, items_before}
use Rattle.local_run.specs.Turns.{items_at, payloads_at, payloads_to, APartyHasFewItems, ItemsAreThoseOfParties, TurnsAreFew}
use Rattle.local_run.proofs.Lists.{passing}

-- ---- sums over the parties

sum_both : (n : ℕ) (f g : ℕ → ℕ) → sum_to n (λ p. f p + g p) ≡ sum_to n f + sum_to n g
sum_both zero f g = refl
sum_both (suc n) f g = let before = sum_both n f g in omega (arith, before)

sum_alike : (n : ℕ) (f g : ℕ → ℕ) → ((p : ℕ) → f p ≡ g p) → sum_to n f ≡ sum_to n g
sum_alike zero f g same = refl
sum_alike (suc n) f g same = let before = sum_alike n f g same in let here = same n in omega (arith, before, here)

sum_less : (n : ℕ) (f g : ℕ → ℕ) → ((p : ℕ) → f p ≤ g p) → sum_to n f ≤ sum_to n g
sum_less zero f g less = omega arith
sum_less (suc n) f g less = let before = sum_less n f g less in let here = less n in omega (arith, before, here)

sum_ones : (n : ℕ) → sum_to n (λ p. 1) ≡ n
sum_ones zero = refl
sum_ones (suc n) = let before = sum_ones n in omega (arith, before)

sum_none : (n : ℕ) → sum_to n (λ p. 0) ≡ 0
sum_none zero = refl
sum_none (suc n) = let before = sum_none n in omega (arith, before)

-- ---- a party that hears is sent something

abbrev one_if : Bool → ℕ
one_if b = cond b 1 0

one_of : {X : Type 0} (b : Bool) (x : X) (xs : List X) (test : X → Bool) →
    one_if (list_any test xs) ≤ length (filter test xs) → test x ≡ b →
    one_if (list_any test (x ∷ xs)) ≤ length (filter test (x ∷ xs))
one_of true x xs test less passes = rw passes (omega arith)
one_of false x xs test less refused = rw refused (omega (arith, less))

-- where an element passes a test, one at least passes it
any_passes : {X : Type 0} (test : X → Bool) (xs : List X) → one_if (list_any test xs) ≤ length (filter test xs)
any_passes test [] = omega arith
any_passes test (x ∷ xs) = one_of (test x) x xs test (any_passes test xs) refl

heard_sent : (plan : Gates) (g round p : ℕ) → one_if (hears plan p g round) ≤ length (senders plan p g round)
heard_sent plan g round p = any_passes (λ from. is_some (message plan from p g round)) (each plan.parties (λ q. q))

one_long : (b : Bool) (n : ℕ) → length (cond b (n ∷ []) []) ≡ one_if b
one_long true n = refl
one_long false n = refl

-- one number more
passing_long : (test : ℕ → Bool) (n : ℕ) → length (passing test (suc n)) ≡ length (passing test n) + one_if (test n)
passing_long test n =
    let split = ap length (filter-append test (each n (λ p. p)) (n ∷ [])) ∙ length-append (passing test n) (cond (test n) (n ∷ []) []) in
    omega (arith, split, one_long (test n) n)

heard_few : (plan : Gates) (p g n : ℕ) → length (passing (hears plan p g) n) ≤ sum_to n (λ round. length (senders plan p g round))
heard_few plan p g zero = omega arith
heard_few plan p g (suc n) = omega (arith, passing_long (hears plan p g) n, heard_few plan p g n, heard_sent plan g n p)

stages_few : (plan : Gates) (p g : ℕ) → stages plan p g ≤ 1 + payloads_at plan p g
stages_few plan p g = let few = heard_few plan p g (rounds plan g) in omega (arith, few)

gates_few : (plan : Gates) (p n : ℕ) → sum_to n (λ g. stages plan p g) ≤ n + sum_to n (payloads_at plan p)
gates_few plan p zero = omega arith
gates_few plan p (suc n) = let before = gates_few plan p n in let here = stages_few plan p n in omega (arith, before, here)

pub a_party_has_few_items : APartyHasFewItems
a_party_has_few_items plan p = gates_few plan p (length plan.gates)

-- ---- the items of a gate, by party

listeners_long : (plan : Gates) (g round n : ℕ) → length (listeners plan g round n) ≡ sum_to n (λ p. one_if (hears plan p g round))
listeners_long plan g round zero = refl
listeners_long plan g round (suc n) = omega (arith, passing_long (λ p. hears plan p g round) n, listeners_long plan g round n)

behind_long : (plan : Gates) (g n : ℕ) → length (items_behind plan g n) ≡ sum_to plan.parties (λ p. length (passing (hears plan p g) n))
behind_long plan g zero = sym (sum_none plan.parties)
behind_long plan g (suc round) =
    let split = length-append (items_behind plan g round) (items_waiting plan g round) in
    let same = length-map (listeners plan g round plan.parties) (waiting plan g round) in
    let both = sum_alike plan.parties (λ p. length (passing (hears plan p g) (suc round))) (λ p. length (passing (hears plan p g) round) + one_if (hears plan p g round))
    (λ p. passing_long (hears plan p g) round)
    ∙ sum_both plan.parties (λ p. length (passing (hears plan p g) round)) (λ p. one_if (hears plan p g round)) in
    omega (arith, split, same, both, behind_long plan g round, listeners_long plan g round plan.parties)

gate_long : (plan : Gates) (g : ℕ) → length (items_of plan g) ≡ sum_to plan.parties (λ p. stages plan p g)
gate_long plan g =
    let split = length-append (each plan.parties (item g 0)) (items_behind plan g (rounds plan g)) in
    let first = length-each plan.parties (item g 0) in
    let both = sum_both plan.parties (λ p. 1) (λ p. length (passing (hears plan p g) (rounds plan g))) in
    omega (arith, split, first, both, sum_ones plan.parties, behind_long plan g (rounds plan g))

gates_long : (plan : Gates) (n : ℕ) → length (items_before plan n) ≡ sum_to plan.parties (λ p. sum_to n (λ g. stages plan p g))
gates_long plan zero = sym (sum_none plan.parties)
gates_long plan (suc n) =
    let split = length-append (items_before plan n) (items_of plan n) in
    let both = sum_both plan.parties (λ p. sum_to n (λ g. stages plan p g)) (λ p. stages plan p n) in
    omega (arith, split, both, gates_long plan n, gate_long plan n)

pub items_are_those_of_parties : ItemsAreThoseOfParties
items_are_those_of_parties plan = gates_long plan (length plan.gates)

pub turns_are_few : TurnsAreFew
turns_are_few plan =
    let all = items_are_those_of_parties plan in
    let few = sum_less plan.parties (items_at plan) (λ p. length plan.gates + payloads_to plan p) (a_party_has_few_items plan) in
    omega (arith, all, few)
