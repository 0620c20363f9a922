-- What edges carry is given by items of the plan.
use Rattle.std.proofs.Common.{◌≡◌, ℕ, zero, suc, ◌<◌, ◌≤◌, Bool, true, false, cond, List, [], ◌∷◌, length, map, Option, Some, None, refl, sym, subst, arith}
use Rattle.std.specs.Prelude.{slice_get, option_map, is_some}
use Rattle.std.specs.List.{AllByRecursion, flat_map}
use Rattle.std.proofs.lemmas.Grind.{flat_map-append}
use Rattle.std.proofs.lemmas.Option.{slice_get_within}
use Rattle.std.proofs.lemmas.List.Elements.{filter-append}
use Rattle.share_types.specs.Sums.{each}
use Rattle.mot_base.specs.declared.Party.{Party}
use Rattle.plan_gates.specs.Gate.{Gate, Use, uses}
use Rattle.plan_gates.specs.Plan.{Gates, IsPlan, IsOperand}
use Rattle.plan_gates.specs.Messages.{hears, rounds, heard_rounds, stages, awaits, sent_in, message}
use Rattle.plan_gates.proofs.MessageLemmas.{waits, awaits_heard, passing_fewer}
use Rattle.gate_tasks.specs.Stage.{operands_of, operands_at, senders, receivers}
use Rattle.gate_tasks.specs.Report.{told_to}
use Rattle.local_run.specs.declared.item.Item.{Item}
use Rattle.local_run.specs.declared.item.Load.TheVariants.{Wire, Message}
use Rattle.local_run.specs.Items.{item, listeners, waiting, items_waiting, items_behind, items_of, items_before, all_items, IsItem}
use Rattle.local_run.specs.Loads.{party, wires_to, waited_for, loads_to, sent_round, sent_at, sent_before, report_loads, reports_loads, IsGiven}
use Rattle.local_run.proofs.Lists.{passing}
use Rattle.mot_base.proofs.Lists.{all_append, all_implied as all_more, all_at}

-- ---- facts of all elements

pub all_map : {X Y : Type 0} (P : Y → Type 0) (f : X → Y) (Q : X → Type 0) → ((x : X) → Q x → P (f x)) → (xs : List X) → AllByRecursion Q xs → AllByRecursion P (map f xs)
all_map P f Q more [] all = tt
all_map P f Q more (x ∷ xs) all = (more x all.0, all_map P f Q more xs all.1)

-- the first numbers are below their count, and those that pass a test pass it
pub record Passes (test : ℕ → Bool) (n p : ℕ) : Type 0 where
  pub below : p < n
  pub passes : test p ≡ true

one_passes : (test : ℕ → Bool) (n : ℕ) (b : Bool) → test n ≡ b → AllByRecursion (Passes test (suc n)) (cond b (n ∷ []) [])
one_passes test n true is = (record { below = omega arith; passes = is }, tt)
one_passes test n false is = tt

pub all_passing : (test : ℕ → Bool) (n : ℕ) → AllByRecursion (Passes test n) (passing test n)
all_passing test zero = tt
all_passing test (suc n) =
    let wider = all_more (Passes test n) (Passes test (suc n)) (λ p is. let less = is.below in record { below = omega arith; passes = is.passes }) (passing test n) (all_passing test n) in
    subst (λ (xs : List ℕ). AllByRecursion (Passes test (suc n)) xs) (sym (filter-append test (each n (λ p. p)) (n ∷ [])))
    (all_append (Passes test (suc n)) (passing test n) (cond (test n) (n ∷ []) []) wider (one_passes test n (test n) refl))

pub all_each : {X : Type 0} (P : X → Type 0) (n : ℕ) (f : ℕ → X) → ((p : ℕ) → p < n → P (f p)) → AllByRecursion P (each n f)
all_each P zero f is = tt
all_each P (suc n) f is =
    all_append P (each n f) (f n ∷ []) (all_each P n f (λ p less. is p (omega (arith, less)))) (is n (omega arith), tt)

-- ---- items

-- a stage that waits for a round is one of the party's
stage_waits : (plan : Gates) (g round p : ℕ) → round < rounds plan g → hears plan p g round ≡ true → suc (sent_in plan p g round) < stages plan p g
stage_waits plan g round p inside heard =
    let within = slice_get_within (heard_rounds plan p g) (sent_in plan p g round) round (awaits_heard plan p g round inside heard) in
    omega (arith, within)

waiting_are : (plan : Gates) (g round : ℕ) → g < length plan.gates → round < rounds plan g → AllByRecursion (IsItem plan) (items_waiting plan g round)
waiting_are plan g round known inside =
    all_map (IsItem plan) (waiting plan g round) (Passes (λ p. hears plan p g round) plan.parties)
    (λ p is. record { gate = known; party = is.below; stage = stage_waits plan g round p inside is.passes })
    (listeners plan g round plan.parties) (all_passing (λ p. hears plan p g round) plan.parties)

behind_are : (plan : Gates) (g n : ℕ) → g < length plan.gates → n ≤ rounds plan g → AllByRecursion (IsItem plan) (items_behind plan g n)
behind_are plan g zero known within = tt
behind_are plan g (suc round) known within =
    all_append (IsItem plan) (items_behind plan g round) (items_waiting plan g round)
    (behind_are plan g round known (omega (arith, within))) (waiting_are plan g round known (omega (arith, within)))

items_of_are : (plan : Gates) (g : ℕ) → g < length plan.gates → AllByRecursion (IsItem plan) (items_of plan g)
items_of_are plan g known =
    all_append (IsItem plan) (each plan.parties (item g 0)) (items_behind plan g (rounds plan g))
    (all_each (IsItem plan) plan.parties (item g 0) (λ p less. record { gate = known; party = less; stage = omega arith }))
    (behind_are plan g (rounds plan g) known (omega arith))

items_before_are : (plan : Gates) (n : ℕ) → n ≤ length plan.gates → AllByRecursion (IsItem plan) (items_before plan n)
items_before_are plan zero within = tt
items_before_are plan (suc n) within =
    all_append (IsItem plan) (items_before plan n) (items_of plan n) (items_before_are plan n (omega (arith, within))) (items_of_are plan n (omega (arith, within)))

pub items_are : (plan : Gates) → AllByRecursion (IsItem plan) (all_items plan)
items_are plan = items_before_are plan (length plan.gates) (omega arith)

pub item_is : (plan : Gates) (k : ℕ) (i : Item) → slice_get (all_items plan) k ≡ Some i → IsItem plan i
item_is plan k i there = all_at (IsItem plan) (all_items plan) k i (items_are plan) there

-- ---- what flows into them

pub wire_given : (plan : Gates) (g : ℕ) (p : Party) → g < length plan.gates → p.0 < plan.parties → IsGiven plan (Wire g p)
wire_given plan g p known member = record { gate = known; party = member; stage = omega arith }

-- the item in which a party sends a round
sender_is : (plan : Gates) (g round p : ℕ) → g < length plan.gates → p < plan.parties → round ≤ rounds plan g → IsItem plan (item g (sent_in plan p g round) p)
sender_is plan g round p known member within =
    let few = passing_fewer (hears plan p g) round (rounds plan g) within in
    record { gate = known; party = member; stage = omega (arith, few) }

-- operands stand before their gate
abbrev pub AreBefore : ℕ → List ℕ → Type 0
AreBefore g xs = AllByRecursion (λ x. x < g) xs

operands_before : (plan : Gates) (g : ℕ) (o : Option Gate) → slice_get plan.gates g ≡ o → IsPlan plan → AreBefore g (operands_of (option_map (λ gate. gate.kind) o))
operands_before plan g None there is = tt
operands_before plan g (Some gate) there is =
    all_map (λ x. x < g) (λ (used : Use). used.gate) (IsOperand plan.gates g) (λ used operand. operand.0) (uses gate.kind) (is.each g gate there).uses

pub operands_are_before : (plan : Gates) (g : ℕ) → IsPlan plan → AreBefore g (operands_at plan.gates g)
operands_are_before plan g is = operands_before plan g (slice_get plan.gates g) refl is

wires_given : (plan : Gates) (g : ℕ) (p : Party) → IsPlan plan → g < length plan.gates → p.0 < plan.parties → AllByRecursion (IsGiven plan) (wires_to plan g p)
wires_given plan g p is known member =
    all_map (IsGiven plan) (λ x. Wire x p) (λ x. x < g) (λ x less. wire_given plan x p (omega (arith, less, known)) member) (operands_at plan.gates g) (operands_are_before plan g is)

waited_given : (plan : Gates) (g : ℕ) (p : Party) (stage : ℕ) (o : Option ℕ) → g < length plan.gates → p.0 < plan.parties → awaits plan p.0 g stage ≡ o →
    AllByRecursion (IsGiven plan) (waited_for plan g p o)
waited_given plan g p stage None known member e = tt
waited_given plan g p stage (Some round) known member e =
    let inside = (waits plan p.0 g stage round e).inside in (
      sender_is plan g round p.0 known member (omega (arith, inside)),
      all_map (IsGiven plan) (λ from. Message g round (party from) p) (Passes (λ from. is_some (message plan from p.0 g round)) plan.parties)
          (λ from is. sender_is plan g round from known is.below (omega (arith, inside)))
          (senders plan p.0 g round) (all_passing (λ from. is_some (message plan from p.0 g round)) plan.parties),
    )

pub loads_given : (plan : Gates) (i : Item) → IsPlan plan → IsItem plan i → AllByRecursion (IsGiven plan) (loads_to plan i)
loads_given plan i plan_is is =
    all_append (IsGiven plan) (wires_to plan i.gate i.party) (waited_for plan i.gate i.party (awaits plan i.party.0 i.gate i.stage))
    (wires_given plan i.gate i.party plan_is is.gate is.party)
    (waited_given plan i.gate i.party i.stage (awaits plan i.party.0 i.gate i.stage) is.gate is.party refl)

-- ---- what the reports need

told_given : (plan : Gates) (p : Party) → p.0 < plan.parties → AllByRecursion (IsGiven plan) (map (λ g. Wire g p) (told_to plan p.0))
told_given plan p member =
    all_map (IsGiven plan) (λ g. Wire g p) (Passes _ (length plan.gates)) (λ g is. wire_given plan g p is.below member)
    (told_to plan p.0) (all_passing _ (length plan.gates))

-- what holds of each part holds of all of them
pub all_flat_each : {Y : Type 0} (P : Y → Type 0) (n : ℕ) (f : ℕ → List Y) → ((k : ℕ) → k < n → AllByRecursion P (f k)) →
    AllByRecursion P (flat_map f (each n (λ k. k)))
all_flat_each P zero f all = tt
all_flat_each P (suc n) f all =
    subst (λ (ys : List _). AllByRecursion P ys) (sym (flat_map-append f (each n (λ k. k)) (n ∷ [])))
    (all_append P (flat_map f (each n (λ k. k))) (flat_map f (n ∷ []))
    (all_flat_each P n f (λ k less. all k (omega (arith, less))))
    (all_append P (f n) [] (all n (omega arith)) tt))

sent_round_given : (plan : Gates) (p : Party) (g round : ℕ) → g < length plan.gates → p.0 < plan.parties → round < rounds plan g → AllByRecursion (IsGiven plan) (sent_round plan p g round)
sent_round_given plan p g round known member inside =
    all_map (IsGiven plan) (λ to. Message g round p (party to)) (Passes (λ to. is_some (message plan p.0 to g round)) plan.parties)
    (λ to is. sender_is plan g round p.0 known member (omega (arith, inside)))
    (receivers plan p.0 g round) (all_passing (λ to. is_some (message plan p.0 to g round)) plan.parties)

sent_at_given : (plan : Gates) (p : Party) (g : ℕ) → g < length plan.gates → p.0 < plan.parties → AllByRecursion (IsGiven plan) (sent_at plan p g)
sent_at_given plan p g known member =
    all_flat_each (IsGiven plan) (rounds plan g) (sent_round plan p g) (λ round inside. sent_round_given plan p g round known member inside)

sent_given : (plan : Gates) (p : Party) (n : ℕ) → n ≤ length plan.gates → p.0 < plan.parties → AllByRecursion (IsGiven plan) (sent_before plan p n)
sent_given plan p zero within member = tt
sent_given plan p (suc n) within member =
    all_append (IsGiven plan) (sent_before plan p n) (sent_at plan p n) (sent_given plan p n (omega (arith, within)) member) (sent_at_given plan p n (omega (arith, within)) member)

report_given : (plan : Gates) (p : Party) → p.0 < plan.parties → AllByRecursion (IsGiven plan) (report_loads plan p)
report_given plan p member =
    all_append (IsGiven plan) (map (λ g. Wire g p) (told_to plan p.0)) (sent_before plan p (length plan.gates))
    (told_given plan p member) (sent_given plan p (length plan.gates) (omega arith) member)

reports_before_given : (plan : Gates) (n : ℕ) → n ≤ plan.parties → AllByRecursion (IsGiven plan) (reports_loads plan n)
reports_before_given plan zero within = tt
reports_before_given plan (suc n) within =
    all_append (IsGiven plan) (reports_loads plan n) (report_loads plan (party n)) (reports_before_given plan n (omega (arith, within))) (report_given plan (party n) (omega (arith, within)))

pub reports_given : (plan : Gates) → AllByRecursion (IsGiven plan) (reports_loads plan plan.parties)
reports_given plan = reports_before_given plan plan.parties (omega arith)
