-- Each edge leads from an item to a later one, or to the end.
use Rattle.std.proofs.Common.{◌≡◌, ◌≢◌, ℕ, zero, suc, ◌+◌, ◌<◌, ◌≤◌, ◌^◌, Bool, true, false, cond, ltb, leb, List, [], ◌∷◌, ◌++◌, length, map, Option, Some, None, inl, inr, ◌⊎◌, refl, sym, ap, ◌∙◌, subst, arith, ⊎_elim}
use Rattle.std.specs.Prelude.{slice_get, get_or, is_some}
use Rattle.std.specs.List.{AllByRecursion, position}
use Rattle.std.proofs.lemmas.Bool.{cases_eq, cases_lt, lt-ltb, false≢true}
use Rattle.std.proofs.lemmas.Bool.Decides.{nat_tests}
use Rattle.std.proofs.lemmas.List.{length-append, length-map, map-append}
use Rattle.std.proofs.lemmas.List.Elements.{filter-append}
use Rattle.std.proofs.lemmas.List.Quantifiers.{position-Some}
use Rattle.std.proofs.lemmas.Option.{slice_get_within}
use Rattle.share_types.specs.Sums.{each}
use Rattle.share_types.proofs.Parties.{length-each}
use Rattle.turn_core.specs.declared.edge.Edge.{Edge}
use Rattle.turn_core.specs.declared.edge.TheConstants.{TERMINAL}
use Rattle.turn_core.specs.Graph.{has_bad_end, goes_back, first_bad_end, first_back}
use Rattle.plan_gates.specs.Plan.{Gates, IsPlan}
use Rattle.plan_gates.specs.Messages.{hears, rounds, awaits, sent_in, message}
use Rattle.plan_gates.proofs.MessageLemmas.{waits, awaits_heard, passing_fewer}
use Rattle.gate_tasks.specs.Stage.{operands_at, senders}
use Rattle.joint_run.proofs.Grown.{there_is}
use Rattle.local_run.specs.declared.item.Item.{Item}
use Rattle.local_run.specs.declared.item.Load.{Load}
use Rattle.local_run.specs.declared.item.Load.TheVariants.{Wire, Message}
use Rattle.local_run.specs.Items.{item, listeners, waiting, items_waiting, items_behind, items_of, items_before, first_item, all_items, place_by, place_of, number_of, IsItem}
use Rattle.local_run.specs.Loads.{party, wires_to, waited_for, loads_to, loads_at, reports_loads, giver, IsGiven, edge_to, edges_before, all_edges}
use Rattle.local_run.proofs.Lists.{passing_found}
use Rattle.local_run.proofs.Numbers.{place_found, number_within, few_items}
use Rattle.local_run.proofs.Valid.{all_map, all_passing, Passes, operands_are_before, wire_given, item_is, reports_given}
use Rattle.mot_base.proofs.Lists.{same_some as some_is, all_append, all_implied as all_more, all_at}

-- ---- each item stands at its number

-- the numbers of the items rise from one on
abbrev NumberedFrom : Gates → ℕ → List Item → Type 0
NumberedFrom plan first [] = Unit {0}
NumberedFrom plan first (i ∷ is) = (number_of plan i ≡ first) × NumberedFrom plan (first + 1) is

numbered_append : (plan : Gates) (first : ℕ) (xs ys : List Item) → NumberedFrom plan first xs → NumberedFrom plan (first + length xs) ys → NumberedFrom plan first (xs ++ ys)
numbered_append plan first [] ys f g = let same : first + 0 ≡ first = omega arith in subst (λ (n : ℕ). NumberedFrom plan n ys) same g
numbered_append plan first (x ∷ xs) ys f g =
    let same : first + suc (length xs) ≡ first + 1 + length xs = omega arith in
    (f.0, numbered_append plan (first + 1) xs ys f.1 (subst (λ (n : ℕ). NumberedFrom plan n ys) same g))

numbered_at : (plan : Gates) (first k : ℕ) (xs : List Item) (i : Item) → NumberedFrom plan first xs → slice_get xs k ≡ Some i → number_of plan i ≡ first + k
numbered_at plan first k [] i numbered there = cc
numbered_at plan first zero (x ∷ xs) i numbered there =
    let same : x ≡ i = some_is x i there in
    let is : number_of plan x ≡ first + 0 = omega (arith, numbered.0) in
    subst (λ (y : Item). number_of plan y ≡ first + 0) same is
numbered_at plan first (suc k) (x ∷ xs) i numbered there =
    let rest = numbered_at plan (first + 1) k xs i numbered.1 there in omega (arith, rest)

firsts_numbered : (plan : Gates) (g n : ℕ) → NumberedFrom plan (first_item plan g) (each n (item g 0))
firsts_numbered plan g zero = tt
firsts_numbered plan g (suc n) =
    let at : first_item plan g + length (each n (item g 0)) ≡ first_item plan g + n = ap (λ (m : ℕ). first_item plan g + m) (length-each n (item g 0)) in
    numbered_append plan (first_item plan g) (each n (item g 0)) (item g 0 n ∷ []) (firsts_numbered plan g n) (sym at, tt)

-- a stage that waits for a round has the number of its place
waiting_number : (plan : Gates) (g round p : ℕ) → round < rounds plan g → hears plan p g round ≡ true →
    number_of plan (waiting plan g round p) ≡ first_item plan g + (plan.parties + (length (items_behind plan g round) + length (listeners plan g round p)))
waiting_number plan g round p inside heard =
    ap (λ (o : Option ℕ). first_item plan g + place_by plan g p o) (awaits_heard plan p g round inside heard)

abbrev behind_from : Gates → ℕ → ℕ → ℕ
behind_from plan g n = first_item plan g + plan.parties + length (items_behind plan g n)

waiting_numbered : (plan : Gates) (g round n : ℕ) → round < rounds plan g → NumberedFrom plan (behind_from plan g round) (map (waiting plan g round) (listeners plan g round n))
waiting_numbered plan g round zero inside = tt
waiting_numbered plan g round (suc n) inside =
    let test : ℕ → Bool = λ p. hears plan p g round in
    let front : List Item = map (waiting plan g round) (listeners plan g round n) in
    let split : listeners plan g round (suc n) ≡ listeners plan g round n ++ cond (test n) (n ∷ []) [] = filter-append test (each n (λ p. p)) (n ∷ []) in
    let both : map (waiting plan g round) (listeners plan g round (suc n)) ≡ front ++ map (waiting plan g round) (cond (test n) (n ∷ []) []) =
    ap (map (waiting plan g round)) split ∙ map-append (waiting plan g round) (listeners plan g round n) (cond (test n) (n ∷ []) []) in
    subst (λ (xs : List Item). NumberedFrom plan (behind_from plan g round) xs) (sym both)
    (numbered_append plan (behind_from plan g round) front (map (waiting plan g round) (cond (test n) (n ∷ []) []))
    (waiting_numbered plan g round n inside) (last (test n) refl))
  where
    last : (b : Bool) → hears plan n g round ≡ b → NumberedFrom plan (behind_from plan g round + length (map (waiting plan g round) (listeners plan g round n))) (map (waiting plan g round) (cond b (n ∷ []) []))
    last true heard = (omega (arith, waiting_number plan g round n inside heard, length-map (listeners plan g round n) (waiting plan g round)), tt)
    last false heard = tt

behind_numbered : (plan : Gates) (g n : ℕ) → n ≤ rounds plan g → NumberedFrom plan (first_item plan g + plan.parties) (items_behind plan g n)
behind_numbered plan g zero within = tt
behind_numbered plan g (suc round) within =
    numbered_append plan (first_item plan g + plan.parties) (items_behind plan g round) (items_waiting plan g round)
    (behind_numbered plan g round (omega (arith, within))) (waiting_numbered plan g round plan.parties (omega (arith, within)))

gate_numbered : (plan : Gates) (g : ℕ) → NumberedFrom plan (first_item plan g) (items_of plan g)
gate_numbered plan g =
    let at : first_item plan g + length (each plan.parties (item g 0)) ≡ first_item plan g + plan.parties = ap (λ (m : ℕ). first_item plan g + m) (length-each plan.parties (item g 0)) in
    numbered_append plan (first_item plan g) (each plan.parties (item g 0)) (items_behind plan g (rounds plan g)) (firsts_numbered plan g plan.parties)
    (subst (λ (m : ℕ). NumberedFrom plan m (items_behind plan g (rounds plan g))) (sym at) (behind_numbered plan g (rounds plan g) (omega arith)))

before_numbered : (plan : Gates) (n : ℕ) → NumberedFrom plan 0 (items_before plan n)
before_numbered plan zero = tt
before_numbered plan (suc n) =
    let at : first_item plan n ≡ 0 + length (items_before plan n) = omega arith in
    numbered_append plan 0 (items_before plan n) (items_of plan n) (before_numbered plan n)
    (subst (λ (m : ℕ). NumberedFrom plan m (items_of plan n)) at (gate_numbered plan n))

pub number_is : (plan : Gates) (k : ℕ) (i : Item) → slice_get (all_items plan) k ≡ Some i → number_of plan i ≡ k
number_is plan k i there = let is = numbered_at plan 0 k (all_items plan) i (before_numbered plan (length plan.gates)) there in omega (arith, is)

-- ---- givers come first

first_later : (plan : Gates) (g n : ℕ) → g ≤ n → first_item plan g ≤ first_item plan n
first_later plan g zero less = let none : g ≡ 0 = omega arith in subst (λ (m : ℕ). first_item plan m ≤ first_item plan 0) (sym none) (omega arith)
first_later plan g (suc n) less =
    ⊎_elim
    (λ (same : g ≡ suc n). subst (λ (m : ℕ). first_item plan m ≤ first_item plan (suc n)) (sym same) (omega arith))
    (λ (other : g ≢ suc n).
    let before = first_later plan g n (omega (arith, less, other)) in
    omega (arith, before, length-append (items_before plan n) (items_of plan n)))
    (cases_eq g (suc n))

-- an item of an earlier gate
earlier_gate : (plan : Gates) (i j : Item) → IsItem plan i → i.gate < j.gate → number_of plan i < number_of plan j
earlier_gate plan i j is less =
    let within = slice_get_within (items_of plan i.gate) (place_of plan i) i (place_found plan i is) in
    let next = first_later plan (suc i.gate) j.gate (omega (arith, less)) in
    omega (arith, within, next, length-append (items_before plan i.gate) (items_of plan i.gate))

-- the stages that wait for a round before this one stand before those that wait for this one
behind_later : (plan : Gates) (g m n : ℕ) → m ≤ n → length (items_behind plan g m) ≤ length (items_behind plan g n)
behind_later plan g m zero less = let none : m ≡ 0 = omega arith in subst (λ (k : ℕ). length (items_behind plan g k) ≤ length (items_behind plan g 0)) (sym none) (omega arith)
behind_later plan g m (suc n) less =
    ⊎_elim
    (λ (same : m ≡ suc n). subst (λ (k : ℕ). length (items_behind plan g k) ≤ length (items_behind plan g (suc n))) (sym same) (omega arith))
    (λ (other : m ≢ suc n).
    let before = behind_later plan g m n (omega (arith, less, other)) in
    omega (arith, before, length-append (items_behind plan g n) (items_waiting plan g n)))
    (cases_eq m (suc n))

-- the stage in which a party sends a round stands before all that wait for it
sender_first : (plan : Gates) (g round q : ℕ) → q < plan.parties → (o : Option ℕ) → awaits plan q g (sent_in plan q g round) ≡ o →
    place_by plan g q o < plan.parties + length (items_behind plan g round)
sender_first plan g round q member None e = omega (arith, member)
sender_first plan g round q member (Some before) e =
    let known = waits plan q g (sent_in plan q g round) before e in
    let less : before < round = below (cases_lt before round) in
    let there = slice_get_within (listeners plan g before plan.parties) (length (listeners plan g before q)) q
    (passing_found (λ p. hears plan p g before) plan.parties q member known.heard) in
    let next = behind_later plan g (suc before) round (omega (arith, less)) in
    let split = length-append (items_behind plan g before) (items_waiting plan g before) in
    let same = length-map (listeners plan g before plan.parties) (waiting plan g before) in
    omega (arith, there, next, split, same)
  where
    below : (before < round) ⊎ (round ≤ before) → before < round
    below (inl less) = less
    below (inr more) =
        let known = waits plan q g (sent_in plan q g round) before e in
        let few = passing_fewer (hears plan q g) round before more in
        absurd (omega (arith, known.behind, few))

sender_before : (plan : Gates) (g round q : ℕ) (i : Item) → q < plan.parties → i.gate ≡ g → awaits plan i.party.0 i.gate i.stage ≡ Some round →
    number_of plan (item g (sent_in plan q g round) q) < number_of plan i
sender_before plan g round q i member same waiting_for =
    let first = sender_first plan g round q member (awaits plan q g (sent_in plan q g round)) refl in
    let here : number_of plan i ≡ first_item plan i.gate + place_by plan i.gate i.party.0 (Some round) = ap (λ (o : Option ℕ). first_item plan i.gate + place_by plan i.gate i.party.0 o) waiting_for in
    let there : first_item plan i.gate + place_by plan i.gate i.party.0 (Some round) ≡ first_item plan g + place_by plan g i.party.0 (Some round) =
    ap (λ (k : ℕ). first_item plan k + place_by plan k i.party.0 (Some round)) same in
    omega (arith, first, here, there)

abbrev ComesFirst : Gates → Item → Load → Type 0
ComesFirst plan i load = number_of plan (giver plan load) < number_of plan i

wires_first : (plan : Gates) (i : Item) → IsPlan plan → IsItem plan i → AllByRecursion (ComesFirst plan i) (wires_to plan i.gate i.party)
wires_first plan i plan_is is =
    all_map (ComesFirst plan i) (λ x. Wire x i.party) (λ x. x < i.gate)
    (λ x less. earlier_gate plan (giver plan (Wire x i.party)) i (wire_given plan x i.party (omega (arith, less, is.gate)) is.party) less)
    (operands_at plan.gates i.gate) (operands_are_before plan i.gate plan_is)

waited_first : (plan : Gates) (i : Item) (o : Option ℕ) → awaits plan i.party.0 i.gate i.stage ≡ o → IsItem plan i → AllByRecursion (ComesFirst plan i) (waited_for plan i.gate i.party o)
waited_first plan i None e is = tt
waited_first plan i (Some round) e is = (
  sender_before plan i.gate round i.party.0 i is.party refl e,
  all_map (ComesFirst plan i) (λ from. Message i.gate round (party from) i.party) (Passes (λ from. is_some (message plan from i.party.0 i.gate round)) plan.parties)
      (λ from passes. sender_before plan i.gate round from i passes.below refl e)
      (senders plan i.party.0 i.gate round) (all_passing (λ from. is_some (message plan from i.party.0 i.gate round)) plan.parties),
)

loads_first : (plan : Gates) (i : Item) → IsPlan plan → IsItem plan i → AllByRecursion (ComesFirst plan i) (loads_to plan i)
loads_first plan i plan_is is =
    all_append (ComesFirst plan i) (wires_to plan i.gate i.party) (waited_for plan i.gate i.party (awaits plan i.party.0 i.gate i.stage))
    (wires_first plan i plan_is is) (waited_first plan i (awaits plan i.party.0 i.gate i.stage) refl is)

-- ---- the tests of a graph

record IsFine (items : ℕ) (e : Edge) : Type 0 where
  ends : has_bad_end items e ≡ false
  ahead : goes_back items e ≡ false

fine_to : (items source target : ℕ) → source < target → target < items → IsFine items (record { source = source; target = target })
fine_to items source target less within = record {
  ends = let from = lt-ltb source items (omega (arith, less, within)) in let into = lt-ltb target items within in rw (from, into) refl;
  ahead = let behind : leb target source ≡ false = grind (arith, nat_tests) in grind (arith, nat_tests);
}

fine_end : (items source : ℕ) → source < items → items < 2 ^ 32 → IsFine items (record { source = source; target = TERMINAL })
fine_end items source within few = record {
  ends = let from = lt-ltb source items within in grind (arith, nat_tests);
  ahead = let into : ltb TERMINAL items ≡ false = grind (arith, nat_tests) in grind (arith, nat_tests);
}

all_both : {X : Type 0} (P Q R : X → Type 0) → ((x : X) → P x → Q x → R x) → (xs : List X) → AllByRecursion P xs → AllByRecursion Q xs → AllByRecursion R xs
all_both P Q R both [] ps qs = tt
all_both P Q R both (x ∷ xs) ps qs = (both x ps.0 qs.0, all_both P Q R both xs ps.1 qs.1)

block_fine : (plan : Gates) (k : ℕ) (o : Option Item) → IsPlan plan → k < length (all_items plan) → slice_get (all_items plan) k ≡ o → AllByRecursion (IsFine (length (all_items plan))) (map (edge_to plan k) (loads_at plan o))
block_fine plan k None is within there = tt
block_fine plan k (Some i) is within there =
    let item_there = item_is plan k i there in
    all_map (IsFine (length (all_items plan))) (edge_to plan k) (ComesFirst plan i)
    (λ load first. let number = number_is plan k i there in fine_to (length (all_items plan)) (number_of plan (giver plan load)) k (omega (arith, first, number)) within)
    (loads_to plan i) (loads_first plan i is item_there)

blocks_fine : (plan : Gates) (n : ℕ) → IsPlan plan → n ≤ length (all_items plan) → AllByRecursion (IsFine (length (all_items plan))) (edges_before plan (all_items plan) n)
blocks_fine plan zero is within = tt
blocks_fine plan (suc n) is within =
    all_append (IsFine (length (all_items plan))) (edges_before plan (all_items plan) n) (map (edge_to plan n) (loads_at plan (slice_get (all_items plan) n)))
    (blocks_fine plan n is (omega (arith, within))) (block_fine plan n (slice_get (all_items plan) n) is (omega (arith, within)) refl)

all_fine : (plan : Gates) → IsPlan plan → AllByRecursion (IsFine (length (all_items plan))) (all_edges plan)
all_fine plan is =
    let few = few_items plan (length plan.gates) is (omega arith) in
    all_append (IsFine (length (all_items plan))) (edges_before plan (all_items plan) (length (all_items plan))) (map (edge_to plan TERMINAL) (reports_loads plan plan.parties))
    (blocks_fine plan (length (all_items plan)) is (omega arith))
    (all_map (IsFine (length (all_items plan))) (edge_to plan TERMINAL) (IsGiven plan)
    (λ load given. fine_end (length (all_items plan)) (number_of plan (giver plan load)) (number_within plan (giver plan load) given) (omega (arith, few)))
    (reports_loads plan plan.parties) (reports_given plan))

-- no place passes a test that no element passes
nowhere_by : (test : Edge → Bool) (es : List Edge) (d : Edge) (o : Option ℕ) → position test es ≡ o → AllByRecursion (λ e. test e ≡ false) es → o ≡ None
nowhere_by test es d None is none = refl
nowhere_by test es d (Some k) is none =
    let found = position-Some test es k d is in
    let fails = all_at (λ (e : Edge). test e ≡ false) es k (get_or es k d) none (there_is es k d found.0) in
    absurd (false≢true (sym fails ∙ found.1))

nowhere : (test : Edge → Bool) (es : List Edge) → AllByRecursion (λ e. test e ≡ false) es → position test es ≡ None
nowhere test es none = nowhere_by test es (record { source = 0; target = 0 }) (position test es) refl none

no_bad_end : (plan : Gates) → IsPlan plan → first_bad_end (length (all_items plan)) (all_edges plan) ≡ None
no_bad_end plan is =
    nowhere (has_bad_end (length (all_items plan))) (all_edges plan)
    (all_more (IsFine (length (all_items plan))) (λ e. has_bad_end (length (all_items plan)) e ≡ false) (λ e fine. fine.ends) (all_edges plan) (all_fine plan is))

none_back : (plan : Gates) → IsPlan plan → first_back (length (all_items plan)) (all_edges plan) ≡ None
none_back plan is =
    nowhere (goes_back (length (all_items plan))) (all_edges plan)
    (all_more (IsFine (length (all_items plan))) (λ e. goes_back (length (all_items plan)) e ≡ false) (λ e fine. fine.ahead) (all_edges plan) (all_fine plan is))

-- so no edge is refused
pub never_bad : (plan : Gates) (items : ℕ) (edges : List Edge) (e : ℕ) → IsPlan plan → items ≡ length (all_items plan) → edges ≡ all_edges plan → first_bad_end items edges ≡ Some e → ⊥
never_bad plan items edges e is many are found =
    let same : first_bad_end items edges ≡ first_bad_end (length (all_items plan)) (all_edges plan) =
    ap (λ (n : ℕ). first_bad_end n edges) many ∙ ap (first_bad_end (length (all_items plan))) are in
    let contrary : Some e ≡ None = sym found ∙ same ∙ no_bad_end plan is in
    cc

pub never_back : (plan : Gates) (items : ℕ) (edges : List Edge) (e : ℕ) → IsPlan plan → items ≡ length (all_items plan) → edges ≡ all_edges plan → first_back items edges ≡ Some e → ⊥
never_back plan items edges e is many are found =
    let same : first_back items edges ≡ first_back (length (all_items plan)) (all_edges plan) =
    ap (λ (n : ℕ). first_back n edges) many ∙ ap (first_back (length (all_items plan))) are in
    let contrary : Some e ≡ None = sym found ∙ same ∙ none_back plan is in
    cc
