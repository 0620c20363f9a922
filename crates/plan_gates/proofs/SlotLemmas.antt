-- All messages to a party, in the order of their slots.
use Rattle.std.proofs.Common.{ℕ, zero, suc, ◌≡◌, ◌<◌, ◌≤◌, ◌*◌, Bool, true, false, List, [], ◌∷◌, ◌++◌, map, length, get_or, Option, Some, None, inl, inr, refl, sym, ◌∙◌, ap, ap₂, subst, arith}
use Rattle.std.specs.Prelude.{slice_get, option_map}
use Rattle.std.specs.List.{AllByRecursion}
use Rattle.std.specs.Option.{unwrap_or}
use Rattle.std.specs.declared.cmp.Ordering.{Ordering}
use Rattle.std.specs.declared.cmp.Ordering.TheVariants.{Less, Equal, Greater}
use Rattle.std.specs.Ordering.{nat_cmp, ordering_then, eq_by_cmp, is_eq}
use Rattle.std.specs.Cmp.{nat_cmp_is}
use Rattle.std.specs.List.Sorted.{IsStrictlySortedBy}
use Rattle.std.proofs.lemmas.Bool.{cases_lt}
use Rattle.std.proofs.lemmas.List.{length-append}
use Rattle.std.proofs.lemmas.Option.{get_or_from_slice_get, slice_get_within}
use Rattle.mot_base.specs.Limits.{most_gates}
use Rattle.message_demux.specs.declared.slots.Slot.{Slot}
use Rattle.message_demux.specs.declared.slots.SlotSpec.{SlotSpec}
use Rattle.message_demux.specs.Slots.{slot_cmp, slot_of, slot_at, listed, IsSlotSpec, IsSlotList}
use Rattle.message_demux.proofs.Places.{slot_same, absent}
use Rattle.message_demux.proofs.Keeping.{listed_at}
use Rattle.mot_base.proofs.Lists.{same_some, before_at, all_append, all_implied}
use Rattle.plan_gates.specs.declared.message.Message.{Message}
use Rattle.plan_gates.specs.Gate.{Gate}
use Rattle.plan_gates.specs.Plan.{Gates, IsPlan}
use Rattle.plan_gates.specs.Messages.{message, messages_at, spec_of, slot_list, slots_in, slots_from, rounds, AreSlotsTo}
use Rattle.plan_gates.proofs.NeedsLemmas.{low-most, low-some}
use Rattle.plan_gates.proofs.MessageLemmas.{Fits, IsSent, gate_fits, is_sent, sent_parts, rounds_are_few}

-- the messages of the senders below a number
abbrev pub slots_before : Gates → ℕ → ℕ → List SlotSpec
slots_before plan to zero = []
slots_before plan to (suc n) = slots_before plan to n ++ slots_from plan n to (length plan.gates)

-- ---- each is a message, and in order

-- a message of the plan, of a sender and at a gate below these numbers
record IsOf (plan : Gates) (to senders gates : ℕ) (s : SlotSpec) : Type 0 where
  sent : message plan s.from.0 to s.gate s.round ≡ Some (record { len = s.len; shape = s.shape })
  sender : s.from.0 < senders
  gate : s.gate < gates

-- of a sender, at a gate and in a round below a number
record IsIn (from g rounds : ℕ) (s : SlotSpec) : Type 0 where
  sender : s.from.0 ≡ from
  gate : s.gate ≡ g
  round : s.round < rounds

of_list : (plan : Gates) (to from g round : ℕ) (o : Option Message) → message plan from to g round ≡ o →
    AllByRecursion (IsOf plan to (suc from) (suc g)) (slot_list from g round o)
of_list plan to from g round None e = tt
of_list plan to from g round (Some m) e = (record { sent = e; sender = omega arith; gate = omega arith }, tt)

of_rounds : (plan : Gates) (to from g n : ℕ) → AllByRecursion (IsOf plan to (suc from) (suc g)) (slots_in plan from to g n)
of_rounds plan to from g zero = tt
of_rounds plan to from g (suc round) =
    all_append (IsOf plan to (suc from) (suc g)) (slots_in plan from to g round) (slot_list from g round (message plan from to g round))
    (of_rounds plan to from g round) (of_list plan to from g round (message plan from to g round) refl)

wider : (plan : Gates) (to senders gates more later : ℕ) → senders ≤ more → gates ≤ later → (s : SlotSpec) →
    IsOf plan to senders gates s → IsOf plan to more later s
wider plan to senders gates more later h k s is =
    let below = is.sender in
    let before = is.gate in
    record { sent = is.sent; sender = omega arith; gate = omega arith }

of_sender : (plan : Gates) (to from n : ℕ) → AllByRecursion (IsOf plan to (suc from) n) (slots_from plan from to n)
of_sender plan to from zero = tt
of_sender plan to from (suc g) =
    all_append (IsOf plan to (suc from) (suc g)) (slots_from plan from to g) (slots_in plan from to g (rounds plan g))
    (all_implied (IsOf plan to (suc from) g) (IsOf plan to (suc from) (suc g))
    (wider plan to (suc from) g (suc from) (suc g) (omega arith) (omega arith)) (slots_from plan from to g) (of_sender plan to from g))
    (of_rounds plan to from g (rounds plan g))

of_senders : (plan : Gates) (to n : ℕ) → AllByRecursion (IsOf plan to n (length plan.gates)) (slots_before plan to n)
of_senders plan to zero = tt
of_senders plan to (suc n) =
    all_append (IsOf plan to (suc n) (length plan.gates)) (slots_before plan to n) (slots_from plan n to (length plan.gates))
    (all_implied (IsOf plan to n (length plan.gates)) (IsOf plan to (suc n) (length plan.gates))
    (wider plan to n (length plan.gates) (suc n) (length plan.gates) (omega arith) (omega arith)) (slots_before plan to n) (of_senders plan to n))
    (of_sender plan to n (length plan.gates))

in_list : (from g round : ℕ) (o : Option Message) → AllByRecursion (IsIn from g (suc round)) (slot_list from g round o)
in_list from g round None = tt
in_list from g round (Some m) = (record { sender = refl; gate = refl; round = omega arith }, tt)

in_rounds : (plan : Gates) (to from g n : ℕ) → AllByRecursion (IsIn from g n) (slots_in plan from to g n)
in_rounds plan to from g zero = tt
in_rounds plan to from g (suc round) =
    all_append (IsIn from g (suc round)) (slots_in plan from to g round) (slot_list from g round (message plan from to g round))
    (all_implied (IsIn from g round) (IsIn from g (suc round))
    (λ s is. record { sender = is.sender; gate = is.gate; round = let h = is.round in omega arith })
    (slots_in plan from to g round) (in_rounds plan to from g round))
    (in_list from g round (message plan from to g round))

-- each is of this sender and of a gate below a number
abbrev IsBelow : ℕ → ℕ → SlotSpec → Type 0
IsBelow from n s = (s.from.0 ≡ from) × (s.gate < n)

below : (plan : Gates) (to from n : ℕ) → AllByRecursion (IsBelow from n) (slots_from plan from to n)
below plan to from zero = tt
below plan to from (suc g) =
    all_append (IsBelow from (suc g)) (slots_from plan from to g) (slots_in plan from to g (rounds plan g))
    (all_implied (IsBelow from g) (IsBelow from (suc g)) (λ s is. (is.0, let h = is.1 in omega arith)) (slots_from plan from to g) (below plan to from g))
    (all_implied (IsIn from g (rounds plan g)) (IsBelow from (suc g)) (λ s is. (is.sender, let h = is.gate in omega arith))
    (slots_in plan from to g (rounds plan g)) (in_rounds plan to from g (rounds plan g)))

-- ---- their order

less : (x y : ℕ) → x < y → nat_cmp x y ≡ Less
less x y h = sym (nat_cmp_is x y Less h)

equal : (x y : ℕ) → x ≡ y → nat_cmp x y ≡ Equal
equal x y h = sym (nat_cmp_is x y Equal h)

earlier_sender : (s t : Slot) → s.from.0 < t.from.0 → slot_cmp s t ≡ Less
earlier_sender s t h = ap (λ o. ordering_then o (ordering_then (nat_cmp s.gate t.gate) (nat_cmp s.round t.round))) (less s.from.0 t.from.0 h)

earlier_gate : (s t : Slot) → s.from.0 ≡ t.from.0 → s.gate < t.gate → slot_cmp s t ≡ Less
earlier_gate s t e h =
    ap₂ (λ o p. ordering_then o (ordering_then p (nat_cmp s.round t.round))) (equal s.from.0 t.from.0 e) (less s.gate t.gate h)

earlier_round : (s t : Slot) → s.from.0 ≡ t.from.0 → s.gate ≡ t.gate → s.round < t.round → slot_cmp s t ≡ Less
earlier_round s t e f h =
    ap₂ (λ o p. ordering_then o (ordering_then p (nat_cmp s.round t.round))) (equal s.from.0 t.from.0 e) (equal s.gate t.gate f)
    ∙ less s.round t.round h

sorted_append : (xs ys : List SlotSpec) → IsStrictlySortedBy slot_cmp (map slot_of xs) → IsStrictlySortedBy slot_cmp (map slot_of ys) →
    AllByRecursion (λ x. AllByRecursion (λ y. slot_cmp (slot_of x) (slot_of y) ≡ Less) ys) xs →
    IsStrictlySortedBy slot_cmp (map slot_of (xs ++ ys))
unfolding IsStrictlySortedBy
sorted_append [] ys f g below = g
sorted_append (x ∷ xs) ys f g below =
    (over xs f.0 below.0, sorted_append xs ys f.1 g below.1)
  where
    mapped : (zs : List SlotSpec) → AllByRecursion (λ y. slot_cmp (slot_of x) (slot_of y) ≡ Less) zs →
        AllByRecursion (λ t. slot_cmp (slot_of x) t ≡ Less) (map slot_of zs)
    mapped [] f = tt
    mapped (z ∷ zs) f = (f.0, mapped zs f.1)

    over : (zs : List SlotSpec) → AllByRecursion (λ t. slot_cmp (slot_of x) t ≡ Less) (map slot_of zs) →
        AllByRecursion (λ y. slot_cmp (slot_of x) (slot_of y) ≡ Less) ys → AllByRecursion (λ t. slot_cmp (slot_of x) t ≡ Less) (map slot_of (zs ++ ys))
    over [] f g = mapped ys g
    over (z ∷ zs) f g = (f.0, over zs f.1 g)

both : {X Y : Type 0} (P : X → Type 0) (Q : Y → Type 0) (R : X → Y → Type 0) → ((x : X) (y : Y) → P x → Q y → R x y) →
    (xs : List X) (ys : List Y) → AllByRecursion P xs → AllByRecursion Q ys → AllByRecursion (λ x. AllByRecursion (R x) ys) xs
both P Q R make [] ys f g = tt
both P Q R make (x ∷ xs) ys f g = (all_implied Q (R x) (λ y q. make x y f.0 q) ys g, both P Q R make xs ys f.1 g)

none_sorted : IsStrictlySortedBy slot_cmp []
unfolding IsStrictlySortedBy
none_sorted = tt

list_sorted : (from g round : ℕ) (o : Option Message) → IsStrictlySortedBy slot_cmp (map slot_of (slot_list from g round o))
unfolding IsStrictlySortedBy
list_sorted from g round None = tt
list_sorted from g round (Some m) = (tt, tt)

sorted_gate : (plan : Gates) (to from g n : ℕ) → IsStrictlySortedBy slot_cmp (map slot_of (slots_in plan from to g n))
sorted_gate plan to from g zero = none_sorted
sorted_gate plan to from g (suc round) =
    sorted_append (slots_in plan from to g round) (slot_list from g round (message plan from to g round))
    (sorted_gate plan to from g round) (list_sorted from g round (message plan from to g round))
    (both (IsIn from g round) (λ s. (s.from.0 ≡ from) × (s.gate ≡ g) × (s.round ≡ round)) (λ s t. slot_cmp (slot_of s) (slot_of t) ≡ Less)
    (λ s t p q. earlier_round (slot_of s) (slot_of t) (p.sender ∙ sym q.0) (p.gate ∙ sym q.1) (let a = p.round in let b = q.2 in omega arith))
    (slots_in plan from to g round) (slot_list from g round (message plan from to g round))
    (in_rounds plan to from g round) (there (message plan from to g round)))
  where
    there : (o : Option Message) →
        AllByRecursion (λ (s : SlotSpec). (s.from.0 ≡ from) × (s.gate ≡ g) × (s.round ≡ round)) (slot_list from g round o)
    there None = tt
    there (Some m) = ((refl, refl, refl), tt)

sorted_sender : (plan : Gates) (to from n : ℕ) → IsStrictlySortedBy slot_cmp (map slot_of (slots_from plan from to n))
sorted_sender plan to from zero = none_sorted
sorted_sender plan to from (suc g) =
    sorted_append (slots_from plan from to g) (slots_in plan from to g (rounds plan g)) (sorted_sender plan to from g)
    (sorted_gate plan to from g (rounds plan g))
    (both (IsBelow from g) (IsIn from g (rounds plan g)) (λ s t. slot_cmp (slot_of s) (slot_of t) ≡ Less)
    (λ s t p q. earlier_gate (slot_of s) (slot_of t) (p.0 ∙ sym q.sender) (let a = p.1 in let b = q.gate in omega arith))
    (slots_from plan from to g) (slots_in plan from to g (rounds plan g))
    (below plan to from g) (in_rounds plan to from g (rounds plan g)))

sorted_senders : (plan : Gates) (to n : ℕ) → IsStrictlySortedBy slot_cmp (map slot_of (slots_before plan to n))
sorted_senders plan to zero = none_sorted
sorted_senders plan to (suc n) =
    sorted_append (slots_before plan to n) (slots_from plan n to (length plan.gates)) (sorted_senders plan to n)
    (sorted_sender plan to n (length plan.gates))
    (both (IsOf plan to n (length plan.gates)) (IsBelow n (length plan.gates)) (λ s t. slot_cmp (slot_of s) (slot_of t) ≡ Less)
    (λ s t p q. earlier_sender (slot_of s) (slot_of t) (let a = p.sender in let b = q.0 in omega arith))
    (slots_before plan to n) (slots_from plan n to (length plan.gates))
    (of_senders plan to n) (below plan to n (length plan.gates)))

-- ---- how many there are

few_list : (from g round : ℕ) (o : Option Message) → length (slot_list from g round o) ≤ 1
few_list from g round None = omega arith
few_list from g round (Some m) = omega arith

few_in : (plan : Gates) (to from g n : ℕ) → length (slots_in plan from to g n) ≤ n
few_in plan to from g zero = omega arith
few_in plan to from g (suc round) =
    let before = few_in plan to from g round in
    let one = few_list from g round (message plan from to g round) in
    let all = length-append (slots_in plan from to g round) (slot_list from g round (message plan from to g round)) in
    omega arith

few_from : (plan : Gates) (to from n : ℕ) → length (slots_from plan from to n) ≤ 3 * n
few_from plan to from zero = omega arith
few_from plan to from (suc g) =
    let before = few_from plan to from g in
    let here = few_in plan to from g (rounds plan g) in
    let few = rounds_are_few plan g in
    let all = length-append (slots_from plan from to g) (slots_in plan from to g (rounds plan g)) in
    omega arith

few_before : (plan : Gates) (to n : ℕ) → length plan.gates ≤ most_gates → length (slots_before plan to n) ≤ n * (3 * most_gates)
few_before plan to zero few = omega arith
few_before plan to (suc n) few =
    let before = few_before plan to n few in
    let more = few_from plan to n (length plan.gates) in
    let all = length-append (slots_before plan to n) (slots_from plan n to (length plan.gates)) in
    omega arith

-- ---- each message is there

record Has (specs : List SlotSpec) (s : SlotSpec) : Type 0 where
  at : ℕ
  there : slice_get specs at ≡ Some s

has_left : (xs ys : List SlotSpec) (s : SlotSpec) → Has xs s → Has (xs ++ ys) s
has_left xs ys s h = record { at = h.at; there = before_at xs ys h.at (slice_get_within xs h.at s h.there) ∙ h.there }

has_right : (xs ys : List SlotSpec) (s : SlotSpec) → Has ys s → Has (xs ++ ys) s
has_right [] ys s h = h
has_right (x ∷ xs) ys s h = let rest = has_right xs ys s h in record { at = suc rest.at; there = rest.there }

has_list : (from g round : ℕ) (o : Option Message) (m : Message) → o ≡ Some m → Has (slot_list from g round o) (spec_of from g round m)
has_list from g round None m e = cc
has_list from g round (Some other) m e = record { at = 0; there = ap (λ x. Some (spec_of from g round x)) (same_some other m e) }

has_round : (plan : Gates) (to from g n round : ℕ) (m : Message) → round < n → message plan from to g round ≡ Some m →
    Has (slots_in plan from to g n) (spec_of from g round m)
has_round plan to from g zero round m h e = absurd (omega arith)
has_round plan to from g (suc n) round m h e = elim (cases_lt round n) [
  | inl small ↦ has_left (slots_in plan from to g n) _ _ (has_round plan to from g n round m small e)
  | inr large ↦
      (let same : n ≡ round = omega arith in
      has_right (slots_in plan from to g n) (slot_list from g n (message plan from to g n)) _
      (subst (λ k. Has (slot_list from k n (message plan from to k n)) (spec_of from k round m)) refl
      (subst (λ k. Has (slot_list from g k (message plan from to g k)) (spec_of from g round m)) (sym same)
      (has_list from g round (message plan from to g round) m e))))
]

has_gate : (plan : Gates) (to from n g round : ℕ) (m : Message) → g < n → round < rounds plan g → message plan from to g round ≡ Some m →
    Has (slots_from plan from to n) (spec_of from g round m)
has_gate plan to from zero g round m h r e = absurd (omega arith)
has_gate plan to from (suc n) g round m h r e = elim (cases_lt g n) [
  | inl small ↦ has_left (slots_from plan from to n) _ _ (has_gate plan to from n g round m small r e)
  | inr large ↦
      (let same : n ≡ g = omega arith in
      has_right (slots_from plan from to n) (slots_in plan from to n (rounds plan n)) _
      (subst (λ k. Has (slots_in plan from to k (rounds plan k)) (spec_of from g round m)) (sym same)
      (has_round plan to from g (rounds plan g) round m r e)))
]

has_sender : (plan : Gates) (to n from g round : ℕ) (m : Message) → from < n → IsSent plan from g round →
    message plan from to g round ≡ Some m → Has (slots_before plan to n) (spec_of from g round m)
has_sender plan to zero from g round m h is e = absurd (omega arith)
has_sender plan to (suc n) from g round m h is e = elim (cases_lt from n) [
  | inl small ↦ has_left (slots_before plan to n) _ _ (has_sender plan to n from g round m small is e)
  | inr large ↦
      (let same : from ≡ n = omega arith in
      has_right (slots_before plan to n) (slots_from plan n to (length plan.gates)) _
      (subst (λ p. Has (slots_from plan p to (length plan.gates)) (spec_of from g round m)) same
      (has_gate plan to from (length plan.gates) g round m is.gate is.round e)))
]

pub message_fits : (plan : Gates) → IsPlan plan → (from to g round : ℕ) (m : Message) → message plan from to g round ≡ Some m → Fits m
message_fits plan valid from to g round m e =
    fits (slice_get plan.gates g) refl (sent_parts plan.parties from to (unwrap_or (slice_get (messages_at plan (slice_get plan.gates g) from to) round) None) m e).1
  where
    fits : (o : Option Gate) → slice_get plan.gates g ≡ o → unwrap_or (slice_get (messages_at plan o from to) round) None ≡ Some m → Fits m
    fits None there e = cc
    fits (Some gate) there e =
        let is = valid.each g gate there in
        let some = valid.some_parties in
        gate_fits plan gate from to round m (omega arith) valid.most_parties is.some_width is.in_width
        (low-some plan valid g gate is) (low-most plan valid gate.kind) e

tied : (o : Ordering) → is_eq o ≡ true → o ≡ Equal
tied Less t = cc
tied Equal t = refl
tied Greater t = cc

-- ---- all messages

pub slots_all : (plan : Gates) → IsPlan plan → (to : ℕ) → AreSlotsTo plan to (slots_before plan to plan.parties)
slots_all plan valid to = record { sorted = lists; each = exactly }
  where
    all : List SlotSpec
    all = slots_before plan to plan.parties

    spec_fits : (s : SlotSpec) → IsOf plan to plan.parties (length plan.gates) s → IsSlotSpec s
    spec_fits s is =
        let fits = message_fits plan valid s.from.0 to s.gate s.round (record { len = s.len; shape = s.shape }) is.sent in
        (fits.some, fits.most, fits.shape)

    lists : IsSlotList all
    lists = record {
      sorted = sorted_senders plan to plan.parties;
      few = let few = few_before plan to plan.parties valid.few in let most = valid.most_parties in omega arith;
      each = all_implied (IsOf plan to plan.parties (length plan.gates)) IsSlotSpec spec_fits all (of_senders plan to plan.parties);
    }

    get_all : (P : SlotSpec → Type 0) (ss : List SlotSpec) (k : ℕ) (d : SlotSpec) → AllByRecursion P ss → k < length ss → P (get_or ss k d)
    get_all P [] k d f h = absurd (omega arith)
    get_all P (s ∷ ss) zero d f h = f.0
    get_all P (s ∷ ss) (suc k) d f h = get_all P ss k d f.1 (omega arith)

    exactly : (from g round : ℕ) → listed all (slot_at (record { 0 = from }) g round) ≡ option_map (spec_of from g round) (message plan from to g round)
    exactly from g round = answer (message plan from to g round) refl
      where
        slot : Slot
        slot = slot_at (record { 0 = from }) g round

        answer : (o : Option Message) → message plan from to g round ≡ o → listed all slot ≡ option_map (spec_of from g round) o
        answer (Some m) e =
            let is = is_sent plan from to g round m e in
            let has = has_sender plan to plan.parties from g round m is.sender is e in
            let within = slice_get_within all has.at (spec_of from g round m) has.there in
            let found = get_or_from_slice_get all has.at (spec_of from g round m) (spec_of from g round m) has.there in
            listed_at all slot has.at (spec_of from g round m) (sorted_senders plan to plan.parties) within (ap slot_of found)
            ∙ ap (λ s. Some s) found
        answer None e = absent all slot (λ k d h. other k d h (eq_by_cmp slot_cmp (slot_of (get_or all k d)) slot) refl)
          where
            other : (k : ℕ) (d : SlotSpec) → k < length all → (b : Bool) → eq_by_cmp slot_cmp (slot_of (get_or all k d)) slot ≡ b → b ≡ false
            other k d h false t = refl
            other k d h true t =
                let same : slot_of (get_or all k d) ≡ slot = slot_same _ _ (tied (slot_cmp (slot_of (get_or all k d)) slot) t) in
                let is = get_all (IsOf plan to plan.parties (length plan.gates)) all k d (of_senders plan to plan.parties) h in
                let sent : message plan from to g round ≡ Some (record { len = (get_or all k d).len; shape = (get_or all k d).shape }) =
                sym (ap (λ (s : Slot). message plan s.from.0 to s.gate s.round) same) ∙ is.sent in
                let contrary = sym e ∙ sent in
                cc
