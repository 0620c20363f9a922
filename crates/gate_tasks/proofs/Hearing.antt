-- Who hears whom at a gate.
use Rattle.std.proofs.Common.{ℕ, zero, suc, ◌≡◌, ◌<◌, ◌+◌, Bool, true, false, cond, not, ◌&&◌, List, [], ◌∷◌, ◌++◌, length, map, filter, Option, Some, None, inl, inr, refl, sym, ◌∙◌, ap, ap₂, subst, arith}
use Rattle.std.specs.Prelude.{◌==◌, is_some, slice_get, if◌then◌else◌, bit_xor, IfSome}
use Rattle.std.specs.List.{list_any}
use Rattle.std.specs.Option.{unwrap_or}
use Rattle.std.specs.Int.Bits.{xor_zero_l}
use Rattle.std.proofs.lemmas.Nat.{xor_comm}
use Rattle.std.proofs.lemmas.List.{map-append}
use Rattle.std.proofs.lemmas.List.Elements.{filter-append}
use Rattle.std.proofs.lemmas.Bool.{cases_lt, lt-ltb, eqb-true, eqb-false, eq-eqb, ne_eqb}
use Rattle.share_types.specs.Sums.{total, xor_total, sum_to, xor_to, each}
use Rattle.share_types.proofs.Parties.{total-append, xor_total-append}
use Rattle.plan_gates.specs.declared.message.Message.{Message}
use Rattle.plan_gates.specs.Gate.{Kind, Gate, InA, ConstA, AddA, SubA, AddConstA, MulConstA, MulA, OutA, InB, ConstB, XorB, XorConstB, SliceB, JoinB, AndB, OutB, party_of, InOnline, Garble, is_of_keys, ShareAOnline, ShareBOnline, BToA}
use Rattle.plan_gates.specs.declared.draft.Sizes.{Sizes}
use Rattle.plan_gates.specs.Plan.{Gates, IsPlan, sizes_of}
use Rattle.plan_gates.specs.Messages.{words, vectors, messages_of, messages_at, message, are_two, hears, rounds, heard_rounds}
use Rattle.share_types.specs.Wires.{includes}
use Rattle.plan_gates.proofs.MessageLemmas.{any_here, any_more}
use Rattle.gate_tasks.specs.Stage.{senders}
use Rattle.gate_tasks.specs.ByValue.{hears_at, rounds_heard}
use Rattle.mot_base.proofs.Lists.{and_false}

-- ---- those of the first parties that pass a test

pub filter_next : (q : ℕ → Bool) (n : ℕ) → filter q (each (suc n) (λ k. k)) ≡ filter q (each n (λ k. k)) ++ cond (q n) (n ∷ []) []
filter_next q n = filter-append q (each n (λ k. k)) (n ∷ []) ∙ ap (λ xs. filter q (each n (λ k. k)) ++ xs) (one (q n) refl)
  where
    one : (b : Bool) → q n ≡ b → filter q (n ∷ []) ≡ cond b (n ∷ []) []
    one true e = rw e refl
    one false e = rw e refl

pub filter_same : (n : ℕ) (p q : ℕ → Bool) → ((k : ℕ) → k < n → p k ≡ q k) →
    filter p (each n (λ k. k)) ≡ filter q (each n (λ k. k))
filter_same zero p q same = refl
filter_same (suc n) p q same =
    filter_next p n
    ∙ (ap₂ (λ xs b. xs ++ cond b (n ∷ []) []) (filter_same n p q (λ k h. same k (omega (arith, h)))) (same n (omega arith))
    ∙ sym (filter_next q n))

nothing_more : (xs : List ℕ) → xs ++ [] ≡ xs
nothing_more [] = refl
nothing_more (x ∷ xs) = ap (◌∷◌ x) (nothing_more xs)

pub filter_none : (n : ℕ) → filter (λ k. false) (each n (λ k. k)) ≡ []
filter_none zero = refl
filter_none (suc n) = filter_next (λ k. false) n ∙ (nothing_more (filter (λ k. false) (each n (λ k. k))) ∙ filter_none n)

pub filter_one : (n party : ℕ) → party < n → filter (λ k. k == party) (each n (λ k. k)) ≡ party ∷ []
filter_one zero party h = absurd (omega (arith, h))
filter_one (suc n) party h =
    filter_next (λ k. k == party) n ∙ elim (cases_lt party n) as (λ _. filter (λ k. k == party) (each n (λ k. k)) ++ cond (n == party) (n ∷ []) [] ≡ party ∷ []) [
      | inl small ↦
          (let other : (n == party) ≡ false = ne_eqb n party (λ e. omega (arith, small, e)) in
          ap₂ (λ xs b. xs ++ cond b (n ∷ []) []) (filter_one n party small) other)
      | inr large ↦
          (let same : n ≡ party = omega (arith, h, large) in
          let none : filter (λ k. k == party) (each n (λ k. k)) ≡ [] =
          filter_same n (λ k. k == party) (λ k. false) (λ k less. ne_eqb k party (λ e. omega (arith, same, less, e))) ∙ filter_none n in
          ap₂ (λ xs b. xs ++ cond b (n ∷ []) []) none (eq-eqb n party same) ∙ ap (λ k. k ∷ []) same)
    ]

pub sum_filtered : (n : ℕ) (q : ℕ → Bool) (w : ℕ → ℕ) →
    total (map w (filter q (each n (λ k. k)))) ≡ sum_to n (λ k. cond (q k) (w k) 0)
sum_filtered zero q w = refl
sum_filtered (suc n) q w =
    ap (λ xs. total (map w xs)) (filter_next q n)
    ∙ (ap total (map-append w (filter q (each n (λ k. k))) (cond (q n) (n ∷ []) []))
    ∙ (total-append (map w (filter q (each n (λ k. k)))) (map w (cond (q n) (n ∷ []) []))
    ∙ ap₂ (λ a b. a + b) (sum_filtered n q w) (one (q n))))
  where
    one : (b : Bool) → total (map w (cond b (n ∷ []) [])) ≡ cond b (w n) 0
    one true = omega arith
    one false = refl

pub xor_filtered : (n : ℕ) (q : ℕ → Bool) (w : ℕ → ℕ) →
    xor_total (map w (filter q (each n (λ k. k)))) ≡ xor_to n (λ k. cond (q k) (w k) 0)
xor_filtered zero q w = refl
xor_filtered (suc n) q w =
    ap (λ xs. xor_total (map w xs)) (filter_next q n)
    ∙ (ap xor_total (map-append w (filter q (each n (λ k. k))) (cond (q n) (n ∷ []) []))
    ∙ (xor_total-append (map w (filter q (each n (λ k. k)))) (map w (cond (q n) (n ∷ []) []))
    ∙ ap₂ bit_xor (xor_filtered n q w) (one (q n))))
  where
    one : (b : Bool) → xor_total (map w (cond b (n ∷ []) [])) ≡ cond b (w n) 0
    one true = xor_comm (w n) 0 ∙ xor_zero_l (w n)
    one false = refl

any_same : (n : ℕ) (p : ℕ → Bool) → ((k : ℕ) → k < n → p k ≡ false) → list_any p (each n (λ k. k)) ≡ false
any_same zero p none = refl
any_same (suc n) p none =
    let next : suc n ≡ n + 1 = omega arith in
    ap (λ m. list_any p (each m (λ k. k))) next
    ∙ any_more p n (any_same n p (λ k h. none k (omega (arith, h)))) (none n (omega arith))

-- ---- messages

pub are_apart : (n p q : ℕ) → p < n → q < n → are_two n p q ≡ not (p == q)
are_apart n p q a b = rw (lt-ltb p n a, lt-ltb q n b) refl

-- the one message of a gate, by whether the sender and the receiver have one
pub one_message : (b c : Bool) (m : Message) → is_some (if b then (if c then Some m else None) else None) ≡ (b && c)
one_message true true m = refl
one_message true false m = refl
one_message false true m = refl
one_message false false m = refl

pub a_message : (b : Bool) (m : Message) → is_some (if b then Some m else None) ≡ b
a_message true m = refl
a_message false m = refl

-- ---- whether a party hears something

-- the gate at a place, with its kind
pub record Here (plan : Gates) (g : ℕ) (kind : Kind) : Type 0 where
  pub gate : Gate
  pub there : slice_get plan.gates g ≡ Some gate
  pub of : gate.kind ≡ kind

-- the message of a round, if there is one, and that of the first round
abbrev pub entry_at : List (Option Message) → ℕ → Option Message
entry_at messages round = unwrap_or (slice_get messages round) None

abbrev pub first_of : List (Option Message) → Option Message
first_of messages = entry_at messages 0

pub message_is : (plan : Gates) (from to g : ℕ) (gate : Gate) → slice_get plan.gates g ≡ Some gate →
    message plan from to g 0 ≡ (if are_two plan.parties from to then first_of (messages_of gate.kind (sizes_of plan gate) from to) else None)
message_is plan from to g gate e = ap (λ o. if are_two plan.parties from to then first_of (messages_at plan o from to) else None) e

-- whether a party of that number sends another one something at a gate of a kind
abbrev pub sends : Kind → ℕ → ℕ → Bool
sends (InA party k) from to = from == party
sends (MulA x y) from to = true
sends (OutA x receiver) from to = includes receiver to
sends (InB party k at) from to = from == party
sends (AndB x y) from to = true
sends (OutB x receiver) from to = includes receiver to
sends (InOnline party k at m) from to = to == party
sends (ShareAOnline party x m) from to = to == party
sends (ShareBOnline party x m) from to = to == party
sends (Garble u v m) from to = true
sends (BToA x) from to = true
sends _ from to = false

if_sent : (b c : Bool) (m : Message) → is_some (if b then first_of ((if c then Some m else None) ∷ []) else None) ≡ (b && c)
if_sent true true m = refl
if_sent true false m = refl
if_sent false true m = refl
if_sent false false m = refl

if_sent_first : (b c : Bool) (m : Message) → is_some (if b then (if c then Some m else None) else None) ≡ (b && c)
if_sent_first true true m = refl
if_sent_first true false m = refl
if_sent_first false true m = refl
if_sent_first false false m = refl

always_sent : (b : Bool) (m : Message) → is_some (if b then Some m else None) ≡ (b && true)
always_sent true m = refl
always_sent false m = refl

never_sent : (b : Bool) → is_some (if b then first_of [] else None) ≡ (b && false)
never_sent true = refl
never_sent false = refl

kind_sends : (kind : Kind) (sizes : Sizes) (from to : ℕ) (b : Bool) →
    is_some (if b then first_of (messages_of kind sizes from to) else None) ≡ (b && sends kind from to)
kind_sends (InA party k) sizes from to b = if_sent b (from == party) (words 1)
kind_sends (MulA x y) sizes from to b = always_sent b (words 2)
kind_sends (OutA x receiver) sizes from to b = if_sent b (includes receiver to) (words 1)
kind_sends (InB party k at) sizes from to b = if_sent b (from == party) (vectors 1 sizes.width)
kind_sends (AndB x y) sizes from to b = always_sent b (vectors 2 sizes.width)
kind_sends (OutB x receiver) sizes from to b = if_sent b (includes receiver to) (vectors 1 sizes.width)
kind_sends (InOnline party k at m) sizes from to b = if_sent_first b (to == party) (vectors 1 sizes.width)
kind_sends (ShareAOnline party x m) sizes from to b = if_sent_first b (to == party) (vectors 1 sizes.width)
kind_sends (ShareBOnline party x m) sizes from to b = if_sent_first b (to == party) (vectors 1 sizes.width)
kind_sends (Garble u v m) sizes from to b = always_sent b (vectors 2 sizes.width)
kind_sends (BToA x) sizes from to b = always_sent b (vectors 1 sizes.low)
kind_sends _ sizes from to b = never_sent b

pub sends_is : (plan : Gates) (from to g : ℕ) (gate : Gate) → slice_get plan.gates g ≡ Some gate →
    is_some (message plan from to g 0) ≡ (are_two plan.parties from to && sends gate.kind from to)
sends_is plan from to g gate e =
    ap is_some (message_is plan from to g gate e) ∙ kind_sends gate.kind (sizes_of plan gate) from to (are_two plan.parties from to)

and_true : (b : Bool) → (b && true) ≡ b
and_true true = refl
and_true false = refl

-- a party hears something exactly where the kind says so
module _ (plan : Gates) (me g : ℕ) (gate : Gate) (valid : IsPlan plan) (here : slice_get plan.gates g ≡ Some gate) (inside : me < plan.parties) where
  pub heard_from : (kind : Kind) (from : ℕ) → gate.kind ≡ kind → from < plan.parties →
      is_some (message plan from me g 0) ≡ (not (from == me) && sends kind from me)
  heard_from kind from of h =
      sends_is plan from me g gate here
      ∙ ap₂ (λ b k. b && sends k from me) (are_apart plan.parties from me h inside) of

  someone : (kind : Kind) (from : ℕ) → gate.kind ≡ kind → from < plan.parties → (from ≡ me → ⊥) → sends kind from me ≡ true →
      hears plan me g 0 ≡ true
  someone kind from of h apart e =
      any_here (λ q. is_some (message plan q me g 0)) plan.parties from h
      (heard_from kind from of h ∙ ap₂ (λ a b. not a && b) (ne_eqb from me apart) e)

  -- another party
  abbrev other : ℕ
  other = if me == 0 then 1 else 0

  other_inside : other < plan.parties
  other_inside = by (me == 0)
    where
      by : (b : Bool) → (cond b 1 0) < plan.parties
      by true = let some = valid.some_parties in omega (arith, some)
      by false = let some = valid.some_parties in omega (arith, some)

  other_apart : other ≡ me → ⊥
  other_apart = by (me == 0) refl
    where
      by : (b : Bool) → (me == 0) ≡ b → cond b 1 0 ≡ me → ⊥
      by true e f = let z = eqb-true me 0 e in omega (arith, z, f)
      by false e f = eqb-false me 0 e (sym f)

  by_all : (kind : Kind) → gate.kind ≡ kind → sends kind other me ≡ true → hears plan me g 0 ≡ true
  by_all kind of e = someone kind other of other_inside other_apart e

  no_one : (kind : Kind) → gate.kind ≡ kind →
      ((from : ℕ) → from < plan.parties → (not (from == me) && sends kind from me) ≡ false) → hears plan me g 0 ≡ false
  no_one kind of none = any_same plan.parties (λ q. is_some (message plan q me g 0)) (λ q h. heard_from kind q of h ∙ none q h)

  silent : (kind : Kind) → gate.kind ≡ kind → ((from : ℕ) → sends kind from me ≡ false) → hears plan me g 0 ≡ false
  silent kind of none = no_one kind of (λ q h. ap (λ b. not (q == me) && b) (none q) ∙ and_false (not (q == me)))

  told : (kind : Kind) (b : Bool) → gate.kind ≡ kind → ((from : ℕ) → sends kind from me ≡ b) → hears plan me g 0 ≡ b
  told kind true of e = by_all kind of (e other)
  told kind false of e = silent kind of e

  -- an input is heard by all but its owner
  input : (kind : Kind) (party : ℕ) → gate.kind ≡ kind → ((from : ℕ) → sends kind from me ≡ (from == party)) → party < plan.parties →
      (b : Bool) → (party == me) ≡ b → hears plan me g 0 ≡ not b
  input kind party of is h true e =
      no_one kind of (λ q less. ap (λ b. not (q == me) && b) (is q) ∙ apart q (q == me) refl)
    where
      apart : (q : ℕ) (b : Bool) → (q == me) ≡ b → (not b && (q == party)) ≡ false
      apart q true f = refl
      apart q false f = ne_eqb q party (λ same. eqb-false q me f (same ∙ eqb-true party me e))
  input kind party of is h false e = someone kind party of h (eqb-false party me e) (is party ∙ eq-eqb party party refl)

  pub hears_is : (kind : Kind) → gate.kind ≡ kind → is_of_keys kind ≡ false → hears plan me g 0 ≡ hears_at (Some kind) me
  hears_is (InA party k) of unkeyed =
      let names : party < plan.parties = subst (λ k. IfSome (party_of k) (λ p. p < plan.parties)) of (valid.each g gate here).party in
      input (InA party k) party of (λ q. refl) names (party == me) refl
  hears_is (MulA x y) of unkeyed = told (MulA x y) true of (λ q. refl)
  hears_is (OutA x receiver) of unkeyed = told (OutA x receiver) (includes receiver me) of (λ q. refl)
  hears_is (InB party k at) of unkeyed =
      let names : party < plan.parties = subst (λ k. IfSome (party_of k) (λ p. p < plan.parties)) of (valid.each g gate here).party in
      input (InB party k at) party of (λ q. refl) names (party == me) refl
  hears_is (AndB x y) of unkeyed = told (AndB x y) true of (λ q. refl)
  hears_is (OutB x receiver) of unkeyed = told (OutB x receiver) (includes receiver me) of (λ q. refl)
  hears_is (ConstA c) of unkeyed = told (ConstA c) false of (λ q. refl)
  hears_is (AddA x y) of unkeyed = told (AddA x y) false of (λ q. refl)
  hears_is (SubA x y) of unkeyed = told (SubA x y) false of (λ q. refl)
  hears_is (AddConstA x c) of unkeyed = told (AddConstA x c) false of (λ q. refl)
  hears_is (MulConstA x c) of unkeyed = told (MulConstA x c) false of (λ q. refl)
  hears_is (ConstB c) of unkeyed = told (ConstB c) false of (λ q. refl)
  hears_is (XorB x y) of unkeyed = told (XorB x y) false of (λ q. refl)
  hears_is (XorConstB x c) of unkeyed = told (XorConstB x c) false of (λ q. refl)
  hears_is (SliceB x at) of unkeyed = told (SliceB x at) false of (λ q. refl)
  hears_is (JoinB x y) of unkeyed = told (JoinB x y) false of (λ q. refl)
  hears_is _ of unkeyed = cc

  -- ---- the rounds in which a party hears

  rounds_are : (kind : Kind) → gate.kind ≡ kind → rounds plan g ≡ length (messages_of kind (sizes_of plan gate) 0 0)
  rounds_are kind of =
      ap (λ o. length (messages_at plan o 0 0)) here ∙ ap (λ k. length (messages_of k (sizes_of plan gate) 0 0)) of

  pub one_round : (kind : Kind) → gate.kind ≡ kind → length (messages_of kind (sizes_of plan gate) 0 0) ≡ 1 → rounds plan g ≡ 1
  one_round kind of one = rounds_are kind of ∙ one

  in_one : (kind : Kind) → gate.kind ≡ kind → is_of_keys kind ≡ false → length (messages_of kind (sizes_of plan gate) 0 0) ≡ 1 →
      heard_rounds plan me g ≡ rounds_heard (Some kind) me
  in_one kind of unkeyed one =
      ap (λ n. filter (hears plan me g) (each n (λ r. r))) (one_round kind of one)
      ∙ alone (hears_at (Some kind) me) (hears_is kind of unkeyed)
    where
      alone : (b : Bool) → hears plan me g 0 ≡ b → filter (hears plan me g) (0 ∷ []) ≡ cond b (0 ∷ []) []
      alone true e = rw e refl
      alone false e = rw e refl

  in_none : (kind : Kind) → gate.kind ≡ kind → length (messages_of kind (sizes_of plan gate) 0 0) ≡ 0 →
      heard_rounds plan me g ≡ []
  in_none kind of none = ap (λ n. filter (hears plan me g) (each n (λ r. r))) (rounds_are kind of ∙ none)

  pub heard_rounds_are : (kind : Kind) → gate.kind ≡ kind → is_of_keys kind ≡ false → heard_rounds plan me g ≡ rounds_heard (Some kind) me
  heard_rounds_are (InA party k) of unkeyed = in_one (InA party k) of unkeyed refl
  heard_rounds_are (MulA x y) of unkeyed = in_one (MulA x y) of unkeyed refl
  heard_rounds_are (OutA x receiver) of unkeyed = in_one (OutA x receiver) of unkeyed refl
  heard_rounds_are (InB party k at) of unkeyed = in_one (InB party k at) of unkeyed refl
  heard_rounds_are (AndB x y) of unkeyed = in_one (AndB x y) of unkeyed refl
  heard_rounds_are (OutB x receiver) of unkeyed = in_one (OutB x receiver) of unkeyed refl
  heard_rounds_are (ConstA c) of unkeyed = in_none (ConstA c) of refl
  heard_rounds_are (AddA x y) of unkeyed = in_none (AddA x y) of refl
  heard_rounds_are (SubA x y) of unkeyed = in_none (SubA x y) of refl
  heard_rounds_are (AddConstA x c) of unkeyed = in_none (AddConstA x c) of refl
  heard_rounds_are (MulConstA x c) of unkeyed = in_none (MulConstA x c) of refl
  heard_rounds_are (ConstB c) of unkeyed = in_none (ConstB c) of refl
  heard_rounds_are (XorB x y) of unkeyed = in_none (XorB x y) of refl
  heard_rounds_are (XorConstB x c) of unkeyed = in_none (XorConstB x c) of refl
  heard_rounds_are (SliceB x at) of unkeyed = in_none (SliceB x at) of refl
  heard_rounds_are (JoinB x y) of unkeyed = in_none (JoinB x y) of refl
  heard_rounds_are _ of unkeyed = cc

  -- who sends at a gate at which all send to those who hear
  pub senders_all : (kind : Kind) → gate.kind ≡ kind → ((from : ℕ) → sends kind from me ≡ true) →
      senders plan me g 0 ≡ filter (λ q. not (q == me)) (each plan.parties (λ q. q))
  senders_all kind of all =
      filter_same plan.parties (λ q. is_some (message plan q me g 0)) (λ q. not (q == me))
      (λ q h. heard_from kind q of h ∙ (ap (λ b. not (q == me) && b) (all q) ∙ and_true (not (q == me))))

  -- and at an input of another party
  pub senders_one : (kind : Kind) (party : ℕ) → gate.kind ≡ kind → ((from : ℕ) → sends kind from me ≡ (from == party)) →
      party < plan.parties → (party ≡ me → ⊥) → senders plan me g 0 ≡ party ∷ []
  senders_one kind party of is h apart =
      filter_same plan.parties (λ q. is_some (message plan q me g 0)) (λ q. q == party)
      (λ q less. heard_from kind q of less ∙ (ap (λ b. not (q == me) && b) (is q) ∙ alone q (q == party) refl))
      ∙ filter_one plan.parties party h
    where
      alone : (q : ℕ) (b : Bool) → (q == party) ≡ b → (not (q == me) && b) ≡ b
      alone q true e = ap (λ c. not c && true) (ne_eqb q me (λ same. apart (sym (eqb-true q party e) ∙ same)))
      alone q false e = and_false (not (q == me))
