-- What is known of the payloads for which a stage waits.
use Rattle.std.proofs.Common.{ℕ, zero, suc, ◌≡◌, ◌<◌, ◌≤◌, ◌+◌, ◌*◌, ◌^◌, Bool, true, false, ◌||◌, List, [], ◌∷◌, length, take, drop, filter, get_or, Option, Some, None, refl, sym, ◌∙◌, ap, subst, arith}
use Rattle.std.specs.Prelude.{All, slice_get, option_map, is_some, nat_le, if◌then◌else◌}
use Rattle.std.specs.List.{list_any}
use Rattle.std.proofs.lemmas.List.{drop-drop}
use Rattle.byteorder.specs.Numbers.{big_from-take}
use Rattle.byteorder.specs.Endian.{big_number}
use Rattle.message_demux.specs.Slots.{vector_bytes, overflows, has_high_bits}
use Rattle.message_demux.specs.Slots as slots
use Rattle.plan_gates.specs.declared.message.Message.{Message}
use Rattle.plan_gates.specs.Gate.{Kind, Gate, width_at, InA, MulA, OutA, InB, AndB, OutB}
use Rattle.plan_gates.specs.declared.draft.Sizes.{Sizes}
use Rattle.plan_gates.specs.Plan.{Gates, sizes_of}
use Rattle.plan_gates.specs.Messages.{words, vectors, messages_of, message, are_two}
use Rattle.share_types.specs.Wires.{includes}
use Rattle.plan_gates.proofs.MessageLemmas.{gate_there}
use Rattle.share_types.specs.Sums.{each}
use Rattle.joint_run.specs.Payload.{vector_in}
use Rattle.joint_run.specs.Party.{Payload}
use Rattle.gate_tasks.specs.Stage.{AreAwaited, HasShape, senders, kind_at}
use Rattle.gate_tasks.specs.ByValue.{words_heard, vectors_heard}
use Rattle.joint_run.proofs.Grown.{there_is}
use Rattle.gate_tasks.proofs.Operands.{its_width}
use Rattle.gate_tasks.proofs.Hearing.{first_of, message_is}
use Rattle.std.proofs.lemmas.Bool.Decides.{nat_tests}
use Rattle.std.specs.Prelude.{◌==◌, IfSome}
use Rattle.std.proofs.lemmas.Bool.{eqb-false}
use Rattle.plan_gates.specs.Plan.{IsPlan}
use Rattle.plan_gates.specs.Gate.{party_of}
use Rattle.gate_tasks.proofs.Hearing.{sends, senders_one}
use Rattle.mot_base.proofs.Lists.{same_some as some_is}

pub passes : {X : Type 0} (q : X → Bool) (xs : List X) (i : ℕ) (x : X) → slice_get (filter q xs) i ≡ Some x → q x ≡ true
passes q [] i x e = cc
passes q (y ∷ ys) i x e = by (q y) refl i e (λ j. passes q ys j x)
  where
    by : (b : Bool) → q y ≡ b → (j : ℕ) → slice_get (filter q (y ∷ ys)) j ≡ Some x →
        ((k : ℕ) → slice_get (filter q ys) k ≡ Some x → q x ≡ true) → q x ≡ true
    by true f zero g rest = let one : Some y ≡ Some x = (rw f refl) ∙ g in subst (λ z. q z ≡ true) (some_is y x one) f
    by true f (suc j) g rest = let more : slice_get (filter q ys) j ≡ slice_get (filter q (y ∷ ys)) (suc j) = rw f refl in rest j (more ∙ g)
    by false f j g rest = let more : slice_get (filter q ys) j ≡ slice_get (filter q (y ∷ ys)) j = rw f refl in rest j (more ∙ g)

-- a payload with the message for which it stands
record Stands (plan : Gates) (me g : ℕ) (payload : Payload) : Type 0 where
  from : ℕ
  m : Message
  sent : message plan from me g 0 ≡ Some m
  shape : HasShape m payload

stands : (plan : Gates) (me g : ℕ) (payloads : List Payload) (i : ℕ) (payload : Payload) → AreAwaited plan me g (Some 0) payloads →
    i < length payloads → slice_get payloads i ≡ Some payload → Stands plan me g payload
stands plan me g payloads i payload are h found =
    let within : i < length (senders plan me g 0) = subst (λ n. i < n) are.count h in
    let from = get_or (senders plan me g 0) i 0 in
    let at = there_is (senders plan me g 0) i 0 within in
    by from at (message plan from me g 0) refl (passes (λ q. is_some (message plan q me g 0)) (each plan.parties (λ q. q)) i from at)
  where
    by : (from : ℕ) → slice_get (senders plan me g 0) i ≡ Some from → (o : Option Message) → message plan from me g 0 ≡ o →
        is_some (message plan from me g 0) ≡ true → Stands plan me g payload
    by from at None e f = let none = ap is_some (sym e) ∙ f in cc
    by from at (Some m) e f = record { from = from; m = m; sent = e; shape = are.shapes 0 i from m payload refl at e found }

one_given : (b c : Bool) (given m : Message) → (if b then first_of ((if c then Some given else None) ∷ []) else None) ≡ Some m → m ≡ given
one_given true true given m e = sym (some_is given m e)
one_given true false given m e = cc
one_given false c given m e = cc

always_given : (b : Bool) (given m : Message) → (if b then first_of (Some given ∷ []) else None) ≡ Some m → m ≡ given
always_given true given m e = sym (some_is given m e)
always_given false given m e = cc

words_sent : (kind : Kind) (sizes : Sizes) (from to : ℕ) (b : Bool) (m : Message) → 0 < words_heard (Some kind) →
    (if b then first_of (messages_of kind sizes from to) else None) ≡ Some m → m ≡ words (words_heard (Some kind))
words_sent (InA party k) sizes from to b m h e = one_given b (from == party) (words 1) m e
words_sent (MulA x y) sizes from to b m h e = always_given b (words 2) m e
words_sent (OutA x receiver) sizes from to b m h e = one_given b (includes receiver to) (words 1) m e
words_sent _ sizes from to b m h e = absurd (omega (arith, h))

vectors_sent : (kind : Kind) (sizes : Sizes) (from to : ℕ) (b : Bool) (m : Message) → 0 < vectors_heard (Some kind) →
    (if b then first_of (messages_of kind sizes from to) else None) ≡ Some m → m ≡ vectors (vectors_heard (Some kind)) sizes.width
vectors_sent (InB party k at) sizes from to b m h e = one_given b (from == party) (vectors 1 sizes.width) m e
vectors_sent (AndB x y) sizes from to b m h e = always_given b (vectors 2 sizes.width) m e
vectors_sent (OutB x receiver) sizes from to b m h e = one_given b (includes receiver to) (vectors 1 sizes.width) m e
vectors_sent _ sizes from to b m h e = absurd (omega (arith, h))

-- the vectors of a payload without high bits are small
first_small : (w : ℕ) (bytes : List ℕ) → overflows w (take (vector_bytes w) bytes) ≡ false → big_number (vector_bytes w) bytes < 2 ^ w
first_small w bytes e =
    let read = big_from-take 0 (vector_bytes w) (vector_bytes w) bytes (omega arith) in
    subst (λ n. n < 2 ^ w) read (below (2 ^ w) (big_number (vector_bytes w) (take (vector_bytes w) bytes)) e)
  where
    below : (a b : ℕ) → nat_le a b ≡ false → b < a
    below a b e = grind (arith, nat_tests)

or_left : (a b : Bool) → (a || b) ≡ false → a ≡ false
or_left true b e = e
or_left false b e = refl

or_right : (a b : Bool) → (a || b) ≡ false → b ≡ false
or_right true b e = cc
or_right false b e = e

small_at : (w count at : ℕ) (bytes : List ℕ) → at < count → list_any (overflows w) (slots.vectors count (vector_bytes w) bytes) ≡ false →
    big_number (vector_bytes w) (drop (vector_bytes w * at) bytes) < 2 ^ w
small_at w zero at bytes h e = absurd (omega (arith, h))
small_at w (suc count) zero bytes h e =
    let start : vector_bytes w * 0 ≡ 0 = omega arith in
    subst (λ k. big_number (vector_bytes w) (drop k bytes) < 2 ^ w) (sym start)
    (first_small w bytes (or_left (overflows w (take (vector_bytes w) bytes)) _ e))
small_at w (suc count) (suc at) bytes h e =
    let next : vector_bytes w + vector_bytes w * at ≡ vector_bytes w * suc at = omega arith in
    let rest = small_at w count at (drop (vector_bytes w) bytes) (omega (arith, h)) (or_right (overflows w (take (vector_bytes w) bytes)) _ e) in
    subst (λ k. big_number (vector_bytes w) (drop k bytes) < 2 ^ w) next
    (subst (λ xs. big_number (vector_bytes w) xs < 2 ^ w) (drop-drop (vector_bytes w * at) (vector_bytes w) bytes) rest)

module _ (plan : Gates) (me g : ℕ) (payloads : List Payload) (are : AreAwaited plan me g (Some 0) payloads) where
  -- the message of each payload, by the kind of the gate
  its_message : (gate : Gate) (payload : Payload) → slice_get plan.gates g ≡ Some gate → (s : Stands plan me g payload) →
      (if are_two plan.parties s.from me then first_of (messages_of gate.kind (sizes_of plan gate) s.from me) else None) ≡ Some s.m
  its_message gate payload here s = sym (message_is plan s.from me g gate here) ∙ s.sent

  pub words_inside : (kind : Kind) (at : ℕ) → kind_at plan.gates g ≡ Some kind → at < words_heard (Some kind) →
      All (λ payload. 8 * at + 8 ≤ length payload) payloads
  words_inside kind at is few i d h =
      let (gate, here, of) = gate_there plan.gates g kind is in
      let s = stands plan me g payloads i (get_or payloads i d) are h (there_is payloads i d h) in
      let count = ap (λ k. words_heard (Some k)) of in
      let message_is = words_sent gate.kind (sizes_of plan gate) s.from me (are_two plan.parties s.from me) s.m (omega (arith, few, count)) (its_message gate _ here s) in
      let long = s.shape.0 ∙ ap (λ (m : Message). m.len) message_is in
      omega (arith, long, count, few)

  pub vectors_inside : (kind : Kind) (at : ℕ) → kind_at plan.gates g ≡ Some kind → at < vectors_heard (Some kind) →
      All (λ payload. vector_bytes (width_at plan.gates g) * at + vector_bytes (width_at plan.gates g) ≤ length payload) payloads
  vectors_inside kind at is few i d h =
      let (gate, here, of) = gate_there plan.gates g kind is in
      let s = stands plan me g payloads i (get_or payloads i d) are h (there_is payloads i d h) in
      let count = ap (λ k. vectors_heard (Some k)) of in
      let message_is = vectors_sent gate.kind (sizes_of plan gate) s.from me (are_two plan.parties s.from me) s.m (omega (arith, few, count)) (its_message gate _ here s) in
      let long = s.shape.0 ∙ ap (λ (m : Message). m.len) message_is in
      let wide = its_width plan.gates g gate.width (ap (option_map (λ (y : Gate). y.width)) here) in
      let fits = times_more (vector_bytes gate.width) at (vectors_heard (Some gate.kind)) (omega (arith, few, count)) in
      subst (λ w. vector_bytes w * at + vector_bytes w ≤ length (get_or payloads i d)) (sym wide) (subst (λ n. vector_bytes gate.width * at + vector_bytes gate.width ≤ n) (sym long) fits)
    where
      times_more : (b a n : ℕ) → a < n → b * a + b ≤ n * b
      times_more b a zero h = absurd (omega (arith, h))
      times_more b zero (suc n) h = omega arith
      times_more b (suc a) (suc n) h = let rest = times_more b a n (omega (arith, h)) in omega (arith, rest)

  pub vectors_small : (kind : Kind) (at : ℕ) → kind_at plan.gates g ≡ Some kind → at < vectors_heard (Some kind) →
      All (λ payload. vector_in (width_at plan.gates g) payload at < 2 ^ width_at plan.gates g) payloads
  vectors_small kind at is few i d h =
      let (gate, here, of) = gate_there plan.gates g kind is in
      let payload = get_or payloads i d in
      let s = stands plan me g payloads i payload are h (there_is payloads i d h) in
      let count = ap (λ k. vectors_heard (Some k)) of in
      let message_is = vectors_sent gate.kind (sizes_of plan gate) s.from me (are_two plan.parties s.from me) s.m (omega (arith, few, count)) (its_message gate _ here s) in
      let low = ap (λ (m : Message). has_high_bits m.shape payload) (sym message_is) ∙ s.shape.1 in
      let wide = its_width plan.gates g gate.width (ap (option_map (λ (y : Gate). y.width)) here) in
      subst (λ w. vector_in w payload at < 2 ^ w) (sym wide) (small_at gate.width (vectors_heard (Some gate.kind)) at payload (omega (arith, few, count)) low)

-- an input of another party is heard of its owner alone
pub input_alone : (plan : Gates) (me g : ℕ) (kind : Kind) (party : ℕ) → IsPlan plan → kind_at plan.gates g ≡ Some kind →
    ((from : ℕ) → sends kind from me ≡ (from == party)) → party_of kind ≡ Some party → me < plan.parties → (party == me) ≡ false →
    senders plan me g 0 ≡ party ∷ []
input_alone plan me g kind party valid is by_owner named inside apart =
    let (gate, here, of) = gate_there plan.gates g kind is in
    let names : party < plan.parties =
    subst (λ o. IfSome o (λ p. p < plan.parties)) (ap party_of of ∙ named) (valid.each g gate here).party in
    senders_one plan me g gate valid here inside kind party of by_owner names (eqb-false party me apart)

pub one_payload : (plan : Gates) (me g party : ℕ) (payloads : List Payload) → AreAwaited plan me g (Some 0) payloads →
    senders plan me g 0 ≡ party ∷ [] → length payloads ≡ 1
one_payload plan me g party payloads are alone = are.count ∙ ap (λ (xs : List ℕ). length xs) alone

-- the first payload
pub first_is : (payloads : List Payload) (p : Payload) → 0 < length payloads → p ≡ get_or payloads 0 p → p ≡ get_or payloads 0 []
first_is [] p h is = absurd (omega (arith, h))
first_is (q ∷ rest) p h is = is
