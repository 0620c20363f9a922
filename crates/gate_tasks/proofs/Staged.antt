-- What a stage computes is what the party's equations say.
use Rattle.std.proofs.Common.{ℕ, zero, suc, ◌≡◌, ◌<◌, ◌+◌, ◌*◌, ◌/◌, ◌%◌, ◌^◌, Bool, true, false, cond, not, List, [], ◌∷◌, map, filter, get_or, Option, Some, None, refl, sym, ◌∙◌, ap, ap₂, subst, arith}
use Rattle.std.specs.Prelude.{◌==◌, slice_get, if◌then◌else◌, bit_xor, is_some, IfSome}
use Rattle.std.proofs.lemmas.Bool.{eqb-false}
use Rattle.share_types.specs.Sums.{total, xor_total, sum_to, xor_to, each, word_sum, word_difference, word_product, part_of_public}
use Rattle.share_types.proofs.Parties.{sum_to_same, xor_to_same}
use Rattle.arithmetic_gmw.specs.Shares as arithmetic
use Rattle.boolean_gmw.specs.Shares as boolean
use Rattle.plan_gates.specs.Gate.{Kind, Gate, InA, ConstA, AddA, SubA, AddConstA, MulConstA, MulA, OutA, InB, ConstB, XorB, XorConstB, SliceB, JoinB, AndB, OutB, operands, party_of, width_at, InOnline, Garble, is_of_keys, ShareAOnline, ShareBOnline, BToA}
use Rattle.plan_gates.specs.declared.message.Message.{Message}
use Rattle.plan_gates.specs.declared.draft.Sizes.{Sizes}
use Rattle.plan_gates.specs.Plan.{Gates, IsPlan}
use Rattle.plan_gates.specs.Messages.{words, vectors, messages_of}
use Rattle.share_types.specs.Wires.{includes}
use Rattle.joint_run.specs.Payload.{word_bytes, word_in, vectors_bytes, vector_in}
use Rattle.joint_run.specs.Party.{Own, Value, WordShare, VectorShare, Told, Payload, Hand, Rounds, hand, word, vector, width, triple, bit_triple, given_word, given_vector, kept_word, kept_vector, opened_word, opened_vector, left_word, right_word, left_vector, right_vector, gate_value, gate_sends, silence}
use Rattle.gate_tasks.specs.Stage.{senders}
use Rattle.gate_tasks.specs.ByValue.{word_at, vector_at, opened_words, opened_vectors, formed, given_out, value_from, hears_at, is_owned}
use Rattle.gate_tasks.specs.declared.value.Value.{Value as ValueInMemory}
use Rattle.joint_run.proofs.Grown.{map_map}
use Rattle.arithmetic_gmw.proofs.Sums.{one_apart}
use Rattle.boolean_gmw.proofs.Xors.{one_apart as xor_apart}
use Rattle.gate_tasks.proofs.Hearing.{entry_at, sends, sum_filtered, xor_filtered, senders_all, senders_one}
use Rattle.mot_base.proofs.Lists.{equal_turned as turned}

-- ---- opened values

flipped : (b : Bool) (x : ℕ) → cond (not b) x 0 ≡ cond b 0 x
flipped true x = refl
flipped false x = refl

abbrev others : ℕ → ℕ → List ℕ
others n me = filter (λ q. not (q == me)) (each n (λ q. q))

sum_of_others : (n me part : ℕ) (w : ℕ → ℕ) → me < n →
    part + total (map w (others n me)) ≡ sum_to n (λ q. if q == me then part else w q)
sum_of_others n me part w inside =
    let apart = one_apart n me part w inside in
    let rest = sum_filtered n (λ q. not (q == me)) w
    ∙ sum_to_same n (λ q. cond (not (q == me)) (w q) 0) (λ q. if q == me then 0 else w q) (λ q h. flipped (q == me) (w q)) in
    let same = sum_to_same n (λ q. if q == me then part else w q) (λ q. if me == q then part else w q) (λ q h. ap (λ b. cond b part (w q)) (turned q me)) in
    omega (arith, apart, rest, same)

xor_of_others : (n me part : ℕ) (w : ℕ → ℕ) → me < n →
    bit_xor part (xor_total (map w (others n me))) ≡ xor_to n (λ q. if q == me then part else w q)
xor_of_others n me part w inside =
    let rest = xor_filtered n (λ q. not (q == me)) w
    ∙ xor_to_same n (λ q. cond (not (q == me)) (w q) 0) (λ q. if q == me then 0 else w q) (λ q h. flipped (q == me) (w q)) in
    let same = xor_to_same n (λ q. if q == me then part else w q) (λ q. if me == q then part else w q) (λ q h. ap (λ b. cond b part (w q)) (turned q me)) in
    ap (bit_xor part) rest ∙ (sym (xor_apart n me part w inside) ∙ sym same)

-- ---- the entry of a round in a list of messages

abbrev no_messages : List (Option Message)
no_messages = []

none_behind : (r : ℕ) → is_some (entry_at no_messages r) ≡ true → ⊥
none_behind zero e = cc
none_behind (suc r) e = cc

is_if : (b : Bool) (m : Message) → is_some (if b then Some m else None) ≡ true → b ≡ true
is_if true m e = refl
is_if false m e = cc

module _ (plan : Gates) (me g : ℕ) (own : Own) (before : List Value) (got : Rounds) (wires : List ValueInMemory) (heard : List Payload) where
  -- the party's place with its values of the gates before, and without
  abbrev h : Hand
  h = hand plan me own g before

  abbrev h0 : Hand
  h0 = hand plan me own g []

  words_opened : (part at : ℕ) → me < plan.parties → heard ≡ map (got 0) (others plan.parties me) →
      opened_words part at heard ≡ opened_word h part (got 0) at
  words_opened part at inside are =
      ap (λ (ps : List Payload). (part + total (map (λ p. word_in p at) ps)) % 2 ^ 64) are
      ∙ (ap (λ ws. (part + total ws) % 2 ^ 64) (map_map (λ (p : Payload). word_in p at) (got 0) (others plan.parties me))
      ∙ ap (λ s. s % 2 ^ 64) (sum_of_others plan.parties me part (λ q. word_in (got 0 q) at) inside))

  vectors_opened : (part at : ℕ) → me < plan.parties → heard ≡ map (got 0) (others plan.parties me) →
      opened_vectors (width h) part at heard ≡ opened_vector h part (got 0) at
  vectors_opened part at inside are =
      ap (λ (ps : List Payload). bit_xor part (xor_total (map (λ p. vector_in (width h) p at) ps))) are
      ∙ (ap (λ ws. bit_xor part (xor_total ws)) (map_map (λ (p : Payload). vector_in (width h) p at) (got 0) (others plan.parties me))
      ∙ xor_of_others plan.parties me part (λ q. vector_in (width h) (got 0 q) at) inside)

  -- the values of the operands are those of the gates before
  abbrev pub Agree : Kind → Type 0
  Agree kind = (i x : ℕ) → slice_get (operands kind) i ≡ Some x → (word_at wires i ≡ word h x) × (vector_at wires i ≡ vector h x)

  module _ (valid : IsPlan plan) (gate : Gate) (here : slice_get plan.gates g ≡ Some gate) (inside : me < plan.parties) where
    -- what a party hears, where it hears something
    abbrev pub Hears : Kind → Type 0
    Hears kind = hears_at (Some kind) me ≡ true → heard ≡ map (got 0) (senders plan me g 0)

    all_heard : (kind : Kind) → gate.kind ≡ kind → ((from : ℕ) → sends kind from me ≡ true) → heard ≡ map (got 0) (senders plan me g 0) →
        heard ≡ map (got 0) (others plan.parties me)
    all_heard kind of all are = are ∙ ap (map (got 0)) (senders_all plan me g gate valid here inside kind of all)

    owner_heard : (kind : Kind) (party : ℕ) → gate.kind ≡ kind → ((from : ℕ) → sends kind from me ≡ (from == party)) →
        party_of kind ≡ Some party → (party == me) ≡ false → heard ≡ map (got 0) (senders plan me g 0) → get_or heard 0 [] ≡ got 0 party
    owner_heard kind party of by_owner named apart are =
        let names : party < plan.parties = subst (λ o. IfSome o (λ p. p < plan.parties)) (ap party_of of ∙ named) (valid.each g gate here).party in
        let alone = senders_one plan me g gate valid here inside kind party of by_owner names (eqb-false party me apart) in
        ap (λ (ps : List Payload). get_or ps 0 []) (are ∙ ap (map (got 0)) alone)

    pub value_is : (kind : Kind) → gate.kind ≡ kind → Agree kind → Hears kind → is_of_keys kind ≡ false → value_from kind h0 wires heard ≡ gate_value kind h got
    value_is (InA party k) of agree hears u = by (party == me) refl
      where
        by : (b : Bool) → (party == me) ≡ b → value_from (InA party k) h0 wires heard ≡ gate_value (InA party k) h got
        by true e =
            ap (λ b. WordShare (cond b (kept_word h0 k) (word_in (get_or heard 0 []) 0))) e
            ∙ sym (ap (λ b. WordShare (cond b (kept_word h k) (word_in (got 0 party) 0))) e)
        by false e =
            ap (λ b. WordShare (cond b (kept_word h0 k) (word_in (get_or heard 0 []) 0))) e
            ∙ (ap (λ (p : Payload). WordShare (word_in p 0)) (owner_heard (InA party k) party of (λ q. refl) refl e (hears (ap not e)))
            ∙ sym (ap (λ b. WordShare (cond b (kept_word h k) (word_in (got 0 party) 0))) e))
    value_is (ConstA c) of agree hears u = refl
    value_is (AddA x y) of agree hears u = ap₂ (λ a b. WordShare (word_sum a b)) (agree 0 x refl).0 (agree 1 y refl).0
    value_is (SubA x y) of agree hears u = ap₂ (λ a b. WordShare (word_difference a b)) (agree 0 x refl).0 (agree 1 y refl).0
    value_is (AddConstA x c) of agree hears u = ap (λ a. WordShare (word_sum a (part_of_public me c))) (agree 0 x refl).0
    value_is (MulConstA x c) of agree hears u = ap (λ a. WordShare (word_product a c)) (agree 0 x refl).0
    value_is (MulA x y) of agree hears u =
        let are = all_heard (MulA x y) of (λ q. refl) (hears refl) in
        ap₂ (λ d e. WordShare (arithmetic.closed_share me (triple h) d e))
        (ap (λ a. opened_words (arithmetic.opened_left a (triple h)) 0 heard) (agree 0 x refl).0 ∙ words_opened (left_word h x) 0 inside are)
        (ap (λ a. opened_words (arithmetic.opened_right a (triple h)) 1 heard) (agree 1 y refl).0 ∙ words_opened (right_word h y) 1 inside are)
    value_is (OutA x to) of agree hears u = by (includes to me) refl
      where
        by : (b : Bool) → includes to me ≡ b → value_from (OutA x to) h0 wires heard ≡ gate_value (OutA x to) h got
        by true e =
            ap (λ b. Told (cond b (Some (opened_words (word_at wires 0) 0 heard)) None)) e
            ∙ (ap (λ n. Told (Some n)) (ap (λ a. opened_words a 0 heard) (agree 0 x refl).0
            ∙ words_opened (word h x) 0 inside (hears e ∙ ap (map (got 0)) (senders_told e)))
            ∙ sym (ap (λ b. Told (cond b (Some (opened_word h (word h x) (got 0) 0)) None)) e))
          where
            senders_told : includes to me ≡ true → senders plan me g 0 ≡ others plan.parties me
            senders_told e = senders_all plan me g gate valid here inside (OutA x to) of (λ q. e)
        by false e =
            ap (λ b. Told (cond b (Some (opened_words (word_at wires 0) 0 heard)) None)) e
            ∙ sym (ap (λ b. Told (cond b (Some (opened_word h (word h x) (got 0) 0)) None)) e)
    value_is (InB party k at) of agree hears u = by (party == me) refl
      where
        by : (b : Bool) → (party == me) ≡ b → value_from (InB party k at) h0 wires heard ≡ gate_value (InB party k at) h got
        by true e =
            ap (λ b. VectorShare (cond b (kept_vector h0 k at) (vector_in (width h) (get_or heard 0 []) 0))) e
            ∙ sym (ap (λ b. VectorShare (cond b (kept_vector h k at) (vector_in (width h) (got 0 party) 0))) e)
        by false e =
            ap (λ b. VectorShare (cond b (kept_vector h0 k at) (vector_in (width h) (get_or heard 0 []) 0))) e
            ∙ (ap (λ (p : Payload). VectorShare (vector_in (width h) p 0)) (owner_heard (InB party k at) party of (λ q. refl) refl e (hears (ap not e)))
            ∙ sym (ap (λ b. VectorShare (cond b (kept_vector h k at) (vector_in (width h) (got 0 party) 0))) e))
    value_is (ConstB c) of agree hears u = refl
    value_is (XorB x y) of agree hears u = ap₂ (λ a b. VectorShare (bit_xor a b)) (agree 0 x refl).1 (agree 1 y refl).1
    value_is (XorConstB x c) of agree hears u = ap (λ a. VectorShare (bit_xor a (part_of_public me c))) (agree 0 x refl).1
    value_is (SliceB x at) of agree hears u = ap (λ a. VectorShare (a / 2 ^ at % 2 ^ width h)) (agree 0 x refl).1
    value_is (JoinB x y) of agree hears u = ap₂ (λ a b. VectorShare (a + 2 ^ width_at plan.gates x * b)) (agree 0 x refl).1 (agree 1 y refl).1
    value_is (AndB x y) of agree hears u =
        let are = all_heard (AndB x y) of (λ q. refl) (hears refl) in
        ap₂ (λ d e. VectorShare (boolean.closed_share me (bit_triple h) d e))
        (ap (λ a. opened_vectors (width h) (boolean.opened_left a (bit_triple h)) 0 heard) (agree 0 x refl).1 ∙ vectors_opened (left_vector h x) 0 inside are)
        (ap (λ a. opened_vectors (width h) (boolean.opened_right a (bit_triple h)) 1 heard) (agree 1 y refl).1 ∙ vectors_opened (right_vector h y) 1 inside are)
    value_is (OutB x to) of agree hears u = by (includes to me) refl
      where
        by : (b : Bool) → includes to me ≡ b → value_from (OutB x to) h0 wires heard ≡ gate_value (OutB x to) h got
        by true e =
            ap (λ b. Told (cond b (Some (opened_vectors (width h) (vector_at wires 0) 0 heard)) None)) e
            ∙ (ap (λ n. Told (Some n)) (ap (λ a. opened_vectors (width h) a 0 heard) (agree 0 x refl).1
            ∙ vectors_opened (vector h x) 0 inside (hears e ∙ ap (map (got 0)) (senders_told e)))
            ∙ sym (ap (λ b. Told (cond b (Some (opened_vector h (vector h x) (got 0) 0)) None)) e))
          where
            senders_told : includes to me ≡ true → senders plan me g 0 ≡ others plan.parties me
            senders_told e = senders_all plan me g gate valid here inside (OutB x to) of (λ q. e)
        by false e =
            ap (λ b. Told (cond b (Some (opened_vectors (width h) (vector_at wires 0) 0 heard)) None)) e
            ∙ sym (ap (λ b. Told (cond b (Some (opened_vector h (vector h x) (got 0) 0)) None)) e)
    value_is _ of agree hears u = cc

  -- what is sent to those to whom something is sent, whatever the round
  pub formed_is : (kind : Kind) (sizes : Sizes) (rounds : Rounds) (round to : ℕ) → Agree kind → is_owned (Some kind) me ≡ false →
      is_some (entry_at (messages_of kind sizes me to) round) ≡ true → is_of_keys kind ≡ false →
      get_or (formed kind h0 wires) round [] ≡ get_or (gate_sends kind h rounds) round silence to
  formed_is (InA party k) sizes rounds zero to agree other e u =
      let owned = turned party me ∙ is_if (me == party) (words 1) e in let contrary = sym other ∙ owned in cc
  formed_is (InA party k) sizes rounds (suc r) to agree other e u = absurd (none_behind r e)
  formed_is (MulA x y) sizes rounds zero to agree other e u =
      ap₂ (λ a b. word_bytes (arithmetic.opened_left a (triple h) ∷ arithmetic.opened_right b (triple h) ∷ [])) (agree 0 x refl).0 (agree 1 y refl).0
  formed_is (MulA x y) sizes rounds (suc r) to agree other e u = absurd (none_behind r e)
  formed_is (OutA x receiver) sizes rounds zero to agree other e u =
      ap (λ a. word_bytes (a ∷ [])) (agree 0 x refl).0
      ∙ sym (ap (λ b. cond b (word_bytes (word h x ∷ [])) []) (is_if (includes receiver to) (words 1) e))
  formed_is (OutA x receiver) sizes rounds (suc r) to agree other e u = absurd (none_behind r e)
  formed_is (InB party k at) sizes rounds zero to agree other e u =
      let owned = turned party me ∙ is_if (me == party) (vectors 1 sizes.width) e in let contrary = sym other ∙ owned in cc
  formed_is (InB party k at) sizes rounds (suc r) to agree other e u = absurd (none_behind r e)
  formed_is (AndB x y) sizes rounds zero to agree other e u =
      ap₂ (λ a b. vectors_bytes (width h) (boolean.opened_left a (bit_triple h) ∷ boolean.opened_right b (bit_triple h) ∷ [])) (agree 0 x refl).1 (agree 1 y refl).1
  formed_is (AndB x y) sizes rounds (suc r) to agree other e u = absurd (none_behind r e)
  formed_is (OutB x receiver) sizes rounds zero to agree other e u =
      ap (λ a. vectors_bytes (width h) (a ∷ [])) (agree 0 x refl).1
      ∙ sym (ap (λ b. cond b (vectors_bytes (width h) (vector h x ∷ [])) []) (is_if (includes receiver to) (vectors 1 sizes.width) e))
  formed_is (OutB x receiver) sizes rounds (suc r) to agree other e u = absurd (none_behind r e)
  formed_is (InOnline party k at m) sizes rounds r to agree other e u = cc
  formed_is (ShareAOnline party x m) sizes rounds r to agree other e u = cc
  formed_is (ShareBOnline party x m) sizes rounds r to agree other e u = cc
  formed_is (Garble x y m) sizes rounds r to agree other e u = cc
  formed_is (BToA x) sizes rounds r to agree other e u = cc
  formed_is _ sizes rounds r to agree other e u = absurd (none_behind r e)

  pub given_is : (kind : Kind) (rounds : Rounds) (to : ℕ) → is_owned (Some kind) me ≡ true →
      given_out kind h0 to ≡ get_or (gate_sends kind h rounds) 0 silence to
  given_is (InA party k) rounds to e = sym (ap (λ b. cond b (word_bytes (given_word h to ∷ [])) []) e)
  given_is (InB party k at) rounds to e = sym (ap (λ b. cond b (vectors_bytes (width h) (given_vector h to ∷ [])) []) e)
  given_is _ rounds to e = cc
