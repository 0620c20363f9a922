-- What a stage gives is what the party's equations say.
use Rattle.mot_base.specs.declared.NoMemory.{NoMemory}
use Rattle.std.proofs.Common.{ℕ, zero, suc, ◌≡◌, ◌<◌, ◌+◌, Bool, true, false, cond, not, List, [], ◌∷◌, ◌++◌, length, map, filter, get_or, Option, Some, None, Result, Ok, Err, refl, sym, ◌∙◌, ap, ap₂, subst, arith}
use Rattle.std.specs.Prelude.{◌==◌, slice_get, option_map, is_some, if◌then◌else◌, IfOk}
use Rattle.std.specs.List.{flat_map}
use Rattle.std.specs.Option.{unwrap_or}
use Rattle.std.proofs.lemmas.Bool.{eq-eqb, ne_eqb}
use Rattle.share_types.specs.Sums.{each}
use Rattle.plan_gates.specs.declared.message.Message.{Message}
use Rattle.plan_gates.specs.Gate.{Kind, Gate, InA, InB, operands}
use Rattle.plan_gates.specs.declared.draft.Sizes.{Sizes}
use Rattle.plan_gates.specs.Plan.{Gates, IsPlan, has_keys, sizes_of}
use Rattle.plan_gates.proofs.KeyLemmas.{unkeyed_at}
use Rattle.plan_gates.specs.Messages.{message, messages_of, messages_at, are_two, rounds, stages, awaits, sent_in}
use Rattle.joint_run.specs.Party.{Own, Value, Told, Payload, Hand, Rounds, word_share, vector_share, silence, sends_at, gate_sends, gate_value, round_sends, value_at, WordShare, VectorShare, kept_word, kept_vector, width}
use Rattle.joint_run.specs.Party as party
use Rattle.joint_run.specs.Payload.{word_in, vector_in}
use Rattle.gate_tasks.specs.Stage.{value_of, own_with, hand_in, gate_of, out_to, outs_in, outs_of, formed_in, formed_before, kept_in, carried_to, is_last, rounds_sent, senders, kind_at, operands_of, operands_at, heard_in, IsStage, Gives}
use Rattle.gate_tasks.specs.ByValue.{kind_in, stand, word_at, vector_at, value_from, formed_of, given_of, value_of_stage, hears_at, rounds_heard, is_owned, is_keyed}
use Rattle.gate_tasks.specs.Sending.{out_by, outs_by, first_payload, round_outs, outs_for, kept_for}
use Rattle.gate_tasks.specs.declared.value.Value.{Value as ValueInMemory}
use Rattle.gate_tasks.specs.declared.own.StageEnv.{StageEnv}
use Rattle.gate_tasks.specs.declared.outgoing.Out.{Out}
use Rattle.gate_tasks.specs.declared.stage.StageOut.{StageOut}
use Rattle.gate_tasks.proofs.Hearing.{entry_at, one_round, heard_rounds_are}
use Rattle.gate_tasks.proofs.Giving.{map_filtered, flat_filtered}
use Rattle.gate_tasks.proofs.Staged.{Agree, value_is, formed_is, given_is}
use Rattle.mot_base.proofs.Lists.{nothing_behind as nothing_more, same_some as some_is, some_at as inside_there}

-- ---- the stages of a party

pub kind_here : (plan : Gates) (g : ℕ) (gate : Gate) → slice_get plan.gates g ≡ Some gate → kind_at plan.gates g ≡ Some gate.kind
kind_here plan g gate here = ap (option_map (λ (y : Gate). y.kind)) here

-- a gate of a plan without gates of keys is none of keys
pub not_keyed : (plan : Gates) (g : ℕ) → has_keys plan ≡ false → is_keyed (kind_at plan.gates g) ≡ false
not_keyed plan g unkeyed = by (slice_get plan.gates g) refl
  where
    by : (o : Option Gate) → slice_get plan.gates g ≡ o → is_keyed (option_map (λ (y : Gate). y.kind) o) ≡ false
    by None e = refl
    by (Some gate) e = unkeyed_at plan g gate unkeyed e

abbrev no_rounds : List ℕ
no_rounds = []

module _ (plan : Gates) (me g : ℕ) (valid : IsPlan plan) (unkeyed : has_keys plan ≡ false) (there : g < length plan.gates) (inside : me < plan.parties) where
  abbrev heard : List ℕ
  heard = rounds_heard (kind_at plan.gates g) me

  -- there is one more than rounds in which the party hears something
  stages_are : stages plan me g ≡ 1 + length heard
  stages_are =
      let (gate, here) = inside_there plan.gates g there in
      ap (λ (xs : List ℕ). 1 + length xs)
      (heard_rounds_are plan me g gate valid here inside gate.kind refl (unkeyed_at plan g gate unkeyed here) ∙ sym (ap (λ o. rounds_heard o me) (kind_here plan g gate here)))

  awaits_are : (stage : ℕ) → awaits plan me g (suc stage) ≡ slice_get heard stage
  awaits_are stage =
      let (gate, here) = inside_there plan.gates g there in
      ap (λ (xs : List ℕ). slice_get xs stage)
      (heard_rounds_are plan me g gate valid here inside gate.kind refl (unkeyed_at plan g gate unkeyed here) ∙ sym (ap (λ o. rounds_heard o me) (kind_here plan g gate here)))

  if_long : (b : Bool) → hears_at (kind_at plan.gates g) me ≡ b → length heard ≡ cond b 1 0
  if_long true e = ap (λ b. length (cond b (0 ∷ no_rounds) no_rounds)) e
  if_long false e = ap (λ b. length (cond b (0 ∷ no_rounds) no_rounds)) e

  -- where the first stage is the last one, the party hears nothing
  pub last_silent : (stage : ℕ) → stages plan me g ≡ stage + 1 → stage ≡ 0 → hears_at (kind_at plan.gates g) me ≡ false
  last_silent stage last first = by (hears_at (kind_at plan.gates g) me) refl
    where
      by : (b : Bool) → hears_at (kind_at plan.gates g) me ≡ b → hears_at (kind_at plan.gates g) me ≡ false
      by true e = absurd (omega (arith, stages_are, if_long true e, last, first))
      by false e = e

  -- any other last stage waits for the round in which the party hears something
  pub last_hears : (stage : ℕ) → stages plan me g ≡ stage + 1 → (stage ≡ 0 → ⊥) →
      (hears_at (kind_at plan.gates g) me ≡ true) × (awaits plan me g stage ≡ Some 0)
  last_hears zero last some = absurd (some refl)
  last_hears (suc stage) last some = by (hears_at (kind_at plan.gates g) me) refl
    where
      by : (b : Bool) → hears_at (kind_at plan.gates g) me ≡ b → (hears_at (kind_at plan.gates g) me ≡ true) × (awaits plan me g (suc stage) ≡ Some 0)
      by true e =
          let first : stage ≡ 0 = omega (arith, stages_are, if_long true e, last) in
          (e, awaits_are stage ∙ (ap (slice_get heard) first ∙ ap (λ b. slice_get (cond b (0 ∷ no_rounds) no_rounds) 0) e))
      by false e = absurd (omega (arith, stages_are, if_long false e, last))

  -- where the party hears nothing, there is one stage
  pub silent_alone : (stage : ℕ) → hears_at (kind_at plan.gates g) me ≡ false → stage < stages plan me g → stage ≡ 0
  silent_alone stage silent less = omega (arith, stages_are, if_long false silent, less)

-- ---- a stage

abbrev no_payloads : List Payload
no_payloads = []

owned_silent : (o : Option Kind) (me : ℕ) → is_owned o me ≡ true → hears_at o me ≡ false
owned_silent None me e = refl
owned_silent (Some (InA party k)) me e = ap not e
owned_silent (Some (InB party k at)) me e = ap not e
owned_silent (Some _) me e = cc

-- an input has one round
owned_round : (kind : Kind) (sizes : Sizes) (me : ℕ) → is_owned (Some kind) me ≡ true → length (messages_of kind sizes 0 0) ≡ 1
owned_round (InA party k) sizes me e = refl
owned_round (InB party k at) sizes me e = refl
owned_round _ sizes me e = cc

-- a message is of two parties, and an entry of the table
record IsEntry (parties me to : ℕ) (entry : Option Message) : Type 0 where
  two : are_two parties me to ≡ true
  some : is_some entry ≡ true

entry_of : (parties me to : ℕ) (entry : Option Message) → is_some (if are_two parties me to then entry else None) ≡ true → IsEntry parties me to entry
entry_of parties me to entry e = by (are_two parties me to) refl e
  where
    by : (b : Bool) → are_two parties me to ≡ b → is_some (if b then entry else None) ≡ true → IsEntry parties me to entry
    by true f e = record { two = f; some = e }
    by false f e = cc

module _ (env : StageEnv) (values : List Value) (got : Rounds) (wires : List ValueInMemory) where
  abbrev plan : Gates
  plan = env.plan.now

  abbrev me : ℕ
  me = env.own.now.me.0

  abbrev own : Own
  own = own_with env.own.now env.part.now

  abbrev h : Hand
  h = hand_in env values

  -- the shares of the operands are those of the gates before
  agree : (heard : List Payload) (gate : Gate) → slice_get plan.gates env.gate ≡ Some gate →
      map value_of wires ≡ map (λ x. get_or values x (Told None)) (operands_at plan.gates env.gate) →
      Agree plan me env.gate own values got wires heard gate.kind
  agree heard gate here are i x at = (
    word_there wires i ∙ ap word_share same,
    vector_there wires i ∙ ap vector_share same,
  )
    where
      word_there : (ws : List ValueInMemory) (i : ℕ) → word_at ws i ≡ word_share (get_or (map value_of ws) i (Told None))
      word_there [] i = refl
      word_there (w ∷ ws) zero = refl
      word_there (w ∷ ws) (suc i) = word_there ws i

      vector_there : (ws : List ValueInMemory) (i : ℕ) → vector_at ws i ≡ vector_share (get_or (map value_of ws) i (Told None))
      vector_there [] i = refl
      vector_there (w ∷ ws) zero = refl
      vector_there (w ∷ ws) (suc i) = vector_there ws i

      mapped : (xs : List ℕ) (i : ℕ) → slice_get xs i ≡ Some x → get_or (map (λ y. get_or values y (Told None)) xs) i (Told None) ≡ get_or values x (Told None)
      mapped [] i e = cc
      mapped (y ∷ ys) zero e = ap (λ k. get_or values k (Told None)) (some_is y x e)
      mapped (y ∷ ys) (suc i) e = mapped ys i e

      same : get_or (map value_of wires) i (Told None) ≡ get_or values x (Told None)
      same =
          ap (λ (vs : List Value). get_or vs i (Told None)) (are ∙ ap (λ o. map (λ y. get_or values y (Told None)) (operands_of o)) (kind_here plan env.gate gate here))
          ∙ mapped (operands gate.kind) i at

  -- what a receiver is sent
  record IsSent (gate : Gate) (round to : ℕ) : Type 0 where
    entry : is_some (entry_at (messages_of gate.kind (sizes_of plan gate) me to) round) ≡ true
    payload : round_sends (gate_of h) h got round to ≡ get_or (gate_sends gate.kind h (party.before round got)) round silence to

  sent_there : (gate : Gate) (round to : ℕ) → slice_get plan.gates env.gate ≡ Some gate → is_some (message plan me to env.gate round) ≡ true → IsSent gate round to
  sent_there gate round to here e =
      let is = entry_of plan.parties me to (entry_at (messages_at plan (slice_get plan.gates env.gate) me to) round) e in
      record {
        entry = sym (ap (λ o. is_some (entry_at (messages_at plan o me to) round)) here) ∙ is.some;
        payload = ap₂ (λ b o. if b then get_or (sends_at o h (party.before round got)) round silence to else []) is.two here;
      }

  outs_are : (round : ℕ) (f : ℕ → Payload) → ((to : ℕ) → is_some (message plan me to env.gate round) ≡ true → f to ≡ round_sends (gate_of h) h got round to) →
      outs_by env round f ≡ outs_in h got round
  outs_are round f same =
      map_filtered plan.parties (λ to. is_some (message plan me to env.gate round)) (out_by env round f) (out_to h got round)
      (λ to less e. ap (λ (p : Payload). record { to = record { 0 = to }; gate = env.gate; round = round; payload = p }) (same to e))

  module _ (valid : IsPlan plan) (unkeyed : has_keys plan ≡ false) (there : env.gate < length plan.gates) (inside : me < plan.parties) where
    -- ---- the one stage of an input at its owner

    pub gives_input : (stage : ℕ) (carried : Option (List Payload)) (heard : List Payload) (given : StageOut) →
        is_owned (kind_in env) me ≡ true → stage < stages plan me env.gate → IsStage h got stage wires carried heard →
        given.carried ≡ None → option_map value_of given.value ≡ Some (value_of_stage (kind_in env) (stand env) [] []) →
        given.out ≡ outs_by env 0 (given_of (kind_in env) (stand env)) → Gives h got stage given
    gives_input stage carried heard given owned less is no_carried value outs =
        let (gate, here) = inside_there plan.gates env.gate there in
        let kind = kind_here plan env.gate gate here in
        let silent : hears_at (kind_in env) me ≡ false = owned_silent (kind_in env) me owned in
        let first = silent_alone plan me env.gate valid unkeyed there inside stage silent less in
        let owns : is_owned (Some gate.kind) me ≡ true = sym (ap (λ o. is_owned o me) kind) ∙ owned in
        let last : is_last plan me env.gate 0 ≡ true =
        eq-eqb (stages plan me env.gate) 1 (stages_are plan me env.gate valid unkeyed there inside ∙ ap (λ n. 1 + n) (if_long plan me env.gate valid unkeyed there inside false silent)) in
        let one = one_round plan me env.gate gate valid here inside gate.kind refl (owned_round gate.kind (sizes_of plan gate) me owns) in
        let sent : outs_of h got 0 ≡ outs_in h got 0 =
        ap (λ n. flat_map (outs_in h got) (filter (λ round. sent_in plan me env.gate round == 0) (each n (λ r. r)))) one ∙ nothing_more (outs_in h got 0) in
        subst (λ s. Gives h got s given) (sym first)
        (record {
          sends = outs ∙ (outs_are 0 (given_of (kind_in env) (stand env)) (λ to e.
              ap (λ o. given_of o (stand env) to) kind
              ∙ (given_is plan me env.gate own values got wires [] gate.kind (party.before 0 got) to owns ∙ sym (sent_there gate 0 to here e).payload))
              ∙ sym sent);
          carries = no_carried ∙ sym (ap (λ b. if b then None else Some (formed_before h got 1)) last);
          values = value
              ∙ (ap (λ o. Some (value_of_stage o (stand env) [] [])) kind
              ∙ (ap (λ (v : Value). Some v) (owner_value gate here owns)
              ∙ sym (ap (λ b. if b then Some (value_at (gate_of h) h got) else None) last)));
        })
      where
        owner_value : (gate : Gate) → slice_get plan.gates env.gate ≡ Some gate → is_owned (Some gate.kind) me ≡ true →
            value_of_stage (Some gate.kind) (stand env) [] [] ≡ value_at (gate_of h) h got
        owner_value gate here owns = own_kind gate.kind owns ∙ sym (ap (λ o. value_at o h got) here)
          where
            own_kind : (kind : Kind) → is_owned (Some kind) me ≡ true → value_from kind (stand env) [] [] ≡ gate_value kind h got
            own_kind (InA party k) e =
                ap (λ b. WordShare (cond b (kept_word h k) (word_in (get_or no_payloads 0 []) 0))) e
                ∙ sym (ap (λ b. WordShare (cond b (kept_word h k) (word_in (got 0 party) 0))) e)
            own_kind (InB party k at) e =
                ap (λ b. VectorShare (cond b (kept_vector h k at) (vector_in (width h) (get_or no_payloads 0 []) 0))) e
                ∙ sym (ap (λ b. VectorShare (cond b (kept_vector h k at) (vector_in (width h) (got 0 party) 0))) e)
            own_kind _ e = cc

    -- ---- a stage of any other gate

    -- what is sent in a round is what the equations say
    sent_is : (gate : Gate) (round : ℕ) → slice_get plan.gates env.gate ≡ Some gate → is_owned (kind_in env) me ≡ false →
        map value_of wires ≡ map (λ x. get_or values x (Told None)) (operands_at plan.gates env.gate) →
        round_outs env (formed_of (kind_in env) (stand env) wires) round ≡ outs_in h got round
    sent_is gate round here other wires_are =
        let kind = kind_here plan env.gate gate here in
        let others : is_owned (Some gate.kind) me ≡ false = sym (ap (λ o. is_owned o me) kind) ∙ other in
        outs_are round (λ to. formed_of (kind_in env) (stand env) wires round) (λ to e.
        let sent = sent_there gate round to here e in
        ap (λ o. formed_of o (stand env) wires round) kind
        ∙ (formed_is plan me env.gate own values got wires [] gate.kind (sizes_of plan gate) (party.before round got) round to (agree [] gate here wires_are) others sent.entry (unkeyed_at plan env.gate gate unkeyed here)
        ∙ sym sent.payload))

    -- what all of a stage send, and what is kept of it
    record IsSending (stage : ℕ) : Type 0 where
      outs : outs_for env (formed_of (kind_in env) (stand env) wires) (rounds_sent plan me env.gate stage) ≡ outs_of h got stage
      kept : kept_for env (formed_of (kind_in env) (stand env) wires) (rounds_sent plan me env.gate stage) ≡ kept_in h got stage

    sending_is : (stage : ℕ) (carried : Option (List Payload)) (heard : List Payload) → is_owned (kind_in env) me ≡ false → IsStage h got stage wires carried heard → IsSending stage
    sending_is stage carried heard other is =
        let (gate, here) = inside_there plan.gates env.gate there in
        let test : ℕ → Bool = λ round. sent_in plan me env.gate round == stage in
        record {
          outs = flat_filtered (rounds plan env.gate) test (round_outs env (formed_of (kind_in env) (stand env) wires)) (outs_in h got)
              (λ round less sent. sent_is gate round here other is.wires_are);
          kept = flat_filtered (rounds plan env.gate) test (λ round. first_payload (round_outs env (formed_of (kind_in env) (stand env) wires) round)) (formed_in h got)
              (λ round less sent. ap first_payload (sent_is gate round here other is.wires_are));
        }

    -- a stage that is not the last one
    pub gives_early : (stage : ℕ) (carried : Option (List Payload)) (heard : List Payload) (given : StageOut) →
        is_owned (kind_in env) me ≡ false → stage + 1 < stages plan me env.gate → IsStage h got stage wires carried heard →
        given.out ≡ outs_for env (formed_of (kind_in env) (stand env) wires) (rounds_sent plan me env.gate stage) → given.value ≡ None →
        given.carried ≡ Some (unwrap_or carried [] ++ kept_for env (formed_of (kind_in env) (stand env) wires) (rounds_sent plan me env.gate stage)) →
        Gives h got stage given
    gives_early stage carried heard given other less is outs value carries =
        let sending = sending_is stage carried heard other is in
        let early : is_last plan me env.gate stage ≡ false = ne_eqb (stages plan me env.gate) (stage + 1) (λ same. absurd (omega (arith, less, same))) in
        record {
          sends = outs ∙ sending.outs;
          carries = carries
              ∙ (ap (λ (ps : List Payload). Some ps) (ap₂ (λ (xs ys : List Payload). xs ++ ys) (ap (λ (o : Option (List Payload)). unwrap_or o []) is.carried_is ∙ before_is stage) sending.kept)
              ∙ sym (ap (λ b. if b then None else Some (formed_before h got (suc stage))) early));
          values = ap (option_map value_of) value ∙ sym (ap (λ b. if b then Some (value_at (gate_of h) h got) else None) early);
        }
      where
        before_is : (stage : ℕ) → unwrap_or (carried_to h got stage) [] ≡ formed_before h got stage
        before_is zero = refl
        before_is (suc stage) = refl

    -- the last one
    pub gives_last : (stage : ℕ) (carried : Option (List Payload)) (heard : List Payload) (given : StageOut) →
        is_owned (kind_in env) me ≡ false → stages plan me env.gate ≡ stage + 1 → IsStage h got stage wires carried heard →
        given.out ≡ outs_for env (formed_of (kind_in env) (stand env) wires) (rounds_sent plan me env.gate stage) →
        option_map value_of given.value ≡ Some (value_of_stage (kind_in env) (stand env) wires heard) →
        given.carried ≡ None → Gives h got stage given
    gives_last stage carried heard given other ends is outs value carries =
        let (gate, here) = inside_there plan.gates env.gate there in
        let kind = kind_here plan env.gate gate here in
        let last : is_last plan me env.gate stage ≡ true = eq-eqb (stages plan me env.gate) (stage + 1) ends in
        record {
          sends = outs ∙ (sending_is stage carried heard other is).outs;
          carries = carries ∙ sym (ap (λ b. if b then None else Some (formed_before h got (suc stage))) last);
          values = value
              ∙ (ap (λ o. Some (value_of_stage o (stand env) wires heard)) kind
              ∙ (ap (λ (v : Value). Some v)
              (value_is plan me env.gate own values got wires heard valid gate here inside gate.kind refl (agree heard gate here is.wires_are)
              (λ t. heard_there stage ends is.heard_is (ap (λ o. hears_at o me) kind ∙ t)) (unkeyed_at plan env.gate gate unkeyed here)
              ∙ sym (ap (λ o. value_at o h got) here))
              ∙ sym (ap (λ b. if b then Some (value_at (gate_of h) h got) else None) last)));
        }
      where
        heard_there : (stage : ℕ) → stages plan me env.gate ≡ stage + 1 → heard ≡ heard_in h got (awaits plan me env.gate stage) → hears_at (kind_in env) me ≡ true →
            heard ≡ map (got 0) (senders plan me env.gate 0)
        heard_there zero ends are hears =
            let silent = last_silent plan me env.gate valid unkeyed there inside 0 ends refl in
            let contrary = sym hears ∙ silent in cc
        heard_there (suc stage) ends are hears =
            are ∙ ap (heard_in h got) (last_hears plan me env.gate valid unkeyed there inside (suc stage) ends (λ e. absurd (omega (arith, e)))).1

-- ---- what is known of an answer

module _ (env : StageEnv) (wires : List ValueInMemory) (carried : Option (List Payload)) (heard : List Payload) (valid : IsPlan env.plan.now)
    (unkeyed : has_keys env.plan.now ≡ false) (there : env.gate < length env.plan.now.gates) (inside : env.own.now.me.0 < env.plan.now.parties) where
  abbrev pub GivesAt : ℕ → StageOut → Type 0
  GivesAt stage given =
      (before : List Value) (got : Rounds) → IsStage (hand_in env before) got stage wires carried heard → Gives (hand_in env before) got stage given

  pub input_answer : (stage : ℕ) (r : Result StageOut NoMemory) → is_owned (kind_in env) env.own.now.me.0 ≡ true →
      stage < stages env.plan.now env.own.now.me.0 env.gate → IfOk r (λ given. given.carried ≡ None) →
      IfOk r (λ given. option_map value_of given.value ≡ Some (value_of_stage (kind_in env) (stand env) [] [])) →
      IfOk r (λ given. given.out ≡ outs_by env 0 (given_of (kind_in env) (stand env))) → IfOk r (GivesAt stage)
  input_answer stage (Ok given) owned less carries value outs =
      λ before got is. gives_input env before got wires valid unkeyed there inside stage carried heard given owned less is carries value outs
  input_answer stage (Err e) owned less carries value outs = tt

  abbrev sent : ℕ → List Out
  sent stage = outs_for env (formed_of (kind_in env) (stand env) wires) (rounds_sent env.plan.now env.own.now.me.0 env.gate stage)

  pub early_answer : (stage : ℕ) (kept : List Payload) (out : List Out) (given : StageOut) → is_owned (kind_in env) env.own.now.me.0 ≡ false →
      stage + 1 < stages env.plan.now env.own.now.me.0 env.gate → out ≡ sent stage →
      kept ≡ unwrap_or carried [] ++ kept_for env (formed_of (kind_in env) (stand env) wires) (rounds_sent env.plan.now env.own.now.me.0 env.gate stage) →
      given ≡ record { carried = Some kept; value = None; out = out } → GivesAt stage given
  early_answer stage kept out given other less sends keeps made before got is =
      gives_early env before got wires valid unkeyed there inside stage carried heard given other less is
      (ap (λ (o : StageOut). o.out) made ∙ sends) (ap (λ (o : StageOut). o.value) made) (ap (λ (o : StageOut). o.carried) made ∙ ap (λ (ps : List Payload). Some ps) keeps)

  pub last_answer : (stage : ℕ) (value : ValueInMemory) (out : List Out) (given : StageOut) → is_owned (kind_in env) env.own.now.me.0 ≡ false →
      stages env.plan.now env.own.now.me.0 env.gate ≡ stage + 1 → out ≡ sent stage →
      value_of value ≡ value_of_stage (kind_in env) (stand env) wires heard → given ≡ record { carried = None; value = Some value; out = out } → GivesAt stage given
  last_answer stage value out given other ends sends is made before got at =
      gives_last env before got wires valid unkeyed there inside stage carried heard given other ends at
      (ap (λ (o : StageOut). o.out) made ∙ sends) (ap (λ (o : StageOut). option_map value_of o.value) made ∙ ap (λ (v : Value). Some v) is) (ap (λ (o : StageOut). o.carried) made)
