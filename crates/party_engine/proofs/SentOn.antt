-- What a party of a joint run has sent to each peer is an honest stream of the same run.
use Rattle.std.proofs.Common.{◌≡◌, ◌≢◌, ℕ, zero, suc, ◌+◌, ◌*◌, ◌^◌, ◌<◌, ◌≤◌, eqb, eq-eqb, Bool, true, false, cond, List, [], ◌∷◌, ◌++◌, append-nil, append_assoc, length, map, filter, Option, Some, None, inl, inr, refl, sym, ap, ap₂, subst, ◌∙◌, ◌⊎◌, ◌&&◌, arith}
use Rattle.std.specs.Prelude.{slice_get, is_some, option_map}
use Rattle.std.specs.List.{AllByRecursion, flat_map, range_with_len}
use Rattle.std.proofs.lemmas.Bool.{eqb-true, eqb-false, ne_eqb, cases_lt}
use Rattle.std.proofs.lemmas.List.{length-append}
use Rattle.std.proofs.lemmas.List.Elements.{filter-append}
use Rattle.std.proofs.lemmas.List.FromFn.{length-map-range_with_len, get_or-map-range_with_len}
use Rattle.std.proofs.lemmas.Option.{slice_get-get_or}
use Rattle.mot_base.specs.Limits.{peer_bytes, most_gates}
use Rattle.mot_base.specs.Links.{ByParty, IsPeer}
use Rattle.mot_base.specs.declared.Party.{Party}
use Rattle.mot_base.proofs.Lists.{mapped_some}
use Rattle.share_types.specs.Sums.{each}
use Rattle.frames.specs.Bytes.{canonical, joined, IsPayload}
use Rattle.frames.specs.Reading.{IsBeforeEnd}
use Rattle.frames.specs.declared.frame.Frame.{Frame}
use Rattle.frames.specs.declared.frame.Frame.TheVariants.{Hello, Message, End}
use Rattle.frames.specs.declared.frame.Hello as hello
use Rattle.frames.proofs.Injective.{body_small, canonical_length}
use Rattle.plan_gates.specs.Plan.{IsPlan}
use Rattle.plan_gates.specs.declared.message.Message.{Message as PlanMessage}
use Rattle.plan_gates.specs.Messages.{message}
use Rattle.plan_gates.proofs.MessageLemmas.{is_sent, rounds_are_few}
use Rattle.joint_run.specs.Party.{Inbox, Rounds, Hand, party_sends}
use Rattle.joint_run.specs.Joint.{Payloads}
use Rattle.gate_tasks.specs.declared.outgoing.Out.{Out}
use Rattle.gate_tasks.specs.Stage.{out_to, outs_in, receivers}
use Rattle.peer_streams.specs.declared.run.Run.{Run}
use Rattle.peer_streams.specs.Runs.{hello_of, party, place_in, hellos_from, ends_for}
use Rattle.peer_streams.specs.Sending.{AreSent, frame_bytes, bytes_for}
use Rattle.peer_streams.specs.Streams.{ToSend, IsHonestFrame, AreHonest, IsAmong, IsHonestStream}
use Rattle.party_stages.specs.Following.{Side, me_of, own_of, hand_of}
use Rattle.party_engine.specs.Reporting.{in_round}
use Rattle.party_engine.specs.Run.{at_round, AreAllSaid, sends_to, HasSentHonestly}
use Rattle.party_engine.specs.Saying.{frame_of, bytes_to, bytes_of, at_gate, talk_of, CanSend}
use Rattle.party_engine.proofs.Counted.{total, few_of_all, few_to_one}
use Rattle.party_engine.proofs.Rounds.{by_both}

-- ---- lists of messages

-- one of the messages
abbrev In : Out → List Out → Type 0
In x [] = ⊥
In x (y ∷ ys) = (x ≡ y) ⊎ In x ys

in_left : (x : Out) (xs ys : List Out) → In x xs → In x (xs ++ ys)
in_left x [] ys h = absurd h
in_left x (y ∷ xs) ys (inl is) = inl is
in_left x (y ∷ xs) ys (inr rest) = inr (in_left x xs ys rest)

in_right : (x : Out) (xs ys : List Out) → In x ys → In x (xs ++ ys)
in_right x [] ys h = h
in_right x (y ∷ xs) ys h = inr (in_right x xs ys h)

map_append : (f : ℕ → Out) (xs ys : List ℕ) → map f (xs ++ ys) ≡ map f xs ++ map f ys
map_append f [] ys = refl
map_append f (x ∷ xs) ys = ap (λ zs. f x ∷ zs) (map_append f xs ys)

-- what passes a test is among what passes it
in_passing : (f : ℕ → Out) (test : ℕ → Bool) (q n : ℕ) → q < n → test q ≡ true → In (f q) (map f (filter test (each n (λ k. k))))
in_passing f test q zero less is = absurd (omega (arith, less))
in_passing f test q (suc n) less is =
    subst (λ (outs : List Out). In (f q) outs)
    (sym (ap (map f) (filter-append test (each n (λ k. k)) (n ∷ [])) ∙ map_append f (filter test (each n (λ k. k))) (filter test (n ∷ []))))
    (elim (cases_lt q n) [
      | inl before ↦ in_left (f q) (map f (filter test (each n (λ k. k)))) (map f (filter test (n ∷ []))) (in_passing f test q n before is)
      | inr last ↦ (
          let same : q ≡ n = omega (arith, less, last) in
          let tested : test n ≡ true = ap test (sym same) ∙ is in
          in_right (f q) (map f (filter test (each n (λ k. k)))) (map f (filter test (n ∷ []))) (rw tested (inl (ap f same))))
    ])

-- what is said of each that passes
all_passing : (P : Out → Type 0) (f : ℕ → Out) (test : ℕ → Bool) → ((k : ℕ) → test k ≡ true → P (f k)) → (ks : List ℕ) → AllByRecursion P (map f (filter test ks))
all_passing P f test step [] = tt
all_passing P f test step (k ∷ ks) = by (test k) refl (all_passing P f test step ks)
  where
    by : (c : Bool) → test k ≡ c → AllByRecursion P (map f (filter test ks)) → AllByRecursion P (map f (cond c (k ∷ filter test ks) (filter test ks)))
    by true is rest = (step k is, rest)
    by false is rest = rest

-- what is said of the messages of each gate and round is said of all
kept_on : (P : Out → Type 0) (c : Bool) (x : Out) (xs : List Out) → AllByRecursion P (cond c (x ∷ xs) xs) → AllByRecursion P xs
kept_on P true x xs all = all.1
kept_on P false x xs all = all

all_log : (P : Out → Type 0) (xs : List Out) → ((g r : ℕ) → AllByRecursion P (at_round g r xs)) → AllByRecursion P xs
all_log P [] each_all = tt
all_log P (x ∷ xs) each_all =
    let gates : eqb x.gate x.gate ≡ true = eq-eqb x.gate x.gate refl in
    let rounds : eqb x.round x.round ≡ true = eq-eqb x.round x.round refl in
    let own : AllByRecursion P (x ∷ at_round x.gate x.round xs) = rw (gates, rounds) at (each_all x.gate x.round) in
    (own.0, all_log P xs (λ g r. kept_on P (eqb x.gate g && eqb x.round r) x (at_round g r xs) (each_all g r)))

all_tested : (P : Out → Type 0) (test : Out → Bool) (xs : List Out) → AllByRecursion P xs → AllByRecursion P (filter test xs)
all_tested P test [] all = tt
all_tested P test (x ∷ xs) all = by (test x) (all_tested P test xs all.1)
  where
    by : (c : Bool) → AllByRecursion P (filter test xs) → AllByRecursion P (cond c (x ∷ filter test xs) (filter test xs))
    by true rest = (all.0, rest)
    by false rest = rest

all_weaker : (P Q : Out → Type 0) → ((x : Out) → P x → Q x) → (xs : List Out) → AllByRecursion P xs → AllByRecursion Q xs
all_weaker P Q f [] all = tt
all_weaker P Q f (x ∷ xs) all = (f x all.0, all_weaker P Q f xs all.1)

-- a message of a gate and a round is one of all
in_log : (x : Out) (g r : ℕ) (xs : List Out) → In x (at_round g r xs) → In x xs
in_log x g r [] h = absurd h
in_log x g r (y ∷ xs) h = by (eqb y.gate g && eqb y.round r) (in_log x g r xs) h
  where
    by : (c : Bool) → (In x (at_round g r xs) → In x xs) → In x (cond c (y ∷ at_round g r xs) (at_round g r xs)) → In x (y ∷ xs)
    by true further (inl is) = inl is
    by true further (inr rest) = inr (further rest)
    by false further rest = inr (further rest)

-- ---- the frames to one party

abbrev frames_to : ℕ → List Out → List Frame
frames_to q outs = map frame_of (filter (λ out. eqb out.to.0 q) outs)

bytes_are : (q : ℕ) (xs : List Out) → bytes_of xs q ≡ joined (frames_to q xs)
bytes_are q [] = refl
bytes_are q (x ∷ xs) = by (eqb x.to.0 q) (bytes_are q xs)
  where
    by : (c : Bool) → bytes_of xs q ≡ joined (frames_to q xs) →
        cond c (canonical (frame_of x)) [] ++ bytes_of xs q ≡ joined (map frame_of (cond c (x ∷ filter (λ (out : Out). eqb out.to.0 q) xs) (filter (λ (out : Out). eqb out.to.0 q) xs)))
    by true rest = ap (λ ys. canonical (frame_of x) ++ ys) rest
    by false rest = rest

frames_all : (q : ℕ) (P : Out → Type 0) (Q : Frame → Type 0) → ((x : Out) → P x → x.to.0 ≡ q → Q (frame_of x)) → (xs : List Out) → AllByRecursion P xs → AllByRecursion Q (frames_to q xs)
frames_all q P Q step [] all = tt
frames_all q P Q step (x ∷ xs) all = by (eqb x.to.0 q) refl (frames_all q P Q step xs all.1)
  where
    by : (c : Bool) → eqb x.to.0 q ≡ c → AllByRecursion Q (frames_to q xs) →
        AllByRecursion Q (map frame_of (cond c (x ∷ filter (λ (out : Out). eqb out.to.0 q) xs) (filter (λ (out : Out). eqb out.to.0 q) xs)))
    by true is rest = (step x all.0 (eqb-true x.to.0 q is), rest)
    by false is rest = rest

frames_have : (q : ℕ) (x : Out) (xs : List Out) → In x xs → x.to.0 ≡ q → IsAmong (frame_of x) (frames_to q xs)
frames_have q x [] h to = absurd h
frames_have q x (y ∷ xs) h to = by (eqb y.to.0 q) refl (λ rest. frames_have q x xs rest to) h
  where
    by : (c : Bool) → eqb y.to.0 q ≡ c → (In x xs → IsAmong (frame_of x) (frames_to q xs)) → In x (y ∷ xs) →
        IsAmong (frame_of x) (map frame_of (cond c (y ∷ filter (λ (out : Out). eqb out.to.0 q) xs) (filter (λ (out : Out). eqb out.to.0 q) xs)))
    by true is further (inl same) = inl (ap frame_of same)
    by true is further (inr rest) = inr (further rest)
    by false is further (inl same) = absurd (eqb-false y.to.0 q is (ap (λ (o : Out). o.to.0) (sym same) ∙ to))
    by false is further (inr rest) = further rest

-- ---- what a frame's bytes weigh

abbrev weight : ℕ → Out → ℕ
weight q out = length (bytes_to q out)

abbrev most_frame : ℕ
most_frame = 65546

bytes_weigh : (q : ℕ) (xs : List Out) → length (bytes_of xs q) ≡ total (weight q) xs
bytes_weigh q [] = refl
bytes_weigh q (x ∷ xs) = length-append (bytes_to q x) (bytes_of xs q) ∙ ap (λ n. length (bytes_to q x) + n) (bytes_weigh q xs)

message_weight : (q : ℕ) (x : Out) → x.gate < 2 ^ 32 → IsPayload x.payload → weight q x ≤ cond (eqb x.to.0 q) most_frame 0
message_weight q x small fits = by (eqb x.to.0 q)
  where
    by : (c : Bool) → length (cond c (canonical (frame_of x)) []) ≤ cond c most_frame 0
    by true = (let long = canonical_length (frame_of x) in let body = (body_small (frame_of x) small fits).1 in omega (arith, long, body))
    by false = omega arith

module _ (b : Side) (run : Run) (table : Payloads) (got : Inbox) (log : List Out) (said : AreAllSaid b got log) (plan : IsPlan b.plan)
    (sends_are : (g r to : ℕ) → party_sends b.plan (me_of b) (own_of b) got g r to ≡ table g r (me_of b) to)
    (can : (g round to : ℕ) → is_some (message b.plan (me_of b) to g round) ≡ true → CanSend (place_in run b.own.me) (out_to (hand_of b got g) (got g) round to)) where
  abbrev me : ℕ
  me = me_of b

  -- a message is one that the plan states, with the run's payload
  record IsSaid (x : Out) : Type 0 where
    stated : PlanMessage
    there : message b.plan me x.to.0 x.gate x.round ≡ Some stated
    payload : x.payload ≡ table x.gate x.round me x.to.0
    fits : IsPayload x.payload

  some_stated : (o : Option PlanMessage) → is_some o ≡ true → (m : PlanMessage) × (o ≡ Some m)
  some_stated None e = absurd (let clash : false ≡ true = e in cc)
  some_stated (Some m) e = (m, refl)

  said_one : (g r to : ℕ) → is_some (message b.plan me to g r) ≡ true → IsSaid (out_to (hand_of b got g) (got g) r to)
  said_one g r to some =
      let one = some_stated (message b.plan me to g r) some in
      record { stated = one.0; there = one.1; payload = sends_are g r to; fits = (can g r to some).fits }

  in_outs : (g r : ℕ) → AllByRecursion IsSaid (outs_in (hand_of b got g) (got g) r)
  in_outs g r =
      all_passing IsSaid (out_to (hand_of b got g) (got g) r) (λ to. is_some (message b.plan me to g r)) (said_one g r) (each b.plan.parties (λ p. p))

  all_said : AllByRecursion IsSaid log
  all_said = all_log IsSaid log (λ g r. subst (λ (outs : List Out). AllByRecursion IsSaid outs) (sym (said g r)) (in_outs g r))

  gate_low : (x : Out) → IsSaid x → x.gate < length b.plan.gates
  gate_low x is = (is_sent b.plan me x.to.0 x.gate x.round is.stated is.there).gate

  gate_small : (x : Out) → IsSaid x → x.gate < 2 ^ 32
  gate_small x is = let low = gate_low x is in let few = plan.few in omega (arith, low, few)

  round_low : (x : Out) → IsSaid x → x.round < 3
  round_low x is =
      let low = (is_sent b.plan me x.to.0 x.gate x.round is.stated is.there).round in
      let few = rounds_are_few b.plan x.gate in
      omega (arith, low, few)

  -- ---- few bytes

  round_few : (q g r : ℕ) → total (weight q) (in_round r (at_gate g log)) ≤ most_frame
  round_few q g r =
      let same : in_round r (at_gate g log) ≡ outs_in (hand_of b got g) (got g) r = sym (by_both g r log) ∙ said g r in
      subst (λ (outs : List Out). total (weight q) outs ≤ most_frame) (sym same)
      (few_to_one (weight q) (out_to (hand_of b got g) (got g) r) (λ to. is_some (message b.plan me to g r)) q most_frame
      (λ k some. let is = said_one g r k some in message_weight q (out_to (hand_of b got g) (got g) r k) (gate_small _ is) is.fits)
      b.plan.parties)

  gate_few : (q g : ℕ) → total (weight q) (at_gate g log) ≤ 3 * most_frame
  gate_few q g =
      few_of_all (weight q) (λ out. out.round) most_frame 3 (at_gate g log)
      (all_tested (λ (out : Out). out.round < 3) (λ (out : Out). eqb out.gate g) log (all_weaker IsSaid (λ (out : Out). out.round < 3) round_low log all_said))
      (round_few q g)

  log_few : (q : ℕ) → total (weight q) log ≤ length b.plan.gates * (3 * most_frame)
  log_few q =
      few_of_all (weight q) (λ out. out.gate) (3 * most_frame) (length b.plan.gates) log
      (all_weaker IsSaid (λ (out : Out). out.gate < length b.plan.gates) gate_low log all_said)
      (gate_few q)

  bytes_few : (q : ℕ) → length (bytes_of log q) ≤ most_gates * (3 * most_frame)
  bytes_few q =
      let long = bytes_weigh q log in
      let few = log_few q in
      let gates = plan.few in
      omega (arith, long, few, gates)

  -- ---- the stream to a peer

  module _ (q : ℕ) (inside : q < b.plan.parties) (other : q ≢ me) (id_small : run.id < 2 ^ 64) (circuit_long : length run.circuit ≡ 32) where
    abbrev greeting : hello.Hello
    greeting = hello_of run b.own.me (party q)

    abbrev sends : ToSend
    sends = sends_to b.plan table me q

    abbrev pub stream : List ℕ
    stream = canonical (Hello greeting) ++ (bytes_of log q ++ canonical End)

    framed : (x : Out) → IsSaid x → x.to.0 ≡ q → IsHonestFrame greeting sends (frame_of x)
    framed x is to =
        let stated : message b.plan me q x.gate x.round ≡ Some is.stated = ap (λ (p : ℕ). message b.plan me p x.gate x.round) (sym to) ∙ is.there in
        let payload : table x.gate x.round me q ≡ x.payload = ap (λ (p : ℕ). table x.gate x.round me p) (sym to) ∙ sym is.payload in
        ap (option_map (λ (m : PlanMessage). table x.gate x.round me q)) stated ∙ ap Some payload

    among : (gate round : ℕ) (payload : List ℕ) → sends gate round ≡ Some payload → IsAmong (Message gate round payload) (frames_to q log)
    among gate round payload is =
        let found = mapped_some (λ (m : PlanMessage). table gate round me q) (message b.plan me q gate round) payload is in
        let some : is_some (message b.plan me q gate round) ≡ true = ap is_some found.1 in
        let out = out_to (hand_of b got gate) (got gate) round q in
        let here : In out (outs_in (hand_of b got gate) (got gate) round) =
        in_passing (out_to (hand_of b got gate) (got gate) round) (λ to. is_some (message b.plan me to gate round)) q b.plan.parties inside some in
        let there : In out log = in_log out gate round log (subst (λ (outs : List Out). In out outs) (sym (said gate round)) here) in
        let frame : frame_of out ≡ Message gate round payload = ap (λ (p : List ℕ). Message gate round p) (sends_are gate round q ∙ sym found.2) in
        subst (λ (f : Frame). IsAmong f (frames_to q log)) frame (frames_have q out log there refl)

    pub honest_stream : IsHonestStream greeting sends stream
    honest_stream = record {
      frames = frames_to q log;
      behind = [];
      is = ap (λ ys. canonical (Hello greeting) ++ (ys ++ canonical End)) (bytes_are q log)
          ∙ sym (append_assoc (canonical (Hello greeting)) (joined (frames_to q log)) (canonical End))
          ∙ ap (λ ys. (canonical (Hello greeting) ++ joined (frames_to q log)) ++ ys) (sym (append-nil (canonical End)));
      may_stand = ((id_small, circuit_long), frames_all q IsSaid IsBeforeEnd (λ x is to. (gate_small x is, is.fits)) log all_said);
      honest = frames_all q IsSaid (IsHonestFrame greeting sends) framed log all_said;
      all = among;
      few =
          (let first = canonical_length (Hello greeting) in
          let hello_few = (body_small (Hello greeting) (id_small, circuit_long) tt).1 in
          let last = canonical_length End in
          let end_few = (body_small End tt tt).1 in
          let messages = bytes_few q in
          let outer = length-append (canonical (Hello greeting)) (bytes_of log q ++ canonical End) in
          let inner = length-append (bytes_of log q) (canonical End) in
          omega (arith, first, hello_few, last, end_few, messages, outer, inner));
    }

    -- ---- what was sent

    in_list : (f : ℕ → Frame) → run.parties ≡ b.plan.parties → bytes_for b.own.me.0 (map f (range_with_len 0 run.parties)) q ≡ canonical (f q)
    in_list f parties =
        let long = length-map-range_with_len f 0 run.parties in
        let there = slice_get-get_or (map f (range_with_len 0 run.parties)) q (f q) (omega (arith, long, inside, parties)) in
        let is : slice_get (map f (range_with_len 0 run.parties)) q ≡ Some (f q) =
        there ∙ ap Some (get_or-map-range_with_len f 0 run.parties q q (f q) (omega arith) (omega (arith, inside, parties))) in
        let apart : eqb q b.own.me.0 ≡ false = ne_eqb q b.own.me.0 other in
        rw (apart, is) refl

    pub talk_is : run.parties ≡ b.plan.parties → talk_of run b.own.me log q ≡ stream
    talk_is parties =
        ap₂ (λ (xs ys : List ℕ). xs ++ (bytes_of log q ++ ys)) (in_list (λ to. Hello (hello_of run b.own.me (party to))) parties) (in_list (λ to. End) parties)

  pub sent_honestly : run.parties ≡ b.plan.parties → run.id < 2 ^ 64 → length run.circuit ≡ 32 → (sent : ByParty) (now : Option ByParty) → AreSent (Some sent) now (talk_of run b.own.me log) → HasSentHonestly b run table sent now
  sent_honestly parties id_small circuit_long sent None all = absurd all
  sent_honestly parties id_small circuit_long sent (Some now) all = (
    now,
    refl,
    λ q peer. (
        let inside : q < b.plan.parties = (let less = peer.0 in omega (arith, less, parties)) in
        let other : q ≢ me = peer.1 in (
          stream q inside other id_small circuit_long,
          all q ∙ ap (λ ys. sent q ++ ys) (talk_is q inside other id_small circuit_long parties),
          honest_stream q inside other id_small circuit_long,
        )),
  )
