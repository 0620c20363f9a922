-- What a stage gives is what the edges from its item carry.
use Rattle.std.proofs.Common.{◌≡◌, ℕ, zero, suc, ◌+◌, ◌-◌, ◌<◌, Bool, true, false, cond, eqb, List, [], ◌∷◌, length, Option, Some, None, refl, sym, ap, ◌∙◌, subst, arith}
use Rattle.std.specs.Prelude.{slice_get, option_map, is_some, IfSome, IsSome}
use Rattle.std.specs.List.{AllByRecursion, flat_map}
use Rattle.std.proofs.lemmas.Bool.{eq-eqb, ne_eqb}
use Rattle.mot_base.specs.declared.Party.{Party}
use Rattle.message_demux.specs.Slots.{has_high_bits}
use Rattle.plan_gates.specs.Gate.{Gate}
use Rattle.plan_gates.specs.declared.message.Message.{Message as Sent}
use Rattle.plan_gates.specs.Plan.{Gates, IsPlan, has_keys}
use Rattle.plan_gates.specs.Messages.{hears, stages, rounds, heard_rounds, sent_in, message}
use Rattle.plan_gates.proofs.MessageLemmas.{is_sent, awaits_heard}
use Rattle.gate_tasks.specs.declared.value.Value.{Value as ValueInMemory}
use Rattle.gate_tasks.specs.declared.outgoing.Out.{Out}
use Rattle.gate_tasks.specs.declared.stage.StageOut.{StageOut}
use Rattle.joint_run.specs.Party.{Own, Payload, Hand, Rounds, party_value, round_sends, value_at}
use Rattle.joint_run.specs.Joint.{Payloads, column, sent_by, IsJoint}
use Rattle.joint_run.specs.Honest.{own_at, nobody}
use Rattle.joint_run.specs.Laws.{length_of}
use Rattle.gate_tasks.specs.Stage.{value_of, gate_of, out_to, outs_in, outs_of, rounds_sent, receivers, is_last, value_on, formed_before, carried_to, IsOf, HasShape}
use Rattle.joint_run.proofs.Grown.{there_is}
use Rattle.joint_run.proofs.Lengths.{payloads_have_their_lengths}
use Rattle.joint_run.proofs.Narrow.{payloads_have_their_shapes}
use Rattle.std.proofs.lemmas.Option.{slice_get_within}
use Rattle.local_run.specs.declared.item.Load.{Load}
use Rattle.local_run.specs.declared.item.Load.TheVariants.{Wire, Kept, Message}
use Rattle.local_run.specs.declared.cargo.Cargo.{Cargo}
use Rattle.local_run.specs.declared.cargo.Cargo.TheVariants as cargo
use Rattle.local_run.specs.Loads.{giver, IsGiven}
use Rattle.local_run.specs.Meaning.{place_in, IsMeant, IsTo, Sends, HasCargo, IsCargo, HasRun}
use Rattle.local_run.proofs.Lists.{at_left, at_right, passing_found}
use Rattle.local_run.proofs.Valid.{all_map}
use Rattle.mot_base.proofs.Lists.{same_some as some_is, all_append, mapped_at as mapped, all_at}

-- ---- all messages of a stage

pub all_trivial : {X : Type 0} (xs : List X) → AllByRecursion (λ _. Unit {0}) xs
all_trivial [] = tt
all_trivial (x ∷ xs) = (tt, all_trivial xs)

all_flat : {X Y : Type 0} (P : Y → Type 0) (f : X → List Y) → ((x : X) → AllByRecursion P (f x)) → (xs : List X) → AllByRecursion P (flat_map f xs)
all_flat P f all [] = tt
all_flat P f all (x ∷ xs) = all_append P (f x) (flat_map f xs) (all x) (all_flat P f all xs)

-- each has what the party sends in its round to its receiver
abbrev IsSentIn : Hand → Rounds → Out → Type 0
IsSentIn h got o = o.payload ≡ round_sends (gate_of h) h got o.round o.to.0

outs_are : (h : Hand) (got : Rounds) (stage : ℕ) → AllByRecursion (IsSentIn h got) (outs_of h got stage)
outs_are h got stage =
    all_flat (IsSentIn h got) (outs_in h got)
    (λ round. all_map (IsSentIn h got) (out_to h got round) (λ _. Unit {0}) (λ to _. refl) (receivers h.plan h.me h.gate round) (all_trivial (receivers h.plan h.me h.gate round)))
    (rounds_sent h.plan h.me h.gate stage)

-- what is found in one of the lists is found in all of them together
pub record IsFound {Y : Type 0} (ys : List Y) (y : Y) : Type 0 where
  pub at : ℕ
  pub there : slice_get ys at ≡ Some y

in_flat : {X Y : Type 0} (f : X → List Y) (xs : List X) (i j : ℕ) (x : X) (y : Y) → slice_get xs i ≡ Some x → slice_get (f x) j ≡ Some y → IsFound (flat_map f xs) y
in_flat f [] i j x y there here = cc
in_flat {Y = Y} f (w ∷ xs) zero j x y there here =
    let same = some_is w x there in
    record { at = j; there = at_left (f w) (flat_map f xs) j y (subst (λ v. slice_get (f v) j ≡ Some y) (sym same) here) }
in_flat f (w ∷ xs) (suc i) j x y there here =
    let rest = in_flat f xs i j x y there here in
    record { at = length (f w) + rest.at; there = at_right (f w) (flat_map f xs) rest.at y rest.there }

-- ---- what is sent in a stage

-- an edge that carries what is kept is at a party that receives, and one that carries a payload has one
abbrev pub IsReal : Gates → Load → Type 0
IsReal plan (Wire g p) = Unit {0}
IsReal plan (Kept g round p) = (round < rounds plan g) × (hears plan p.0 g round ≡ true)
IsReal plan (Message g round from to) = (to.0 < plan.parties) × (is_some (message plan from.0 to.0 g round) ≡ true)

-- where there is a message, the gate has the round
round_there : (plan : Gates) (g round from to : ℕ) (o : Option Sent) → message plan from to g round ≡ o → is_some o ≡ true → round < rounds plan g
round_there plan g round from to None there some = cc
round_there plan g round from to (Some m) there some = (is_sent plan from to g round m there).round

out_found : (h : Hand) (got : Rounds) (round to : ℕ) → to < h.plan.parties → is_some (message h.plan h.me to h.gate round) ≡ true →
    IsFound (outs_of h got (sent_in h.plan h.me h.gate round)) (out_to h got round to)
out_found h got round to member sent =
    let inside = round_there h.plan h.gate round h.me to (message h.plan h.me to h.gate round) refl sent in
    let stage = sent_in h.plan h.me h.gate round in
    let receiver = passing_found (λ q. is_some (message h.plan h.me q h.gate round)) h.plan.parties to member sent in
    let of_stage = passing_found (λ r. eqb (sent_in h.plan h.me h.gate r) stage) (rounds h.plan h.gate) round inside (eq-eqb stage stage refl) in
    in_flat (outs_in h got) (rounds_sent h.plan h.me h.gate stage) _ _ round (out_to h got round to) of_stage
    (mapped (out_to h got round) (receivers h.plan h.me h.gate round) _ to receiver)

-- ---- in a joint run

module _ (plan : Gates) (owns : List Own) (valid : IsPlan plan) (unkeyed : has_keys plan ≡ false) (count : length owns ≡ plan.parties) where
  pub sent_is : (table : Payloads) → IsJoint plan owns table → (g round from to : ℕ) → from < plan.parties →
      round_sends (slice_get plan.gates g) (place_in plan owns table from g) (column table from g) round to ≡ table g round from to
  sent_is table joint g round from to known =
      let there = there_is owns from nobody (omega (arith, known, count)) in
      let here : table g round from to ≡ sent_by plan from (Some (own_at owns from)) (column table from) g round to =
      joint g round from to ∙ ap (λ (o : Option Own). sent_by plan from o (column table from) g round to) there in
      sym here

  -- ---- values

  last_value : (p g : ℕ) (h : Hand) (got : Rounds) → h.plan ≡ plan → h.me ≡ p → h.gate ≡ g → value_on h got (stages plan p g - 1) ≡ Some (value_at (gate_of h) h got)
  last_value p g h got plan_is me_is gate_is =
      let same : stages h.plan h.me h.gate ≡ stages plan p g =
      ap (λ (x : Gates). stages x h.me h.gate) plan_is ∙ ap (λ (q : ℕ). stages plan q h.gate) me_is ∙ ap (stages plan p) gate_is in
      let last : is_last h.plan h.me h.gate (stages plan p g - 1) ≡ true = eq-eqb (stages h.plan h.me h.gate) (stages plan p g - 1 + 1) (omega (arith, same)) in
      ap (λ (b : Bool). cond b (Some (value_at (gate_of h) h got)) None) last

  value_given : (table : Payloads) (g : ℕ) (p : Party) (given : StageOut) → IsJoint plan owns table → HasRun plan owns (giver plan (Wire g p)) given →
      option_map value_of given.value ≡ Some (party_value plan p.0 (own_at owns p.0) (column table p.0) g)
  value_given table g p given joint run =
      (run.gives table joint).values
      ∙ last_value p.0 g (place_in plan owns table p.0 g) (column table p.0 g) refl refl refl

  there_by : {X Y : Type 0} (f : X → Y) (o : Option X) (y : Y) → option_map f o ≡ Some y → IsSome o
  there_by f None y is = cc
  there_by f (Some x) y is = refl

  -- ---- what is kept

  kept_given : (table : Payloads) (g round : ℕ) (p : Party) (given : StageOut) → IsReal plan (Kept g round p) → IsJoint plan owns table → HasRun plan owns (giver plan (Kept g round p)) given →
      given.carried ≡ carried_to (place_in plan owns table p.0 g) (column table p.0 g) (suc (sent_in plan p.0 g round))
  kept_given table g round p given real joint run =
      let stage = sent_in plan p.0 g round in
      let within = slice_get_within (heard_rounds plan p.0 g) stage round (awaits_heard plan p.0 g round real.0 real.1) in
      let more : is_last plan p.0 g stage ≡ false = ne_eqb (stages plan p.0 g) (stage + 1) (λ same. absurd (omega (arith, within, same))) in
      (run.gives table joint).carries
      ∙ ap (λ (b : Bool). cond b None (Some (formed_before (place_in plan owns table p.0 g) (column table p.0 g) (suc stage)))) more

  some_by : {X : Type 0} (o : Option X) (x : X) → o ≡ Some x → IsSome o
  some_by o x is = ap (λ p. is_some p) is

  -- ---- payloads

  payload_given : (table : Payloads) (g round : ℕ) (from to : Party) (given : StageOut) → from.0 < plan.parties → IsReal plan (Message g round from to) → IsJoint plan owns table → HasRun plan owns (giver plan (Message g round from to)) given →
      Sends given.out round to (table g round from.0 to.0)
  payload_given table g round from to given known real joint run =
      let h : Hand = place_in plan owns table from.0 g in
      let got : Rounds = column table from.0 g in
      let found = out_found h got round to.0 real.0 real.1 in
      let there = ap (λ (os : List Out). slice_get os found.at) (run.gives table joint).sends ∙ found.there in
      (found.at, out_to h got round to.0, record { there = there; receiver = refl; of_round = refl }, sent_is table joint g round from.0 to.0 known)

  payload_is : (table : Payloads) (g round : ℕ) (from to : Party) (given : StageOut) (payload : Payload) → from.0 < plan.parties → IsJoint plan owns table → HasRun plan owns (giver plan (Message g round from to)) given →
      Sends given.out round to payload → payload ≡ table g round from.0 to.0
  payload_is table g round from to given payload known joint run sends =
      let h : Hand = place_in plan owns table from.0 g in
      let got : Rounds = column table from.0 g in
      let o = sends.1 in
      let stage = sent_in plan from.0 g round in
      let is : IsTo given.out round to sends.0 o = sends.2 in
      let there = ap (λ (os : List Out). slice_get os sends.0) (sym (run.gives table joint).sends) ∙ is.there in
      let sent : IsSentIn h got o = all_at (IsSentIn h got) (outs_of h got stage) sends.0 o (outs_are h got stage) there in
      let same : round_sends (gate_of h) h got o.round o.to.0 ≡ round_sends (gate_of h) h got round to.0 =
      ap (λ (r : ℕ). round_sends (gate_of h) h got r o.to.0) is.of_round ∙ ap (λ (q : Party). round_sends (gate_of h) h got round q.0) is.receiver in
      sym sends.3 ∙ sent ∙ same ∙ sent_is table joint g round from.0 to.0 known

  -- ---- all of them

  -- the stage of the item that gives it has what an edge carries
  pub has_cargo : (table : Payloads) (load : Load) (given : StageOut) → IsJoint plan owns table → IsGiven plan load → IsReal plan load → HasRun plan owns (giver plan load) given → HasCargo given load
  has_cargo table (Wire g p) given joint is real run = there_by value_of given.value _ (value_given table g p given joint run)
  has_cargo table (Kept g round p) given joint is real run = some_by given.carried _ (kept_given table g round p given real joint run)
  has_cargo table (Message g round from to) given joint is real run = (table g round from.0 to.0, payload_given table g round from to given is.party real joint run)

  fits_by : (g : ℕ) (v : ValueInMemory) (o : Option Gate) → slice_get plan.gates g ≡ o → ((gate : Gate) → slice_get plan.gates g ≡ Some gate → IsOf gate v) → IfSome o (λ gate. IsOf gate v)
  fits_by g v None there typed = tt
  fits_by g v (Some gate) there typed = typed gate there

  shape_by : (payload : Payload) (o : Option Sent) → length payload ≡ length_of o → ((m : Sent) → o ≡ Some m → has_high_bits m.shape payload ≡ false) → IfSome o (λ m. HasShape m payload)
  shape_by payload None long low = tt
  shape_by payload (Some m) long low = (long, low m refl)

  -- and that is its meaning
  pub is_meant : (table : Payloads) (load : Load) (c : Cargo) (given : StageOut) → IsJoint plan owns table → IsGiven plan load → IsReal plan load → HasRun plan owns (giver plan load) given → IsCargo given load c → IsMeant plan owns load c
  is_meant table (Wire g p) (cargo.Value v) given joint is real run here = (
    fits_by g v (slice_get plan.gates g) refl (subst (λ (o : Option ValueInMemory). IfSome o (λ w. (gate : Gate) → slice_get plan.gates g ≡ Some gate → IsOf gate w)) here run.typed),
    λ other other_joint. some_is (value_of v) _ (ap (option_map value_of) (sym here) ∙ value_given other g p given other_joint run),
  )
  is_meant table (Wire g p) (cargo.Kept k) given joint is real run here = absurd here
  is_meant table (Wire g p) (cargo.Message bytes) given joint is real run here = absurd here
  is_meant table (Kept g round p) (cargo.Kept k) given joint is real run here = (
    tt,
    λ other other_joint. sym here ∙ kept_given other g round p given real other_joint run,
  )
  is_meant table (Kept g round p) (cargo.Value v) given joint is real run here = absurd here
  is_meant table (Kept g round p) (cargo.Message bytes) given joint is real run here = absurd here
  is_meant table (Message g round from to) (cargo.Message bytes) given joint is real run here =
      let same : bytes ≡ table g round from.0 to.0 = payload_is table g round from to given bytes is.party joint run here in (
        shape_by bytes (message plan from.0 to.0 g round)
            (ap length same ∙ payloads_have_their_lengths plan owns table count joint g round from.0 to.0)
            (λ m there. ap (has_high_bits m.shape) same ∙ payloads_have_their_shapes plan owns table valid count joint g round from.0 to.0 m there),
        λ other other_joint. payload_is other g round from to given bytes is.party other_joint run here,
      )
  is_meant table (Message g round from to) (cargo.Value v) given joint is real run here = absurd here
  is_meant table (Message g round from to) (cargo.Kept k) given joint is real run here = absurd here
