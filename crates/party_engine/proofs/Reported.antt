-- What a party reports, when each gate has its value, is what the equations say.
use Rattle.std.proofs.Common.{ℕ, zero, suc, ◌≡◌, ◌≢◌, ◌<◌, ◌≤◌, ◌+◌, Bool, true, false, cond, List, [], ◌∷◌, ◌++◌, append-nil, length, map, filter, get_or, Option, Some, None, refl, sym, ap, ap₂, subst, ◌∙◌, inl, inr, arith}
use Rattle.std.specs.Prelude.{slice_get, option_map}
use Rattle.std.specs.List.{flat_map, All, AllByRecursion}
use Rattle.std.specs.Option.{unwrap_or}
use Rattle.std.proofs.Math.Path.{fun_ext}
use Rattle.std.proofs.lemmas.Bool.{cases_lt, false≢true}
use Rattle.std.proofs.lemmas.Grind.{flat_map-append}
use Rattle.std.proofs.lemmas.List.Elements.{All-from_recursion, filter-append}
use Rattle.std.proofs.lemmas.Option.{slice_get_within, get_or_from_slice_get}
use Rattle.mot_base.specs.declared.links.Place.{Place}
use Rattle.mot_base.proofs.Lists.{some_at, read_at, all_append}
use Rattle.sha2.specs.Sha256.{sha256}
use Rattle.share_types.specs.declared.bits.Bits.{Bits}
use Rattle.share_types.specs.Sums.{each}
use Rattle.frames.specs.Bytes.{joined, canonical}
use Rattle.frames.specs.declared.frame.Frame.{Frame}
use Rattle.message_demux.specs.Kept.{InboxContents}
use Rattle.plan_gates.specs.Gate.{Kind, Gate, OutA, OutB, width_at}
use Rattle.plan_gates.specs.Plan.{Gates}
use Rattle.plan_gates.specs.Messages.{tells, rounds, stages}
use Rattle.joint_run.specs.Party as party
use Rattle.joint_run.specs.Party.{Inbox, Rounds, Hand, gate_value, value_at, party_value, party_sends, opened_word, opened_vector, word, vector}
use Rattle.gate_tasks.specs.declared.outgoing.Out.{Out}
use Rattle.gate_tasks.specs.declared.report.PartyReport.{PartyReport}
use Rattle.gate_tasks.specs.declared.value.Value.{Value as ValueInMemory}
use Rattle.gate_tasks.specs.declared.value.Value.TheVariants as value
use Rattle.gate_tasks.specs.Report.{tells_at, told_gates, told_to, round_frames, gate_frames, frames_before, IsReportOf}
use Rattle.gate_tasks.specs.Stage.{value_of, receivers, out_to, outs_in, outs_of, IsOf}
use Rattle.gate_tasks.specs.Wires.{value_held}
use Rattle.party_stages.specs.Following.{Side, me_of, own_of, hand_of, Extends, Progress, said_at, outs_before, HasFollowed}
use Rattle.party_stages.specs.Scene.{IsScene, AreAllDone}
use Rattle.party_stages.proofs.Taking.{filter_holds, all_outs}
use Rattle.party_engine.specs.Saying.{frame_of, at_gate}
use Rattle.party_engine.specs.Reporting.{CanFrame, bits_told, bits_held, in_round, frames_in, frames_at, frames_said}
use Rattle.party_engine.specs.Run.{AreAllSaid}
use Rattle.party_engine.proofs.Sending.{can_send}
use Rattle.party_engine.proofs.Rounds.{round_of, no_round, by_both}

-- ---- gates that tell

-- a gate that tells a party its value gives it a number
told_kind : (kind : Kind) (w : ℕ) (h : Hand) (got : Rounds) → tells h.me (record { kind = kind; width = w }) ≡ true → (x : ℕ) × (gate_value kind h got ≡ party.Told (Some x))
told_kind (OutA x to) w h got is_told = (
  opened_word h (word h x) (got 0) 0,
  ap (λ (b : Bool). party.Told (cond b (Some (opened_word h (word h x) (got 0) 0)) None)) is_told,
)
told_kind (OutB x to) w h got is_told = (
  opened_vector h (vector h x) (got 0) 0,
  ap (λ (b : Bool). party.Told (cond b (Some (opened_vector h (vector h x) (got 0) 0)) None)) is_told,
)
told_kind _ w h got is_told = absurd (false≢true is_told)

-- what is told of one more gate
pub told_more : (f : ℕ → List Bits) (plan : Gates) (p n : ℕ) →
    flat_map f (told_gates plan p (n + 1)) ≡ flat_map f (told_gates plan p n) ++ cond (tells_at (slice_get plan.gates n) p) (f n) []
told_more f plan p n =
    let test : ℕ → Bool = λ g. tells_at (slice_get plan.gates g) p in
    let next : n + 1 ≡ suc n = omega arith in
    ap (λ k. flat_map f (told_gates plan p k)) next
    ∙ ap (flat_map f) (filter-append test (each n (λ g. g)) (n ∷ []))
    ∙ flat_map-append f (filter test (each n (λ g. g))) (filter test (n ∷ []))
    ∙ ap (λ ys. flat_map f (told_gates plan p n) ++ ys) (by (test n))
  where
    by : (c : Bool) → flat_map f (cond c (n ∷ []) []) ≡ cond c (f n) []
    by true = append-nil (f n)
    by false = refl

-- ---- a party that has run all

held_some : (o : Option ValueInMemory) → o ≢ None → (v : ValueInMemory) × (o ≡ Some v)
held_some None some = absurd (some refl)
held_some (Some v) some = (v, refl)

pub nothing_past : (xs : List (List Out)) (k : ℕ) → length xs ≤ k → get_or xs k [] ≡ []
nothing_past [] k h = refl
nothing_past (x ∷ xs) zero h = absurd (omega (arith, h))
nothing_past (x ∷ xs) (suc k) h = nothing_past xs k (omega (arith, h))

no_gate_rounds : (plan : Gates) (g : ℕ) (o : Option Gate) → slice_get plan.gates g ≡ o → length plan.gates ≤ g → rounds plan g ≤ 0
no_gate_rounds plan g None is past = rw is (omega arith)
no_gate_rounds plan g (Some gate) is past = let inside = slice_get_within plan.gates g gate is in absurd (omega (arith, inside, past))

module _ (b : Side) (inbox : InboxContents) (p : Progress) (scene : IsScene b inbox p) (done : AreAllDone b p) (got : Inbox) (extends : Extends inbox got) where
  far : (g : ℕ) → g < length b.plan.gates → (v : ValueInMemory) × (value_held p.wires g ≡ Some v)
      × (value_of v ≡ party_value b.plan (me_of b) (own_of b) got g)
      × (said_at p.said g ≡ outs_before (hand_of b got g) (got g) (stages b.plan (me_of b) g))
  far g inside =
      let held = held_some (value_held p.wires g) (done g inside) in
      let one = some_at p.tasks g (omega (arith, inside, scene.progress.tasks)) in
      let follows = subst (λ (o : Option ValueInMemory). HasFollowed (hand_of b got g) (got g) one.0 o (said_at p.said g)) held.1 (scene.follows got extends g one.0 one.1) in
      (held.0, held.1, follows.valued, follows.said)

  -- ---- what it is told

  record IsToldOf (gs : List ℕ) : Type 0 where
    pub words : map (λ bits. party.Told (Some bits.word)) (flat_map (bits_held p.wires) gs) ≡ map (party_value b.plan (me_of b) (own_of b) got) gs
    pub widths : map (λ bits. bits.width) (flat_map (bits_held p.wires) gs) ≡ map (width_at b.plan.gates) gs

  told_by_value : (g : ℕ) (gate : Gate) (gs : List ℕ) (v : ValueInMemory) (x : ℕ) → slice_get b.plan.gates g ≡ Some gate → value_held p.wires g ≡ Some v → IsOf gate v →
      value_of v ≡ party_value b.plan (me_of b) (own_of b) got g → party_value b.plan (me_of b) (own_of b) got g ≡ party.Told (Some x) → IsToldOf gs → IsToldOf (g ∷ gs)
  told_by_value g gate gs (value.A w) x there held of is told rest = let contrary = is ∙ told in cc
  told_by_value g gate gs (value.B bits) x there held of is told rest = let contrary = is ∙ told in cc
  told_by_value g gate gs (value.Told None) x there held of is told rest = let contrary = is ∙ told in cc
  told_by_value g gate gs (value.Told (Some bits)) x there held of is told rest =
      let wide : bits.width ≡ width_at b.plan.gates g = of.1 ∙ ap (λ o. unwrap_or (option_map (λ (k : Gate). k.width) o) 0) (sym there) in
      let here : bits_held p.wires g ≡ bits ∷ [] = ap bits_told held in
      record {
        words = ap (λ ys. map (λ bit. party.Told (Some bit.word)) (ys ++ flat_map (bits_held p.wires) gs)) here ∙ ap₂ (λ (y : party.Value) (ys : List party.Value). y ∷ ys) is rest.words;
        widths = ap (λ ys. map (λ bit. bit.width) (ys ++ flat_map (bits_held p.wires) gs)) here ∙ ap₂ (λ (n : ℕ) (ns : List ℕ). n ∷ ns) wide rest.widths;
      }

  told_one : (g : ℕ) (gs : List ℕ) (o : Option Gate) → slice_get b.plan.gates g ≡ o → tells_at o (me_of b) ≡ true → IsToldOf gs → IsToldOf (g ∷ gs)
  told_one g gs None there told rest = absurd (false≢true told)
  told_one g gs (Some gate) there told rest =
      let one = far g (slice_get_within b.plan.gates g gate there) in
      let number = told_kind gate.kind gate.width (hand_of b got g) (got g) told in
      let is : party_value b.plan (me_of b) (own_of b) got g ≡ party.Told (Some number.0) = ap (λ (o : Option Gate). value_at o (hand_of b got g) (got g)) there ∙ number.1 in
      told_by_value g gate gs one.0 number.0 there one.1 (scene.progress.typed g gate one.0 there one.1) one.2 is rest

  told_all : (gs : List ℕ) → AllByRecursion (λ g. tells_at (slice_get b.plan.gates g) (me_of b) ≡ true) gs → IsToldOf gs
  told_all [] all = record { words = refl; widths = refl }
  told_all (g ∷ gs) all = told_one g gs (slice_get b.plan.gates g) refl all.0 (told_all gs all.1)

  -- ---- what it has said

  said_in : (g r : ℕ) → in_round r (said_at p.said g) ≡ outs_in (hand_of b got g) (got g) r
  said_in g r = elim (cases_lt g (length b.plan.gates)) [
    | inl inside ↦ ap (in_round r) (far g inside).3 ∙ round_of (hand_of b got g) (got g) r
    | inr past ↦ (
        let none = no_gate_rounds b.plan g (slice_get b.plan.gates g) refl past in
        ap (in_round r) (nothing_past p.said g (omega (arith, past, scene.progress.said)))
        ∙ sym (no_round (hand_of b got g) (got g) r (omega (arith, none))))
  ]

  -- each message of it may be carried

  outs_can : (g n : ℕ) → AllByRecursion CanFrame (outs_before (hand_of b got g) (got g) n)
  outs_can g zero = tt
  outs_can g (suc n) =
      let place : Place = record { me = b.own.me; parties = b.plan.parties } in
      all_append CanFrame (outs_before (hand_of b got g) (got g) n) (outs_of (hand_of b got g) (got g) n) (outs_can g n)
      (all_outs CanFrame (hand_of b got g) (got g) n (λ round to some. (can_send b scene.plan scene.unkeyed place got g round to refl refl some).fits))

  pub said_can : (g : ℕ) → All CanFrame (said_at p.said g)
  said_can g = All-from_recursion CanFrame (said_at p.said g) (elim (cases_lt g (length b.plan.gates)) [
    | inl inside ↦ subst (λ (outs : List Out). AllByRecursion CanFrame outs) (sym (far g inside).3) (outs_can g (stages b.plan (me_of b) g))
    | inr past ↦ subst (λ (outs : List Out). AllByRecursion CanFrame outs) (sym (nothing_past p.said g (omega (arith, past, scene.progress.said)))) tt
  ])

  pub all_said : (log : List Out) → ((g : ℕ) → at_gate g log ≡ said_at p.said g) → AreAllSaid b got log
  all_said log each_gate g round = by_both g round log ∙ ap (in_round round) (each_gate g) ∙ said_in g round

  sent_frames : (g r : ℕ) → frames_in r (said_at p.said g) ≡ round_frames b.plan (me_of b) (party_sends b.plan (me_of b) (own_of b) got) g r
  sent_frames g r = ap (map frame_of) (said_in g r) ∙ framed (receivers b.plan (me_of b) g r) where
    framed : (tos : List ℕ) → map frame_of (map (out_to (hand_of b got g) (got g) r) tos) ≡ map (λ to. frame_of (out_to (hand_of b got g) (got g) r to)) tos
    framed [] = refl
    framed (to ∷ tos) = ap (λ xs. frame_of (out_to (hand_of b got g) (got g) r to) ∷ xs) (framed tos)

  gate_said : (g : ℕ) → frames_at (rounds b.plan g) (said_at p.said g) ≡ gate_frames b.plan (me_of b) (party_sends b.plan (me_of b) (own_of b) got) g
  gate_said g = ap (λ (f : ℕ → List Frame). flat_map f (each (rounds b.plan g) (λ round. round))) (fun_ext (sent_frames g))

  said_frames : (n : ℕ) → frames_said b.plan p.said n ≡ frames_before b.plan (me_of b) (party_sends b.plan (me_of b) (own_of b) got) n
  said_frames zero = refl
  said_frames (suc n) = ap₂ (λ xs ys. xs ++ ys) (said_frames n) (gate_said n)

  pub is_report : (report : PartyReport) → report.told ≡ flat_map (bits_held p.wires) (told_to b.plan (me_of b)) → report.digest ≡ sha256 (joined (frames_said b.plan p.said (length b.plan.gates))) →
      IsReportOf b.plan (me_of b) (party_value b.plan (me_of b) (own_of b) got) (party_sends b.plan (me_of b) (own_of b) got) report
  is_report report told digest =
      let all = told_all (told_to b.plan (me_of b)) (filter_holds (λ g. tells_at (slice_get b.plan.gates g) (me_of b)) (each (length b.plan.gates) (λ g. g))) in
      record {
        told = ap (map (λ bits. party.Told (Some bits.word))) told ∙ all.words;
        widths = ap (map (λ bits. bits.width)) told ∙ all.widths;
        digest = digest ∙ ap (λ (fs : List Frame). sha256 (joined fs)) (said_frames (length b.plan.gates));
      }

-- ---- one gate more

pub said_is : (said : List (List Out)) (i : ℕ) (x : List Out) → i < length said → x ≡ get_or said i x → x ≡ said_at said i
said_is said i x inside is = sym (get_or_from_slice_get said i x [] (read_at said i x inside is))

pub frames_more : (plan : Gates) (said : List (List Out)) (g : ℕ) → joined (frames_said plan said g) ++ joined (frames_at (rounds plan g) (said_at said g)) ≡ joined (frames_said plan said (g + 1))
frames_more plan said g =
    let next : suc g ≡ g + 1 = omega arith in
    sym (flat_map-append canonical (frames_said plan said g) (frames_at (rounds plan g) (said_at said g))) ∙ ap (λ n. joined (frames_said plan said n)) next
