-- A party whose peers' bytes are honest streams of a joint run is the run's party.
use Rattle.std.proofs.Common.{ℕ, zero, suc, ◌≡◌, ◌<◌, eqb, Bool, true, false, cond, List, [], ◌∷◌, ◌++◌, length, get_or, Option, Some, None, refl, sym, ap, subst, ◌∙◌, inl, inr, arith}
use Rattle.std.specs.Prelude.{slice_get, option_map, is_some}
use Rattle.std.specs.FinMap as map
use Rattle.std.specs.List.{AllByRecursion}
use Rattle.std.specs.Option.{unwrap_or}
use Rattle.std.specs.Ordering.{eq_by_cmp}
use Rattle.std.proofs.lemmas.Bool.{eqb-true, eqb-false, eq-eqb, cases_lt, ltb-true}
use Rattle.std.proofs.lemmas.Option.{slice_get_within, get_or_from_slice_get}
use Rattle.std.proofs.Math.Path.{fun_ext}
use Rattle.mot_base.specs.Links.{ByParty, IsPeer}
use Rattle.mot_base.specs.declared.Party.{Party}
use Rattle.mot_base.specs.declared.links.Place.{Place}
use Rattle.mot_base.proofs.Lists.{neither_some as neither, both_true as both, not_true, mapped_some}
use Rattle.frames.specs.Reading.{Reads, Ended}
use Rattle.frames.specs.declared.frame.Frame.{Frame}
use Rattle.frames.specs.declared.frame.Frame.TheVariants.{Hello, Message, End}
use Rattle.frames.specs.declared.frame.Hello as hello
use Rattle.frames.proofs.Cuts.{end_on}
use Rattle.frames.proofs.Unique.{unique}
use Rattle.message_demux.specs.declared.slots.Slot.{Slot}
use Rattle.message_demux.specs.declared.slots.SlotSpec.{SlotSpec}
use Rattle.message_demux.specs.Fit.{unfit}
use Rattle.message_demux.specs.Slots.{slot_cmp, slot_of, slot_at, listed, has_high_bits}
use Rattle.message_demux.proofs.Keeping.{listed_at}
use Rattle.plan_gates.specs.Plan.{IsPlan, has_keys}
use Rattle.plan_gates.specs.declared.message.Message.{Message as PlanMessage}
use Rattle.plan_gates.specs.Messages.{message, are_two, spec_of, AreSlotsTo}
use Rattle.joint_run.specs.Party.{Own, party_value, party_sends}
use Rattle.joint_run.specs.Joint.{Payloads, IsJoint, column}
use Rattle.joint_run.specs.Laws.{length_of, Hears}
use Rattle.joint_run.proofs.Following.{a_party_follows}
use Rattle.joint_run.proofs.Lengths.{payloads_have_their_lengths}
use Rattle.joint_run.proofs.Narrow.{payloads_have_their_shapes}
use Rattle.gate_tasks.specs.declared.report.PartyReport.{PartyReport}
use Rattle.gate_tasks.specs.Report.{IsReportOf}
use Rattle.gate_tasks.specs.Task.{slot_from}
use Rattle.gate_tasks.proofs.Giving.{two_of}
use Rattle.peer_streams.specs.declared.run.Run.{Run}
use Rattle.peer_streams.specs.Judging.{kept_in, cause_behind, own_cause}
use Rattle.peer_streams.specs.Runs.{hello_of, party, place_in}
use Rattle.peer_streams.specs.Streams.{AreExpected}
use Rattle.peer_streams.proofs.Honest.{ends as honest_streams_end}
use Rattle.peer_streams.proofs.Keeping.{same_slot}
use Rattle.party_stages.specs.Following.{Side, me_of, own_of, heard_of}
use Rattle.party_engine.specs.Run.{IsRunOver, AreHonestPeers, sends_to}

-- ---- frames without a cause give payloads to expected slots alone

listed_kept : (expected : hello.Hello) (slots : List SlotSpec) (slot : Slot) → slot.from ≡ expected.from → listed slots slot ≡ None →
    (frames before : List Frame) → cause_behind expected slots before frames ≡ None → kept_in expected.from frames slot ≡ None
listed_kept expected slots slot theirs none [] before clean = refl
listed_kept expected slots slot theirs none (Hello h ∷ frames) before clean = listed_kept expected slots slot theirs none frames (before ++ Hello h ∷ []) (neither _ _ clean).1
listed_kept expected slots slot theirs none (End ∷ frames) before clean = listed_kept expected slots slot theirs none frames (before ++ End ∷ []) (neither _ _ clean).1
listed_kept expected slots slot theirs none (Message g r payload ∷ frames) before clean =
    by (eq_by_cmp slot_cmp slot (slot_at expected.from g r)) refl (listed_kept expected slots slot theirs none frames (before ++ Message g r payload ∷ []) (neither _ _ clean).1)
  where
    by : (c : Bool) → eq_by_cmp slot_cmp slot (slot_at expected.from g r) ≡ c → kept_in expected.from frames slot ≡ None → cond c (Some payload) (kept_in expected.from frames slot) ≡ None
    by false other rest = rest
    by true same rest =
        let is : slot ≡ slot_at expected.from g r = same_slot slot (slot_at expected.from g r) same in
        let own : own_cause expected slots before (Message g r payload) ≡ None = (neither _ _ (neither _ _ clean).0).1 in
        let here : listed slots (slot_at expected.from g r) ≡ None = ap (listed slots) (sym is) ∙ none in
        let clash = rw here at own in
        absurd (cc)

-- ---- what is expected of honest peers

all_each : (P : SlotSpec → Type 0) (xs : List SlotSpec) → ((k : ℕ) (x : SlotSpec) → slice_get xs k ≡ Some x → P x) → AllByRecursion P xs
all_each P [] step = tt
all_each P (x ∷ xs) step = (step zero x refl, all_each P xs (λ k y there. step (suc k) y there))

some_message : (o : Option PlanMessage) → is_some o ≡ true → (m : PlanMessage) × (o ≡ Some m)
some_message None e = absurd (cc)
some_message (Some m) e = (m, refl)

module _ (b : Side) (run : Run) (plan : IsPlan b.plan) (unkeyed : has_keys b.plan ≡ false) (owns : List Own) (table : Payloads) (count : length owns ≡ b.plan.parties) (joint : IsJoint b.plan owns table) (slots : List SlotSpec) (are : AreSlotsTo b.plan (me_of b) slots) where
  fits : (q g r : ℕ) (m : PlanMessage) → message b.plan q (me_of b) g r ≡ Some m → unfit (spec_of q g r m) (table g r q (me_of b)) ≡ None
  fits q g r m there =
      let long : length (table g r q (me_of b)) ≡ m.len = payloads_have_their_lengths b.plan owns table count joint g r q (me_of b) ∙ ap length_of there in
      let narrow : has_high_bits m.shape (table g r q (me_of b)) ≡ false = payloads_have_their_shapes b.plan owns table plan count joint g r q (me_of b) m there in
      let even : eqb (length (table g r q (me_of b))) m.len ≡ true = eq-eqb (length (table g r q (me_of b))) m.len long in
      rw (even, narrow) refl

  pub expected : (q : ℕ) → AreExpected (hello_of run (party q) b.own.me) (sends_to b.plan table q (me_of b)) slots
  expected q = record {
    fit = λ g r payload is.
        let found = mapped_some (λ (m : PlanMessage). table g r q (me_of b)) (message b.plan q (me_of b) g r) payload is in
        (spec_of q g r found.0, are.each q g r ∙ ap (option_map (spec_of q g r)) found.1, subst (λ (p : List ℕ). unfit (spec_of q g r found.0) p ≡ None) (sym found.2) (fits q g r found.0 found.1));
    all = all_each (λ spec. spec.from ≡ party q → (payload : List ℕ) × (sends_to b.plan table q (me_of b) spec.gate spec.round ≡ Some payload)) slots (λ k spec there theirs.
        let inside = slice_get_within slots k spec there in
        let at : get_or slots k spec ≡ spec = get_or_from_slice_get slots k spec spec there in
        let here : listed slots (slot_of spec) ≡ Some spec = listed_at slots (slot_of spec) k spec are.sorted.sorted inside (ap slot_of at) ∙ ap Some at in
        let from : spec.from.0 ≡ q = ap (λ (p : Party). p.0) theirs in
        let stated : option_map (spec_of spec.from.0 spec.gate spec.round) (message b.plan spec.from.0 (me_of b) spec.gate spec.round) ≡ Some spec = sym (are.each spec.from.0 spec.gate spec.round) ∙ here in
        let found = mapped_some (spec_of spec.from.0 spec.gate spec.round) (message b.plan spec.from.0 (me_of b) spec.gate spec.round) spec stated in
        let message_is : message b.plan q (me_of b) spec.gate spec.round ≡ Some found.0 = ap (λ (p : ℕ). message b.plan p (me_of b) spec.gate spec.round) (sym from) ∙ found.1 in
        (table spec.gate spec.round q (me_of b), ap (option_map (λ (m : PlanMessage). table spec.gate spec.round q (me_of b))) message_is));
  }

-- ---- the run's party

module _ (b : Side) (run : Run) (parties : run.parties ≡ b.plan.parties) (plan : IsPlan b.plan) (unkeyed : has_keys b.plan ≡ false) (before : ByParty) (left sent now : Option ByParty) (report : PartyReport) (over : IsRunOver b run before left sent now report)
    (owns : List Own) (table : Payloads) (count : length owns ≡ b.plan.parties) (joint : IsJoint b.plan owns table) (honest : AreHonestPeers b run table before) where
  abbrev place : Place
  place = place_in run b.own.me

  -- what is kept of a peer is what it has to send
  peer_kept : (q g r : ℕ) (m : PlanMessage) → IsPeer (Some place) q → message b.plan q (me_of b) g r ≡ Some m → map.get over.inbox.kept (slot_from g r q) ≡ Some (table g r q (me_of b))
  peer_kept q g r m peer there =
      let ends = over.heard.each q peer in
      let whole = honest_streams_end (hello_of run (party q) b.own.me) (sends_to b.plan table q (me_of b)) over.inbox.slots (before q) (honest q peer)
      (expected b run plan unkeyed owns table count joint over.inbox.slots over.slots q) in
      let rest = over.heard.are_taken.0 q in
      let on : Reads (before q) ends.frames Ended = subst (λ (bytes : List ℕ). Reads bytes ends.frames Ended) (sym (over.heard.are_taken.2 q)) (end_on (over.heard.taken q) ends.frames rest ends.reads) in
      let same : whole.0 ≡ ends.frames = (unique (before q) whole.0 ends.frames Ended Ended whole.1 on).0 in
      let sends : sends_to b.plan table q (me_of b) g r ≡ Some (table g r q (me_of b)) = ap (option_map (λ (x : PlanMessage). table g r q (me_of b))) there in
      ends.keeps (slot_from g r q) refl ∙ ap (λ (fs : List Frame). kept_in (party q) fs (slot_from g r q)) (sym same) ∙ whole.3 g r (table g r q (me_of b)) sends

  -- and else nothing is kept
  none_kept : (q g r : ℕ) → message b.plan q (me_of b) g r ≡ None → map.get over.inbox.kept (slot_from g r q) ≡ None
  none_kept q g r none = elim (cases_lt q run.parties) [
    | inl inside ↦ by_me inside (eqb q (me_of b)) refl
    | inr past ↦ over.others (slot_from g r q) (λ peer. (let less = peer.0 in absurd (omega (arith, less, past))))
  ] where
    by_me : q < run.parties → (c : Bool) → eqb q (me_of b) ≡ c → map.get over.inbox.kept (slot_from g r q) ≡ None
    by_me inside true is = over.others (slot_from g r q) (λ peer. peer.1 (eqb-true q (me_of b) is))
    by_me inside false is =
        let ends = over.heard.each q (inside, eqb-false q (me_of b) is) in
        let unlisted : listed over.inbox.slots (slot_from g r q) ≡ None = over.slots.each q g r ∙ ap (option_map (spec_of q g r)) none in
        ends.keeps (slot_from g r q) refl ∙ listed_kept (hello_of run (party q) b.own.me) over.inbox.slots (slot_from g r q) refl unlisted ends.frames [] ends.clean

  peer_of : (q g r : ℕ) (m : PlanMessage) → message b.plan q (me_of b) g r ≡ Some m → is_some (message b.plan q (me_of b) g r) ≡ true → IsPeer (Some place) q
  peer_of q g r m there some =
      let two = both _ _ (two_of (are_two b.plan.parties q (me_of b)) _ some) in
      let inside : q < b.plan.parties = ltb-true q b.plan.parties (both _ _ two.0).0 in
      (omega (arith, inside, parties), λ same. eqb-false q (me_of b) (not_true (eqb q (me_of b)) two.1) same)

  hears : Hears b.plan table (me_of b) (heard_of over.inbox)
  hears = record {
    stated = λ g r q m there. ap (λ o. unwrap_or o []) (peer_kept q g r m (peer_of q g r m there (ap is_some there)) there);
    none = λ g r q none. ap (λ o. unwrap_or o []) (none_kept q g r none);
  }

  -- it sends what it has in the run
  pub honest_sends : slice_get owns (me_of b) ≡ Some (own_of b) → (g r to : ℕ) → party_sends b.plan (me_of b) (own_of b) (heard_of over.inbox) g r to ≡ table g r (me_of b) to
  honest_sends mine = (a_party_follows b.plan owns table count joint (me_of b) (own_of b) (heard_of over.inbox) mine hears).1

  pub honest_report : slice_get owns (me_of b) ≡ Some (own_of b) → IsReportOf b.plan (me_of b) (party_value b.plan (me_of b) (own_of b) (column table (me_of b))) (λ g round to. table g round (me_of b) to) report
  honest_report mine =
      let follows = a_party_follows b.plan owns table count joint (me_of b) (own_of b) (heard_of over.inbox) mine hears in
      let values : party_value b.plan (me_of b) (own_of b) (heard_of over.inbox) ≡ party_value b.plan (me_of b) (own_of b) (column table (me_of b)) = fun_ext follows.0 in
      let sends : party_sends b.plan (me_of b) (own_of b) (heard_of over.inbox) ≡ (λ g round to. table g round (me_of b) to) = fun_ext (λ g. fun_ext (λ r. fun_ext (λ to. follows.1 g r to))) in
      rw (values, sends) at over.report_is
