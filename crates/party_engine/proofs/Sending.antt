-- What a stage sends: each message may be sent, and is of the stage's gate.
use Rattle.std.proofs.Common.{append-nil, ◌≡◌, ◌≢◌, ℕ, ◌<◌, eqb, Bool, true, false, List, [], ◌∷◌, ◌++◌, length, Option, Some, None, refl, sym, ap, ap₂, subst, ◌∙◌, arith}
use Rattle.std.specs.Prelude.{◌==◌, slice_set, is_some}
use Rattle.std.specs.List.{All, AllByRecursion}
use Rattle.std.proofs.lemmas.Bool.{eqb-true, eqb-false, eq-eqb, ne_eqb, ltb-true}
use Rattle.std.proofs.lemmas.List.{get_or-set_same, get_or-set_other}
use Rattle.std.proofs.lemmas.List.Elements.{All-from_recursion, filter-append}
use Rattle.mot_base.specs.declared.links.Place.{Place}
use Rattle.mot_base.proofs.Lists.{both_true as both, not_true}
use Rattle.share_types.specs.Sums.{each}
use Rattle.message_demux.specs.Kept.{InboxContents}
use Rattle.plan_gates.specs.Plan.{IsPlan, has_keys}
use Rattle.plan_gates.specs.declared.message.Message.{Message}
use Rattle.plan_gates.specs.Messages.{message, are_two}
use Rattle.plan_gates.proofs.SlotLemmas.{message_fits}
use Rattle.joint_run.specs.Party.{Inbox, party_sends}
use Rattle.joint_run.specs.Laws.{length_of}
use Rattle.joint_run.proofs.Lengths.{sends_fit}
use Rattle.gate_tasks.specs.declared.outgoing.Out.{Out}
use Rattle.gate_tasks.specs.declared.stage.StageOut.{StageOut}
use Rattle.gate_tasks.specs.Stage.{out_to, outs_of}
use Rattle.gate_tasks.proofs.Giving.{two_of}
use Rattle.party_stages.proofs.Taking.{kept_extends, all_outs}
use Rattle.party_stages.specs.Following.{Side, me_of, own_of, hand_of, heard_of, said_at, HasRun}
use Rattle.party_engine.specs.Saying.{at_gate, CanSend}

some_message : (o : Option Message) → is_some o ≡ true → (m : Message) × (o ≡ Some m)
some_message None e = absurd (cc)
some_message (Some m) e = (m, refl)

module _ (b : Side) (plan : IsPlan b.plan) (unkeyed : has_keys b.plan ≡ false) where
  pub can_send : (place : Place) (got : Inbox) (g round to : ℕ) → place.me.0 ≡ me_of b → place.parties ≡ b.plan.parties → is_some (message b.plan (me_of b) to g round) ≡ true →
      CanSend place (out_to (hand_of b got g) (got g) round to)
  can_send place got g round to me parties some =
      let (m, there) = some_message (message b.plan (me_of b) to g round) some in
      let two = both _ _ (two_of (are_two b.plan.parties (me_of b) to) _ some) in
      let ends = both _ _ two.0 in
      let fits = message_fits b.plan plan (me_of b) to g round m there in
      let long : length (party_sends b.plan (me_of b) (own_of b) got g round to) ≡ m.len = sends_fit b.plan (me_of b) (own_of b) got g round to ∙ ap length_of there in
      let inside : to < b.plan.parties = ltb-true to b.plan.parties ends.1 in
      let other : eqb (me_of b) to ≡ false = not_true (eqb (me_of b) to) two.1 in
      record {
        peer = (omega (arith, inside, parties), λ same. eqb-false (me_of b) to other (sym me ∙ sym same));
        fits = (omega (arith, long, fits.some), omega (arith, long, fits.most));
      }

  -- each message of a stage may be sent
  pub all_can : (inbox : InboxContents) (place : Place) (g stage : ℕ) (given : StageOut) → place.me.0 ≡ me_of b → place.parties ≡ b.plan.parties → HasRun b inbox g stage given → All (CanSend place) given.out
  all_can inbox place g stage given me parties ran =
      let got = heard_of inbox in
      let gives = ran.gives got (kept_extends inbox) in
      subst (λ (outs : List Out). All (CanSend place) outs) (sym gives.sends)
      (All-from_recursion (CanSend place) (outs_of (hand_of b got g) (got g) stage)
      (all_outs (CanSend place) (hand_of b got g) (got g) stage (λ round to some. can_send place got g round to me parties some)))

-- ---- the messages of a gate

at_own : (g : ℕ) (outs : List Out) → AllByRecursion (λ out. out.gate ≡ g) outs → at_gate g outs ≡ outs
at_own g [] all = refl
at_own g (out ∷ outs) all = rw (eq-eqb out.gate g all.0) (ap (λ xs. out ∷ xs) (at_own g outs all.1))

at_other : (g other : ℕ) (outs : List Out) → other ≢ g → AllByRecursion (λ out. out.gate ≡ g) outs → at_gate other outs ≡ []
at_other g other [] ne all = refl
at_other g other (out ∷ outs) ne all =
    let no : eqb out.gate other ≡ false = ne_eqb out.gate other (λ same. ne (sym same ∙ all.0)) in
    rw no (at_other g other outs ne all.1)

pub of_gate : (b : Side) (inbox : InboxContents) (g stage : ℕ) (given : StageOut) → HasRun b inbox g stage given → AllByRecursion (λ out. out.gate ≡ g) given.out
of_gate b inbox g stage given ran =
    let got = heard_of inbox in
    let gives = ran.gives got (kept_extends inbox) in
    subst (λ (outs : List Out). AllByRecursion (λ out. out.gate ≡ g) outs) (sym gives.sends)
    (all_outs (λ out. out.gate ≡ g) (hand_of b got g) (got g) stage (λ round to some. refl))

-- messages that are sent behind others, by gate
pub log_more : (g other : ℕ) (log outs : List Out) (said : List (List Out)) → g < length said → AllByRecursion (λ out. out.gate ≡ g) outs → ((x : ℕ) → at_gate x log ≡ said_at said x) →
    at_gate other (log ++ outs) ≡ said_at (slice_set said g (said_at said g ++ outs)) other
log_more g other log outs said inside all each = filter-append (λ (out : Out). out.gate == other) log outs ∙ by (eqb other g) refl
  where
    by : (c : Bool) → eqb other g ≡ c → at_gate other log ++ at_gate other outs ≡ said_at (slice_set said g (said_at said g ++ outs)) other
    by true is =
        let same : other ≡ g = eqb-true other g is in
        subst (λ (x : ℕ). at_gate x log ++ at_gate x outs ≡ said_at (slice_set said g (said_at said g ++ outs)) x) (sym same)
        (ap₂ (λ xs ys. xs ++ ys) (each g) (at_own g outs all) ∙ sym (get_or-set_same said g (said_at said g ++ outs) [] inside))
    by false is =
        let ne : other ≢ g = eqb-false other g is in
        ap₂ (λ xs ys. xs ++ ys) (each other) (at_other g other outs ne all) ∙ append-nil (said_at said other)
        ∙ sym (get_or-set_other said g other (said_at said g ++ outs) [] ne)
