-- What a task that lacks nothing hands to its stage.
use Rattle.std.proofs.Common.{ℕ, ◌≡◌, ◌<◌, Bool, true, false, List, length, Option, Some, None, refl, sym, ◌∙◌, ap, ap₂, subst}
use Rattle.std.specs.Prelude.{◌==◌, option_map, is_some, slice_get, if◌then◌else◌, IfSome}
use Rattle.std.specs.FinMap as map
use Rattle.std.proofs.lemmas.Bool.{eqb-true, ltb-true}
use Rattle.message_demux.specs.declared.slots.SlotSpec.{SlotSpec}
use Rattle.message_demux.specs.declared.inbox.Refused.TheVariants.{PayloadLength, HighBits}
use Rattle.message_demux.specs.Slots.{slot_of, has_high_bits}
use Rattle.message_demux.specs.Fit.{Fits, unfit, told_length}
use Rattle.message_demux.specs.Kept.{InboxContents}
use Rattle.plan_gates.specs.declared.message.Message.{Message}
use Rattle.plan_gates.specs.Plan.{Gates}
use Rattle.plan_gates.specs.Messages.{message, spec_of, are_two, awaits}
use Rattle.joint_run.specs.Party.{Payload}
use Rattle.gate_tasks.specs.Wires.{value_held}
use Rattle.gate_tasks.specs.Stage.{HasShape, AreOperands, AreAwaited, senders, operands_at}
use Rattle.gate_tasks.specs.Task.{held_values, payloads_at, gate_lacking, slot_lacking, party_lacking, slot_from, lacking, HoldTypes, ExpectsAll, KeptFit}
use Rattle.gate_tasks.specs.declared.value.Value.{Value as ValueInMemory}
use Rattle.gate_tasks.specs.declared.own.Env.{Env}
use Rattle.gate_tasks.specs.declared.step.Need.TheVariants as need
use Rattle.gate_tasks.proofs.Giving.{two_of}
use Rattle.gate_tasks.proofs.Gathered.{all_found, neither}
use Rattle.mot_base.proofs.Lists.{both_true as both, same_some as some_is, mapped_none as none_of}

pub all_operands : (plan : Gates) (g : ℕ) (wires : List (Option ValueInMemory)) → HoldTypes plan g wires →
    gate_lacking wires (operands_at plan.gates g) ≡ None → AreOperands plan g (held_values wires (operands_at plan.gates g))
all_operands plan g wires types none =
    let all = all_found (value_held wires) (operands_at plan.gates g) none in
    record {
      count = all.count;
      types = λ i x gate value at there found. types i x gate value at there (all.each_found i x value at found);
    }

-- a payload that fits an expected message has its length and shape
shape_of_fit : (spec : SlotSpec) (m : Message) (payload : Payload) → spec.len ≡ m.len → spec.shape ≡ m.shape → unfit spec payload ≡ None → HasShape m payload
shape_of_fit spec m payload len shape fit = by (length payload == spec.len) refl (has_high_bits spec.shape payload) refl
  where
    by : (b : Bool) → (length payload == spec.len) ≡ b → (c : Bool) → has_high_bits spec.shape payload ≡ c → HasShape m payload
    by true e false f = (eqb-true (length payload) spec.len e ∙ len, ap (λ s. has_high_bits s payload) (sym shape) ∙ f)
    by true e true f =
        let refused : unfit spec payload ≡ Some (HighBits (slot_of spec)) =
        ap₂ (λ b c. if b then (if c then Some (HighBits (slot_of spec)) else None) else Some (PayloadLength (slot_of spec) spec.len (told_length payload))) e f in
        let contrary = sym refused ∙ fit in cc
    by false e c f =
        let refused : unfit spec payload ≡ Some (PayloadLength (slot_of spec) spec.len (told_length payload)) =
        ap (λ b. if b then (if has_high_bits spec.shape payload then Some (HighBits (slot_of spec)) else None) else Some (PayloadLength (slot_of spec) spec.len (told_length payload))) e in
        let contrary = sym refused ∙ fit in cc

sender_inside : (plan : Gates) (me g r from : ℕ) → is_some (message plan from me g r) ≡ true → from < plan.parties
sender_inside plan me g r from e =
    ltb-true from plan.parties (both _ _ (both _ _ (two_of (are_two plan.parties from me) _ e)).0).0

pub all_awaited : (plan : Gates) (me g : ℕ) (inbox : InboxContents) (round : Option ℕ) → ExpectsAll plan me g inbox →
    ((r : ℕ) → round ≡ Some r → KeptFit plan me inbox g r plan.parties) → slot_lacking plan me inbox g round ≡ None →
    AreAwaited plan me g round (payloads_at plan me inbox g round)
all_awaited plan me g inbox None expects fit none = record { count = refl; shapes = λ r i from m payload e. cc }
all_awaited plan me g inbox (Some r) expects fit none =
    let f : ℕ → Option Payload = λ from. map.get inbox.kept (slot_from g r from) in
    let all = all_found f (senders plan me g r) (none_of (slot_from g r) (party_lacking inbox g r (senders plan me g r)) none) in
    record { count = all.count; shapes = λ q i from m payload e. shape q (sym (some_is r q e)) i from m payload }
  where
    shape : (q : ℕ) → q ≡ r → (i from : ℕ) (m : Message) (payload : Payload) → slice_get (senders plan me g q) i ≡ Some from → message plan from me g q ≡ Some m →
        slice_get (payloads_at plan me inbox g (Some r)) i ≡ Some payload → HasShape m payload
    shape q same i from m payload at sent found =
        let f : ℕ → Option Payload = λ s. map.get inbox.kept (slot_from g r s) in
        let all = all_found f (senders plan me g r) (none_of (slot_from g r) (party_lacking inbox g r (senders plan me g r)) none) in
        let at_r : slice_get (senders plan me g r) i ≡ Some from = ap (λ k. slice_get (senders plan me g k) i) (sym same) ∙ at in
        let sent_r : message plan from me g r ≡ Some m = ap (message plan from me g) (sym same) ∙ sent in
        let is_sent : is_some (message plan from me g r) ≡ true = ap is_some sent_r in
        let kept : f from ≡ Some payload = all.each_found i from payload at_r found in
        let fits = fit r refl from (sender_inside plan me g r from is_sent) is_sent in
        let here : Fits inbox.slots (slot_from g r from) payload = subst (λ o. IfSome o (Fits inbox.slots (slot_from g r from))) kept fits in
        let (spec, listed_is, fit_is) = here in
        let spec_is : spec_of from g r m ≡ spec =
        some_is (spec_of from g r m) spec (sym (expects from r ∙ ap (option_map (spec_of from g r)) sent_r) ∙ listed_is) in
        shape_of_fit spec m payload (sym (ap (λ (s : SlotSpec). s.len) spec_is)) (sym (ap (λ (s : SlotSpec). s.shape) spec_is)) fit_is

-- what lacks nothing lacks neither a value nor a message
pub lacks_none : (env : Env) (g stage : ℕ) → lacking env g stage ≡ None →
    (gate_lacking env.wires.now (operands_at env.plan.now.gates g) ≡ None)
    × (slot_lacking env.plan.now env.own.now.me.0 env.inbox.now g (awaits env.plan.now env.own.now.me.0 g stage) ≡ None)
lacks_none env g stage e = neither need.Wire need.Slot _ _ e
