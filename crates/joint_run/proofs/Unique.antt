-- There is exactly one joint run.
use Rattle.std.proofs.Common.{ℕ, zero, suc, ◌≡◌, ◌<◌, Bool, true, false, cond, List, [], ◌∷◌, ◌++◌, Option, Some, None, refl, sym, ◌∙◌, ap, ap₂, arith}
use Rattle.std.specs.Prelude.{slice_get, get_or, nat_lt, if◌then◌else◌}
use Rattle.plan_gates.specs.Messages.{are_two}
use Rattle.std.proofs.lemmas.Bool.{ltb-true}
use Rattle.std.proofs.Math.Path.{fun_ext}
use Rattle.plan_gates.specs.Plan.{Gates}
use Rattle.joint_run.specs.Party.{Own, Value, Payload, Rounds, Inbox, parties, hand, before, silence, sends_at, round_sends, value_at, wires_before}
use Rattle.joint_run.specs.Joint.{Payloads, column, sent_by, IsJoint}
use Rattle.joint_run.specs.Laws.{OneJointRun}
use Rattle.joint_run.proofs.Causal.{solution, IsCausal, solves, only}

-- the payloads of one round, by sender and receiver, and those of one gate, by round
abbrev OfRound : Type 0
OfRound = ℕ → ℕ → Payload

abbrev OfGate : Type 0
OfGate = ℕ → OfRound

-- what is heard before a round is the same where rounds agree below it
before-same : (r : ℕ) (got other : Rounds) → ((k : ℕ) → k < r → got k ≡ other k) → before r got ≡ before r other
before-same r got other same = fun_ext (λ k. at k (nat_lt k r) refl)
  where
    at : (k : ℕ) (b : Bool) → nat_lt k r ≡ b → cond b (got k) silence ≡ cond b (other k) silence
    at k true e = same k (ltb-true k r e)
    at k false e = refl

module _ (plan : Gates) (owns : List Own) where
  -- a party's values of earlier gates are the same where inboxes agree below a gate
  wires-same : (me : ℕ) (own : Own) (g : ℕ) (inbox other : Inbox) → ((k : ℕ) → k < g → inbox k ≡ other k) →
      wires_before plan me own inbox g ≡ wires_before plan me own other g
  wires-same me own zero inbox other same = refl
  wires-same me own (suc g) inbox other same =
      ap₂ (λ (ws : List Value) (got : Rounds). ws ++ value_at (slice_get plan.gates g) (hand plan me own g ws) got ∷ [])
      (wires-same me own g inbox other (λ k h. same k (omega (arith, h)))) (same g (omega arith))

  -- what a sender makes at a gate of the payloads of earlier gates and of the gate's rounds
  abbrev made_by : ℕ → Option Own → Payloads → ℕ → ℕ → OfGate → ℕ → Payload
  made_by sender None table g r rounds to = []
  made_by sender (Some own) table g r rounds to =
      round_sends (slice_get plan.gates g) (hand plan sender own g (wires_before plan sender own (column table sender) g))
      (λ k q. rounds k q sender) r to

  abbrev made : Payloads → ℕ → ℕ → OfGate → OfRound
  made table g r rounds sender to = made_by sender (slice_get owns sender) table g r rounds to

  abbrev no_round : OfRound
  no_round sender to = []

  abbrev no_gate : OfGate
  no_gate r sender to = []

  round-causal : (table : Payloads) (g : ℕ) → IsCausal (made table g)
  round-causal table g r rounds other same = fun_ext (λ sender. fun_ext (λ to. by sender to (slice_get owns sender)))
    where
      by : (sender to : ℕ) (o : Option Own) → made_by sender o table g r rounds to ≡ made_by sender o table g r other to
      by sender to None = refl
      by sender to (Some own) =
          let h = hand plan sender own g (wires_before plan sender own (column table sender) g) in
          let earlier = before-same r (λ k q. rounds k q sender) (λ k q. other k q sender)
          (λ k less. ap (λ (x : OfRound). λ (q : ℕ). x q sender) (same k less)) in
          ap (λ (b : Rounds). if are_two (parties h) h.me to then get_or (sends_at (slice_get plan.gates g) h b) r silence to else []) earlier

  -- all rounds of a gate, from the payloads of earlier gates
  abbrev gate_rounds : ℕ → Payloads → OfGate
  gate_rounds g table = solution no_round (made table g)

  -- where payloads agree below a gate, what is made there is the same
  made-same : (g : ℕ) (table other : Payloads) → ((k : ℕ) → k < g → table k ≡ other k) → made table g ≡ made other g
  made-same g table other same =
      fun_ext (λ r. fun_ext (λ rounds. fun_ext (λ sender. fun_ext (λ to. by r rounds sender to (slice_get owns sender)))))
    where
      by : (r : ℕ) (rounds : OfGate) (sender to : ℕ) (o : Option Own) → made_by sender o table g r rounds to ≡ made_by sender o other g r rounds to
      by r rounds sender to None = refl
      by r rounds sender to (Some own) =
          ap (λ (ws : List Value). round_sends (slice_get plan.gates g) (hand plan sender own g ws) (λ k q. rounds k q sender) r to)
          (wires-same sender own g (column table sender) (column other sender)
          (λ k less. ap (λ (x : OfGate). λ (r q : ℕ). x r q sender) (same k less)))

  gate-causal : IsCausal gate_rounds
  gate-causal g table other same = ap (solution no_round) (made-same g table other same)

  abbrev joint : Payloads
  joint = solution no_gate gate_rounds

  -- what a sender makes of a table is what is made at each gate of the table's rounds
  sent_is : (table : Payloads) (g r sender to : ℕ) (o : Option Own) →
      sent_by plan sender o (column table sender) g r to ≡ made_by sender o table g r (table g) to
  sent_is table g r sender to None = refl
  sent_is table g r sender to (Some own) = refl

  is_joint : IsJoint plan owns joint
  is_joint g r sender to =
      let at_gate = solves OfGate no_gate gate_rounds gate-causal g in
      let at_round = solves OfRound no_round (made joint g) (round-causal joint g) r in
      let here : joint g r ≡ made joint g r (joint g) =
      ap (λ (x : OfGate). x r) at_gate ∙ (at_round ∙ ap (λ (x : OfGate). made joint g r x) (sym at_gate)) in
      ap (λ (x : OfRound). x sender to) here ∙ sym (sent_is joint g r sender to (slice_get owns sender))

  only_joint : (other : Payloads) → IsJoint plan owns other → other ≡ joint
  only_joint other is = fun_ext (only OfGate no_gate gate_rounds gate-causal other at_gate)
    where
      at_round : (g r : ℕ) → other g r ≡ made other g r (other g)
      at_round g r = fun_ext (λ sender. fun_ext (λ to. is g r sender to ∙ sent_is other g r sender to (slice_get owns sender)))

      at_gate : (g : ℕ) → other g ≡ gate_rounds g other
      at_gate g = fun_ext (only OfRound no_round (made other g) (round-causal other g) (other g) (at_round g))

pub one_joint_run : OneJointRun
one_joint_run plan owns = (joint plan owns, is_joint plan owns, only_joint plan owns)
