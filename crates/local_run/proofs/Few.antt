-- A gate has three operands at most, and two where it is none of keys.
use Rattle.std.proofs.Common.{ℕ, ◌≡◌, ◌≤◌, false, List, length, Option, Some, None, refl, arith}
use Rattle.std.specs.Prelude.{slice_get, option_map}
use Rattle.plan_gates.specs.Gate.{Kind, Gate, AddA, SubA, MulA, XorB, JoinB, AndB, XorMask, JoinMask, XorOnline, JoinOnline, Garble, EvalY, YToB, is_of_keys, operands, ShareAOnline, ShareBOnline}
use Rattle.plan_gates.specs.Plan.{Gates, has_keys}
use Rattle.plan_gates.proofs.KeyLemmas.{unkeyed_at}
use Rattle.gate_tasks.specs.Stage.{operands_of, kind_at, AreOperands}
use Rattle.gate_tasks.specs.declared.value.Value.{Value}

few : (k : Kind) → length (operands k) ≤ 3
few (AddA x y) = omega arith
few (SubA x y) = omega arith
few (MulA x y) = omega arith
few (XorB x y) = omega arith
few (JoinB x y) = omega arith
few (AndB x y) = omega arith
few (XorMask u v) = omega arith
few (JoinMask u v) = omega arith
few (XorOnline u v) = omega arith
few (JoinOnline u v) = omega arith
few (Garble u v m) = omega arith
few (EvalY t u v) = omega arith
few (YToB m o) = omega arith
few (ShareAOnline party x m) = omega arith
few (ShareBOnline party x m) = omega arith
few _ = omega arith

pub few_of : (k : Option Kind) → length (operands_of k) ≤ 3
few_of None = omega arith
few_of (Some k) = few k

two : (k : Kind) → is_of_keys k ≡ false → length (operands k) ≤ 2
two (AddA x y) e = omega arith
two (SubA x y) e = omega arith
two (MulA x y) e = omega arith
two (XorB x y) e = omega arith
two (JoinB x y) e = omega arith
two (AndB x y) e = omega arith
two (Garble u v m) e = cc
two (EvalY t u v) e = cc
two (XorMask u v) e = cc
two (JoinMask u v) e = cc
two (XorOnline u v) e = cc
two (JoinOnline u v) e = cc
two (YToB m o) e = cc
two (ShareAOnline party x m) e = cc
two (ShareBOnline party x m) e = cc
two _ e = omega arith

two_at : (plan : Gates) (g : ℕ) → has_keys plan ≡ false → length (operands_of (kind_at plan.gates g)) ≤ 2
two_at plan g unkeyed = by (slice_get plan.gates g) refl
  where
    by : (o : Option Gate) → slice_get plan.gates g ≡ o → length (operands_of (option_map (λ (y : Gate). y.kind) o)) ≤ 2
    by None e = omega arith
    by (Some gate) e = two gate.kind (unkeyed_at plan g gate unkeyed e)

pub few_operands : (plan : Gates) (g : ℕ) (wires : List Value) → has_keys plan ≡ false → AreOperands plan g wires → length wires ≤ 2
few_operands plan g wires unkeyed are = omega (arith, are.count, two_at plan g unkeyed)
