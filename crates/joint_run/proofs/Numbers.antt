-- The number of each gate that a plan computes in plain, as the gates behind it see it.
use Rattle.std.proofs.Common.{ℕ, ◌≡◌, ◌<◌, ◌%◌, ◌^◌, List, Some, refl, sym, ap, subst}
use Rattle.std.specs.Prelude.{slice_get, slice_index}
use Rattle.std.proofs.Math.Nat.{mod-lt}
use Rattle.std.proofs.lemmas.Nat.{pow_pos}
use Rattle.plan_gates.specs.Gate.{Kind, Gate, Use, width_at}
use Rattle.plan_gates.specs.Plan.{Gates, IsOperand, StandsAt}
use Rattle.plan_gates.specs.Plain.{Outside, plain_before, number_at, number_of, seen_of}
use Rattle.joint_run.proofs.Grown.{grown-get}
use Rattle.joint_run.proofs.Run.{wide_is}
use Rattle.mot_base.proofs.Lists.{index_at}

module _ (plan : Gates) (outside : Outside) where
  abbrev pub plain : ℕ → List ℕ
  plain g = plain_before plan.gates outside g

  abbrev pub numbered : ℕ → ℕ
  numbered g = number_at plan.gates outside (plain g) (slice_get plan.gates g)

  pub plain_get : (g k : ℕ) → k < g → slice_get (plain g) k ≡ Some (numbered k)
  plain_get g k less = grown-get plain numbered refl (λ j. refl) g k less

  pub plain_is : (g k : ℕ) → k < g → slice_index (plain g) k ≡ numbered k
  plain_is g k less = index_at (plain g) k (numbered k) (plain_get g k less)

  pub number_there : (g : ℕ) (kind : Kind) (width : ℕ) → StandsAt plan.gates g kind width →
      numbered g ≡ number_of kind (seen_of plan.gates outside (plain g) kind) % 2 ^ width
  number_there g kind width found = ap (number_at plan.gates outside (plain g)) found

  pub number_small : (g : ℕ) (gate : Gate) → slice_get plan.gates g ≡ Some gate → numbered g < 2 ^ width_at plan.gates g
  number_small g gate found =
      subst (λ w. numbered g < 2 ^ w) (sym (wide_is plan g gate found))
      (subst (λ v. v < 2 ^ gate.width) (sym (ap (number_at plan.gates outside (plain g)) found))
      (mod-lt (number_of gate.kind (seen_of plan.gates outside (plain g) gate.kind)) (pow_pos gate.width)))

  pub operand_number_small : (g : ℕ) (used : Use) → IsOperand plan.gates g used → numbered used.gate < 2 ^ width_at plan.gates used.gate
  operand_number_small g used (less, gate, found, is) = number_small used.gate gate found
