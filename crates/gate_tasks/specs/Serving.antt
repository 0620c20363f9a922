-- What a party is asked on for a whole plan.
use Rattle.std.specs.Prelude.{ℕ, ◌≡◌, ◌<◌, ◌≤◌, slice_get, Some}
use Rattle.mot_base.specs.Limits.{session_count}
use Rattle.share_types.specs.declared.needs.Kind.{Kind}
use Rattle.share_types.specs.Needs.{count_of, sum_of_needs}
use Rattle.dealer_files.specs.Part.{Part, counts_of}
use Rattle.plan_gates.specs.Gate.{Gate}
use Rattle.plan_gates.specs.Plan.{Gates}
use Rattle.plan_gates.specs.Needs.{all_needs}
use Rattle.joint_run.specs.declared.own.Own.{Own}
use Rattle.gate_tasks.specs.Stage.{HasInput}

-- own data and a part of a deal serve a party of a plan: they are the party's, for the parties of the plan, the session has
-- share words, the inputs are there that the plan takes from the party, and there are records enough from the bases on
pub record ServeParty (plan : Gates) (p : ℕ) (own : Own) (part : Part) : Type 0 where
  pub me : own.me.0 ≡ p
  pub party : part.party ≡ p
  pub parties : part.parties ≡ plan.parties
  pub session : own.session < session_count
  pub inputs : (g : ℕ) (gate : Gate) → slice_get plan.gates g ≡ Some gate → HasInput gate p own.inputs
  pub records : (kind : Kind) →
      count_of (sum_of_needs own.bases (all_needs plan)) kind ≤ count_of (counts_of part) kind
