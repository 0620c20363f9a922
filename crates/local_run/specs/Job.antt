-- What a run of all parties is asked on.
use Rattle.std.specs.Prelude.{ℕ, ◌≡◌, false, List, length, slice_get, Some}
use Rattle.dealer_files.specs.Part.{Part}
use Rattle.plan_gates.specs.Plan.{Gates, has_keys}
use Rattle.joint_run.specs.declared.own.Own.{Own}
use Rattle.gate_tasks.specs.Serving.{ServeParty}

-- there are own data and a part of a deal for each party of the plan, in the order of the parties. The plan has no gates of
-- keys, which no stage runs yet
pub record IsJob (plan : Gates) (owns : List Own) (parts : List Part) : Type 0 where
  pub keyless : has_keys plan ≡ false
  pub owns_count : length owns ≡ plan.parties
  pub parts_count : length parts ≡ plan.parties
  pub each : (p : ℕ) (own : Own) (part : Part) → slice_get owns p ≡ Some own → slice_get parts p ≡ Some part →
      ServeParty plan p own part
