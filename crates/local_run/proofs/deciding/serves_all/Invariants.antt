use Rattle.std.proofs.Common.{◌≡◌, ◌<◌, ℕ, Some}
use Rattle.std.specs.Prelude.{slice_get}
use Rattle.dealer_files.specs.Part.{Part}
use Rattle.joint_run.specs.declared.own.Own.{Own}
use Rattle.gate_tasks.specs.Serving.{ServeParty}
use Rattle.local_run.proofs.deciding.serves_all.Given as goal

abbrev pub invariant-loop-party : goal.invariant-loop-party
invariant-loop-party l =
    (p : ℕ) (own : Own) (part : Part) → p < l.party → slice_get l.job.owns.items p ≡ Some own →
    slice_get l.parts p ≡ Some part → ServeParty l.job.plan p own part
