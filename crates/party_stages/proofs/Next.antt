-- What a stage that lacks nothing gives is what comes next.
use Rattle.std.proofs.Common.{ℕ, suc, ◌≡◌, ◌≤◌, Bool, true, false, cond, List, [], ◌∷◌, length, filter, Some, arith}
use Rattle.std.specs.Prelude.{slice_get}
use Rattle.share_types.specs.Sums.{each}
use Rattle.share_types.proofs.Parties.{length-each}
use Rattle.message_demux.specs.Kept.{InboxContents}
use Rattle.plan_gates.specs.Plan.{Gates}
use Rattle.plan_gates.specs.Messages.{hears, rounds, stages}
use Rattle.plan_gates.proofs.MessageLemmas.{rounds_are_few}
use Rattle.gate_tasks.specs.declared.stage.StageOut.{StageOut}
use Rattle.gate_tasks.specs.Task.{Task}
use Rattle.party_stages.specs.Following.{Side, me_of, Progress}
use Rattle.party_stages.specs.Scene.{IsScene, IsReady, IsNext}

fewer : {X : Type 0} (p : X → Bool) (xs : List X) → length (filter p xs) ≤ length xs
fewer p [] = omega arith
fewer p (x ∷ xs) = by (p x) (fewer p xs) where
  by : (c : Bool) → length (filter p xs) ≤ length xs → length (cond c (x ∷ filter p xs) (filter p xs)) ≤ suc (length xs)
  by true rest = omega (arith, rest)
  by false rest = omega (arith, rest)

-- a gate has at most four stages
pub stages_are_few : (plan : Gates) (me g : ℕ) → stages plan me g ≤ 4
stages_are_few plan me g =
    let some = fewer (hears plan me g) (each (rounds plan g) (λ round. round)) in
    let all = length-each (rounds plan g) (λ round. round) in
    let few = rounds_are_few plan g in
    omega (arith, some, all, few)

pub next_is : (b : Side) (inbox : InboxContents) (p : Progress) (g stage : ℕ) (task : Task) (given : StageOut) → IsScene b inbox p → IsReady b inbox p g →
    slice_get p.tasks g ≡ Some task → stage ≡ task.stage → IsNext p (record { gate = g; stage = stage; given = given })
next_is b inbox p g stage task given scene ready there same =
    let below = scene.progress.stage g task there in
    let few = stages_are_few b.plan (me_of b) g in
    record {
      task = task;
      there = there;
      stage = same;
      few = omega (arith, below, few, same);
      unset = ready.unset;
    }
