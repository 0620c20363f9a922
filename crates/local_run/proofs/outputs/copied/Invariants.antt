use Rattle.std.proofs.Common.{take}
use Rattle.std.specs.Prelude.{slice_get}
use Rattle.task_pool.specs.Meanings.{AreMeanings}
use Rattle.local_run.specs.Meaning.{IsCargoAt}
use Rattle.local_run.proofs.outputs.copied.Given as goal

abbrev pub invariant-loop-edge : goal.invariant-loop-edge
invariant-loop-edge l =
    AreMeanings (λ e c. IsCargoAt l.given (slice_get l.loads e) c) (take l.edge-index l.edges) l.outputs.items
