use Rattle.std.proofs.Common.{ℕ, ◌<◌}
use Rattle.gate_tasks.specs.declared.outgoing.Out.{Out}
use Rattle.local_run.specs.Meaning.{IsTo}
use Rattle.local_run.proofs.outputs.place_of.Given as goal

abbrev pub invariant-loop-at : goal.invariant-loop-at
invariant-loop-at l = (i : ℕ) (o : Out) → i < l.at → IsTo l.outs l.round l.to i o → ⊥
