use Rattle.std.proofs.Common.{◌≡◌, replicate}
use Rattle.local_run.specs.declared.cargo.Cargo.TheVariants as cargo
use Rattle.local_run.proofs.outputs.copies.Given as goal

abbrev pub invariant-loop-at : goal.invariant-loop-at
invariant-loop-at l = l.outputs.items ≡ replicate l._at (cargo.Value l.value)
