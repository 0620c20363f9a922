use Rattle.std.proofs.Common.{◌≡◌, ◌++◌, take}
use Rattle.std.specs.List.{flat_map}
use Rattle.joint_run.specs.Payload.{bytes_of_vector}
use Rattle.joint_run.proofs.payload.put_vectors.Given as goal

abbrev pub invariant-loop-vector : goal.invariant-loop-vector
invariant-loop-vector l = l.out.items ≡ l.initial.out.items ++ flat_map bytes_of_vector (take l.vector-index l.vectors)
