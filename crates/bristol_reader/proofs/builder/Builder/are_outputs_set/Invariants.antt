use Rattle.std.proofs.Common.{ℕ, ◌≡◌, ◌<◌, ◌≤◌, true, false, slice_index_or}
use Rattle.bristol_reader.proofs.builder.Builder.are_outputs_set.Given as goal

abbrev pub invariant-loop-wire : goal.invariant-loop-wire
invariant-loop-wire l = (w : ℕ) → l.from ≤ w → w < l.wire → slice_index_or l.self-inside.set.items w false ≡ true
