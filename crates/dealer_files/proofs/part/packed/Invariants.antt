use Rattle.std.proofs.Common.{◌≡◌, ◌-◌, length, drop}
use Rattle.dealer_files.specs.Records.{vector_of}
use Rattle.dealer_files.proofs.part.packed.Given as goal

abbrev pub invariant-loop-at : goal.invariant-loop-at
invariant-loop-at l = l.word ≡ vector_of l.bit (drop (length l.records - l.at) l.records)
