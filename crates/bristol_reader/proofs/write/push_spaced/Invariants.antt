use Rattle.std.proofs.Common.{◌≡◌, ◌++◌, take}
use Rattle.bristol_reader.specs.Written.{spaced}
use Rattle.bristol_reader.proofs.write.push_spaced.Given as goal

abbrev pub invariant-loop-number : goal.invariant-loop-number
invariant-loop-number l = l.out.items ≡ l.initial.out.items ++ spaced (take l.number-index l.numbers)
