use Rattle.std.proofs.Common.{◌≡◌, ◌++◌, take}
use Rattle.std.specs.List.{flat_map}
use Rattle.dealer_files.specs.File.{mult_bytes}
use Rattle.dealer_files.proofs.write.put_mults.Given as goal

abbrev pub invariant-loop-triple : goal.invariant-loop-triple
invariant-loop-triple l = l.out.items ≡ l.initial.out.items ++ flat_map mult_bytes (take l.triple-index l.triples)
