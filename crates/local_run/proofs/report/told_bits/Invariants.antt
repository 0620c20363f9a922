use Rattle.std.proofs.Common.{◌≡◌, take}
use Rattle.std.specs.List.{flat_map}
use Rattle.local_run.specs.Report.{bits_told}
use Rattle.local_run.proofs.report.told_bits.Given as goal

abbrev pub invariant-loop-cargo : goal.invariant-loop-cargo
invariant-loop-cargo l = l.list.items ≡ flat_map bits_told (take l.cargo-index l.told)
