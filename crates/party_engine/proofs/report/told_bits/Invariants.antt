use Rattle.std.proofs.Common.{◌≡◌}
use Rattle.std.specs.List.{flat_map}
use Rattle.gate_tasks.specs.Report.{told_gates}
use Rattle.party_stages.specs.Following.{me_of}
use Rattle.party_engine.specs.Reporting.{bits_held}
use Rattle.party_engine.proofs.report.told_bits.Given as goal

abbrev pub invariant-loop-gate : goal.invariant-loop-gate
invariant-loop-gate l = l.list.items ≡ flat_map (bits_held l.stages.wires) (told_gates l.brought.plan (me_of l.brought) l.gate)
