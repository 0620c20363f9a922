use Rattle.std.proofs.Common.{◌≡◌, ◌++◌, map}
use Rattle.local_run.specs.declared.item.Load.TheVariants.{Wire}
use Rattle.gate_tasks.specs.Report.{told_gates}
use Rattle.local_run.proofs.loads.push_told.Given as goal

abbrev pub invariant-loop-gate : goal.invariant-loop-gate
invariant-loop-gate l =
    l.loads.items ≡ l.initial.loads.items ++ map (λ g. Wire g l.party) (told_gates l.plan l.party.0 l.gate)
