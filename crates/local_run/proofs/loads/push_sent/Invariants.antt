use Rattle.std.proofs.Common.{◌≡◌, ◌++◌}
use Rattle.local_run.specs.Loads.{sent_before}
use Rattle.local_run.proofs.loads.push_sent.Given as goal

abbrev pub invariant-loop-gate : goal.invariant-loop-gate
invariant-loop-gate l = l.loads.items ≡ l.initial.loads.items ++ sent_before l.plan l.party l.gate
