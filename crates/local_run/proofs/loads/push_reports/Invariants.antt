use Rattle.std.proofs.Common.{◌≡◌, ◌++◌}
use Rattle.local_run.specs.Loads.{reports_loads}
use Rattle.local_run.proofs.loads.push_reports.Given as goal

abbrev pub invariant-loop-party : goal.invariant-loop-party
invariant-loop-party l = l.loads.items ≡ l.initial.loads.items ++ reports_loads l.plan l.party
