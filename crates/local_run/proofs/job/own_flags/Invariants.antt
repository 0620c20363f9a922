use Rattle.std.proofs.Common.{◌≡◌, take}
use Rattle.local_run.specs.OneSeed.{own_flags}
use Rattle.local_run.proofs.job.own_flags.Given as goal

abbrev pub invariant-loop-at : goal.invariant-loop-at
invariant-loop-at l = l.flags.items ≡ own_flags (take l.at l.inputs) l.party.0
