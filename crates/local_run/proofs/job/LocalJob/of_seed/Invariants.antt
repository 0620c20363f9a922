use Rattle.std.proofs.Common.{◌≡◌}
use Rattle.share_types.specs.Sums.{each}
use Rattle.local_run.specs.OneSeed.{own_of}
use Rattle.local_run.proofs.job.LocalJob.of_seed.Given as goal

abbrev pub invariant-loop-party : goal.invariant-loop-party
invariant-loop-party l = l.owns.items ≡ each l.party (own_of l.seed.0 l.inputs l.values)
