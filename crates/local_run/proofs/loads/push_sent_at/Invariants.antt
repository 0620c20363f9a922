use Rattle.std.proofs.Common.{◌≡◌, ◌++◌}
use Rattle.std.specs.List.{flat_map}
use Rattle.share_types.specs.Sums.{each}
use Rattle.local_run.specs.Loads.{sent_round}
use Rattle.local_run.proofs.loads.push_sent_at.Given as goal

abbrev pub invariant-loop-round : goal.invariant-loop-round
invariant-loop-round l =
    l.loads.items ≡ l.initial.loads.items ++ flat_map (sent_round l.plan l.party l.gate) (each l.round (λ round. round))
