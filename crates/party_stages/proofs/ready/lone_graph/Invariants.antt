use Rattle.std.proofs.Common.{◌≡◌}
use Rattle.share_types.specs.Sums.{each}
use Rattle.turn_core.specs.declared.edge.TheConstants.{TERMINAL}
use Rattle.party_stages.proofs.ready.lone_graph.Given as goal

abbrev pub invariant-loop-source : goal.invariant-loop-source
invariant-loop-source l = l.edges.items ≡ each l.source (λ k. record { source = k; target = TERMINAL })
