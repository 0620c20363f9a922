use Rattle.std.proofs.Common.{◌≡◌, ◌++◌, map, take}
use Rattle.local_run.specs.Loads.{edge_to}
use Rattle.local_run.proofs.edges.push_edges.Given as goal

abbrev pub invariant-loop-load : goal.invariant-loop-load
invariant-loop-load l = l.edges.items ≡ l.initial.edges.items ++ map (edge_to l.plan l.target) (take l.load-index l.loads)
