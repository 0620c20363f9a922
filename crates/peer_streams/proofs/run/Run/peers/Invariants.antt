use Rattle.std.proofs.Common.{◌≡◌, map}
use Rattle.std.specs.List.{range_with_len}
use Rattle.peer_streams.specs.Runs.{hello_of, party, fresh_peer}
use Rattle.peer_streams.proofs.run.Run.peers.Given as goal

abbrev pub invariant-loop-from : goal.invariant-loop-from
invariant-loop-from l =
    l.peers.items ≡ map (λ q. fresh_peer (hello_of l.self (party q) l.me)) (range_with_len 0 l.from)
