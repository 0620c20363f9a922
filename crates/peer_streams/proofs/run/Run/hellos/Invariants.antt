use Rattle.std.proofs.Common.{◌≡◌, map}
use Rattle.std.specs.List.{range_with_len}
use Rattle.frames.specs.declared.frame.Frame.TheVariants.{Hello}
use Rattle.peer_streams.specs.Runs.{hello_of, party}
use Rattle.peer_streams.proofs.run.Run.hellos.Given as goal

abbrev pub invariant-loop-to : goal.invariant-loop-to
invariant-loop-to l =
    l.frames.items ≡ map (λ q. Hello (hello_of l.self l.from (party q))) (range_with_len 0 l.to)
