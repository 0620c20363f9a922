use Rattle.std.proofs.Common.{◌≡◌, map}
use Rattle.std.specs.List.{range_with_len}
use Rattle.frames.specs.declared.frame.Frame.TheVariants.{End}
use Rattle.peer_streams.proofs.run.Run.ends.Given as goal

abbrev pub invariant-loop-to : goal.invariant-loop-to
invariant-loop-to l = l.frames.items ≡ map (λ q. End) (range_with_len 0 l._to)
