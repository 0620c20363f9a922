use Rattle.std.proofs.Common.{◌∙◌, refl, arith}
use Rattle.std.proofs.lemmas.List.FromFn.{map-range_with_len_more}
use Rattle.frames.specs.declared.frame.Frame.TheVariants.{End}
use Rattle.peer_streams.proofs.run.Run.ends.Goals as goal

pub loop-to-preserved : goal.loop-to-preserved
loop-to-preserved c =
    let more = map-range_with_len_more (λ q. End) 0 c.loop-to._to c.loop-to._to (omega arith) in
    rw more (c.in_ok-push.ensures.items ∙ rw c.loop-to.invariant refl)
