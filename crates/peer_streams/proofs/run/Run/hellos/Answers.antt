use Rattle.std.proofs.Common.{◌∙◌, refl, arith}
use Rattle.std.proofs.lemmas.List.FromFn.{map-range_with_len_more}
use Rattle.frames.specs.declared.frame.Frame.TheVariants.{Hello}
use Rattle.peer_streams.specs.Runs.{hello_of, party}
use Rattle.peer_streams.proofs.run.Run.hellos.Goals as goal

pub loop-to-preserved : goal.loop-to-preserved
loop-to-preserved c =
    let more = map-range_with_len_more (λ q. Hello (hello_of c.args.self.now c.args.from (party q))) 0 c.loop-to.to c.loop-to.to (omega arith) in
    rw more (c.in_ok-push.ensures.items ∙ rw (c.loop-to.invariant, c.hello.ensures) refl)
