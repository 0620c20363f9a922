use Rattle.std.proofs.Common.{◌∙◌, List, ap, length}
use Rattle.frames.specs.declared.frame.Frame.{Frame}
use Rattle.peer_streams.proofs.Greeting.{ends-count, ends-can}
use Rattle.party_engine.proofs.greeting.send_ends.Goals as goal

pub send_each-requires-clause-count : goal.send_each-requires-clause-count
send_each-requires-clause-count g c =
    ap (λ (xs : List Frame). length xs) (c.as_slice.ensures.value ∙ c.in-Ok.ensures) ∙ ends-count c.args.run.now

pub send_each-requires-clause-can : goal.send_each-requires-clause-can
send_each-requires-clause-can g c = rw (c.as_slice.ensures.value, c.in-Ok.ensures) (ends-can c.args.run.now)
