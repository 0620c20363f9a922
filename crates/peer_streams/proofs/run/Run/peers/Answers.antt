use Rattle.std.proofs.Common.{◌∙◌, refl, arith}
use Rattle.std.proofs.lemmas.List.FromFn.{map-range_with_len_more}
use Rattle.peer_streams.specs.Runs.{hello_of, party, fresh_peer}
use Rattle.peer_streams.proofs.run.Run.peers.Goals as goal

pub loop-from-preserved : goal.loop-from-preserved
loop-from-preserved c =
    let more = map-range_with_len_more (λ q. fresh_peer (hello_of c.args.self.now (party q) c.args.me)) 0 c.loop-from.from c.loop-from.from (omega arith) in
    rw more (c.in_ok-push.ensures.items ∙ rw (c.loop-from.invariant, c.new.ensures.is, c.hello.ensures) refl)
