use Rattle.std.proofs.Common.{◌∙◌, refl, length, rules, arith}
use Rattle.std.proofs.lemmas.Option.{slice_get_read}
use Rattle.party_engine.proofs.Said.{sent-more, begun-more}
use Rattle.party_engine.proofs.saying.send_outs.Goals as goal

pub returns-in-Err-clause-some : goal.returns-in-Err-clause-some
returns-in-Err-clause-some g c =
    let outs = c.args.outs.now in
    let k = c.loop-out.out-index in
    let out = c.out-item.result in
    let there = slice_get_read outs (length outs) k out refl c.loop-out-test.true c.out-item.is in
    let some = c.in-Err.ensures.some in
    begun-more outs k out there some.0 (g.L.Links.sent c.args.links.now) (g.L.Links.sent c.loop-out.links) (g.L.Links.sent c.send_message.new.links) c.loop-out.invariant.sent some.1

pub loop-out-preserved : goal.loop-out-preserved
loop-out-preserved g c =
    let outs = c.args.outs.now in
    let k = c.loop-out.out-index in
    let out = c.out-item.result in
    let there = slice_get_read outs (length outs) k out refl c.loop-out-test.true c.out-item.is in
    record {
      sent = sent-more outs k out there (g.L.Links.sent c.args.links.now) (g.L.Links.sent c.loop-out.links) (g.L.Links.sent c.send_message.new.links) c.loop-out.invariant.sent c.in-Ok.ensures.all;
      left = search rules;
      closed = λ p. c.send_message.ensures.closed p ∙ c.loop-out.invariant.closed p;
      place = c.send_message.ensures.place ∙ c.loop-out.invariant.place;
      never_falls = omega arith;
    }
