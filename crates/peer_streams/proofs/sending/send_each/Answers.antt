use Rattle.std.proofs.Common.{◌∙◌, refl, length, rules, arith}
use Rattle.std.proofs.lemmas.Option.{slice_get_read}
use Rattle.peer_streams.proofs.Sent.{sent-more, begun-more}
use Rattle.peer_streams.proofs.sending.send_each.Goals as goal

pub returns-in-Err-clause-some : goal.returns-in-Err-clause-some
returns-in-Err-clause-some g c =
    let frames = c.args.frames.now in
    let to = c.loop-to.to in
    let frame = c.index-frames-from.result in
    let there = slice_get_read frames (length frames) to frame refl (omega (arith, c.requires.count, c.loop-to-test.true)) (rw c.from.ensures at c.index-frames-from.is) in
    let some = c.in-Err.ensures.some in
    begun-more c.args.place.me.0 to frames frame c.if-to-place.false there some.0 (g.L.Links.sent c.args.links.now) (g.L.Links.sent c.loop-to.links) (g.L.Links.sent c.send_frame.new.links) c.loop-to.invariant.sent some.1

pub loop-to-preserved : goal.loop-to-preserved
loop-to-preserved g c =
    let frames = c.args.frames.now in
    let to = c.loop-to.to in
    let frame = c.index-frames-from.result in
    let there = slice_get_read frames (length frames) to frame refl (omega (arith, c.requires.count, c.loop-to-test.true)) (rw c.from.ensures at c.index-frames-from.is) in
    record {
      sent = sent-more c.args.place.me.0 to frames frame c.if-to-place.false there (g.L.Links.sent c.args.links.now) (g.L.Links.sent c.loop-to.links) (g.L.Links.sent c.send_frame.new.links) c.loop-to.invariant.sent c.in-Ok.ensures.all;
      left = search rules;
      closed = λ p. c.send_frame.ensures.closed p ∙ c.loop-to.invariant.closed p;
      place = c.send_frame.ensures.place ∙ c.loop-to.invariant.place;
      never_falls = omega arith;
    }
