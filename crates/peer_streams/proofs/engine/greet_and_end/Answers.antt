use Rattle.std.proofs.Common.{◌∙◌, List, ap, length}
use Rattle.std.proofs.lemmas.Result.{on_err_weaker}
use Rattle.frames.specs.declared.frame.Frame.{Frame}
use Rattle.peer_streams.specs.Runs.{hellos_from, ends_for}
use Rattle.peer_streams.specs.Sending.{bytes_for}
use Rattle.peer_streams.proofs.Greeting.{hellos-count, hellos-can, ends-count, ends-can}
use Rattle.peer_streams.proofs.Sent.{begun-first, begun-then}
use Rattle.peer_streams.proofs.engine.greet_and_end.Goals as goal

pub send_each-requires-clause-count : goal.send_each-requires-clause-count
send_each-requires-clause-count g c =
    ap (λ (xs : List Frame). length xs) (c.as_slice.ensures.value ∙ c.in-Ok.ensures) ∙ hellos-count c.args.run.now c.args.me

pub send_each-requires-clause-can : goal.send_each-requires-clause-can
send_each-requires-clause-can g c = rw (c.as_slice.ensures.value, c.in-Ok.ensures) (hellos-can c.args.run.now c.args.me)

pub send_each-requires-2-clause-count : goal.send_each-requires-2-clause-count
send_each-requires-2-clause-count g c =
    ap (λ (xs : List Frame). length xs) (c.as_slice-2.ensures.value ∙ c.in-Ok-ends.ensures) ∙ ends-count c.args.run.now

pub send_each-requires-2-clause-can : goal.send_each-requires-2-clause-can
send_each-requires-2-clause-can g c = rw (c.as_slice-2.ensures.value, c.in-Ok-ends.ensures) (ends-can c.args.run.now)

pub returns-in-Err-send_each-clause-some : goal.returns-in-Err-send_each-clause-some
returns-in-Err-send_each-clause-some g c =
    let is = c.as_slice.ensures.value ∙ c.in-Ok.ensures in
    begun-first (g.L.Links.sent c.args.links.now) (g.L.Links.sent c.send_each.new.links) (bytes_for c.args.me.0 (hellos_from c.args.run.now c.args.me)) (bytes_for c.args.me.0 (ends_for c.args.run.now)) (rw is at c.in-Err-send_each.ensures.some)

pub returns-clause-some : goal.returns-clause-some
returns-clause-some g c =
    let is = c.as_slice.ensures.value ∙ c.in-Ok.ensures in
    let ends = c.as_slice-2.ensures.value ∙ c.in-Ok-ends.ensures in
    on_err_weaker c.send_each-2.result
    (λ begun. begun-then (g.L.Links.sent c.args.links.now) (g.L.Links.sent c.send_each.new.links) (g.L.Links.sent c.send_each-2.new.links) (bytes_for c.args.me.0 (hellos_from c.args.run.now c.args.me)) (bytes_for c.args.me.0 (ends_for c.args.run.now)) (rw is at c.in-Ok-send_each.ensures.all) begun)
    (rw ends at c.send_each-2.ensures.some)
