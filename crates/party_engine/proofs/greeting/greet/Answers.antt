use Rattle.std.proofs.Common.{◌∙◌, List, ap, length}
use Rattle.frames.specs.declared.frame.Frame.{Frame}
use Rattle.peer_streams.proofs.Greeting.{hellos-count, hellos-can}
use Rattle.peer_streams.specs.Runs.{hellos_from}
use Rattle.peer_streams.specs.Sending.{bytes_for}
use Rattle.party_engine.proofs.Refused.{none_begun}
use Rattle.party_engine.proofs.greeting.greet.Goals as goal

pub send_each-requires-clause-count : goal.send_each-requires-clause-count
send_each-requires-clause-count g c =
    ap (λ (xs : List Frame). length xs) (c.as_slice.ensures.value ∙ c.in-Ok-hellos.ensures) ∙ hellos-count c.args.run.now c.args.me

pub send_each-requires-clause-can : goal.send_each-requires-clause-can
send_each-requires-clause-can g c = rw (c.as_slice.ensures.value, c.in-Ok-hellos.ensures) (hellos-can c.args.run.now c.args.me)

pub returns-in-Err-clause-some : goal.returns-in-Err-clause-some
returns-in-Err-clause-some g c = none_begun (g.L.Links.sent c.args.links.now) (g.L.Links.sent c.connect.new.self) (bytes_for c.args.me.0 (hellos_from c.args.run.now c.args.me)) c.connect.ensures.sent

pub returns-in-Err-hellos-clause-some : goal.returns-in-Err-hellos-clause-some
returns-in-Err-hellos-clause-some g c = none_begun (g.L.Links.sent c.args.links.now) (g.L.Links.sent c.connect.new.self) (bytes_for c.args.me.0 (hellos_from c.args.run.now c.args.me)) c.connect.ensures.sent
