use Rattle.std.proofs.Common.{List, sym, subst}
use Rattle.std.specs.List.{All}
use Rattle.std.proofs.lemmas.Result.{on_ok_weaker}
use Rattle.gate_tasks.specs.declared.outgoing.Out.{Out}
use Rattle.peer_streams.specs.Sending.{AreSent, AreBegun}
use Rattle.party_stages.specs.Following.{Progress}
use Rattle.party_engine.specs.Saying.{bytes_of, CanSend, HasSaid}
use Rattle.party_engine.proofs.Sending.{all_can}
use Rattle.party_engine.proofs.Kept.{said_next, begun_next, all-begun}
use Rattle.party_engine.proofs.Options.{always_err}
use Rattle.party_engine.proofs.turn.take_next.Goals as goal

pub send_outs-requires-clause-can : goal.send_outs-requires-clause-can
send_outs-requires-clause-can g c =
    let b = c.args.brought.now in
    subst (λ (outs : List Out). All (CanSend c.args.place) outs) (sym c.as_slice.ensures)
    (all_can b c.requires.scene.plan c.requires.scene.unkeyed c.args.inbox.now c.args.place c.args.ran.gate c.args.ran.stage c.args.ran.given c.requires.here.me c.requires.here.parties c.requires.ran.run)

pub returns-in-Err-clause-begun : goal.returns-in-Err-clause-begun
returns-in-Err-clause-begun g c = λ before said.
    let next = c.requires.next in
    let begun : AreBegun (g.L.Links.sent c.args.links.now) (g.L.Links.sent c.send_outs.new.links) (bytes_of c.args.ran.given.out) =
    subst (λ (outs : List Out). AreBegun (g.L.Links.sent c.args.links.now) (g.L.Links.sent c.send_outs.new.links) (bytes_of outs)) c.as_slice.ensures c.in-Err.ensures.some in
    begun_next c.args.brought.now c.args.inbox.now c.args.stages.now c.args.ran c.requires.scene next c.requires.ran before (g.L.Links.sent c.args.links.now) (g.L.Links.sent c.send_outs.new.links) said begun

pub returns-clause-said : goal.returns-clause-said
returns-clause-said g c = λ before said.
    let next = c.requires.next in
    let sent : AreSent (g.L.Links.sent c.args.links.now) (g.L.Links.sent c.send_outs.new.links) (bytes_of c.args.ran.given.out) =
    subst (λ (outs : List Out). AreSent (g.L.Links.sent c.args.links.now) (g.L.Links.sent c.send_outs.new.links) (bytes_of outs)) c.as_slice.ensures c.in-Ok.ensures.all in
    on_ok_weaker c.keep.result
    (λ is. subst (λ (p : Progress). HasSaid before (g.L.Links.sent c.send_outs.new.links) p) (sym is)
    (said_next c.args.brought.now c.args.inbox.now c.args.stages.now c.args.ran c.requires.scene next c.requires.ran before (g.L.Links.sent c.args.links.now) (g.L.Links.sent c.send_outs.new.links) said sent))
    c.keep.ensures.after

pub returns-clause-begun : goal.returns-clause-begun
returns-clause-begun g c = λ before said.
    let next = c.requires.next in
    let sent : AreBegun (g.L.Links.sent c.args.links.now) (g.L.Links.sent c.send_outs.new.links) (bytes_of c.args.ran.given.out) =
    all-begun (g.L.Links.sent c.args.links.now) (g.L.Links.sent c.send_outs.new.links) (bytes_of c.args.ran.given.out)
    (subst (λ (outs : List Out). AreSent (g.L.Links.sent c.args.links.now) (g.L.Links.sent c.send_outs.new.links) (bytes_of outs)) c.as_slice.ensures c.in-Ok.ensures.all) in
    always_err _ c.keep.result
    (begun_next c.args.brought.now c.args.inbox.now c.args.stages.now c.args.ran c.requires.scene next c.requires.ran before (g.L.Links.sent c.args.links.now) (g.L.Links.sent c.send_outs.new.links) said sent)
