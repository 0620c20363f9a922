use Rattle.std.proofs.Common.{◌∙◌, arith}
use Rattle.peer_streams.proofs.Exchanged.{answers}
use Rattle.peer_streams.proofs.Left.{left-kept}
use Rattle.peer_streams.proofs.Taken.{shows-nothing}
use Rattle.party_engine.proofs.Hearing.{still_scene, has_kept, said_kept, begun_kept}
use Rattle.party_engine.proofs.Kept.{begun_so}
use Rattle.party_engine.proofs.Refused.{came_so, said_some}
use Rattle.party_engine.proofs.speaking.speak.Goals as goal

pub returns-in-Err-clause-shown : goal.returns-in-Err-clause-shown
returns-in-Err-clause-shown g c = λ before had.
    let far = c.events.invariant in
    let nothing = shows-nothing c.args.place (g.L.Links.closed c.events.links) (g.L.Links.closed c.go_on.new.links) c.events.talk.inbox c.events.talk.peers.items far.peers before (g.L.Links.left c.events.links) (g.L.Links.left c.go_on.new.links) (far.taken before had) c.go_on.ensures.left c.go_on.ensures.closed in
    answers before (g.L.Links.left c.go_on.new.links) (g.L.Links.closed c.go_on.new.links) c.args.place _ _ c.in-Err.cause c.in-Err.ensures.kind (rw (far.hellos, far.slots) at nothing)

pub events-preserved : goal.events-preserved
events-preserved g c =
    let far = c.events.invariant in
    record {
      some = omega (arith, far.some, c.listen.ensures.buffer);
      scene = still_scene c.args.brought.now c.events.talk.inbox c.listen.new.inbox c.go_on.new.stages c.in-Ok-false.ensures.scene c.listen.ensures.slots c.listen.ensures.still;
      peers = c.in-Ok.ensures.peers;
      read = c.in-Ok.ensures.read;
      taken = λ before had. c.in-Ok.ensures.taken before (has_kept before (g.L.Links.left c.events.links) (g.L.Links.left c.go_on.new.links) c.args.place c.events.talk.inbox c.events.talk.peers.items (far.taken before had) c.go_on.ensures.left);
      said = λ before had. said_kept before (g.L.Links.sent c.go_on.new.links) (g.L.Links.sent c.listen.new.links) c.go_on.new.stages (c.in-Ok-false.ensures.said before (far.said before had)) c.listen.ensures.sent;
      hellos = c.listen.ensures.hellos ∙ far.hellos;
      slots = c.listen.ensures.slots ∙ far.slots;
      others = λ slot outside. c.listen.ensures.others slot outside ∙ far.others slot outside;
      buffer = c.listen.ensures.buffer ∙ far.buffer;
      place = c.listen.ensures.place ∙ c.go_on.ensures.place ∙ far.place;
      never_falls = omega (arith, c.listen.ensures.never_falls, c.go_on.ensures.never_falls, far.never_falls);
    }

pub returns-in-Err-clause-begun : goal.returns-in-Err-clause-begun
returns-in-Err-clause-begun g c = λ sent before had taken.
    let far = c.events.invariant in
    let came = came_so c.args.place (g.L.Links.closed c.events.links) c.events.talk.inbox c.events.talk.peers.items before (g.L.Links.left c.events.links) (g.L.Links.left c.go_on.new.links) far.peers (far.taken before taken) (left-kept (g.L.Links.left c.events.links) (g.L.Links.left c.go_on.new.links) c.go_on.ensures.left) in
    said_some c.args.brought.now c.args.place c.events.talk.inbox before (g.L.Links.left c.go_on.new.links) sent (g.L.Links.sent c.go_on.new.links) came (c.in-Err.ensures.begun sent (far.said sent had))

pub returns-in-Err-listen-clause-begun : goal.returns-in-Err-listen-clause-begun
returns-in-Err-listen-clause-begun g c = λ sent before had taken.
    let far = c.events.invariant in
    let begun = begun_so c.args.brought.now c.events.talk.inbox c.go_on.new.stages sent (g.L.Links.sent c.go_on.new.links) c.in-Ok-false.ensures.scene (c.in-Ok-false.ensures.said sent (far.said sent had)) in
    let came = came_so c.args.place (g.L.Links.closed c.events.links) c.events.talk.inbox c.events.talk.peers.items before (g.L.Links.left c.go_on.new.links) (g.L.Links.left c.listen.new.links) far.peers
    (has_kept before (g.L.Links.left c.events.links) (g.L.Links.left c.go_on.new.links) c.args.place c.events.talk.inbox c.events.talk.peers.items (far.taken before taken) c.go_on.ensures.left) c.listen.ensures.left in
    said_some c.args.brought.now c.args.place c.events.talk.inbox before (g.L.Links.left c.listen.new.links) sent (g.L.Links.sent c.listen.new.links) came
    (begun_kept c.args.brought.now c.events.talk.inbox sent (g.L.Links.sent c.go_on.new.links) (g.L.Links.sent c.listen.new.links) begun c.listen.ensures.sent)

pub returns-in-Err-listen-clause-shown : goal.returns-in-Err-listen-clause-shown
returns-in-Err-listen-clause-shown g c = λ before had.
    let far = c.events.invariant in
    rw (far.hellos, far.slots) at
    (c.in-Err-listen.ensures.shown before (has_kept before (g.L.Links.left c.events.links) (g.L.Links.left c.go_on.new.links) c.args.place c.events.talk.inbox c.events.talk.peers.items (far.taken before had) c.go_on.ensures.left))
