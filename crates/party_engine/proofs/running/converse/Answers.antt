use Rattle.std.proofs.Common.{◌≡◌, ◌∙◌, [], ap, Some}
use Rattle.mot_base.specs.Links.{IsKept}
use Rattle.peer_streams.specs.Runs.{place_in, hellos_to, ends_for}
use Rattle.peer_streams.specs.Sending.{bytes_for}
use Rattle.peer_streams.specs.Taking.{HasTaken, hellos_of}
use Rattle.peer_streams.proofs.Exchanged.{link-answers, answers, fresh-shows, fresh-taken, fresh-are, fresh-hellos, heard-all}
use Rattle.peer_streams.proofs.Taken.{shows-nothing}
use Rattle.peer_streams.proofs.Left.{left-kept, left-then}
use Rattle.peer_streams.proofs.Sent.{sent-ahead, begun-all}
use Rattle.party_engine.proofs.Conversing.{none_at_first, first_read, first_said, talked}
use Rattle.party_engine.proofs.Hearing.{still_scene, has_kept}
use Rattle.party_engine.proofs.Kept.{lawful}
use Rattle.party_engine.proofs.Refused.{came_so, came_none, hello_some, talked_some, ended_some}
use Rattle.party_engine.proofs.running.converse.Goals as goal

pub returns-in-Err-clause-shown : goal.returns-in-Err-clause-shown
returns-in-Err-clause-shown g c = λ before told.
    answers before (g.L.Links.left c.greet.new.links) (g.L.Links.closed c.greet.new.links) (place_in c.args.run.now c.args.me) (hellos_to c.args.run.now c.args.me) c.args.talk.now.inbox.slots c.in-Err.cause c.in-Err.ensures.kind
    (fresh-shows c.args.run.now c.args.me before (g.L.Links.left c.greet.new.links) (g.L.Links.closed c.greet.new.links) c.greet.ensures.closed c.args.talk.now.inbox.slots (rw told at c.greet.ensures.left))

pub speak-requires-clause-peers : goal.speak-requires-clause-peers
speak-requires-clause-peers g c κs within =
    rw c.requires.peers (fresh-are c.args.run.now c.args.me (λ q. []) (g.L.Links.left c.greet.new.links) (g.L.Links.closed c.greet.new.links) c.greet.ensures.closed)

pub speak-requires-clause-read : goal.speak-requires-clause-read
speak-requires-clause-read g c κs within = rw c.requires.peers (first_read c.args.run.now c.args.me c.args.talk.now.inbox c.requires.fresh)

pub returns-in-Err-speak-clause-shown : goal.returns-in-Err-speak-clause-shown
returns-in-Err-speak-clause-shown g c = λ before told.
    let kept : IsKept (Some before) (g.L.Links.left c.greet.new.links) = rw told at c.greet.ensures.left in
    let fresh = fresh-taken c.args.run.now c.args.me before (g.L.Links.left c.greet.new.links) (g.L.Links.closed c.greet.new.links) c.greet.ensures.closed c.args.talk.now.inbox c.requires.fresh kept in
    let far : HasTaken before (g.L.Links.left c.greet.new.links) (place_in c.args.run.now c.args.me) c.args.talk.now.inbox c.args.talk.now.peers.items = rw c.requires.peers fresh in
    let hellos : hellos_of c.args.talk.now.peers.items ≡ hellos_to c.args.run.now c.args.me = ap hellos_of c.requires.peers ∙ fresh-hellos c.args.run.now c.args.me in
    rw hellos at (c.in-Err-speak.ensures.shown before far)

pub returns-in-Err-send_ends-clause-shown : goal.returns-in-Err-send_ends-clause-shown
returns-in-Err-send_ends-clause-shown g c = λ before told.
    let kept : IsKept (Some before) (g.L.Links.left c.greet.new.links) = rw told at c.greet.ensures.left in
    let fresh = fresh-taken c.args.run.now c.args.me before (g.L.Links.left c.greet.new.links) (g.L.Links.closed c.greet.new.links) c.greet.ensures.closed c.args.talk.now.inbox c.requires.fresh kept in
    let far : HasTaken before (g.L.Links.left c.greet.new.links) (place_in c.args.run.now c.args.me) c.args.talk.now.inbox c.args.talk.now.peers.items = rw c.requires.peers fresh in
    let hellos : hellos_of c.speak.new.talk.peers.items ≡ hellos_to c.args.run.now c.args.me = c.speak.ensures.hellos ∙ ap hellos_of c.requires.peers ∙ fresh-hellos c.args.run.now c.args.me in
    let nothing = shows-nothing (place_in c.args.run.now c.args.me) (g.L.Links.closed c.speak.new.links) (g.L.Links.closed c.send_ends.new.links) c.speak.new.talk.inbox c.speak.new.talk.peers.items c.in-Ok-speak.ensures.peers before (g.L.Links.left c.speak.new.links) (g.L.Links.left c.send_ends.new.links) (c.in-Ok-speak.ensures.taken before far) c.send_ends.ensures.left c.send_ends.ensures.closed in
    answers before (g.L.Links.left c.send_ends.new.links) (g.L.Links.closed c.send_ends.new.links) (place_in c.args.run.now c.args.me) (hellos_to c.args.run.now c.args.me) c.args.talk.now.inbox.slots c.in-Err-send_ends.cause c.in-Err-send_ends.ensures.kind (rw (hellos, c.speak.ensures.slots) at nothing)

pub returns-in-Err-read_all-clause-shown : goal.returns-in-Err-read_all-clause-shown
returns-in-Err-read_all-clause-shown g c = λ before told.
    let kept : IsKept (Some before) (g.L.Links.left c.greet.new.links) = rw told at c.greet.ensures.left in
    let fresh = fresh-taken c.args.run.now c.args.me before (g.L.Links.left c.greet.new.links) (g.L.Links.closed c.greet.new.links) c.greet.ensures.closed c.args.talk.now.inbox c.requires.fresh kept in
    let far : HasTaken before (g.L.Links.left c.greet.new.links) (place_in c.args.run.now c.args.me) c.args.talk.now.inbox c.args.talk.now.peers.items = rw c.requires.peers fresh in
    let hellos : hellos_of c.speak.new.talk.peers.items ≡ hellos_to c.args.run.now c.args.me = c.speak.ensures.hellos ∙ ap hellos_of c.requires.peers ∙ fresh-hellos c.args.run.now c.args.me in
    rw (hellos, c.speak.ensures.slots) at (c.in-Err-read_all.ensures.shown before
    (has_kept before (g.L.Links.left c.speak.new.links) (g.L.Links.left c.send_ends.new.links) (place_in c.args.run.now c.args.me) c.speak.new.talk.inbox c.speak.new.talk.peers.items (c.in-Ok-speak.ensures.taken before far) c.send_ends.ensures.left))

pub returns-in-Ok-finish-clause-heard : goal.returns-in-Ok-finish-clause-heard
returns-in-Ok-finish-clause-heard g c = λ before told.
    let kept : IsKept (Some before) (g.L.Links.left c.greet.new.links) = rw told at c.greet.ensures.left in
    let fresh = fresh-taken c.args.run.now c.args.me before (g.L.Links.left c.greet.new.links) (g.L.Links.closed c.greet.new.links) c.greet.ensures.closed c.args.talk.now.inbox c.requires.fresh kept in
    let far : HasTaken before (g.L.Links.left c.greet.new.links) (place_in c.args.run.now c.args.me) c.args.talk.now.inbox c.args.talk.now.peers.items = rw c.requires.peers fresh in
    let hellos : hellos_of c.speak.new.talk.peers.items ≡ hellos_to c.args.run.now c.args.me = c.speak.ensures.hellos ∙ ap hellos_of c.requires.peers ∙ fresh-hellos c.args.run.now c.args.me in
    let later = has_kept before (g.L.Links.left c.speak.new.links) (g.L.Links.left c.send_ends.new.links) (place_in c.args.run.now c.args.me) c.speak.new.talk.inbox c.speak.new.talk.peers.items (c.in-Ok-speak.ensures.taken before far) c.send_ends.ensures.left in
    heard-all c.args.run.now c.args.me before (g.L.Links.left c.read_all.new.links) (g.L.Links.left c.finish.new.self) (g.L.Links.closed c.read_all.new.links) c.read_all.new.inbox c.read_all.new.peers.items (c.in-Ok-read_all.ensures.taken before later) c.finish.ensures.left c.in-Ok-read_all.ensures.peers (c.read_all.ensures.hellos ∙ hellos) c.in-Ok-read_all.ensures.ended

pub returns-in-Ok-finish-clause-scene : goal.returns-in-Ok-finish-clause-scene
returns-in-Ok-finish-clause-scene g c =
    still_scene c.args.brought.now c.speak.new.talk.inbox c.read_all.new.inbox c.speak.new.talk.stages c.in-Ok-speak.ensures.scene c.read_all.ensures.slots c.read_all.ensures.still

pub returns-in-Ok-finish-clause-said : goal.returns-in-Ok-finish-clause-said
returns-in-Ok-finish-clause-said g c =
    talked c.args.run.now c.args.me (g.L.Links.sent c.args.links.now) (g.L.Links.sent c.greet.new.links) (g.L.Links.sent c.speak.new.links) (g.L.Links.sent c.send_ends.new.links) (g.L.Links.sent c.read_all.new.links) (g.L.Links.sent c.finish.new.self) c.speak.new.talk.stages
    c.in-Ok.ensures.all (c.in-Ok-speak.ensures.said (g.L.Links.sent c.greet.new.links) (rw c.requires.stages (first_said (g.L.Links.sent c.greet.new.links) _)))
    c.in-Ok-send_ends.ensures.all c.read_all.ensures.sent c.finish.ensures.sent

pub returns-in-Err-finish-clause-shown : goal.returns-in-Err-finish-clause-shown
returns-in-Err-finish-clause-shown g c = λ before told.
    let kept : IsKept (Some before) (g.L.Links.left c.greet.new.links) = rw told at c.greet.ensures.left in
    let fresh = fresh-taken c.args.run.now c.args.me before (g.L.Links.left c.greet.new.links) (g.L.Links.closed c.greet.new.links) c.greet.ensures.closed c.args.talk.now.inbox c.requires.fresh kept in
    let far : HasTaken before (g.L.Links.left c.greet.new.links) (place_in c.args.run.now c.args.me) c.args.talk.now.inbox c.args.talk.now.peers.items = rw c.requires.peers fresh in
    let hellos : hellos_of c.read_all.new.peers.items ≡ hellos_to c.args.run.now c.args.me = c.read_all.ensures.hellos ∙ c.speak.ensures.hellos ∙ ap hellos_of c.requires.peers ∙ fresh-hellos c.args.run.now c.args.me in
    let later = has_kept before (g.L.Links.left c.speak.new.links) (g.L.Links.left c.send_ends.new.links) (place_in c.args.run.now c.args.me) c.speak.new.talk.inbox c.speak.new.talk.peers.items (c.in-Ok-speak.ensures.taken before far) c.send_ends.ensures.left in
    let nothing = shows-nothing (place_in c.args.run.now c.args.me) (g.L.Links.closed c.read_all.new.links) (g.L.Links.closed c.finish.new.self) c.read_all.new.inbox c.read_all.new.peers.items c.in-Ok-read_all.ensures.peers before (g.L.Links.left c.read_all.new.links) (g.L.Links.left c.finish.new.self) (c.in-Ok-read_all.ensures.taken before later) c.finish.ensures.left c.finish.ensures.closed in
    answers before (g.L.Links.left c.finish.new.self) (g.L.Links.closed c.finish.new.self) (place_in c.args.run.now c.args.me) (hellos_to c.args.run.now c.args.me) c.args.talk.now.inbox.slots c.from.result (rw c.from.ensures (link-answers c.in-Err-finish.error)) (rw (hellos, c.read_all.ensures.slots, c.speak.ensures.slots) at nothing)

pub returns-in-Ok-finish-clause-others : goal.returns-in-Ok-finish-clause-others
returns-in-Ok-finish-clause-others g c = λ slot outside.
    c.read_all.ensures.others slot outside ∙ c.in-Ok-speak.ensures.others slot outside ∙ none_at_first c.args.talk.now.inbox c.requires.fresh slot

pub returns-in-Err-clause-begun : goal.returns-in-Err-clause-begun
returns-in-Err-clause-begun g c = λ before told.
    hello_some c.args.brought.now c.args.run.now c.args.me before (g.L.Links.left c.greet.new.links) c.args.talk.now.inbox (g.L.Links.sent c.args.links.now) (g.L.Links.sent c.greet.new.links)
    (came_none c.args.run.now c.args.me c.args.talk.now.inbox before (g.L.Links.left c.greet.new.links) c.requires.fresh (rw told at c.greet.ensures.left))
    c.in-Err.ensures.some

pub returns-in-Err-speak-clause-begun : goal.returns-in-Err-speak-clause-begun
returns-in-Err-speak-clause-begun g c = λ before told.
    let kept : IsKept (Some before) (g.L.Links.left c.greet.new.links) = rw told at c.greet.ensures.left in
    let fresh = fresh-taken c.args.run.now c.args.me before (g.L.Links.left c.greet.new.links) (g.L.Links.closed c.greet.new.links) c.greet.ensures.closed c.args.talk.now.inbox c.requires.fresh kept in
    let far : HasTaken before (g.L.Links.left c.greet.new.links) (place_in c.args.run.now c.args.me) c.args.talk.now.inbox c.args.talk.now.peers.items = rw c.requires.peers fresh in
    talked_some c.args.brought.now c.args.run.now c.args.me before (g.L.Links.left c.speak.new.links) (g.L.Links.sent c.args.links.now) (g.L.Links.sent c.greet.new.links) (g.L.Links.sent c.speak.new.links) c.in-Ok.ensures.all
    (c.in-Err-speak.ensures.begun (g.L.Links.sent c.greet.new.links) before (rw c.requires.stages (first_said (g.L.Links.sent c.greet.new.links) _)) far)

pub returns-in-Err-send_ends-clause-begun : goal.returns-in-Err-send_ends-clause-begun
returns-in-Err-send_ends-clause-begun g c = λ before told.
    let kept : IsKept (Some before) (g.L.Links.left c.greet.new.links) = rw told at c.greet.ensures.left in
    let fresh = fresh-taken c.args.run.now c.args.me before (g.L.Links.left c.greet.new.links) (g.L.Links.closed c.greet.new.links) c.greet.ensures.closed c.args.talk.now.inbox c.requires.fresh kept in
    let far : HasTaken before (g.L.Links.left c.greet.new.links) (place_in c.args.run.now c.args.me) c.args.talk.now.inbox c.args.talk.now.peers.items = rw c.requires.peers fresh in
    let came = came_so (place_in c.args.run.now c.args.me) (g.L.Links.closed c.speak.new.links) c.speak.new.talk.inbox c.speak.new.talk.peers.items before (g.L.Links.left c.speak.new.links) (g.L.Links.left c.send_ends.new.links) c.in-Ok-speak.ensures.peers (c.in-Ok-speak.ensures.taken before far)
    (left-kept (g.L.Links.left c.speak.new.links) (g.L.Links.left c.send_ends.new.links) c.send_ends.ensures.left) in
    let said = (c.in-Ok-speak.ensures.said (g.L.Links.sent c.greet.new.links) (rw c.requires.stages (first_said (g.L.Links.sent c.greet.new.links) _))) in
    let lawful_is = lawful c.args.brought.now c.speak.new.talk.inbox c.speak.new.talk.stages c.in-Ok-speak.ensures.scene said.log said.each in
    ended_some c.args.brought.now c.args.run.now c.args.me before (g.L.Links.left c.send_ends.new.links) c.speak.new.talk.inbox said.log (g.L.Links.sent c.args.links.now) (g.L.Links.sent c.greet.new.links) (g.L.Links.sent c.speak.new.links) (g.L.Links.sent c.send_ends.new.links) came lawful_is c.in-Ok.ensures.all said.sent c.in-Err-send_ends.ensures.some

pub returns-in-Err-read_all-clause-begun : goal.returns-in-Err-read_all-clause-begun
returns-in-Err-read_all-clause-begun g c = λ before told.
    let kept : IsKept (Some before) (g.L.Links.left c.greet.new.links) = rw told at c.greet.ensures.left in
    let fresh = fresh-taken c.args.run.now c.args.me before (g.L.Links.left c.greet.new.links) (g.L.Links.closed c.greet.new.links) c.greet.ensures.closed c.args.talk.now.inbox c.requires.fresh kept in
    let far : HasTaken before (g.L.Links.left c.greet.new.links) (place_in c.args.run.now c.args.me) c.args.talk.now.inbox c.args.talk.now.peers.items = rw c.requires.peers fresh in
    let came = came_so (place_in c.args.run.now c.args.me) (g.L.Links.closed c.speak.new.links) c.speak.new.talk.inbox c.speak.new.talk.peers.items before (g.L.Links.left c.speak.new.links) (g.L.Links.left c.read_all.new.links) c.in-Ok-speak.ensures.peers (c.in-Ok-speak.ensures.taken before far)
    (left-then (g.L.Links.left c.speak.new.links) (g.L.Links.left c.send_ends.new.links) (g.L.Links.left c.read_all.new.links) (left-kept (g.L.Links.left c.speak.new.links) (g.L.Links.left c.send_ends.new.links) c.send_ends.ensures.left) c.read_all.ensures.left) in
    let said = (c.in-Ok-speak.ensures.said (g.L.Links.sent c.greet.new.links) (rw c.requires.stages (first_said (g.L.Links.sent c.greet.new.links) _))) in
    let lawful_is = lawful c.args.brought.now c.speak.new.talk.inbox c.speak.new.talk.stages c.in-Ok-speak.ensures.scene said.log said.each in
    let ends = sent-ahead (g.L.Links.sent c.speak.new.links) (g.L.Links.sent c.send_ends.new.links) (g.L.Links.sent c.read_all.new.links) (bytes_for c.args.me.0 (ends_for c.args.run.now)) c.in-Ok-send_ends.ensures.all c.read_all.ensures.sent in
    ended_some c.args.brought.now c.args.run.now c.args.me before (g.L.Links.left c.read_all.new.links) c.speak.new.talk.inbox said.log (g.L.Links.sent c.args.links.now) (g.L.Links.sent c.greet.new.links) (g.L.Links.sent c.speak.new.links) (g.L.Links.sent c.read_all.new.links) came lawful_is c.in-Ok.ensures.all said.sent
    (begun-all (g.L.Links.sent c.speak.new.links) (g.L.Links.sent c.read_all.new.links) (bytes_for c.args.me.0 (ends_for c.args.run.now)) ends)

pub returns-in-Err-finish-clause-begun : goal.returns-in-Err-finish-clause-begun
returns-in-Err-finish-clause-begun g c = λ before told.
    let kept : IsKept (Some before) (g.L.Links.left c.greet.new.links) = rw told at c.greet.ensures.left in
    let fresh = fresh-taken c.args.run.now c.args.me before (g.L.Links.left c.greet.new.links) (g.L.Links.closed c.greet.new.links) c.greet.ensures.closed c.args.talk.now.inbox c.requires.fresh kept in
    let far : HasTaken before (g.L.Links.left c.greet.new.links) (place_in c.args.run.now c.args.me) c.args.talk.now.inbox c.args.talk.now.peers.items = rw c.requires.peers fresh in
    let came = came_so (place_in c.args.run.now c.args.me) (g.L.Links.closed c.speak.new.links) c.speak.new.talk.inbox c.speak.new.talk.peers.items before (g.L.Links.left c.speak.new.links) (g.L.Links.left c.finish.new.self) c.in-Ok-speak.ensures.peers (c.in-Ok-speak.ensures.taken before far)
    (left-then (g.L.Links.left c.speak.new.links) (g.L.Links.left c.read_all.new.links) (g.L.Links.left c.finish.new.self) (left-then (g.L.Links.left c.speak.new.links) (g.L.Links.left c.send_ends.new.links) (g.L.Links.left c.read_all.new.links) (left-kept (g.L.Links.left c.speak.new.links) (g.L.Links.left c.send_ends.new.links) c.send_ends.ensures.left) c.read_all.ensures.left) (left-kept (g.L.Links.left c.read_all.new.links) (g.L.Links.left c.finish.new.self) c.finish.ensures.left)) in
    let said = (c.in-Ok-speak.ensures.said (g.L.Links.sent c.greet.new.links) (rw c.requires.stages (first_said (g.L.Links.sent c.greet.new.links) _))) in
    let lawful_is = lawful c.args.brought.now c.speak.new.talk.inbox c.speak.new.talk.stages c.in-Ok-speak.ensures.scene said.log said.each in
    let ends = sent-ahead (g.L.Links.sent c.speak.new.links) (g.L.Links.sent c.read_all.new.links) (g.L.Links.sent c.finish.new.self) (bytes_for c.args.me.0 (ends_for c.args.run.now))
    (sent-ahead (g.L.Links.sent c.speak.new.links) (g.L.Links.sent c.send_ends.new.links) (g.L.Links.sent c.read_all.new.links) (bytes_for c.args.me.0 (ends_for c.args.run.now)) c.in-Ok-send_ends.ensures.all c.read_all.ensures.sent) c.finish.ensures.sent in
    ended_some c.args.brought.now c.args.run.now c.args.me before (g.L.Links.left c.finish.new.self) c.speak.new.talk.inbox said.log (g.L.Links.sent c.args.links.now) (g.L.Links.sent c.greet.new.links) (g.L.Links.sent c.speak.new.links) (g.L.Links.sent c.finish.new.self) came lawful_is c.in-Ok.ensures.all said.sent
    (begun-all (g.L.Links.sent c.speak.new.links) (g.L.Links.sent c.finish.new.self) (bytes_for c.args.me.0 (ends_for c.args.run.now)) ends)
