use Rattle.std.proofs.Common.{◌≡◌, ◌∙◌, [], ap, Some, rules}
use Rattle.mot_base.specs.Links.{IsKept}
use Rattle.peer_streams.specs.Runs.{place_in, hellos_to, greets_and_ends}
use Rattle.peer_streams.specs.Taking.{HasTaken, hellos_of}
use Rattle.peer_streams.proofs.Exchanged.{link-answers, answers, fresh-shows, fresh-taken, fresh-are, fresh-hellos, heard-all}
use Rattle.peer_streams.proofs.Sent.{begun-all, sent-behind, sent-ahead}
use Rattle.peer_streams.proofs.Taken.{shows-nothing}
use Rattle.peer_streams.proofs.engine.exchange.Goals as goal

pub returns-in-Err-connect-clause-shown : goal.returns-in-Err-connect-clause-shown
returns-in-Err-connect-clause-shown g c = λ before told.
    answers before (g.L.Links.left c.connect.new.self) (g.L.Links.closed c.connect.new.self) (place_in c.args.run.now c.args.me) (hellos_to c.args.run.now c.args.me) c.args.inbox.now.slots c.from.result (rw c.from.ensures (link-answers c.in-Err-connect.error))
    (fresh-shows c.args.run.now c.args.me before (g.L.Links.left c.connect.new.self) (g.L.Links.closed c.connect.new.self) c.connect.ensures.closed c.args.inbox.now.slots (rw told at c.connect.ensures.left))

pub returns-in-Err-greet_and_end-clause-shown : goal.returns-in-Err-greet_and_end-clause-shown
returns-in-Err-greet_and_end-clause-shown g c = λ before told.
    let kept : IsKept (Some before) (g.L.Links.left c.greet_and_end.new.links) = search rules in
    answers before (g.L.Links.left c.greet_and_end.new.links) (g.L.Links.closed c.greet_and_end.new.links) (place_in c.args.run.now c.args.me) (hellos_to c.args.run.now c.args.me) c.args.inbox.now.slots c.in-Err-greet_and_end.cause c.in-Err-greet_and_end.ensures.kind
    (fresh-shows c.args.run.now c.args.me before (g.L.Links.left c.greet_and_end.new.links) (g.L.Links.closed c.greet_and_end.new.links) (λ q. c.greet_and_end.ensures.closed q ∙ c.connect.ensures.closed q) c.args.inbox.now.slots kept)

pub read_all-requires-clause-peers : goal.read_all-requires-clause-peers
read_all-requires-clause-peers g c =
    rw c.in-Ok.ensures (fresh-are c.args.run.now c.args.me (λ q. []) (g.L.Links.left c.greet_and_end.new.links) (g.L.Links.closed c.greet_and_end.new.links) (λ q. c.greet_and_end.ensures.closed q ∙ c.connect.ensures.closed q))

pub returns-in-Err-read_all-clause-shown : goal.returns-in-Err-read_all-clause-shown
returns-in-Err-read_all-clause-shown g c = λ before told.
    let kept : IsKept (Some before) (g.L.Links.left c.greet_and_end.new.links) = search rules in
    let fresh = fresh-taken c.args.run.now c.args.me before (g.L.Links.left c.greet_and_end.new.links) (g.L.Links.closed c.greet_and_end.new.links) (λ q. c.greet_and_end.ensures.closed q ∙ c.connect.ensures.closed q) c.args.inbox.now c.requires.fresh kept in
    let far : HasTaken before (g.L.Links.left c.greet_and_end.new.links) (place_in c.args.run.now c.args.me) c.args.inbox.now c.in-Ok.peers.items = rw c.in-Ok.ensures fresh in
    let hellos : hellos_of c.in-Ok.peers.items ≡ hellos_to c.args.run.now c.args.me = ap hellos_of c.in-Ok.ensures ∙ fresh-hellos c.args.run.now c.args.me in
    rw hellos at (c.in-Err-read_all.ensures.shown before far)

pub returns-in-Err-read_all-clause-begun : goal.returns-in-Err-read_all-clause-begun
returns-in-Err-read_all-clause-begun g c =
    let bytes = greets_and_ends c.args.run.now c.args.me in
    begun-all (g.L.Links.sent c.args.links.now) (g.L.Links.sent c.read_all.new.links) bytes
    (sent-ahead (g.L.Links.sent c.args.links.now) (g.L.Links.sent c.greet_and_end.new.links) (g.L.Links.sent c.read_all.new.links) bytes
    (sent-behind (g.L.Links.sent c.args.links.now) (g.L.Links.sent c.connect.new.self) (g.L.Links.sent c.greet_and_end.new.links) bytes c.connect.ensures.sent c.in-Ok-greet_and_end.ensures.all)
    c.read_all.ensures.sent)

pub returns-in-Ok-finish-clause-heard : goal.returns-in-Ok-finish-clause-heard
returns-in-Ok-finish-clause-heard g c = λ before told.
    let kept : IsKept (Some before) (g.L.Links.left c.greet_and_end.new.links) = search rules in
    let fresh = fresh-taken c.args.run.now c.args.me before (g.L.Links.left c.greet_and_end.new.links) (g.L.Links.closed c.greet_and_end.new.links) (λ q. c.greet_and_end.ensures.closed q ∙ c.connect.ensures.closed q) c.args.inbox.now c.requires.fresh kept in
    let far : HasTaken before (g.L.Links.left c.greet_and_end.new.links) (place_in c.args.run.now c.args.me) c.args.inbox.now c.in-Ok.peers.items = rw c.in-Ok.ensures fresh in
    let hellos : hellos_of c.in-Ok.peers.items ≡ hellos_to c.args.run.now c.args.me = ap hellos_of c.in-Ok.ensures ∙ fresh-hellos c.args.run.now c.args.me in
    heard-all c.args.run.now c.args.me before (g.L.Links.left c.read_all.new.links) (g.L.Links.left c.finish.new.self) (g.L.Links.closed c.read_all.new.links) c.read_all.new.inbox c.read_all.new.peers.items (c.in-Ok-read_all.ensures.taken before far) c.finish.ensures.left c.in-Ok-read_all.ensures.peers (c.read_all.ensures.hellos ∙ hellos) c.in-Ok-read_all.ensures.ended

pub returns-clause-shown : goal.returns-clause-shown
returns-clause-shown g c = λ before told.
    let kept : IsKept (Some before) (g.L.Links.left c.greet_and_end.new.links) = search rules in
    let fresh = fresh-taken c.args.run.now c.args.me before (g.L.Links.left c.greet_and_end.new.links) (g.L.Links.closed c.greet_and_end.new.links) (λ q. c.greet_and_end.ensures.closed q ∙ c.connect.ensures.closed q) c.args.inbox.now c.requires.fresh kept in
    let far : HasTaken before (g.L.Links.left c.greet_and_end.new.links) (place_in c.args.run.now c.args.me) c.args.inbox.now c.in-Ok.peers.items = rw c.in-Ok.ensures fresh in
    let hellos : hellos_of c.read_all.new.peers.items ≡ hellos_to c.args.run.now c.args.me = c.read_all.ensures.hellos ∙ ap hellos_of c.in-Ok.ensures ∙ fresh-hellos c.args.run.now c.args.me in
    let nothing = shows-nothing (place_in c.args.run.now c.args.me) (g.L.Links.closed c.read_all.new.links) (g.L.Links.closed c.finish.new.self) c.read_all.new.inbox c.read_all.new.peers.items c.in-Ok-read_all.ensures.peers before (g.L.Links.left c.read_all.new.links) (g.L.Links.left c.finish.new.self) (c.in-Ok-read_all.ensures.taken before far) c.finish.ensures.left c.finish.ensures.closed in
    answers before (g.L.Links.left c.finish.new.self) (g.L.Links.closed c.finish.new.self) (place_in c.args.run.now c.args.me) (hellos_to c.args.run.now c.args.me) c.args.inbox.now.slots c.from-in-Err-finish.result (rw c.from-in-Err-finish.ensures (link-answers c.in-Err-finish.error)) (rw (hellos, c.read_all.ensures.slots) at nothing)

pub returns-clause-begun : goal.returns-clause-begun
returns-clause-begun g c =
    let bytes = greets_and_ends c.args.run.now c.args.me in
    begun-all (g.L.Links.sent c.args.links.now) (g.L.Links.sent c.finish.new.self) bytes
    (sent-ahead (g.L.Links.sent c.args.links.now) (g.L.Links.sent c.read_all.new.links) (g.L.Links.sent c.finish.new.self) bytes
    (sent-ahead (g.L.Links.sent c.args.links.now) (g.L.Links.sent c.greet_and_end.new.links) (g.L.Links.sent c.read_all.new.links) bytes
    (sent-behind (g.L.Links.sent c.args.links.now) (g.L.Links.sent c.connect.new.self) (g.L.Links.sent c.greet_and_end.new.links) bytes c.connect.ensures.sent c.in-Ok-greet_and_end.ensures.all)
    c.read_all.ensures.sent)
    c.finish.ensures.sent)
