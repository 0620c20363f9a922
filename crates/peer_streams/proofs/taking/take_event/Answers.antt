use Rattle.std.proofs.Common.{◌≡◌, ◌∙◌, ◌++◌, ℕ, List, ap, inl, inr, refl, subst, sym, length, take, Some, arith}
use Rattle.mot_base.specs.Links.{IsPeer}
use Rattle.mot_base.specs.declared.Party.{Party}
use Rattle.std.proofs.lemmas.List.{length-take-le}
use Rattle.std.proofs.lemmas.Option.{slice_get_read}
use Rattle.std.proofs.lemmas.Result.{on_ok_weaker, IfErr-weaker}
use Rattle.peer_streams.specs.Reading.{PeerRead, HasRead}
use Rattle.peer_streams.proofs.Counting.{nearer-bytes, nearer-closed}
use Rattle.peer_streams.proofs.Lists.{map_set_same}
use Rattle.peer_streams.proofs.Options.{both_ok, both_err, always_ok, all_ok}
use Rattle.peer_streams.proofs.Left.{left-kept, left-cut}
use Rattle.peer_streams.proofs.Taken.{shows-nothing, closes-early, closes, bytes-show, bytes-taken, read-more, peers-more, names-of}
use Rattle.peer_streams.proofs.taking.take_event.Goals as goal

pub returns-in-Bytes-clause-taken : goal.returns-in-Bytes-clause-taken
returns-in-Bytes-clause-taken g c =
    let peers = c.args.peers.now.items in
    let peer = rw c.requires.place at c.in-Bytes.ensures.peer in
    let old = c.index_mut-peer.result.now in
    let there = slice_get_read peers (length peers) c.in-Bytes.from.0 old refl (omega (arith, c.requires.peers.count, peer.0)) (rw c.from.ensures at c.index_mut-peer.ensures.value) in
    rw c.from.ensures (λ before far.
    on_ok_weaker c.receive.result
    (λ read. bytes-taken c.args.place (g.L.Links.closed c.args.links.now) (g.L.Links.closed c.take.new.self) c.args.inbox.now peers c.requires.peers c.in-Bytes.from.0 peer old there c.receive.new.inbox c.receive.new.self c.receive.ensures.expected c.receive.ensures.slots c.receive.ensures.others before (g.L.Links.left c.args.links.now) (g.L.Links.left c.take.new.self) (take c.in-Bytes.count c.take.new.into) far c.in-Bytes.ensures.moves.2 read)
    (c.receive.ensures.ok (far.taken c.in-Bytes.from.0) (far.read c.in-Bytes.from.0 old peer there)))

pub returns-in-Bytes-clause-peers : goal.returns-in-Bytes-clause-peers
returns-in-Bytes-clause-peers g c =
    let peers = c.args.peers.now.items in
    let peer = rw c.requires.place at c.in-Bytes.ensures.peer in
    let old = c.index_mut-peer.result.now in
    let there = slice_get_read peers (length peers) c.in-Bytes.from.0 old refl (omega (arith, c.requires.peers.count, peer.0)) (rw c.from.ensures at c.index_mut-peer.ensures.value) in
    rw c.from.ensures
    (on_ok_weaker c.receive.result
    (λ both. peers-more c.args.place (g.L.Links.closed c.args.links.now) (g.L.Links.closed c.take.new.self) c.args.inbox.now peers c.requires.peers c.in-Bytes.from.0 peer old there c.receive.new.inbox c.receive.new.self c.receive.ensures.expected c.receive.ensures.slots c.receive.ensures.others c.in-Bytes.ensures.closes both.0 both.1)
    (both_ok _ _ c.receive.result c.receive.ensures.room c.receive.ensures.ended))

pub returns-in-Bytes-clause-read : goal.returns-in-Bytes-clause-read
returns-in-Bytes-clause-read g c =
    let peers = c.args.peers.now.items in
    let peer = rw c.requires.place at c.in-Bytes.ensures.peer in
    let old = c.index_mut-peer.result.now in
    let there = slice_get_read peers (length peers) c.in-Bytes.from.0 old refl (omega (arith, c.requires.peers.count, peer.0)) (rw c.from.ensures at c.index_mut-peer.ensures.value) in
    let piece = take c.in-Bytes.count c.take.new.into in
    rw c.from.ensures (λ have.
    on_ok_weaker c.receive.result
    (λ reads. read-more c.args.place (g.L.Links.closed c.args.links.now) (g.L.Links.closed c.take.new.self) c.args.inbox.now peers c.requires.peers c.in-Bytes.from.0 peer old there c.receive.new.inbox c.receive.new.self c.receive.ensures.expected c.receive.ensures.slots c.receive.ensures.others piece have reads)
    (all_ok (λ (bytes : List ℕ). HasRead c.args.inbox.now bytes old → HasRead c.receive.new.inbox (bytes ++ piece) c.receive.new.self) c.receive.result
    (λ bytes. all_ok (λ (h : HasRead c.args.inbox.now bytes old). HasRead c.receive.new.inbox (bytes ++ piece) c.receive.new.self) c.receive.result (c.receive.ensures.ok bytes))))

pub returns-in-Bytes-clause-shown : goal.returns-in-Bytes-clause-shown
returns-in-Bytes-clause-shown g c =
    let peers = c.args.peers.now.items in
    let peer = rw c.requires.place at c.in-Bytes.ensures.peer in
    let old = c.index_mut-peer.result.now in
    let there = slice_get_read peers (length peers) c.in-Bytes.from.0 old refl (omega (arith, c.requires.peers.count, peer.0)) (rw c.from.ensures at c.index_mut-peer.ensures.value) in
    λ before far.
    IfErr-weaker c.receive.result _ _
    (λ shown both. elim both.0 [
      | inl memory ↦ inl memory
      | inr shows ↦ inr (inr (bytes-show c.args.place (g.L.Links.closed c.args.links.now) (g.L.Links.closed c.take.new.self) c.args.inbox.now peers c.requires.peers c.in-Bytes.from.0 peer old there before (g.L.Links.left c.args.links.now) (g.L.Links.left c.take.new.self) (take c.in-Bytes.count c.take.new.into) shown far c.in-Bytes.ensures.moves.2 c.in-Bytes.ensures.closes both.1 shows))
    ])
    (both_err _ _ c.receive.result (c.receive.ensures.err (far.taken c.in-Bytes.from.0) (far.read c.in-Bytes.from.0 old peer there)) c.receive.ensures.kind)

pub returns-in-Bytes-clause-names : goal.returns-in-Bytes-clause-names
returns-in-Bytes-clause-names g c =
    let peers = c.args.peers.now.items in
    let peer = rw c.requires.place at c.in-Bytes.ensures.peer in
    let old = c.index_mut-peer.result.now in
    let there = slice_get_read peers (length peers) c.in-Bytes.from.0 old refl (omega (arith, c.requires.peers.count, peer.0)) (rw c.from.ensures at c.index_mut-peer.ensures.value) in
    IfErr-weaker c.receive.result _ _
    (λ shown is. names-of old.expected.from c.in-Bytes.from.0 (Some c.args.place) (g.L.Links.closed c.take.new.self) shown is (c.requires.peers.in_order c.in-Bytes.from.0 old there) peer)
    c.receive.ensures.kind

pub returns-in-Bytes-clause-nearer : goal.returns-in-Bytes-clause-nearer
returns-in-Bytes-clause-nearer g c =
    let peers = c.args.peers.now.items in
    let peer = rw c.requires.place at c.in-Bytes.ensures.peer in
    let old = c.index_mut-peer.result.now in
    let there = slice_get_read peers (length peers) c.in-Bytes.from.0 old refl (omega (arith, c.requires.peers.count, peer.0)) (rw c.from.ensures at c.index_mut-peer.ensures.value) in
    let piece = take c.in-Bytes.count c.take.new.into in
    let count : length piece ≡ c.in-Bytes.count = length-take-le c.in-Bytes.count c.take.new.into c.in-Bytes.ensures.moves.1 in
    rw c.from.ensures
    (on_ok_weaker c.receive.result
    (λ both. nearer-bytes c.args.place (g.L.Links.closed c.args.links.now) (g.L.Links.closed c.take.new.self) peers c.in-Bytes.from.0 old c.receive.new.self (length piece) there c.in-Bytes.ensures.closes (rw count c.in-Bytes.ensures.moves.0) both.0 both.1)
    (both_ok _ _ c.receive.result c.receive.ensures.taken c.receive.ensures.room))

pub returns-in-Bytes-clause-hellos : goal.returns-in-Bytes-clause-hellos
returns-in-Bytes-clause-hellos g c =
    let peers = c.args.peers.now.items in
    let peer = rw c.requires.place at c.in-Bytes.ensures.peer in
    let old = c.index_mut-peer.result.now in
    let there = slice_get_read peers (length peers) c.in-Bytes.from.0 old refl (omega (arith, c.requires.peers.count, peer.0)) (rw c.from.ensures at c.index_mut-peer.ensures.value) in
    rw c.from.ensures (map_set_same (λ (one : PeerRead). one.expected) peers c.in-Bytes.from.0 c.receive.new.self old there c.receive.ensures.expected)

pub returns-in-Bytes-clause-others : goal.returns-in-Bytes-clause-others
returns-in-Bytes-clause-others g c = λ slot outside.
    let peers = c.args.peers.now.items in
    let peer = rw c.requires.place at c.in-Bytes.ensures.peer in
    let old = c.index_mut-peer.result.now in
    let there = slice_get_read peers (length peers) c.in-Bytes.from.0 old refl (omega (arith, c.requires.peers.count, peer.0)) (rw c.from.ensures at c.index_mut-peer.ensures.value) in
    let is : old.expected.from.0 ≡ c.in-Bytes.from.0 = c.requires.peers.in_order c.in-Bytes.from.0 old there in
    c.receive.ensures.others slot (λ same. outside (subst (λ (q : ℕ). IsPeer (Some c.args.place) q) (sym is ∙ ap (λ (p : Party). p.0) (sym same)) peer))

pub returns-in-Closed-clause-peers : goal.returns-in-Closed-clause-peers
returns-in-Closed-clause-peers g c =
    let peers = c.args.peers.now.items in
    let peer = rw c.requires.place at c.in-Closed.ensures.peer in
    let old = c.index.result.now in
    let there = slice_get_read peers (length peers) c.in-Closed.from.0 old refl (omega (arith, c.requires.peers.count, peer.0)) (rw c.from-in-Closed.ensures at c.index.ensures) in
    on_ok_weaker c.check_closed.result
    (λ ended. closes c.args.place (g.L.Links.closed c.args.links.now) (g.L.Links.closed c.take.new.self) c.args.inbox.now peers c.requires.peers c.in-Closed.from.0 peer old there c.in-Closed.ensures.closes.1 ended)
    c.check_closed.ensures.ok

pub returns-in-Closed-clause-shown : goal.returns-in-Closed-clause-shown
returns-in-Closed-clause-shown g c =
    let peers = c.args.peers.now.items in
    let peer = rw c.requires.place at c.in-Closed.ensures.peer in
    let old = c.index.result.now in
    let there = slice_get_read peers (length peers) c.in-Closed.from.0 old refl (omega (arith, c.requires.peers.count, peer.0)) (rw c.from-in-Closed.ensures at c.index.ensures) in
    λ before far.
    IfErr-weaker c.check_closed.result _ _
    (λ shown said. inr (inr (rw said.0 (closes-early c.args.place (g.L.Links.closed c.args.links.now) (g.L.Links.closed c.take.new.self) c.args.inbox.now peers c.requires.peers c.in-Closed.from.0 peer old there before (g.L.Links.left c.args.links.now) (g.L.Links.left c.take.new.self) c.in-Closed.from refl far c.in-Closed.ensures.moves.0 c.in-Closed.ensures.moves.1 c.in-Closed.ensures.closes.1 said.1))))
    c.check_closed.ensures.err

pub returns-in-Closed-clause-nearer : goal.returns-in-Closed-clause-nearer
returns-in-Closed-clause-nearer g c =
    let peer = rw c.requires.place at c.in-Closed.ensures.peer in
    always_ok _ c.check_closed.result
    (nearer-closed c.args.place (g.L.Links.closed c.args.links.now) (g.L.Links.closed c.take.new.self) c.args.peers.now.items c.in-Closed.from.0 peer.0 c.in-Closed.ensures.closes.0 c.in-Closed.ensures.closes.1)

pub returns-in-Failed-clause-shown : goal.returns-in-Failed-clause-shown
returns-in-Failed-clause-shown g c = λ before far.
    inr (inl (refl, shows-nothing c.args.place (g.L.Links.closed c.args.links.now) (g.L.Links.closed c.take.new.self) c.args.inbox.now c.args.peers.now.items c.requires.peers before (g.L.Links.left c.args.links.now) (g.L.Links.left c.take.new.self) far c.in-Failed.ensures.moves c.in-Failed.ensures.closes))

pub returns-in-Bytes-clause-left : goal.returns-in-Bytes-clause-left
returns-in-Bytes-clause-left g c = left-cut (g.L.Links.left c.args.links.now) (g.L.Links.left c.take.new.self) c.in-Bytes.from.0 (take c.in-Bytes.count c.take.new.into) c.in-Bytes.ensures.moves.2

pub returns-in-Closed-clause-left : goal.returns-in-Closed-clause-left
returns-in-Closed-clause-left g c = left-kept (g.L.Links.left c.args.links.now) (g.L.Links.left c.take.new.self) c.in-Closed.ensures.moves.0

pub returns-in-Failed-clause-left : goal.returns-in-Failed-clause-left
returns-in-Failed-clause-left g c = left-kept (g.L.Links.left c.args.links.now) (g.L.Links.left c.take.new.self) c.in-Failed.ensures.moves

pub returns-in-NoMemory-clause-left : goal.returns-in-NoMemory-clause-left
returns-in-NoMemory-clause-left g c = left-kept (g.L.Links.left c.args.links.now) (g.L.Links.left c.take.new.self) c.in-NoMemory.ensures.moves
