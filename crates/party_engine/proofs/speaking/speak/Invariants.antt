use Rattle.std.proofs.Common.{◌≡◌, ◌<◌, ◌≤◌, length, Option}
use Rattle.mot_base.specs.Links.{ByParty}
use Rattle.peer_streams.specs.Reading.{KeepsOthers}
use Rattle.peer_streams.specs.Taking.{ArePeers, HasTaken, HaveRead, hellos_of, events_left}
use Rattle.party_stages.specs.Scene.{IsScene}
use Rattle.party_engine.specs.Saying.{HasSaid}
use Rattle.party_engine.proofs.speaking.speak.Given as goal

abbrev pub invariant-events : goal.invariant-events
invariant-events g l = record {
  some : 0 < length l.buffer;
  scene : IsScene l.brought l.talk.inbox l.talk.stages;
  peers : ArePeers l.place (g.L.Links.closed l.links) l.talk.peers.items;
  read : HaveRead l.place l.talk.inbox l.talk.peers.items;
  taken : (before : ByParty) → HasTaken before (g.L.Links.left l.initial.links) l.place l.initial.talk.inbox l.initial.talk.peers.items → HasTaken before (g.L.Links.left l.links) l.place l.talk.inbox l.talk.peers.items;
  said : (before : Option ByParty) → HasSaid before (g.L.Links.sent l.initial.links) l.initial.talk.stages → HasSaid before (g.L.Links.sent l.links) l.talk.stages;
  hellos : hellos_of l.talk.peers.items ≡ hellos_of l.initial.talk.peers.items;
  slots : l.talk.inbox.slots ≡ l.initial.talk.inbox.slots;
  others : KeepsOthers l.place l.initial.talk.inbox l.talk.inbox;
  buffer : length l.buffer ≡ length l.initial.buffer;
  place : g.L.Links.place l.links ≡ g.L.Links.place l.initial.links;
  never_falls : g.L.Links.faults l.initial.links ≤ g.L.Links.faults l.links;
}

abbrev pub decreases-events : goal.decreases-events
decreases-events g l = events_left l.place (g.L.Links.closed l.links) l.talk.peers.items
