use Rattle.std.proofs.Common.{◌≡◌, ◌<◌, ◌≤◌, length}
use Rattle.mot_base.specs.Links.{ByParty, IsKept}
use Rattle.peer_streams.specs.Reading.{StillKeeps, KeepsOthers}
use Rattle.peer_streams.specs.Taking.{IsLeftOf, ArePeers, HasTaken, hellos_of, events_left}
use Rattle.peer_streams.proofs.taking.read_all.Given as goal

abbrev pub invariant-events : goal.invariant-events
invariant-events g l = record {
  some : 0 < length l.buffer;
  place : g.L.Links.place l.links ≡ g.L.Links.place l.initial.links;
  peers : ArePeers l.place (g.L.Links.closed l.links) l.peers.items;
  taken : (before : ByParty) → HasTaken before (g.L.Links.left l.initial.links) l.place l.initial.inbox l.initial.peers.items → HasTaken before (g.L.Links.left l.links) l.place l.inbox l.peers.items;
  left : IsLeftOf (g.L.Links.left l.initial.links) (g.L.Links.left l.links);
  hellos : hellos_of l.peers.items ≡ hellos_of l.initial.peers.items;
  slots : l.inbox.slots ≡ l.initial.inbox.slots;
  still : StillKeeps l.initial.inbox l.inbox;
  others : KeepsOthers l.place l.initial.inbox l.inbox;
  sent : IsKept (g.L.Links.sent l.initial.links) (g.L.Links.sent l.links);
  flushed : g.L.Links.flushed l.links ≡ g.L.Links.flushed l.initial.links;
  never_falls : g.L.Links.faults l.initial.links ≤ g.L.Links.faults l.links;
}

abbrev pub decreases-events : goal.decreases-events
decreases-events g l = events_left l.place (g.L.Links.closed l.links) l.peers.items
