use Rattle.std.proofs.Common.{◌≡◌, ◌≤◌, take}
use Rattle.mot_base.specs.Links.{IsKept, IsSame}
use Rattle.peer_streams.specs.Sending.{AreSent, bytes_for}
use Rattle.peer_streams.proofs.sending.send_each.Given as goal

abbrev pub invariant-loop-to : goal.invariant-loop-to
invariant-loop-to g l = record {
  sent : AreSent (g.L.Links.sent l.initial.links) (g.L.Links.sent l.links) (bytes_for l.place.me.0 (take l.to l.frames));
  left : IsKept (g.L.Links.left l.initial.links) (g.L.Links.left l.links);
  closed : IsSame (g.L.Links.closed l.initial.links) (g.L.Links.closed l.links);
  place : g.L.Links.place l.links ≡ g.L.Links.place l.initial.links;
  never_falls : g.L.Links.faults l.initial.links ≤ g.L.Links.faults l.links;
}
