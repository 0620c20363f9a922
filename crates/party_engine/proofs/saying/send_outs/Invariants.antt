use Rattle.std.proofs.Common.{◌≡◌, ◌≤◌, take}
use Rattle.mot_base.specs.Links.{IsKept, IsSame}
use Rattle.peer_streams.specs.Sending.{AreSent}
use Rattle.party_engine.specs.Saying.{bytes_of}
use Rattle.party_engine.proofs.saying.send_outs.Given as goal

abbrev pub invariant-loop-out : goal.invariant-loop-out
invariant-loop-out g l = record {
  sent : AreSent (g.L.Links.sent l.initial.links) (g.L.Links.sent l.links) (bytes_of (take l.out-index l.outs));
  left : IsKept (g.L.Links.left l.initial.links) (g.L.Links.left l.links);
  closed : IsSame (g.L.Links.closed l.initial.links) (g.L.Links.closed l.links);
  place : g.L.Links.place l.links ≡ g.L.Links.place l.initial.links;
  never_falls : g.L.Links.faults l.initial.links ≤ g.L.Links.faults l.links;
}
