use Rattle.std.proofs.Common.{◌≡◌, ◌≤◌, Option}
use Rattle.mot_base.specs.Links.{ByParty, IsKept, IsSame}
use Rattle.party_stages.specs.Scene.{IsScene}
use Rattle.party_engine.specs.Rest.{AreDoneBelow, HasRunSo}
use Rattle.party_engine.specs.Saying.{HasSaid}
use Rattle.party_engine.proofs.rest.run_gate.Given as goal

abbrev pub invariant-loop-stage : goal.invariant-loop-stage
invariant-loop-stage g l = record {
  on : HasRunSo l.stages l.gate l._stage;
  below : AreDoneBelow l.stages l.gate;
  scene : IsScene l.brought l.inbox l.stages;
  said : (before : Option ByParty) → HasSaid before (g.L.Links.sent l.initial.links) l.initial.stages → HasSaid before (g.L.Links.sent l.links) l.stages;
  left : IsKept (g.L.Links.left l.initial.links) (g.L.Links.left l.links);
  closed : IsSame (g.L.Links.closed l.initial.links) (g.L.Links.closed l.links);
  place : g.L.Links.place l.links ≡ g.L.Links.place l.initial.links;
  never_falls : g.L.Links.faults l.initial.links ≤ g.L.Links.faults l.links;
}
