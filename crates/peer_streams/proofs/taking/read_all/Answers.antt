use Rattle.std.proofs.Common.{◌∙◌, arith, rules}
use Rattle.peer_streams.proofs.Left.{left-same, left-then}
use Rattle.peer_streams.proofs.taking.read_all.Goals as goal

pub events-init : goal.events-init
events-init g c = record {
  some = search rules;
  place = search rules;
  peers = search rules;
  taken = search rules;
  left = left-same (g.L.Links.left c.args.links.now);
  hellos = search rules;
  slots = search rules;
  still = search rules;
  others = search rules;
  sent = search rules;
  flushed = search rules;
  never_falls = search rules;
}

pub returns-in-Err-clause-left : goal.returns-in-Err-clause-left
returns-in-Err-clause-left g c = left-then (g.L.Links.left c.args.links.now) (g.L.Links.left c.events.links) (g.L.Links.left c.take_event.new.links) c.events.invariant.left c.take_event.ensures.left

pub events-preserved : goal.events-preserved
events-preserved g c =
    let far = c.events.invariant in
    record {
      some = search rules;
      place = c.in-Ok.ensures.place ∙ far.place;
      peers = c.in-Ok.ensures.peers;
      taken = λ before had. c.in-Ok.ensures.taken before (far.taken before had);
      left = left-then (g.L.Links.left c.args.links.now) (g.L.Links.left c.events.links) (g.L.Links.left c.take_event.new.links) far.left c.take_event.ensures.left;
      hellos = c.in-Ok.ensures.hellos ∙ far.hellos;
      slots = c.in-Ok.ensures.slots ∙ far.slots;
      still = λ slot payload kept. c.take_event.ensures.still slot payload (far.still slot payload kept);
      others = λ slot outside. c.take_event.ensures.others slot outside ∙ far.others slot outside;
      sent = search rules;
      flushed = c.in-Ok.ensures.flushed ∙ far.flushed;
      never_falls = omega (arith, c.in-Ok.ensures.never_falls, far.never_falls);
    }
