use Rattle.std.proofs.Common.{List, map, subst, arith}
use Rattle.turn_core.specs.declared.edge.Edge.{Edge}
use Rattle.turn_core.specs.Groups.{IsGrouped}
use Rattle.turn_core.proofs.Sound.{sound}
use Rattle.turn_core.proofs.dag.Dag.of_sound.Goals as goal

pub invariant_of-result : goal.invariant_of-result
invariant_of-result c = (
  sound c.args.items c.args.edges.items (omega (arith, c.ranges.items.fits)) (omega (arith, c.requires.few, c.args.edges.ok)) c.requires.ends c.requires.forward,
  subst (λ (es : List Edge). IsGrouped c.args.items (map (λ e. e.source) es) c.in_ok-outgoing.outgoing.starts.items c.in_ok-outgoing.outgoing.list.items) c.deref.ensures.value c.in_ok-outgoing.ensures,
  subst (λ (es : List Edge). IsGrouped c.args.items (map (λ e. e.target) es) c.in_ok-incoming.incoming.starts.items c.in_ok-incoming.incoming.list.items) c.deref-2.ensures.value c.in_ok-incoming.ensures,
)

pub returns-clause-sound : goal.returns-clause-sound
returns-clause-sound c = sound c.args.items c.args.edges.items (omega (arith, c.ranges.items.fits)) (omega (arith, c.requires.few, c.args.edges.ok)) c.requires.ends c.requires.forward
