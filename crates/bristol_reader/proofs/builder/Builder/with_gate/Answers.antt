use Rattle.std.proofs.Common.{◌≡◌, true, refl, arith}
use Rattle.bristol_reader.specs.Stored.{stated_gate}
use Rattle.bristol_reader.specs.Line.{are_outs_new}
use Rattle.bristol_reader.proofs.BuiltLemmas.{parts}
use Rattle.bristol_reader.proofs.AddedLemmas.{ins_fit, outs_fit, told_new, added_twice, added_here, kept_here}
use Rattle.bristol_reader.proofs.builder.Builder.with_gate.Goals as goal

pub returns-then-not-mark_all : goal.returns-then-not-mark_all
returns-then-not-mark_all c =
    let k = parts c.self.inside.wires c.self.inside.inputs c.self.inside.outputs c.self.inside.gates in
    let g = stated_gate c.args.gate.now in
    added_twice c.args.self g (told_new c.self.inside.stated k c.self.inside.set.items c.deref_mut.result.now c.args.self g _ c.self.view_is c.self.invariant c.requires.range c.deref_mut.ensures.value c.if-not-mark_all.ensures.new)

pub with-requires-clause-ins : goal.with-requires-clause-ins
with-requires-clause-ins c =
    let k = parts c.self.inside.wires c.self.inside.inputs c.self.inside.outputs c.self.inside.gates in
    ins_fit c.self.inside.stated k c.self.inside.set.items c.args.self (stated_gate c.args.gate.now) c.self.view_is c.self.invariant c.requires.range

pub with-requires-clause-outs : goal.with-requires-clause-outs
with-requires-clause-outs c =
    let k = parts c.self.inside.wires c.self.inside.inputs c.self.inside.outputs c.self.inside.gates in
    outs_fit c.self.inside.stated k c.self.inside.set.items c.args.self (stated_gate c.args.gate.now) c.self.view_is c.self.invariant c.requires.range

pub invariant_of-result : goal.invariant_of-result
invariant_of-result c =
    let k = parts c.self.inside.wires c.self.inside.inputs c.self.inside.outputs c.self.inside.gates in
    let g = stated_gate c.args.gate.now in
    let new : are_outs_new c.args.self.circuit g.outs ≡ true = told_new c.self.inside.stated k c.self.inside.set.items c.deref_mut.result.now c.args.self g _ c.self.view_is c.self.invariant c.requires.range c.deref_mut.ensures.value c.if-not-mark_all.ensures.new in
    let len = c.self.inside.set.ok.0 in
    kept_here c.self.inside.stated c.self.inside.wires c.self.inside.inputs c.self.inside.outputs c.self.inside.gates c.in_ok-gates.gates c.self.inside.set.items c.deref_mut.result.now c.mark_all.new.set c.self.inside.set.len c.args.self g c.self.view_is c.self.invariant c.requires.room c.requires.arity c.requires.range c.requires.used new c.in_ok-gates.ensures c.deref_mut.ensures.value (omega arith) (c.if-not-mark_all.ensures.marked refl)

pub returns : goal.returns
returns c =
    let k = parts c.self.inside.wires c.self.inside.inputs c.self.inside.outputs c.self.inside.gates in
    let g = stated_gate c.args.gate.now in
    let new : are_outs_new c.args.self.circuit g.outs ≡ true = told_new c.self.inside.stated k c.self.inside.set.items c.deref_mut.result.now c.args.self g _ c.self.view_is c.self.invariant c.requires.range c.deref_mut.ensures.value c.if-not-mark_all.ensures.new in
    added_here c.self.inside.stated c.self.inside.wires c.self.inside.inputs c.self.inside.outputs c.self.inside.gates c.in_ok-gates.gates c.args.self g c.self.view_is c.in_ok-gates.ensures new
