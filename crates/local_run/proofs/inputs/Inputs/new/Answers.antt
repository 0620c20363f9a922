use Rattle.std.proofs.Common.{◌<◌, List, Some, length, take, ap, sym, ◌∙◌, subst, arith}
use Rattle.local_run.specs.declared.cargo.Cargo.{Cargo}
use Rattle.local_run.proofs.Sorting.{IsSorted, sorted_value, sorted_kept, sorted_message, next_left, left_next, few_so_far}
use Rattle.local_run.proofs.inputs.Inputs.new.Goals as goal

pub with-wires-requires : goal.with-wires-requires
with-wires-requires c =
    let old = c.args.inputs.now.items in
    let within : c.loop-at.at < length old = omega (arith, c.loop-at-test.true, c.len-at-end.ensures) in
    let next = next_left c.loop-at.at old c.loop-at.inputs.items c.index_mut.result.now c.index_mut.result.now c.loop-at.invariant.1 within c.index_mut.ensures.value in
    let is = sym c.replace.ensures.value ∙ c.in-Value.is in
    let few = few_so_far old c.loop-at.at 2 c.index_mut.result.now c.in-Value.value next is c.requires in
    omega (arith, few, ap length c.loop-at.invariant.0.wires_are)

pub loop-at-preserved-in-Value : goal.loop-at-preserved-in-Value
loop-at-preserved-in-Value c =
    let old = c.args.inputs.now.items in
    let within : c.loop-at.at < length old = omega (arith, c.loop-at-test.true, c.len-at-end.ensures) in
    let next = next_left c.loop-at.at old c.loop-at.inputs.items c.index_mut.result.now c.index_mut.result.now c.loop-at.invariant.1 within c.index_mut.ensures.value in
    let sorted = sorted_value c.loop-at.wires c.with-wires.result c.loop-at.carried c.loop-at.payloads.items (take c.loop-at.at old)
    c.index_mut.result.now c.in-Value.value c.loop-at.invariant.0 (sym c.replace.ensures.value ∙ c.in-Value.is) c.with-wires.ensures in (
      subst (λ (cs : List Cargo). IsSorted c.with-wires.result c.loop-at.carried c.loop-at.payloads.items cs) (sym next) sorted,
      left_next c.loop-at.at old c.loop-at.inputs.items _ c.loop-at.invariant.1,
    )

pub loop-at-preserved-in-Kept : goal.loop-at-preserved-in-Kept
loop-at-preserved-in-Kept c =
    let old = c.args.inputs.now.items in
    let within : c.loop-at.at < length old = omega (arith, c.loop-at-test.true, c.len-at-end.ensures) in
    let next = next_left c.loop-at.at old c.loop-at.inputs.items c.index_mut.result.now c.index_mut.result.now c.loop-at.invariant.1 within c.index_mut.ensures.value in
    let sorted = sorted_kept c.loop-at.wires c.loop-at.carried c.loop-at.payloads.items (take c.loop-at.at old)
    c.index_mut.result.now c.in-Kept.kept c.loop-at.invariant.0 (sym c.replace.ensures.value ∙ c.in-Kept.is) in (
      subst (λ (cs : List Cargo). IsSorted c.loop-at.wires (Some c.in-Kept.kept) c.loop-at.payloads.items cs) (sym next) sorted,
      left_next c.loop-at.at old c.loop-at.inputs.items _ c.loop-at.invariant.1,
    )

pub loop-at-preserved : goal.loop-at-preserved
loop-at-preserved c =
    let old = c.args.inputs.now.items in
    let within : c.loop-at.at < length old = omega (arith, c.loop-at-test.true, c.len-at-end.ensures) in
    let next = next_left c.loop-at.at old c.loop-at.inputs.items c.index_mut.result.now c.index_mut.result.now c.loop-at.invariant.1 within c.index_mut.ensures.value in
    let sorted = sorted_message c.loop-at.wires c.loop-at.carried c.loop-at.payloads.items c.push.new.self.items (take c.loop-at.at old)
    c.index_mut.result.now c.in-Message.payload c.loop-at.invariant.0 (sym c.replace.ensures.value ∙ c.in-Message.is) c.in_ok-push-in-Message.ensures.items in (
      subst (λ (cs : List Cargo). IsSorted c.loop-at.wires c.loop-at.carried c.push.new.self.items cs) (sym next) sorted,
      left_next c.loop-at.at old c.loop-at.inputs.items _ c.loop-at.invariant.1,
    )
