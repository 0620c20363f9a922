use Rattle.std.proofs.Common.{◌≡◌, ◌≤◌, ◌∙◌, ◌++◌, List, Bool, ap, subst, sym, length, drop, arith}
use Rattle.std.specs.Prelude.{slice_get, IfSome}
use Rattle.circuit_tables.specs.Cut.{told_next, width_next}
use Rattle.circuit_tables.specs.Table.{asked, AreCut}
use Rattle.circuit_tables.proofs.CutLemmas.{whole_width, none_cut, enough, one_more_cut, all_cut}
use Rattle.circuit_tables.proofs.told.Outputs.cut.Goals as goal

pub loop-at-init : goal.loop-at-init
loop-at-init c = none_cut c.args.party c.args.table.now c.in_ok-bits.bits.items (whole_width c.args.party c.args.table.now c.args.told.now c.in_ok-bits.bits.items c.requires c.in_ok-bits.ensures) _ c.new-outputs.ensures

pub push_next-requires-clause-enough : goal.push_next-requires-clause-enough
push_next-requires-clause-enough c =
    let left = ap (λ (bits : List Bool). drop c.loop-at.taken bits) (sym c.deref.ensures.value) ∙ sym c.bits_from-left.ensures in
    let P : List Bool → Type 0 = λ bits. IfSome (slice_get c.args.table.now c.loop-at.at) (λ o. width_next c.args.party o ≤ length bits) in
    subst P left (enough c.args.party c.args.table.now c.in_ok-bits.bits.items c.loop-at.outputs c.loop-at.taken c.loop-at.at c.loop-at.invariant (omega arith))

pub loop-at-preserved : goal.loop-at-preserved
loop-at-preserved c =
    let left = c.bits_from-left.ensures ∙ ap (λ (bits : List Bool). drop c.loop-at.taken bits) c.deref.ensures.value in
    let P : List Bool → Type 0 = λ bits. IfSome (slice_get c.args.table.now c.loop-at.at) (λ o. c.push_next.new.outputs ≡ c.loop-at.outputs ++ told_next c.args.party o bits) in
    one_more_cut c.args.party c.args.table.now c.in_ok-bits.bits.items c.loop-at.outputs c.push_next.new.outputs c.loop-at.taken c.in_ok-taken.field-0 c.loop-at.at c.loop-at.invariant (omega arith) (subst P left c.in_ok-taken.ensures.added) c.in_ok-taken.ensures.one c.in_ok-taken.ensures.taken

pub overflow_add-taken : goal.overflow_add-taken
overflow_add-taken c =
    let next = loop-at-preserved c in
    let left = next.left in
    let small = c.in_ok-bits.bits.small in
    omega (arith, left, small)

pub returns : goal.returns
returns c =
    let P : List Bool → Type 0 = λ bits. AreCut (asked c.args.party c.args.table.now) bits c.loop-at.outputs in
    let whole = whole_width c.args.party c.args.table.now c.args.told.now c.in_ok-bits.bits.items c.requires c.in_ok-bits.ensures in
    subst P c.in_ok-bits.ensures (all_cut c.args.party c.args.table.now c.in_ok-bits.bits.items c.loop-at.outputs c.loop-at.taken c.loop-at.at whole c.loop-at.invariant (omega arith))
