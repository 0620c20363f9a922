use Rattle.std.proofs.Common.{◌≤◌, List, Bool, length, map, sym, ap, ◌∙◌, vec_items, arith}
use Rattle.std.proofs.lemmas.List.{take_all, length-map}
use Rattle.share_types.specs.Bits as vector
use Rattle.circuit_tables.proofs.NumberLemmas.{seen_all, seen_more}
use Rattle.circuit_tables.proofs.values.Values.numbers.Goals as goal

pub number_of-requires : goal.number_of-requires
number_of-requires c =
    let items = c.self.inside.values.items in
    let is = rw c.deref-bits-items.ensures.value at c.bits-item.is in
    let within = rw c.deref-bits-items.ensures.value at c.loop-bits-test.true in
    rw c.deref.ensures.value (seen_all vec_items (λ (bits : List Bool). length bits ≤ 64) items c.args.self.now c.loop-bits.bits-index c.bits-item.result c.self.view_is c.requires is within)

pub loop-bits-preserved : goal.loop-bits-preserved
loop-bits-preserved c =
    let items = c.self.inside.values.items in
    let is = rw c.deref-bits-items.ensures.value at c.bits-item.is in
    let within = rw c.deref-bits-items.ensures.value at c.loop-bits-test.true in
    let more = seen_more vec_items vector.number items c.args.self.now c.loop-bits.bits-index c.bits-item.result c.self.view_is is within in
    rw (c.in_ok-push.ensures.items, c.number_of.ensures.value, c.deref.ensures.value, c.loop-bits.invariant) (sym more)

pub returns : goal.returns
returns c =
    let past = rw c.deref-bits-items.ensures.value at c.loop-bits-test.false in
    let view = ap length c.self.view_is in
    let count = length-map c.self.inside.values.items vec_items in
    c.loop-bits.invariant ∙ ap (map vector.number) (take_all c.loop-bits.bits-index c.args.self.now (omega arith))
