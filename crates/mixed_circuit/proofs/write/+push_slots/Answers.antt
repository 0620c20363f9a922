use Rattle.std.proofs.Common.{sym, ◌∙◌}
use Rattle.mixed_circuit.specs.Rows.{row_shape}
use Rattle.mixed_circuit.proofs.WriteLemmas.{on_ok, slots_cons, slots_more}
use Rattle.mixed_circuit.proofs.write.+push_slots.Goals as goal

pub returns : goal.returns
returns t c = on_ok c.push_slots.result
    (λ last. slots_more c.args.circuit.now.statements c.args.name.now (row_shape c.args.row.now) c.args.places.now c.behind_slot.result.now c.args.slots.now _ _ c.args.out.now.items _ _ _ (slots_cons c.args.slots.now _ c.in-len1-up.len_at_least) (sym c.is_empty.ensures ∙ c.if-is_empty.false) c.behind_slot.ensures c.in_ok-push_slot.ensures c.in_ok-push.ensures.items last)
    c.push_slots.ensures
