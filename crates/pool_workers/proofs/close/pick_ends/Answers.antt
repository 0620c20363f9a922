use Rattle.std.proofs.Common.{◌≡◌, ◌≢◌, ◌∙◌, sym, ap, subst, arith}
use Rattle.std.specs.Prelude.{IsOk}
use Rattle.std.proofs.lemmas.Bool.{false≢true}
use Rattle.std.specs.Mem.Slots.{slots_items, slots_filled, slots_len, slots_counts}
use lib.ListN.{get_elem?}
use Rattle.turn_core.specs.declared.edge.Edge.{Edge}
use Rattle.task_pool.specs.Held.{HasMeaning}
use Rattle.pool_workers.specs.Sums.{target_at}
use Rattle.pool_workers.proofs.Starts.{target_is, within_is}
use Rattle.pool_workers.proofs.Ends.{emptied, is_end, picked_other, picked_same, picked_many, room_left}
use Rattle.pool_workers.proofs.close.pick_ends.Goals as goal

abbrev none : Edge
none = record { source = 0; target = 0 }

pub loop-number-preserved-then-edge : goal.loop-number-preserved-then-edge
loop-number-preserved-then-edge g c =
    let i = c.loop-number.invariant in
    let edges = g.M.Meaning.edges in
    let at = c.loop-number.number in
    let within = within_is edges c.args.edges.now at c.requires.edges c.loop-number-test.true in
    let other : target_at edges at ≢ 4294967295 = λ end. c.if-edge.true (sym (target_is edges c.args.edges.now at none c.requires.edges c.loop-number-test.true) ∙ end) in
    let o = c.take-value.ensures.others in
    let old = c.loop-number.closed.slots in
    let e = emptied (slots_filled old) (slots_filled c.take-value.new.self.slots) at (slots_len old) (slots_len c.take-value.new.self.slots) o.1 o.2 (slots_counts old).1 (omega (arith, i.many, within)) i.full i.empty in
    record {
      same = o.0 ∙ i.same;
      many = o.2 ∙ i.many;
      full = e.0;
      empty = e.1;
      room = i.room;
      picked = picked_other edges g.M.Meaning.means at c.loop-number.ends.items within other i.picked;
    }

pub unreachable-requires : goal.unreachable-requires
unreachable-requires g c =
    let i = c.loop-number.invariant in
    let edges = g.M.Meaning.edges in
    let at = c.loop-number.number in
    let within = within_is edges c.args.edges.now at c.requires.edges c.loop-number-test.true in
    let end : target_at edges at ≡ 4294967295 = target_is edges c.args.edges.now at none c.requires.edges c.loop-number-test.true ∙ c.if-edge.false in
    let here = ap (λ l. get_elem? l at) (sym i.same) ∙ c.take-value.ensures.value in
    let mean = is_end edges g.M.Meaning.means (slots_items c.args.closed.slots) at c.take-value.result c.requires.ends within end here in
    subst (λ o. HasMeaning g.M.Meaning.means at o) c.in_default.is mean

pub unreachable-requires-in_default-push : goal.unreachable-requires-in_default-push
unreachable-requires-in_default-push g c =
    let i = c.loop-number.invariant in
    let edges = g.M.Meaning.edges in
    let at = c.loop-number.number in
    let within = within_is edges c.args.edges.now at c.requires.edges c.loop-number-test.true in
    let end : target_at edges at ≡ 4294967295 = target_is edges c.args.edges.now at none c.requires.edges c.loop-number-test.true ∙ c.if-edge.false in
    let many = picked_many edges g.M.Meaning.means at c.loop-number.ends.items i.picked in
    absurd (false≢true (subst (λ r. IsOk r) c.in_default-push.is (c.push.ensures.succeeds (omega (arith, many, room_left edges at within end, i.room, c.loop-number.ends.ok.0)))))

pub loop-number-preserved : goal.loop-number-preserved
loop-number-preserved g c =
    let i = c.loop-number.invariant in
    let edges = g.M.Meaning.edges in
    let at = c.loop-number.number in
    let within = within_is edges c.args.edges.now at c.requires.edges c.loop-number-test.true in
    let end : target_at edges at ≡ 4294967295 = target_is edges c.args.edges.now at none c.requires.edges c.loop-number-test.true ∙ c.if-edge.false in
    let here = ap (λ l. get_elem? l at) (sym i.same) ∙ c.take-value.ensures.value in
    let mean = is_end edges g.M.Meaning.means (slots_items c.args.closed.slots) at c.take-value.result c.requires.ends within end here in
    let o = c.take-value.ensures.others in
    let old = c.loop-number.closed.slots in
    let e = emptied (slots_filled old) (slots_filled c.take-value.new.self.slots) at (slots_len old) (slots_len c.take-value.new.self.slots) o.1 o.2 (slots_counts old).1 (omega (arith, i.many, within)) i.full i.empty in
    record {
      same = o.0 ∙ i.same;
      many = o.2 ∙ i.many;
      full = e.0;
      empty = e.1;
      room = omega (arith, i.room, c.push.ensures.capacity);
      picked = picked_same edges g.M.Meaning.means at c.take-value.result c.in-Some.value c.loop-number.ends.items c.push.new.self.items within end mean c.in-Some.is c.in-Ok.ensures.items i.picked;
    }
