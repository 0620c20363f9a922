use Rattle.std.proofs.Common.{◌≡◌, ℕ, List, length, map, Some, sym, ap, ◌∙◌, subst}
use Rattle.turn_core.specs.Graph.{Graph, incoming, outgoing}
use Rattle.task_pool.specs.Meanings.{AreMeanings}
use Rattle.task_pool.specs.Held.{in_slots, AreDistinct, AreBelow, AreFull, OthersStay}
use Rattle.task_pool.proofs.Moves.{as_many}
use Rattle.task_pool.proofs.Turning.{in_distinct, out_distinct, in_below, out_below, ready_full, inputs_are, outputs_are, others_stay}
use Rattle.task_pool.proofs.slots.run_item.Goals as goal

pub take_all-requires-clause-below : goal.take_all-requires-clause-below
take_all-requires-clause-below g c =
    let all : AreBelow (length c.args.slots.now) (incoming c.args.dag.now c.args.item) =
    subst (λ (n : ℕ). AreBelow n (incoming c.args.dag.now c.args.item)) (sym c.requires.as_many) (in_below c.args.dag.now c.args.item) in
    subst (λ (es : List ℕ). AreBelow (length c.args.slots.now) es) (sym c.incoming.ensures) all

pub take_all-requires-clause-distinct : goal.take_all-requires-clause-distinct
take_all-requires-clause-distinct g c = subst (λ (es : List ℕ). AreDistinct es) (sym c.incoming.ensures) (in_distinct c.args.dag.now c.args.item)

pub take_all-requires-clause-full : goal.take_all-requires-clause-full
take_all-requires-clause-full g c =
    subst (λ (es : List ℕ). AreFull c.args.slots.now es) (sym c.incoming.ensures)
    (ready_full (g.W.Work.means c.args.work.now) c.args.dag.now c.args.item c.args.slots.now c.requires.inputs)

pub run-requires-clause-inputs : goal.run-requires-clause-inputs
run-requires-clause-inputs g c =
    let taken = subst (λ (es : List ℕ). in_slots c.args.slots.now es ≡ map Some c.take_all.new.values.items) c.incoming.ensures c.in_ok-take_all.ensures.taken in
    let here = inputs_are (g.W.Work.means c.args.work.now) c.args.dag.now c.args.item c.args.slots.now c.take_all.new.values.items c.requires.inputs taken in
    subst (λ (x : Graph). AreMeanings (g.W.Work.means c.args.work.now) (incoming x c.args.item) c.take_all.new.values.items) (sym c.requires.graph) here

pub put_all-requires-clause-below : goal.put_all-requires-clause-below
put_all-requires-clause-below g c =
    let all : AreBelow (length c.take_all.new.slots) (outgoing c.args.dag.now c.args.item) =
    subst (λ (n : ℕ). AreBelow n (outgoing c.args.dag.now c.args.item)) (sym (c.in_ok-take_all.ensures.as_many ∙ c.requires.as_many)) (out_below c.args.dag.now c.args.item) in
    subst (λ (es : List ℕ). AreBelow (length c.take_all.new.slots) es) (sym c.outgoing.ensures) all

pub put_all-requires-clause-distinct : goal.put_all-requires-clause-distinct
put_all-requires-clause-distinct g c = subst (λ (es : List ℕ). AreDistinct es) (sym c.outgoing.ensures) (out_distinct c.args.dag.now c.args.item)

pub put_all-requires-clause-as_many : goal.put_all-requires-clause-as_many
put_all-requires-clause-as_many g c =
    as_many (g.W.Work.means c.args.work.now) (outgoing (g.W.Work.graph c.args.work.now) c.args.item) c.in_ok-outputs.outputs.items c.in_ok-outputs.ensures
    ∙ ap (λ (x : Graph). length (outgoing x c.args.item)) c.requires.graph
    ∙ ap (λ (es : List ℕ). length es) (sym c.outgoing.ensures)

pub returns-clause-outputs : goal.returns-clause-outputs
returns-clause-outputs g c =
    let means = g.W.Work.means c.args.work.now in
    let are = subst (λ (x : Graph). AreMeanings means (outgoing x c.args.item) c.in_ok-outputs.outputs.items) c.requires.graph c.in_ok-outputs.ensures in
    let put = subst (λ (es : List ℕ). in_slots c.put_all.new.slots es ≡ map Some c.in_ok-outputs.outputs.items) c.outgoing.ensures c.in_ok-put_all.ensures.put in
    outputs_are means c.args.dag.now c.args.item c.put_all.new.slots c.in_ok-outputs.outputs.items are put

pub returns-clause-others : goal.returns-clause-others
returns-clause-others g c e within from into =
    let taken = subst (λ (es : List ℕ). OthersStay es c.args.slots.now c.take_all.new.slots) c.incoming.ensures c.in_ok-take_all.ensures.others in
    let put = subst (λ (es : List ℕ). OthersStay es c.take_all.new.slots c.put_all.new.slots) c.outgoing.ensures c.in_ok-put_all.ensures.others in
    others_stay c.args.dag.now c.args.item c.args.slots.now c.take_all.new.slots c.put_all.new.slots taken put e from into
