use Rattle.std.proofs.Common.{◌≡◌, ℕ, List, length, map, Some, sym, ap, ◌∙◌, subst}
use Rattle.turn_core.specs.declared.edge.TheConstants.{TERMINAL}
use Rattle.turn_core.specs.Graph.{Graph}
use Rattle.task_pool.specs.Meanings.{AreMeanings, ends_of}
use Rattle.task_pool.specs.Held.{Held, in_slots, AreDistinct, AreBelow, AreFull}
use Rattle.task_pool.proofs.Turning.{in_distinct, in_below, ready_full, inputs_are, held-ends, all_turned}
use Rattle.task_pool.proofs.slots.Slots.ends.Goals as goal

pub take_all-requires-clause-below : goal.take_all-requires-clause-below
take_all-requires-clause-below g c =
    let dag = c.self.inside.dag.now in
    let slots = c.self.inside.slots in
    let all : AreBelow (length slots) (ends_of dag) = subst (λ (n : ℕ). AreBelow n (ends_of dag)) (sym c.self.invariant.as_many) (in_below dag TERMINAL) in
    subst (λ (es : List ℕ). AreBelow (length slots) es) (sym (c.deref.ensures.value ∙ c.in_ok-edges.ensures)) all

pub take_all-requires-clause-distinct : goal.take_all-requires-clause-distinct
take_all-requires-clause-distinct g c =
    subst (λ (es : List ℕ). AreDistinct es) (sym (c.deref.ensures.value ∙ c.in_ok-edges.ensures)) (in_distinct c.self.inside.dag.now TERMINAL)

pub take_all-requires-clause-full : goal.take_all-requires-clause-full
take_all-requires-clause-full g c =
    let dag = c.self.inside.dag.now in
    let slots = c.self.inside.slots in
    let means = g.W.Work.means c.self.inside.work.now in
    let all = all_turned c.args.self.graph dag c.args.self.turned c.self.inside.turned.items
    (ap (λ (x : Held _). x.graph) c.self.view_is) (ap (λ (x : Held _). x.turned) c.self.view_is) c.requires in
    let ready = held-ends means dag c.self.inside.turned.items slots c.self.invariant.sound c.self.invariant.inside c.self.invariant.items (c.self.invariant.held c.if-self.false) all in
    subst (λ (es : List ℕ). AreFull slots es) (sym (c.deref.ensures.value ∙ c.in_ok-edges.ensures)) (ready_full means dag TERMINAL slots ready)

pub returns : goal.returns
returns g c =
    let dag = c.self.inside.dag.now in
    let slots = c.self.inside.slots in
    let means = g.W.Work.means c.self.inside.work.now in
    let same_work = ap (λ (x : Held _). x.work) c.self.view_is in
    let same_graph = ap (λ (x : Held _). x.graph) c.self.view_is in
    let all = all_turned c.args.self.graph dag c.args.self.turned c.self.inside.turned.items
    same_graph (ap (λ (x : Held _). x.turned) c.self.view_is) c.requires in
    let ready = held-ends means dag c.self.inside.turned.items slots c.self.invariant.sound c.self.invariant.inside c.self.invariant.items (c.self.invariant.held c.if-self.false) all in
    let taken = subst (λ (es : List ℕ). in_slots slots es ≡ map Some c.take_all.new.values.items) (c.deref.ensures.value ∙ c.in_ok-edges.ensures) c.in_ok-take_all.ensures.taken in
    let here = inputs_are means dag TERMINAL slots c.take_all.new.values.items ready taken in
    let one = subst (λ (x : Graph). AreMeanings means (ends_of x) c.take_all.new.values.items) same_graph here in
    subst (λ w. AreMeanings (g.W.Work.means w) (ends_of c.args.self.graph) c.take_all.new.values.items) same_work one
