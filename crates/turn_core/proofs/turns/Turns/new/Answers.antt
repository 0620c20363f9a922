use Rattle.std.proofs.Common.{◌≡◌, ℕ, false, Bool, List, length, replicate, sym, ap, ◌∙◌, subst}
use Rattle.turn_core.specs.declared.edge.Edge.{Edge}
use Rattle.turn_core.specs.Counters.{IsQueue, IsTied}
use Rattle.turn_core.proofs.Fresh.{begins}
use Rattle.turn_core.proofs.turns.Turns.new.Goals as goal

pub invariant_of-result : goal.invariant_of-result
invariant_of-result c =
    let g = c.args.dag.now in
    let missing = c.in_ok-missing.missing.items in
    let queue = subst (λ (xs : List ℕ). IsQueue xs c.in_ok-queue.queue.items c.in_ok-queue.len) c.deref.ensures.value c.in_ok-queue.ensures in
    let tied = begins g missing c.in_ok-queue.queue.items c.in_ok-queue.len c.items.ensures.sound c.in_ok-missing.ensures queue in
    let marked : c.in_ok-marked.marked.items ≡ replicate (length g.edges) false =
    c.in_ok-marked.ensures.items_if_clones_equal (λ y e. e) ∙ ap (λ (es : List Edge). replicate (length es) false) c.edges.ensures in
    let handed : c.in_ok-handed.handed.items ≡ replicate g.items false =
    c.in_ok-handed.ensures.items_if_clones_equal (λ y e. e) ∙ ap (λ (n : ℕ). replicate n false) c.items.ensures.count in
    let one = subst (λ (s : List Bool). IsTied (record { graph = g; marked = s; handed = replicate g.items false }) missing c.in_ok-queue.queue.items c.in_ok-queue.len) (sym marked) tied in
    subst (λ (s : List Bool). IsTied (record { graph = g; marked = c.in_ok-marked.marked.items; handed = s }) missing c.in_ok-queue.queue.items c.in_ok-queue.len) (sym handed) one
