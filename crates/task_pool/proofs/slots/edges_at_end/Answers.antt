use Rattle.std.proofs.Common.{◌≡◌, ◌≢◌, ℕ, ◌<◌, List, [], ◌∷◌, ◌++◌, length, get_or, sym, ap, ◌∙◌, subst, arith}
use Rattle.std.proofs.lemmas.List.{length-map, get_or-map}
use Rattle.turn_core.specs.declared.edge.Edge.{Edge}
use Rattle.turn_core.specs.declared.edge.TheConstants.{TERMINAL}
use Rattle.turn_core.specs.Graph.{Graph, targets}
use Rattle.turn_core.proofs.Places.{places-more_same, places-more_other}
use Rattle.task_pool.proofs.slots.edges_at_end.Goals as goal

abbrev zero_edge : Edge
zero_edge = record { source = 0; target = 0 }

target_at : (g : Graph) (items : List Edge) (i : ℕ) (d : Edge) → items ≡ g.edges → i < length items → get_or (targets g) i 0 ≡ (get_or items i d).target
target_at g items i d same within =
    let short : i < length g.edges = subst (λ (es : List Edge). i < length es) same within in
    get_or-map (λ (e : Edge). e.target) g.edges i d 0 short ∙ ap (λ (es : List Edge). (get_or es i d).target) (sym same)

many : (g : Graph) (items : List Edge) (i : ℕ) → items ≡ g.edges → i < length items → i < length (targets g)
many g items i same within =
    let long = ap (λ (es : List Edge). length es) same in
    omega (arith, long, within, length-map g.edges (λ e. e.target))

pub loop-number-preserved-then-edge : goal.loop-number-preserved-then-edge
loop-number-preserved-then-edge c =
    let g = c.args.dag.now in
    let items = c.edges-edge-items.result.now in
    let i = c.loop-number.number in
    let same = c.loop-number.invariant.0 in
    let other : get_or (targets g) i 0 ≢ TERMINAL = λ here. c.if-edge.true (sym (target_at g items i zero_edge same c.loop-number-test.true) ∙ here) in
    (same, c.loop-number.invariant.1 ∙ sym (places-more_other TERMINAL (targets g) i (many g items i same c.loop-number-test.true) other))

pub loop-number-preserved : goal.loop-number-preserved
loop-number-preserved c =
    let g = c.args.dag.now in
    let items = c.edges-edge-items.result.now in
    let i = c.loop-number.number in
    let same = c.loop-number.invariant.0 in
    let here : get_or (targets g) i 0 ≡ TERMINAL = target_at g items i zero_edge same c.loop-number-test.true ∙ c.if-edge.false in (
      same,
      c.in_ok-push.ensures.items ∙ ap (λ (es : List ℕ). es ++ i ∷ []) c.loop-number.invariant.1
          ∙ sym (places-more_same TERMINAL (targets g) i (many g items i same c.loop-number-test.true) here),
    )
