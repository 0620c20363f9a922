use Rattle.std.proofs.Common.{◌≡◌, ℕ, List, take, map, ap, ◌∙◌, subst, inr, arith}
use Rattle.std.proofs.lemmas.List.{take_all}
use Rattle.turn_core.specs.Core.{Core, Leaves, after_all, IsCore}
use Rattle.turn_core.proofs.Leaving.{may_leave_next, marks_from}
use Rattle.turn_core.proofs.turns.Turns.done.Goals as goal

pub mark-requires : goal.mark-requires
mark-requires c =
    let es = c.outgoing-edge-items.result.now in
    inr (may_leave_next c.args.self.now c.loop-edge.self c.args.item c.loop-edge.edge-index es (take c.loop-edge.edge-index es) c.loop-edge.invariant.0 c.loop-edge.invariant.1 c.requires.handed c.loop-edge-test.true)

pub returns-clause-marks : goal.returns-clause-marks
returns-clause-marks c =
    let es = c.outgoing-edge-items.result.now in
    let core = subst (λ (x : Core). IsCore x) c.self.view_is c.self.invariant.core in
    let whole : take c.loop-edge.edge-index es ≡ es = take_all c.loop-edge.edge-index es (omega (arith, c.loop-edge-test.false)) in
    marks_from c.args.self.now c.loop-edge.self c.args.item core c.requires.is_item
    (c.loop-edge.invariant.1 ∙ ap (λ (xs : List ℕ). after_all c.args.self.now (map Leaves xs)) (whole ∙ c.loop-edge.invariant.0))
