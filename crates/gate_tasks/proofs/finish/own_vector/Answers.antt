use Rattle.std.proofs.Common.{◌≤◌, ap, subst, arith}
use Rattle.std.specs.Prelude.{slice_get}
use Rattle.gate_tasks.specs.Stage.{operands_of}
use Rattle.plan_gates.specs.Gate.{SliceB, JoinB}
use Rattle.gate_tasks.proofs.Operands.{fits_at, wide_at, its_width}
use Rattle.gate_tasks.proofs.finish.own_vector.Goals as goal

pub slice-requires-clause-some : goal.slice-requires-clause-some
slice-requires-clause-some c =
    let plan = c.args.env.now.plan.now in
    let g = c.args.env.now.gate in
    let wide = wide_at plan g (SliceB c.in-SliceB.x c.in-SliceB.at) c.requires.plan c.in-SliceB.ensures.kind in
    subst (λ w. 1 ≤ w) (its_width plan.gates g c.in-SliceB.width c.in-SliceB.ensures.width) wide.0

pub slice-requires-clause-inside : goal.slice-requires-clause-inside
slice-requires-clause-inside c =
    let plan = c.args.env.now.plan.now in
    let g = c.args.env.now.gate in
    let kind = SliceB c.in-SliceB.x c.in-SliceB.at in
    let fits = fits_at plan g kind c.requires.plan c.in-SliceB.ensures.kind in
    let inside = fits.0 in
    let own = its_width plan.gates g c.in-SliceB.width c.in-SliceB.ensures.width in
    let taken = c.vector_at-in-SliceB.ensures.width c.in-SliceB.x (ap (λ o. slice_get (operands_of o) 0) c.in-SliceB.ensures.kind) in
    omega (arith, inside, own, taken)

pub join-requires : goal.join-requires
join-requires c =
    let plan = c.args.env.now.plan.now in
    let g = c.args.env.now.gate in
    let kind = JoinB c.in-JoinB.x c.in-JoinB.y in
    let fits = fits_at plan g kind c.requires.plan c.in-JoinB.ensures.kind in
    let wide = wide_at plan g kind c.requires.plan c.in-JoinB.ensures.kind in
    let most = wide.1 in
    let low = c.vector_at-in-JoinB.ensures.width c.in-JoinB.x (ap (λ o. slice_get (operands_of o) 0) c.in-JoinB.ensures.kind) in
    let high = c.vector_at-in-JoinB-2.ensures.width c.in-JoinB.y (ap (λ o. slice_get (operands_of o) 1) c.in-JoinB.ensures.kind) in
    omega (arith, fits, most, low, high)

pub returns-in-JoinB-clause-width : goal.returns-in-JoinB-clause-width
returns-in-JoinB-clause-width c =
    let plan = c.args.env.now.plan.now in
    let g = c.args.env.now.gate in
    let kind = JoinB c.in-JoinB.x c.in-JoinB.y in
    let fits = fits_at plan g kind c.requires.plan c.in-JoinB.ensures.kind in
    let low = c.vector_at-in-JoinB.ensures.width c.in-JoinB.x (ap (λ o. slice_get (operands_of o) 0) c.in-JoinB.ensures.kind) in
    let high = c.vector_at-in-JoinB-2.ensures.width c.in-JoinB.y (ap (λ o. slice_get (operands_of o) 1) c.in-JoinB.ensures.kind) in
    let both = c.join.ensures.width in
    omega (arith, fits, low, high, both)
