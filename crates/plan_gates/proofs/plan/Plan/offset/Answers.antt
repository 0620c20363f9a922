use Rattle.std.proofs.Common.{◌<◌, length, ap, sym, ◌∙◌, subst, arith}
use Rattle.std.specs.Prelude.{slice_get}
use Rattle.std.proofs.lemmas.Option.{get_or_from_slice_get}
use Rattle.share_types.proofs.Parties.{length-each}
use Rattle.plan_gates.specs.Plan.{Gates}
use Rattle.plan_gates.specs.Needs.{offset}
use Rattle.plan_gates.proofs.NeedsLemmas.{slice_get-each}
use Rattle.plan_gates.proofs.plan.Plan.offset.Goals as goal

pub index-requires : goal.index-requires
index-requires c =
    let plan = c.self.inside.draft in
    let there : c.args.gate < length plan.gates = subst (λ (p : Gates). c.args.gate < length p.gates) (sym c.self.view_is) c.requires in
    let count = ap length c.self.invariant.1 in
    let all = length-each (length plan.gates) (offset plan) in
    omega arith

pub returns : goal.returns
returns c =
    let plan = c.self.inside.draft in
    let there : c.args.gate < length plan.gates = subst (λ (p : Gates). c.args.gate < length p.gates) (sym c.self.view_is) c.requires in
    let here = ap (λ ns. slice_get ns c.args.gate) c.self.invariant.1 ∙ slice_get-each (length plan.gates) (offset plan) c.args.gate there in
    c.index.ensures
    ∙ get_or_from_slice_get c.self.inside.offsets.items c.args.gate (offset plan c.args.gate) c.index.result.now here
    ∙ ap (λ (p : Gates). offset p c.args.gate) c.self.view_is
