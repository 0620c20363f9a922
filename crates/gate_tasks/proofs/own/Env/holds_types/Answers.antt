use Rattle.std.proofs.Common.{◌≡◌, ℕ, ◌++◌, ap, sym, ◌∙◌}
use Rattle.std.specs.Option.{option_to_list}
use Rattle.gate_tasks.specs.Stage.{operands_at, operands_of}
use Rattle.gate_tasks.proofs.Decided.{refused, front_at, rest_at, last_at, both_at, one_at, HasType, typed_at, types_from}
use Rattle.gate_tasks.proofs.own.Env.holds_types.Goals as goal

pub returns-then-not-holds_type : goal.returns-then-not-holds_type
returns-then-not-holds_type c =
    let plan = c.args.self.now.plan.now in
    let wires = c.args.self.now.wires.now in
    let o = c.operands-operands.result in
    let list : operands_at plan.gates c.args.gate ≡ option_to_list o.first ++ (option_to_list o.second ++ option_to_list o.third) =
    ap operands_of c.gate.ensures.kind ∙ sym c.operands-operands.ensures.all in
    refused _ c.holds_type.ensures c.if-not-holds_type.true
    (λ all x gate value is known held.
    front_at (HasType plan.gates wires) o.first _ (typed_at plan c.args.gate wires _ list all) x is gate value known held)

pub returns-then-not-holds_type-2 : goal.returns-then-not-holds_type-2
returns-then-not-holds_type-2 c =
    let plan = c.args.self.now.plan.now in
    let wires = c.args.self.now.wires.now in
    let o = c.operands-operands.result in
    let list : operands_at plan.gates c.args.gate ≡ option_to_list o.first ++ (option_to_list o.second ++ option_to_list o.third) =
    ap operands_of c.gate.ensures.kind ∙ sym c.operands-operands.ensures.all in
    refused _ c.holds_type-2.ensures c.if-not-holds_type-2.true
    (λ all x gate value is known held.
    front_at (HasType plan.gates wires) o.second _
    (rest_at (HasType plan.gates wires) o.first _ (typed_at plan c.args.gate wires _ list all)) x is gate value known held)

pub returns : goal.returns
returns c =
    let plan = c.args.self.now.plan.now in
    let wires = c.args.self.now.wires.now in
    let o = c.operands-operands.result in
    let list : operands_at plan.gates c.args.gate ≡ option_to_list o.first ++ (option_to_list o.second ++ option_to_list o.third) =
    ap operands_of c.gate.ensures.kind ∙ sym c.operands-operands.ensures.all in
    let Typed : ℕ → Type 0 = HasType plan.gates wires in (
      λ e.
          types_from plan c.args.gate wires _ list
          (both_at Typed o.first _ (λ x is gate value. c.holds_type.ensures.0 c.if-not-holds_type.false x gate value is)
          (both_at Typed o.second _ (λ x is gate value. c.holds_type-2.ensures.0 c.if-not-holds_type-2.false x gate value is)
          (one_at Typed o.third (λ x is gate value. c.holds_type-3.ensures.0 e x gate value is)))),
      λ all.
          c.holds_type-3.ensures.1
          (λ x gate value is known held.
          last_at Typed o.third
          (rest_at Typed o.second _ (rest_at Typed o.first _ (typed_at plan c.args.gate wires _ list all))) x is gate value known held),
    )
