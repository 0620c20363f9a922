use Rattle.std.proofs.Common.{List, ◌++◌, sym, ◌∙◌, ap, arith}
use Rattle.joint_run.specs.Party.{Payload}
use Rattle.gate_tasks.specs.Stage.{rounds_sent}
use Rattle.gate_tasks.specs.ByValue.{kind_in, stand, formed_of}
use Rattle.gate_tasks.specs.Sending.{kept_for}
use Rattle.gate_tasks.proofs.Running.{input_answer, early_answer, last_answer}
use Rattle.gate_tasks.proofs.stage.run_stage.Goals as goal

pub returns-then-owns_input-clause-gives : goal.returns-then-owns_input-clause-gives
returns-then-owns_input-clause-gives c =
    input_answer c.args.env.now c.args.wires.now c.args.carried c.args.payloads.now c.is_placed.ensures.plan c.requires.serves.unkeyed c.requires.serves.there
    c.is_placed.ensures.me c.args.stage c.input_stage.result (sym c.owns_input.ensures ∙ c.if-owns_input.true) c.requires.stage
    c.input_stage.ensures.carried c.input_stage.ensures.value c.input_stage.ensures.out

pub returns-then-stages-stage-clause-gives : goal.returns-then-stages-stage-clause-gives
returns-then-stages-stage-clause-gives c =
    early_answer c.args.env.now c.args.wires.now c.args.carried c.args.payloads.now c.is_placed.ensures.plan c.requires.serves.unkeyed c.requires.serves.there
    c.is_placed.ensures.me c.args.stage c.stage_outs.new.kept.items c.in_ok-out.out c.early_stage.result (sym c.owns_input.ensures ∙ c.if-owns_input.false)
    (omega (arith, c.stages.ensures, c.if-stages-stage.true)) c.in_ok-out.ensures.outs
    (c.in_ok-out.ensures.kept ∙ ap (λ (ps : List Payload). ps ++ kept_for c.args.env.now (formed_of (kind_in c.args.env.now) (stand c.args.env.now) c.args.wires.now) (rounds_sent c.args.env.now.plan.now c.args.env.now.own.now.me.0 c.args.env.now.gate c.args.stage)) c.payloads_carried-kept.ensures)
    c.early_stage.ensures

pub returns-clause-gives : goal.returns-clause-gives
returns-clause-gives c =
    last_answer c.args.env.now c.args.wires.now c.args.carried c.args.payloads.now c.is_placed.ensures.plan c.requires.serves.unkeyed c.requires.serves.there
    c.is_placed.ensures.me c.args.stage c.last_value.result c.in_ok-out.out c.last_stage.result (sym c.owns_input.ensures ∙ c.if-owns_input.false)
    (omega (arith, c.stages.ensures, c.if-stages-stage.false, c.requires.stage)) c.in_ok-out.ensures.outs c.last_value.ensures.value c.last_stage.ensures
