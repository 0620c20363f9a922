use Rattle.std.proofs.Common.{◌≡◌, length, arith}
use Rattle.mot_base.proofs.Lists.{on_ok}
use Rattle.gate_plan.specs.Convert.{from_parts}
use Rattle.gate_plan.proofs.StatementLemmas.{if_ok}
use Rattle.gate_plan.proofs.PartsLemmas.{length_parts}
use Rattle.gate_plan.proofs.PartsCodeLemmas.{joints_start, parts_next, parts_given}
use Rattle.gate_plan.proofs.convert.push_parts.Goals as goal

pub push_joints-requires-clause-room : goal.push_joints-requires-clause-room
push_joints-requires-clause-room c =
    let old = c.args.draft.now in
    let now = c.push_entries.new.draft in
    let start = joints_start old now now c.args.parts c.args.parties c.in_ok-push_entries.ensures in
    let all = length_parts c.args.parts c.args.parties (length old.gates) in
    let room = c.requires.room in
    omega (arith, start, all, room)

pub returns-clause-next : goal.returns-clause-next
returns-clause-next c =
    on_ok c.push_joints.result
    (λ next. parts_next c.args.draft.now c.push_entries.new.draft c.push_joints.new.draft c.args.parts c.args.parties
    c.in_ok-push_entries.ensures c.gates-first.result c.gates-first.ensures.value next)
    c.push_joints.ensures.next

pub returns-clause-given : goal.returns-clause-given
returns-clause-given c =
    if_ok c.push_joints.result (λ given. given ≡ _)
    (λ given. given ≡ (from_parts c.args.parts c.args.parties (length c.args.draft.now.gates)).wire)
    (λ given is. parts_given c.args.draft.now c.push_entries.new.draft c.push_joints.new.draft c.args.parts c.args.parties
    c.in_ok-push_entries.ensures given c.gates-first.result c.gates-first.ensures.value is)
    c.push_joints.ensures.given
