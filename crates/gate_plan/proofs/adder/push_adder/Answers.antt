use Rattle.std.proofs.Common.{ℕ, ◌≡◌, ◌+◌, length, subst, arith}
use Rattle.mot_base.proofs.Lists.{on_ok}
use Rattle.plan_gates.specs.Plan.{with_gates}
use Rattle.gate_plan.specs.Adder.{adder, adder_wire}
use Rattle.gate_plan.proofs.StatementLemmas.{if_ok}
use Rattle.gate_plan.proofs.AdderCodeLemmas.{bits_start, bits_next, sums_next, bits_end, sum_end}
use Rattle.gate_plan.proofs.adder.push_adder.Goals as goal

pub push_next_bit-requires-clause-room : goal.push_next_bit-requires-clause-room
push_next_bit-requires-clause-room c =
    let start = bits_start c.args.draft.now c.loop-done.draft c.args.a c.args.b c.loop-done.done c.loop-done.sums
    c.loop-done.invariant.0 c.loop-done.invariant.1 in
    let room = c.requires.room in
    let less = c.loop-done-test.true in
    omega (arith, start, room, less)

pub loop-done-preserved : goal.loop-done-preserved
loop-done-preserved c = (
  bits_next c.args.draft.now c.loop-done.draft c.args.a c.args.b c.loop-done.done c.loop-done.sums
      c.loop-done.invariant.0 c.loop-done.invariant.1 c.push_next_bit.new.draft c.in_ok-sums-2.ensures.next,
  sums_next c.args.draft.now c.loop-done.draft c.args.a c.args.b c.loop-done.done c.loop-done.sums
      c.loop-done.invariant.0 c.loop-done.invariant.1 c.in_ok-sums-2.sums c.in_ok-sums-2.ensures.given,
)

pub push_last_bit-requires-clause-room : goal.push_last_bit-requires-clause-room
push_last_bit-requires-clause-room c =
    let start = bits_start c.args.draft.now c.loop-done.draft c.args.a c.args.b c.loop-done.done c.loop-done.sums
    c.loop-done.invariant.0 c.loop-done.invariant.1 in
    let room = c.requires.room in
    let most = c.loop-done.auto.done-end in
    omega (arith, start, room, most)

pub returns-clause-next : goal.returns-clause-next
returns-clause-next c =
    let past = c.loop-done-test.false in
    let most = c.loop-done.auto.done-end in
    let all : c.loop-done.done ≡ 62 = omega (arith, past, most) in
    let last : 63 ≡ c.loop-done.done + 1 = omega (arith, all) in
    let n : ℕ = length c.args.draft.now.gates in
    let P : ℕ → Type 0 = λ k. c.push_last_bit.new.draft ≡ with_gates c.args.draft.now (adder n k c.args.a c.args.b) in
    on_ok c.push_last_bit.result
    (λ next. subst P all
    (bits_end c.args.draft.now c.loop-done.draft c.args.a c.args.b c.loop-done.done c.loop-done.sums
    c.loop-done.invariant.0 c.loop-done.invariant.1 c.push_last_bit.new.draft 63 last next))
    c.push_last_bit.ensures.next

pub returns-clause-given : goal.returns-clause-given
returns-clause-given c =
    let past = c.loop-done-test.false in
    let most = c.loop-done.auto.done-end in
    let all : c.loop-done.done ≡ 62 = omega (arith, past, most) in
    let n : ℕ = length c.args.draft.now.gates in
    if_ok c.push_last_bit.result (λ sum. sum ≡ _) (λ sum. sum ≡ adder_wire n 62)
    (λ sum is. subst (λ k. sum ≡ adder_wire n k) all
    (sum_end c.args.draft.now c.loop-done.draft c.args.a c.args.b c.loop-done.done c.loop-done.sums
    c.loop-done.invariant.0 c.loop-done.invariant.1 sum is))
    c.push_last_bit.ensures.given
