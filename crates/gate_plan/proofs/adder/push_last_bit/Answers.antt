use Rattle.std.proofs.Common.{ℕ, ◌+◌, length, refl}
use Rattle.mot_base.proofs.Lists.{on_ok}
use Rattle.gate_plan.specs.Adder.{pair_at}
use Rattle.gate_plan.proofs.ChainLemmas.{first_added, given_at, slice_more, xor_more, join_more}
use Rattle.gate_plan.proofs.adder.push_last_bit.Goals as goal

pub returns-clause-next : goal.returns-clause-next
returns-clause-next c =
    let n : ℕ = length c.args.draft.now.gates in
    let one = first_added c.in_ok-x.ensures.next in
    let two = slice_more (n + 2) 1 c.args.b c.args.bit one refl c.in_ok-y.ensures.next in
    let x = c.in_ok-x.ensures.given in
    let y = given_at pair_at (n + 2) one refl c.in_ok-y.ensures.given in
    let before = c.args.before.carry in
    let three = xor_more (n + 4) 1 (pair_at n) before two refl x refl c.in_ok-p.ensures.next in
    let p = given_at pair_at (n + 4) two refl c.in_ok-p.ensures.given in
    let four = xor_more (n + 6) 1 (pair_at (n + 4)) (pair_at (n + 2)) three refl p y c.in_ok-own.ensures.next in
    let own = given_at pair_at (n + 6) three refl c.in_ok-own.ensures.given in
    on_ok c.push_joined.result
    (λ next. (join_more (n + 8) (c.args.bit + 1) c.args.before.sum (pair_at (n + 6)) four refl refl own next).is)
    c.push_joined.ensures.next
