use Rattle.std.proofs.Common.{ℕ, ◌+◌, length, refl}
use Rattle.gate_plan.specs.Adder.{pair_at, result_at}
use Rattle.gate_plan.proofs.ChainLemmas.{first_added, given_at, slice_more, xor_more, and_more, join_more}
use Rattle.gate_plan.proofs.adder.push_next_bit.Goals as goal

pub returns-clause-next : goal.returns-clause-next
returns-clause-next c =
    let n : ℕ = length c.args.draft.now.gates in
    let one = first_added c.in_ok-x.ensures.next in
    let two = slice_more (n + 2) 1 c.args.b c.args.bit one refl c.in_ok-y.ensures.next in
    let x = c.in_ok-x.ensures.given in
    let y = given_at pair_at (n + 2) one refl c.in_ok-y.ensures.given in
    let before = c.args.before.carry in
    let three = xor_more (n + 4) 1 (pair_at n) before two refl x refl c.in_ok-p.ensures.next in
    let p = given_at pair_at (n + 4) two refl c.in_ok-p.ensures.given in
    let four = xor_more (n + 6) 1 (pair_at (n + 2)) before three refl y refl c.in_ok-q.ensures.next in
    let q = given_at pair_at (n + 6) three refl c.in_ok-q.ensures.given in
    let five = xor_more (n + 8) 1 (pair_at (n + 4)) (pair_at (n + 2)) four refl p y c.in_ok-own.ensures.next in
    let own = given_at pair_at (n + 8) four refl c.in_ok-own.ensures.given in
    let six = and_more (n + 10) 1 (pair_at (n + 4)) (pair_at (n + 6)) five refl p q c.in_ok-both.ensures.next in
    let both = given_at result_at (n + 10) five refl c.in_ok-both.ensures.given in
    let seven = xor_more (n + 13) 1 before (result_at (n + 10)) six refl refl both c.in_ok-carry.ensures.next in
    (join_more (n + 15) (c.args.bit + 1) c.args.before.sum (pair_at (n + 8)) seven refl refl own
    c.in_ok-sum.ensures.next).is
