use Rattle.std.proofs.Common.{ℕ, ◌+◌, length, refl}
use Rattle.gate_plan.specs.Adder.{pair_at}
use Rattle.gate_plan.proofs.ChainLemmas.{first_added, given_at, slice_more, xor_more, and_more}
use Rattle.gate_plan.proofs.adder.push_first_bit.Goals as goal

pub returns-clause-next : goal.returns-clause-next
returns-clause-next c =
    let n : ℕ = length c.args.draft.now.gates in
    let one = first_added c.in_ok-x.ensures.next in
    let two = slice_more (n + 2) 1 c.args.b 0 one refl c.in_ok-y.ensures.next in
    let x = c.in_ok-x.ensures.given in
    let y = given_at pair_at (n + 2) one refl c.in_ok-y.ensures.given in
    let three = xor_more (n + 4) 1 (pair_at n) (pair_at (n + 2)) two refl x y c.in_ok-sum.ensures.next in
    (and_more (n + 6) 1 (pair_at n) (pair_at (n + 2)) three refl x y c.in_ok-carry.ensures.next).is
