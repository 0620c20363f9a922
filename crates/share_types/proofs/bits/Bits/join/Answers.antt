use Rattle.std.proofs.Common.{arith}
use Rattle.share_types.proofs.BitsLemmas.{joined, joined-below}
use Rattle.share_types.proofs.bits.Bits.join.Goals as goal

pub invariant_of-result : goal.invariant_of-result
invariant_of-result c =
    let low = c.args.self in
    let high = c.args.high in
    record {
      some_width = let some = low.some_width in omega arith;
      most_width = c.requires;
      in_width = rw (joined low.width high.width low.word high.word low.in_width high.in_width c.requires)
          (joined-below low.width high.width low.word high.word low.in_width high.in_width);
    }

pub returns-clause-word : goal.returns-clause-word
returns-clause-word c =
    let low = c.args.self in
    let high = c.args.high in
    joined low.width high.width low.word high.word low.in_width high.in_width c.requires
