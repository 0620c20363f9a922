use Rattle.std.proofs.lemmas.Nat.{xor_lt}
use Rattle.share_types.proofs.bits.Bits.xor.Goals as goal

pub invariant_of-result : goal.invariant_of-result
invariant_of-result c =
    let other = rw c.requires at c.args.other.in_width in
    record {
      some_width = c.args.self.some_width;
      most_width = c.args.self.most_width;
      in_width = xor_lt c.args.self.width c.args.self.word c.args.other.word c.args.self.in_width other;
    }
