use Rattle.std.proofs.Common.{List, Bool, [], ◌∷◌, ◌++◌, ◌/◌, ◌^◌, ◌%◌, ◌∙◌, ap, sym, append_assoc}
use Rattle.std.specs.Prelude.{◌==◌}
use Rattle.share_types.specs.Bits.{bits}
use Rattle.circuit_tables.proofs.BitLists.{bits_more}
use Rattle.circuit_tables.proofs.bits.push_bits.Goals as goal

pub loop-i-preserved : goal.loop-i-preserved
loop-i-preserved c =
    let bit : Bool = c.args.word / 2 ^ c.loop-i.i % 2 == 1 in
    c.in_ok-push.ensures.items
    ∙ ap (λ (xs : List Bool). xs ++ bit ∷ []) c.loop-i.invariant
    ∙ append_assoc c.args.out.now.items (bits c.loop-i.i c.args.word) (bit ∷ [])
    ∙ ap (λ (ys : List Bool). c.args.out.now.items ++ ys) (sym (bits_more c.loop-i.i c.args.word))
