use Rattle.std.proofs.Common.{ap, ◌∙◌, ◌^◌, leb}
use Rattle.byteorder.specs.Endian.{big_number}
use Rattle.message_demux.proofs.Vectors.{above, power}
use Rattle.message_demux.proofs.slots.overflows.Goals as goal

pub returns-then-width-lt-MAX_WIDTH : goal.returns-then-width-lt-MAX_WIDTH
returns-then-width-lt-MAX_WIDTH c =
    above c.read_uint-number.result _ (power c.args.width)
    ∙ ap (leb (2 ^ c.args.width)) (c.read_uint-number.ensures ∙ ap (λ n. big_number n c.args.vector.now) c.requires.length)
