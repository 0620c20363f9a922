use Rattle.std.proofs.Common.{◌∙◌, sym}
use Rattle.message_demux.specs.Slots.{overflows}
use Rattle.message_demux.proofs.Vectors.{first_passes, first_fails, left_then}
use Rattle.message_demux.proofs.slots.has_high_bits.Goals as goal

pub returns-then-overflows : goal.returns-then-overflows
returns-then-overflows c =
    let passes = first_passes (overflows c.in-Vectors.width) c.in-Vectors.count c.loop.counter c.div_ceil-size.result c.loop.rest.now _ c.loop-test.true c.split_at.ensures.front (sym c.if-overflows.ensures) in
    rw (c.in-Vectors.is, ← c.loop.invariant.0) (sym (c.loop.invariant.2 ∙ passes))

pub loop-preserved : goal.loop-preserved
loop-preserved c = (
  c.loop.invariant.0,
  left_then c.in-Vectors.count c.loop.counter c.div_ceil-size.result _ _ c.loop-test.true c.loop.invariant.1 c.split_at.ensures.back_len,
  c.loop.invariant.2
      ∙ first_fails (overflows c.in-Vectors.width) c.in-Vectors.count c.loop.counter c.div_ceil-size.result c.loop.rest.now _ _ c.loop-test.true c.split_at.ensures.front c.split_at.ensures.back (sym c.if-overflows.ensures),
)
