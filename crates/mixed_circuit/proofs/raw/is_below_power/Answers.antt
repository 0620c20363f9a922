use Rattle.mixed_circuit.proofs.NumberLemmas.{below_high, below_shifted}
use Rattle.mixed_circuit.proofs.raw.is_below_power.Goals as goal

pub returns-then-exponent-ge-MAX_WIDTH : goal.returns-then-exponent-ge-MAX_WIDTH
returns-then-exponent-ge-MAX_WIDTH c = below_high c.args.number c.args.exponent c.ranges.number.fits c.if-exponent-ge-MAX_WIDTH.true

pub returns-else-exponent-ge-MAX_WIDTH : goal.returns-else-exponent-ge-MAX_WIDTH
returns-else-exponent-ge-MAX_WIDTH c = below_shifted c.args.number c.args.exponent
