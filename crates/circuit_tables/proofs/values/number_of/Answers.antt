use Rattle.std.proofs.Common.{◌≡◌, ◌+◌, take, arith}
use Rattle.share_types.specs.Bits.{number}
use Rattle.circuit_tables.proofs.BitLists.{next_bit, all_bits}
use Rattle.circuit_tables.proofs.values.number_of.Goals as goal

pub overflow_add-word : goal.overflow_add-word
overflow_add-word c =
    let bit = next_bit c.args.bits.now c.loop-i.i c.loop-i-test.true c.requires in
    let before : c.loop-i.word ≡ number (take c.loop-i.i c.args.bits.now) = c.loop-i.invariant in
    let value = c.bit_value-word.ensures in
    omega arith

pub loop-i-preserved : goal.loop-i-preserved
loop-i-preserved c =
    let bit = next_bit c.args.bits.now c.loop-i.i c.loop-i-test.true c.requires in
    let before : c.loop-i.word ≡ number (take c.loop-i.i c.args.bits.now) = c.loop-i.invariant in
    let value = c.bit_value-word.ensures in
    let sum : c.loop-i.word + c.bit_value-word.result ≡ number (take (c.loop-i.i + 1) c.args.bits.now) = omega arith in
    sum

pub returns-clause-below : goal.returns-clause-below
returns-clause-below c = all_bits c.args.bits.now c.loop-i.i c.loop-i.word c.loop-i-test.false c.loop-i.invariant
