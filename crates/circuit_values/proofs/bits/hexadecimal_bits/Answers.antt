use Rattle.std.proofs.Common.{◌<◌, ◌+◌, length, List, Bool, arith, sym, subst}
use Rattle.std.specs.Str.Parse.{digits_value}
use Rattle.circuit_tables.proofs.BitLists.{HasDigits, digit_more}
use Rattle.circuit_values.proofs.bits.hexadecimal_bits.Goals as goal

pub loop-i-preserved : goal.loop-i-preserved
loop-i-preserved c =
    let within : c.loop-i.i < length c.args.digits.now = omega arith in
    let more = digit_more c.loop-i.out.items c.args.digits.now c.loop-i.i c.hexadecimal_digit-digit.result (digits_value 16 c.args.digits.now) within c.hexadecimal_digit-digit.ensures.below c.hexadecimal_digit-digit.ensures.value c.loop-i.invariant in
    subst (λ (xs : List Bool). HasDigits xs c.args.digits.now (c.loop-i.i + 1) (digits_value 16 c.args.digits.now)) (sym c.in_ok-push_bits.ensures) more
