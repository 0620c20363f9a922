use Rattle.std.proofs.Common.{ℕ, ◌<◌, ◌-◌, ◌*◌, Bool, List, length, take, drop, string_bytes, arith}
use Rattle.motion_cli.proofs.ReportLemmas.{digits_next, rest_of}
use Rattle.motion_cli.proofs.report.push_digits.Goals as goal

pub loop-at-preserved : goal.loop-at-preserved
loop-at-preserved c =
    let bits : List Bool = c.args.bits.now in
    let within : c.loop-at.at < c.div_ceil-count.result = omega arith in
    let from : ℕ = 4 * (c.div_ceil-count.result - 1 - c.loop-at.at) in
    digits_next c.div_ceil-count.result c.loop-at.at bits (take (length bits - from) (drop from bits)) (string_bytes c.args.text.now)
    (string_bytes c.loop-at.text) (string_bytes c.push_digit.new.text) within c.loop-at.invariant (rest_of from bits) c.in_ok-push_digit.ensures
