use Rattle.std.proofs.Common.{ℕ, List, ◌<◌, length, refl, ap, ◌∙◌, arith}
use Rattle.mot_base.specs.Limits.{most_file_bytes}
use Rattle.dealer_files.proofs.Whole.{file-length}
use Rattle.motion_cli.proofs.deal.store_part.Goals as goal

pub unreachable-requires : goal.unreachable-requires
unreachable-requires g c =
    let file = c.in_ok-bytes.ensures in
    let length_is = ap (λ (x : List ℕ). length x) c.as_slice.ensures.value ∙ (ap (λ (x : List ℕ). length x) file.spelled ∙ file-length c.args.part.now file.part) in
    let fits = c.requires in
    let long = rw c.in-Err-TooLong.field-0-is at c.in-Err-TooLong.ensures.length in
    let over : most_file_bytes < length c.as_slice.result.now = long.0 refl in
    omega arith
