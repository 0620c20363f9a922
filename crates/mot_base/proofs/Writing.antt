-- How far a writing of bytes has come.
use Rattle.std.proofs.Common.{◌≡◌, ℕ, ◌+◌, ◌-◌, ◌≤◌, List, ◌++◌, length, take, drop, refl, append_assoc, length-drop, Option, Some, None, arith}
use Rattle.std.proofs.Math.Seq.{take-add}
use Rattle.mot_base.proofs.Lists.{range_to_end}
use Rattle.mot_base.specs.Sink.{with_more}

-- the first bytes were appended to what was there before
pub record HasWritten (before now : Option (List ℕ)) (bytes : List ℕ) (written : ℕ) : Type 0 where
  pub appended : now ≡ with_more before (take written bytes)
  pub within : written ≤ length bytes

-- more, and then still more
with_more-twice : (told : Option (List ℕ)) (xs ys : List ℕ) → with_more (with_more told xs) ys ≡ with_more told (xs ++ ys)
with_more-twice (Some done) xs ys = rw (append_assoc done xs ys) refl
with_more-twice None xs ys = refl

-- some first bytes of the rest were appended
pub written_more : (before now next : Option (List ℕ)) (xs : List ℕ) (w n : ℕ) → HasWritten before now xs w → n ≤ length (take (length xs - w) (drop w xs)) → next ≡ with_more now (take n (take (length xs - w) (drop w xs))) → HasWritten before next xs (w + n)
written_more before now next xs w n first fits more =
    let rest = range_to_end w xs in
    let short : n ≤ length (drop w xs) = rw rest at fits in
    record {
      appended = rw (more, rest, first.appended, with_more-twice before (take w xs) (take n (drop w xs)), take-add w n xs) refl;
      within = omega (arith, length-drop w xs, first.within, short);
    }
