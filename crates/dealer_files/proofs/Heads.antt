-- The fields before the records: what their checks show, and the bytes that spell them.
use Rattle.std.proofs.Common.{◌≡◌, ℕ, ◌+◌, ◌%◌, ◌^◌, ◌<◌, ◌≤◌, Bool, true, false, ◌&&◌, List, [], ◌∷◌, ◌++◌, length, take, drop, get_or, refl, sym, ap, ap₂, ◌∙◌, arith, Option, Some, None}
use Rattle.std.specs.Prelude.{◌==◌, nat_lt, nat_le, if◌then◌else◌}
use Rattle.std.proofs.lemmas.Bool.Decides.{nat_tests}
use Rattle.std.proofs.lemmas.Slice.Eq.{bytes_eq-Decides}
use Rattle.std.proofs.lemmas.List.{length-drop, get_or-drop}
use Rattle.byteorder.specs.Endian.{big_number}
use Rattle.share_types.specs.declared.needs.Needs.{Needs}
use Rattle.dealer_files.specs.declared.fault.DealerError.{DealerError}
use Rattle.dealer_files.specs.File.{magic, version, count_bytes, word_bytes, number_bytes, counts_bytes}
use Rattle.dealer_files.specs.Checks.{first_of, head_fault, magic_fault, version_fault, party_fault, offset_fault, counts_fault, stated_counts}
use Rattle.dealer_files.specs.Reading.{Passed, IsHeadOf}
use Rattle.dealer_files.proofs.Spelled.{IsBytes, count_back}
use Rattle.dealer_files.proofs.Pieces.{piece, one-byte}
use Rattle.mot_base.proofs.Lists.{both_true as both-true}

none-first : (x : Option DealerError) (xs : List (Option DealerError)) → first_of (x ∷ xs) ≡ None →
    (x ≡ None) × (first_of xs ≡ None)
none-first (Some fault) xs e = absurd cc
none-first None xs e = (refl, e)

none-checked : (short passes : Bool) (late cause : DealerError) →
    (if short then Some late else if passes then None else Some cause) ≡ None → (short ≡ false) × (passes ≡ true)
none-checked true passes late cause e = absurd cc
none-checked false true late cause e = (refl, refl)
none-checked false false late cause e = absurd cc

not-short : (n ends : ℕ) → nat_lt n ends ≡ false → ends ≤ n
not-short n ends e = grind (arith, nat_tests)

is-le : (a b : ℕ) → nat_le a b ≡ true → a ≤ b
is-le a b e = grind (arith, nat_tests)

is-lt : (a b : ℕ) → nat_lt a b ≡ true → a < b
is-lt a b e = grind (arith, nat_tests)

is-same : (a b : ℕ) → (a == b) ≡ true → a ≡ b
is-same a b e = grind (arith, nat_tests)

pub passed : (bytes : List ℕ) → head_fault bytes ≡ None → Passed bytes
unfolding magic_fault version_fault party_fault offset_fault counts_fault
passed bytes e =
    let a = none-first (magic_fault bytes) _ e in
    let b = none-first (version_fault bytes) _ a.1 in
    let d = none-first (party_fault bytes) _ b.1 in
    let f = none-first (offset_fault bytes) _ d.1 in
    let g = none-first (counts_fault bytes) [] f.1 in
    let letters = none-checked _ _ _ _ a.0 in
    let number = none-checked _ _ _ _ b.0 in
    let party = none-checked _ _ _ _ d.0 in
    let offset = none-checked _ _ _ _ f.0 in
    let counts = none-checked _ _ _ _ g.0 in
    let parties = both-true _ _ party.1 in
    let fewest = both-true _ _ parties.0 in
    record {
      long = not-short _ _ counts.0;
      letters = (bytes_eq-Decides (take 4 bytes) magic).0 letters.1;
      version = is-same _ _ number.1;
      some_parties = is-le _ _ fewest.0;
      most_parties = is-le _ _ fewest.1;
      party = is-lt _ _ parties.1;
      odd = is-same _ _ offset.1;
      within = is-le _ _ counts.1;
    }

pub drop-small : (n : ℕ) (bytes : List ℕ) → IsBytes bytes → IsBytes (drop n bytes)
drop-small n bytes h i = rw get_or-drop (h (n + i))

count-at : (k : ℕ) (bytes : List ℕ) → IsBytes bytes → k + 4 ≤ length bytes →
    count_bytes (big_number 4 (drop k bytes)) ≡ take 4 (drop k bytes)
count-at k bytes small long =
    count_back (big_number 4 (drop k bytes)) (drop k bytes) (drop-small k bytes small) (omega (arith, length-drop k bytes)) refl

counts-spelled : (bytes : List ℕ) → IsBytes bytes → 47 ≤ length bytes →
    take 16 (drop 31 bytes) ≡ counts_bytes (stated_counts bytes)
unfolding stated_counts
counts-spelled bytes small long =
    let first = piece 4 12 31 bytes in
    let second = piece 4 8 35 bytes in
    let third = piece 4 4 39 bytes in
    let a = count-at 31 bytes small (omega arith) in
    let b = count-at 35 bytes small (omega arith) in
    let d = count-at 39 bytes small (omega arith) in
    let e = count-at 43 bytes small (omega arith) in
    first
    ∙ ap₂ (λ (xs ys : List ℕ). xs ++ ys) (sym a)
    (second ∙ ap₂ (λ (xs ys : List ℕ). xs ++ ys) (sym b) (third ∙ ap₂ (λ (xs ys : List ℕ). xs ++ ys) (sym d) (sym e)))

pub head-is : (bytes : List ℕ) (id offset : ℕ) (counts : Needs) → IsBytes bytes → Passed bytes →
    word_bytes id ≡ take 8 (drop 7 bytes) → number_bytes offset ≡ take 16 (drop 15 bytes) →
    offset ≡ big_number 16 (drop 15 bytes) → counts ≡ stated_counts bytes → id < 2 ^ 64 → offset < 2 ^ 128 →
    IsHeadOf bytes (get_or bytes 5 0) (get_or bytes 6 0) id offset counts
head-is bytes id offset counts small p word number offset-is counts-is id-fits offset-fits =
    let long = p.long in
    let front = piece 4 43 0 bytes in
    let fifth = one-byte 42 4 bytes (omega arith) in
    let sixth = one-byte 41 5 bytes (omega arith) in
    let seventh = one-byte 40 6 bytes (omega arith) in
    let words = piece 8 32 7 bytes in
    let numbers = piece 16 16 15 bytes in
    let all = counts-spelled bytes small long in
    let named = ap counts_bytes (sym counts-is) in
    let tail : take 32 (drop 15 bytes) ≡ number_bytes offset ++ counts_bytes counts =
    numbers ∙ ap₂ (λ (xs ys : List ℕ). xs ++ ys) (sym number) (all ∙ named) in
    let rest : take 40 (drop 7 bytes) ≡ word_bytes id ++ (number_bytes offset ++ counts_bytes counts) =
    words ∙ ap₂ (λ (xs ys : List ℕ). xs ++ ys) (sym word) tail in
    let three : take 43 (drop 4 bytes) ≡ version ∷ get_or bytes 5 0 ∷ get_or bytes 6 0 ∷ take 40 (drop 7 bytes) =
    fifth ∙ ap₂ (λ (x : ℕ) (xs : List ℕ). x ∷ xs) p.version
    (sixth ∙ ap (λ xs. get_or bytes 5 0 ∷ xs) seventh) in
    record {
      long = long;
      spelled =
          front ∙ ap₂ (λ (xs ys : List ℕ). xs ++ ys) p.letters
          (three ∙ ap (λ xs. version ∷ get_or bytes 5 0 ∷ get_or bytes 6 0 ∷ xs) rest);
      same_parties = refl;
      same_counts = counts-is;
      some_parties = p.some_parties;
      most_parties = p.most_parties;
      inside = p.party;
      odd = ap (λ n. n % 2) offset-is ∙ p.odd;
      word = id-fits;
      key = offset-fits;
      within = rw counts-is p.within;
    }
