-- Bytes that pass all checks are the file of a part.
use Rattle.std.proofs.Common.{◌≡◌, ℕ, zero, suc, ◌+◌, ◌-◌, ◌*◌, ◌^◌, ◌<◌, ◌≤◌, List, [], ◌∷◌, ◌++◌, length, take, drop, get_or, All, refl, sym, ap, ap₂, subst, ◌∙◌, arith, inl, inr}
use Rattle.std.specs.Prelude.{◌==◌}
use Rattle.std.specs.List.{flat_map}
use Rattle.std.proofs.lemmas.List.{take_all, take-append-drop, nil_from_length, length-take, length-drop, get_or-take, get_or-drop}
use Rattle.std.proofs.lemmas.List.Elements.{All-nil, All-cons}
use Rattle.std.proofs.Math.Seq.{drop-cons}
use Rattle.byteorder.specs.Endian.{big_number}
use Rattle.byteorder.specs.Numbers.{big_from-lt}
use Rattle.share_types.specs.declared.needs.Needs.{Needs}
use Rattle.dealer_files.specs.Part.{Part}
use Rattle.dealer_files.specs.File.{word_bytes, number_bytes, key_bytes, mult_bytes, shared_bytes, key_bit_bytes, bits_start, shared_start, keys_start, key_bit_size, IsFile}
use Rattle.dealer_files.specs.Checks.{IsWrongByte, stated_counts, stated_parties, stated_length}
use Rattle.dealer_files.specs.Laws.{MultFits, SharedFits, IsOfNumbers}
use Rattle.dealer_files.specs.Reading.{Passed, AreFlags}
use Rattle.dealer_files.proofs.Files.{file-is}
use Rattle.dealer_files.proofs.Heads.{head-is, drop-small}
use Rattle.dealer_files.proofs.Parted.{KeysFit}
use Rattle.dealer_files.proofs.Pieces.{drop-twice, piece, one-byte, flags-of}
use Rattle.dealer_files.proofs.Spelled.{IsBytes, bytes-take, word_back, number_back}
use Rattle.dealer_files.proofs.Vectors.{once-bit}

-- a record whose bytes these are, and so many of which these are all bytes
record Spelled {X : Type 0} (f : X → List ℕ) (P : X → Type 0) (bytes : List ℕ) : Type 0 where
  pub one : X
  pub spelled : f one ≡ bytes
  pub fits : P one

pub record AllSpelled {X : Type 0} (f : X → List ℕ) (P : X → Type 0) (count : ℕ) (bytes : List ℕ) : Type 0 where
  pub list : List X
  pub spelled : flat_map f list ≡ bytes
  pub count_is : length list ≡ count
  pub fits : All P list

-- one record more in front
in_front : {X : Type 0} (f : X → List ℕ) (one : X) (list : List X) (front rest : List ℕ) → f one ≡ front →
    flat_map f list ≡ rest → flat_map f (one ∷ list) ≡ front ++ rest
in_front f one list front rest e g = ap₂ (λ (xs ys : List ℕ). xs ++ ys) e g

-- pieces of one size that each spell a record
pieces : {X : Type 0} (f : X → List ℕ) (P : X → Type 0) (Q : List ℕ → Type 0) (size : ℕ) →
    ((bytes : List ℕ) → length bytes ≡ size → Q bytes → Spelled f P bytes) →
    (count : ℕ) (bytes : List ℕ) → length bytes ≡ size * count →
    ((at : ℕ) → at < count → Q (take size (drop (size * at) bytes))) → AllSpelled f P count bytes
pieces f P Q size spell zero bytes long each = record {
  list = [];
  spelled = sym (nil_from_length bytes (omega arith));
  count_is = refl;
  fits = All-nil P;
}
pieces f P Q size spell (suc count) bytes long each =
    let taken = length-take size bytes in
    let dropped = length-drop size bytes in
    let more : size * suc count ≡ size + size * count = omega arith in
    let none : size * 0 ≡ 0 = omega arith in
    let first = spell (take size bytes) (omega arith)
    (subst (λ k. Q (take size (drop k bytes))) none (each 0 (omega arith))) in
    let rest = pieces f P Q size spell count (drop size bytes) (omega arith)
    (λ at h.
    let further : size * suc at ≡ size + size * at = omega arith in
    subst (λ ys. Q (take size ys)) (ap (λ k. drop k bytes) further ∙ sym (drop-twice (size * at) size bytes))
    (each (suc at) (omega arith))) in
    record {
      list = first.one ∷ rest.list;
      spelled =
          in_front f first.one rest.list (take size bytes) (drop size bytes) first.spelled rest.spelled
          ∙ take-append-drop size bytes;
      count_is = let count_is = rest.count_is in omega arith;
      fits = All-cons P first.one rest.list first.fits rest.fits;
    }

-- numbers in the first bytes
word-spelled : (bytes : List ℕ) → IsBytes bytes → 8 ≤ length bytes → word_bytes (big_number 8 bytes) ≡ take 8 bytes
word-spelled bytes small long = word_back (big_number 8 bytes) bytes small long refl

word-fits : (bytes : List ℕ) → IsBytes bytes → big_number 8 bytes < 2 ^ 64
word-fits bytes small = let below = big_from-lt 0 8 bytes small in omega arith

number-spelled : (bytes : List ℕ) → IsBytes bytes → 16 ≤ length bytes → number_bytes (big_number 16 bytes) ≡ take 16 bytes
number-spelled bytes small long = number_back (big_number 16 bytes) bytes small long refl

number-fits : (bytes : List ℕ) → IsBytes bytes → big_number 16 bytes < 2 ^ 128
number-fits bytes small = let below = big_from-lt 0 16 bytes small in omega arith

mult-spelled : (bytes : List ℕ) → length bytes ≡ 24 → IsBytes bytes → Spelled mult_bytes MultFits bytes
mult-spelled bytes long small =
    let second = drop-small 8 bytes small in
    let third = drop-small 16 bytes small in
    let behind = length-drop 8 bytes in
    let last = length-drop 16 bytes in
    record {
      one = record { a = big_number 8 bytes; b = big_number 8 (drop 8 bytes); c = big_number 8 (drop 16 bytes) };
      spelled =
          ap₂ (λ (xs ys : List ℕ). xs ++ ys) (word-spelled bytes small (omega arith))
          (ap₂ (λ (xs ys : List ℕ). xs ++ ys) (word-spelled (drop 8 bytes) second (omega arith))
          (word-spelled (drop 16 bytes) third (omega arith)))
          ∙ (ap (λ ys. take 8 bytes ++ ys) (sym (piece 8 8 8 bytes))
          ∙ (sym (piece 8 16 0 bytes) ∙ take_all 24 bytes (omega arith)));
      fits = (word-fits bytes small, word-fits (drop 8 bytes) second, word-fits (drop 16 bytes) third);
    }

-- bytes of which the first is a flag
abbrev IsFlagged : List ℕ → Type 0
IsFlagged bytes = IsBytes bytes × (get_or bytes 0 0 ≤ 1)

shared-spelled : (bytes : List ℕ) → length bytes ≡ 9 → IsFlagged bytes → Spelled shared_bytes SharedFits bytes
shared-spelled bytes long (small, flag) =
    let rest = drop-small 1 bytes small in
    let behind = length-drop 1 bytes in
    record {
      one = record { bit = get_or bytes 0 0 == 1; word = big_number 8 (drop 1 bytes) };
      spelled =
          ap₂ (λ (x : ℕ) (xs : List ℕ). x ∷ xs) (once-bit (get_or bytes 0 0) (omega arith))
          (word-spelled (drop 1 bytes) rest (omega arith))
          ∙ (sym (one-byte 8 0 bytes (omega arith)) ∙ take_all 9 bytes (omega arith));
      fits = word-fits (drop 1 bytes) rest;
    }

key-spelled : (bytes : List ℕ) → length bytes ≡ 16 → IsBytes bytes → Spelled key_bytes (λ key. key.0 < 2 ^ 128) bytes
key-spelled bytes long small = record {
  one = record { 0 = big_number 16 bytes };
  spelled = number-spelled bytes small (omega arith) ∙ take_all 16 bytes (omega arith);
  fits = number-fits bytes small;
}

key_bit-spelled : (parties : ℕ) (bytes : List ℕ) → length bytes ≡ key_bit_size parties → IsFlagged bytes →
    Spelled key_bit_bytes (KeysFit parties) bytes
key_bit-spelled parties bytes long (small, flag) =
    let behind = length-drop 1 bytes in
    let keys = pieces key_bytes (λ key. key.0 < 2 ^ 128) IsBytes 16 key-spelled parties (drop 1 bytes) (omega arith)
    (λ at h. bytes-take 16 (drop (16 * at) (drop 1 bytes)) (drop-small (16 * at) (drop 1 bytes) (drop-small 1 bytes small))) in
    record {
      one = record { bit = get_or bytes 0 0 == 1; times = keys.list };
      spelled =
          ap₂ (λ (x : ℕ) (xs : List ℕ). x ∷ xs) (once-bit (get_or bytes 0 0) (omega arith)) keys.spelled
          ∙ sym (drop-cons bytes 0 0 (omega arith));
      fits = (keys.count_is, keys.fits);
    }

-- a piece that begins with a flag
flagged : (size count at : ℕ) (bytes : List ℕ) → 1 ≤ size → IsBytes bytes → AreFlags bytes size count → at < count →
    IsFlagged (take size (drop (size * at) bytes))
flagged size count at bytes some small flags h =
    let here : size * at + 0 ≡ size * at = omega arith in
    let same : get_or (take size (drop (size * at) bytes)) 0 0 ≡ get_or bytes (size * at) 0 =
    get_or-take size (drop (size * at) bytes) 0 0 some
    ∙ (get_or-drop (size * at) bytes 0 0 ∙ ap (λ k. get_or bytes k 0) here) in
    let flag = flags at h in (
      bytes-take size (drop (size * at) bytes) (drop-small (size * at) bytes small),
      omega arith,
    )

-- the records of each kind
module _ (bytes : List ℕ) (small : IsBytes bytes) (long : length bytes ≡ stated_length bytes) (right : (place : ℕ) → IsWrongByte bytes place → ⊥) where
  abbrev parties : ℕ
  parties = stated_parties bytes

  abbrev n : Needs
  n = stated_counts bytes

  part_of_bytes : (from to : ℕ) → IsBytes (take to (drop from bytes))
  part_of_bytes from to = bytes-take to (drop from bytes) (drop-small from bytes small)

  mults : AllSpelled mult_bytes MultFits n.mult (take (bits_start n - 47) (drop 47 bytes))
  mults =
      let taken = length-take (bits_start n - 47) (drop 47 bytes) in
      let dropped = length-drop 47 bytes in
      let all = part_of_bytes 47 (bits_start n - 47) in
      pieces mult_bytes MultFits IsBytes 24 mult-spelled n.mult (take (bits_start n - 47) (drop 47 bytes)) (omega arith)
      (λ at h. bytes-take 24 (drop (24 * at) (take (bits_start n - 47) (drop 47 bytes)))
      (drop-small (24 * at) (take (bits_start n - 47) (drop 47 bytes)) all))

  shareds : AllSpelled shared_bytes SharedFits n.shared (take (keys_start n - shared_start n) (drop (shared_start n) bytes))
  shareds =
      let all = take (keys_start n - shared_start n) (drop (shared_start n) bytes) in
      let taken = length-take (keys_start n - shared_start n) (drop (shared_start n) bytes) in
      let dropped = length-drop (shared_start n) bytes in
      let flags = flags-of bytes (shared_start n) 9 n.shared (keys_start n - shared_start n) (omega arith) (omega arith)
      (λ place w. right place (inr (inl w))) in
      pieces shared_bytes SharedFits IsFlagged 9 shared-spelled n.shared all (omega arith)
      (λ at h. flagged 9 n.shared at all (omega arith) (part_of_bytes (shared_start n) (keys_start n - shared_start n)) flags h)

  key_bits : AllSpelled key_bit_bytes (KeysFit parties) n.key (take (length bytes - keys_start n) (drop (keys_start n) bytes))
  key_bits =
      let all = take (length bytes - keys_start n) (drop (keys_start n) bytes) in
      let taken = length-take (length bytes - keys_start n) (drop (keys_start n) bytes) in
      let dropped = length-drop (keys_start n) bytes in
      let flags = flags-of bytes (keys_start n) (key_bit_size parties) n.key (length bytes - keys_start n) (omega arith) (omega arith)
      (λ place w. right place (inr (inr w))) in
      pieces key_bit_bytes (KeysFit parties) IsFlagged (key_bit_size parties) (key_bit-spelled parties) n.key all (omega arith)
      (λ at h. flagged (key_bit_size parties) n.key at all (omega arith)
      (part_of_bytes (keys_start n) (length bytes - keys_start n)) flags h)

  abbrev part : Part
  part = record {
    parties = parties;
    party = get_or bytes 6 0;
    id = big_number 8 (drop 7 bytes);
    offset = big_number 16 (drop 15 bytes);
    mult = mults.list;
    bits = take (shared_start n - bits_start n) (drop (bits_start n) bytes);
    shared = shareds.list;
    keys = key_bits.list;
  }

  pub is-read : Passed bytes → (p : Part) × IsOfNumbers p × IsFile bytes p
  is-read passed =
      let whole = passed.long in
      let seventh = length-drop 7 bytes in
      let fifteenth = length-drop 15 bytes in
      let id = drop-small 7 bytes small in
      let offset = drop-small 15 bytes small in
      let head = head-is bytes (big_number 8 (drop 7 bytes)) (big_number 16 (drop 15 bytes)) n small passed
      (word-spelled (drop 7 bytes) id (omega arith)) (number-spelled (drop 15 bytes) offset (omega arith)) refl refl
      (word-fits (drop 7 bytes) id) (number-fits (drop 15 bytes) offset) in (
        part,
        record {
          id = word-fits (drop 7 bytes) id;
          offset = number-fits (drop 15 bytes) offset;
          mult = mults.fits;
          shared = shareds.fits;
          keys = λ i d h. (key_bits.fits i d h).1;
        },
        file-is bytes n part long head right (record {
          mult = mults.spelled;
          bits = refl;
          shared = shareds.spelled;
          keys = key_bits.spelled;
          mult_count = mults.count_is;
          shared_count = shareds.count_is;
          key_count = key_bits.count_is;
          owners = λ i d h. (key_bits.fits i d h).0;
        }),
      )
