-- The file of a part shows no fault.
use Rattle.std.proofs.Common.{◌≡◌, ℕ, zero, suc, ◌+◌, ◌*◌, ◌%◌, ◌^◌, ◌<◌, ◌≤◌, Bool, true, false, ◌&&◌, List, [], ◌∷◌, ◌++◌, length, drop, get_or, All, Option, Some, None, refl, sym, ap, ap₂, subst, ◌∙◌, append_assoc, arith, inl, inr}
use Rattle.std.specs.Prelude.{◌==◌, nat_lt, nat_le}
use Rattle.std.specs.List.{flat_map}
use Rattle.std.proofs.lemmas.Bool.Decides.{nat_tests}
use Rattle.std.proofs.lemmas.List.{length-append, append-nil, get_or-drop, get_or_append_left, get_or-append-add}
use Rattle.std.proofs.lemmas.List.Elements.{All-tail}
use Rattle.std.proofs.Math.Seq.{drop-append_seam}
use Rattle.byteorder.specs.Endian.{big_number}
use Rattle.byteorder.specs.Numbers.{big_number-reads_back, big_from-bytes}
use Rattle.mot_base.specs.Limits.{most_file_bytes}
use Rattle.share_types.specs.Bits.{once}
use Rattle.share_types.specs.declared.needs.Needs.{Needs}
use Rattle.share_types.specs.declared.keys.Key.{Key}
use Rattle.share_types.specs.declared.records.MultTriple.{MultTriple}
use Rattle.share_types.specs.declared.records.SharedBit.{SharedBit}
use Rattle.share_types.specs.declared.records.KeyBit.{KeyBit}
use Rattle.dealer_files.specs.declared.fault.DealerError.{DealerError}
use Rattle.dealer_files.specs.Part.{Part, IsPart, counts_of}
use Rattle.dealer_files.specs.File.{count_bytes, word_bytes, number_bytes, key_bytes, mult_bytes, shared_bytes, key_bit_bytes, record_bytes, file_of, file_length, bits_start, shared_start, keys_start, key_bit_size}
use Rattle.dealer_files.specs.declared.fault.DealerError.TheVariants.{Magic, Version, Party, OffsetEven, Counts, RecordBits, Short, Long, NoMemory}
use Rattle.dealer_files.specs.Laws.{FileHasNoFault}
use Rattle.dealer_files.specs.Checks.{IsWrongRecord, IsWrongByte, IsRecordsFault, IsFirstFault, checked, head_fault, magic_fault, version_fault, party_fault, offset_fault, counts_fault, stated_counts, stated_length}
use Rattle.dealer_files.proofs.Pieces.{drop-twice}

pub length-records : {X : Type 0} (f : X → List ℕ) (size : ℕ) (xs : List X) → All (λ x. length (f x) ≡ size) xs →
    length (flat_map f xs) ≡ size * length xs
length-records f size [] all = omega arith
length-records f size (x ∷ xs) all =
    let first = all 0 x (omega arith) in
    let rest = length-records f size xs (All-tail (λ y. length (f y) ≡ size) x xs all) in
    length-append (f x) (flat_map f xs) ∙ omega arith

-- the first byte of a record
pub first-bytes : {X : Type 0} (f : X → List ℕ) (size most : ℕ) (xs : List X) (rest : List ℕ) (at : ℕ) → 1 ≤ size →
    All (λ x. length (f x) ≡ size) xs → ((x : X) → get_or (f x) 0 0 ≤ most) → at < length xs →
    get_or (flat_map f xs ++ rest) (size * at) 0 ≤ most
first-bytes f size most [] rest at some all small h = absurd (omega arith)
first-bytes f size most (x ∷ xs) rest zero some all small h =
    let first = all 0 x (omega arith) in
    let none : size * 0 ≡ 0 = omega arith in
    let same : get_or (flat_map f (x ∷ xs) ++ rest) (size * 0) 0 ≡ get_or (f x) 0 0 =
    ap (λ i. get_or (flat_map f (x ∷ xs) ++ rest) i 0) none
    ∙ (ap (λ ys. get_or ys 0 0) (append_assoc (f x) (flat_map f xs) rest)
    ∙ get_or_append_left (f x) (flat_map f xs ++ rest) 0 0 (omega arith)) in
    let low = small x in
    omega arith
first-bytes f size most (x ∷ xs) rest (suc at) some all small h =
    let first = all 0 x (omega arith) in
    let further : size * suc at ≡ length (f x) + size * at = omega arith in
    let same : get_or (flat_map f (x ∷ xs) ++ rest) (size * suc at) 0 ≡ get_or (flat_map f xs ++ rest) (size * at) 0 =
    ap₂ (λ (ys : List ℕ) (i : ℕ). get_or ys i 0) (append_assoc (f x) (flat_map f xs) rest) further
    ∙ get_or-append-add (f x) (flat_map f xs ++ rest) (size * at) 0 in
    let low = first-bytes f size most xs rest at some (All-tail (λ y. length (f y) ≡ size) x xs all) small (omega arith) in
    omega arith

pub mult-size : (ts : List MultTriple) → All (λ t. length (mult_bytes t) ≡ 24) ts
unfolding word_bytes
mult-size ts i d h = refl

pub shared-size : (bs : List SharedBit) → All (λ s. length (shared_bytes s) ≡ 9) bs
unfolding word_bytes
shared-size bs i d h = refl

pub key-size : (keys : List Key) → All (λ k. length (key_bytes k) ≡ 16) keys
unfolding number_bytes
key-size keys i d h = refl

pub key_bit-size : (parties : ℕ) (ks : List KeyBit) → All (λ k. length k.times ≡ parties) ks →
    All (λ k. length (key_bit_bytes k) ≡ key_bit_size parties) ks
key_bit-size parties ks all i d h =
    let keys = length-records key_bytes 16 (get_or ks i d).times (key-size (get_or ks i d).times) in
    let owners = all i d h in
    omega arith

once-most : (b : Bool) → once b ≤ 1
once-most true = omega arith
once-most false = omega arith

pub head-drop : (p : Part) → drop 47 (file_of p) ≡ record_bytes p
unfolding file_of word_bytes number_bytes count_bytes
head-drop p = refl

pub file-length : (p : Part) → IsPart p → length (file_of p) ≡ file_length p.parties (counts_of p)
unfolding file_of word_bytes number_bytes count_bytes
file-length p part =
    let m = length-records mult_bytes 24 p.mult (mult-size p.mult) in
    let s = length-records shared_bytes 9 p.shared (shared-size p.shared) in
    let k = length-records key_bit_bytes (key_bit_size p.parties) p.keys (key_bit-size p.parties p.keys part.each_owner) in
    let last = length-append (flat_map shared_bytes p.shared) (flat_map key_bit_bytes p.keys) in
    let middle = length-append p.bits (flat_map shared_bytes p.shared ++ flat_map key_bit_bytes p.keys) in
    let all = length-append (flat_map mult_bytes p.mult) (p.bits ++ (flat_map shared_bytes p.shared ++ flat_map key_bit_bytes p.keys)) in
    omega arith

abbrev needs : ℕ → ℕ → ℕ → ℕ → Needs
needs a b d e = record { mult = a; bit = b; shared = d; key = e }

record-same : (a b d e w x y z : ℕ) → a ≡ w → b ≡ x → d ≡ y → e ≡ z → needs a b d e ≡ needs w x y z
record-same a b d e w x y z p q r s = cc

pub counts-stated : (p : Part) → IsPart p → stated_counts (file_of p) ≡ counts_of p
unfolding file_of word_bytes number_bytes count_bytes stated_counts
counts-stated p part =
    let few = part.mult in
    let few_bits = part.bit in
    let few_shared = part.shared in
    let few_keys = part.key in
    let a : big_number 4 (drop 31 (file_of p)) ≡ length p.mult =
    big_number-reads_back 4 (length p.mult) (drop 35 (file_of p)) (omega arith) in
    let b : big_number 4 (drop 35 (file_of p)) ≡ length p.bits =
    big_number-reads_back 4 (length p.bits) (drop 39 (file_of p)) (omega arith) in
    let d : big_number 4 (drop 39 (file_of p)) ≡ length p.shared =
    big_number-reads_back 4 (length p.shared) (drop 43 (file_of p)) (omega arith) in
    let e : big_number 4 (drop 43 (file_of p)) ≡ length p.keys =
    big_number-reads_back 4 (length p.keys) (drop 47 (file_of p)) (omega arith) in
    record-same _ _ _ _ _ _ _ _ a b d e

length-stated : (p : Part) → IsPart p → stated_length (file_of p) ≡ file_length p.parties (counts_of p)
unfolding file_of word_bytes number_bytes count_bytes
length-stated p part = ap (file_length p.parties) (counts-stated p part)

passes : (bytes : List ℕ) (ends : ℕ) (test : Bool) (cause : DealerError) → ends ≤ length bytes → test ≡ true →
    checked bytes ends test cause ≡ None
passes bytes ends test cause h e =
    let long : nat_lt (length bytes) ends ≡ false = grind (arith, nat_tests) in
    rw (long, e) refl

tests-parties : (parties party : ℕ) → 2 ≤ parties → parties ≤ 8 → party < parties →
    (nat_le 2 parties && nat_le parties 8 && nat_lt party parties) ≡ true
tests-parties parties party some most inside =
    let a : nat_le 2 parties ≡ true = grind (arith, nat_tests) in
    let b : nat_le parties 8 ≡ true = grind (arith, nat_tests) in
    let d : nat_lt party parties ≡ true = grind (arith, nat_tests) in
    rw (a, b, d) refl

tests-odd : (n : ℕ) → n % 2 ≡ 1 → (n % 2 == 1) ≡ true
tests-odd n e = rw e refl

tests-le : (a b : ℕ) → a ≤ b → nat_le a b ≡ true
tests-le a b h = grind (arith, nat_tests)

low-bit : (n : ℕ) → n % 256 ^ 16 % 2 ≡ n % 2
low-bit n = omega arith

magic-passes : (p : Part) → 4 ≤ length (file_of p) → magic_fault (file_of p) ≡ None
unfolding file_of magic_fault
magic-passes p h = passes (file_of p) 4 _ Magic h refl

version-passes : (p : Part) → 5 ≤ length (file_of p) → version_fault (file_of p) ≡ None
unfolding file_of version_fault
version-passes p h = passes (file_of p) 5 _ Version h refl

party-passes : (p : Part) → IsPart p → 7 ≤ length (file_of p) → party_fault (file_of p) ≡ None
unfolding file_of party_fault
party-passes p part h =
    passes (file_of p) 7 _ Party h (tests-parties p.parties p.party part.some_parties part.most_parties part.party)

offset-passes : (p : Part) → IsPart p → 31 ≤ length (file_of p) → offset_fault (file_of p) ≡ None
unfolding file_of word_bytes number_bytes offset_fault
offset-passes p part h =
    let number : big_number 16 (drop 15 (file_of p)) ≡ p.offset % 256 ^ 16 = big_from-bytes 16 p.offset (drop 31 (file_of p)) in
    passes (file_of p) 31 _ OffsetEven h (tests-odd _ (ap (λ n. n % 2) number ∙ (low-bit p.offset ∙ part.odd)))

counts-pass : (p : Part) → IsPart p → file_length p.parties (counts_of p) ≤ most_file_bytes → 47 ≤ length (file_of p) →
    counts_fault (file_of p) ≡ None
unfolding counts_fault
counts-pass p part within h =
    let stated = length-stated p part in
    passes (file_of p) 47 _ Counts h (tests-le _ _ (omega arith))

head-passes : (p : Part) → IsPart p → file_length p.parties (counts_of p) ≤ most_file_bytes → head_fault (file_of p) ≡ None
head-passes p part within =
    let long = file-length p part in
    rw (
      magic-passes p (omega arith),
      version-passes p (omega arith),
      party-passes p part (omega arith),
      offset-passes p part (omega arith),
      counts-pass p part within (omega arith),
    ) refl

-- the records of each kind behind those before them
bits-drop : (p : Part) → drop (bits_start (counts_of p)) (file_of p)
    ≡ p.bits ++ (flat_map shared_bytes p.shared ++ flat_map key_bit_bytes p.keys)
bits-drop p =
    let m = length-records mult_bytes 24 p.mult (mult-size p.mult) in
    sym (drop-twice (24 * length p.mult) 47 (file_of p))
    ∙ (ap (drop (24 * length p.mult)) (head-drop p)
    ∙ (ap (λ k. drop k (record_bytes p)) (sym m)
    ∙ drop-append_seam (flat_map mult_bytes p.mult) (p.bits ++ (flat_map shared_bytes p.shared ++ flat_map key_bit_bytes p.keys))))

shared-drop : (p : Part) → drop (shared_start (counts_of p)) (file_of p)
    ≡ flat_map shared_bytes p.shared ++ flat_map key_bit_bytes p.keys
shared-drop p =
    sym (drop-twice (length p.bits) (bits_start (counts_of p)) (file_of p))
    ∙ (ap (drop (length p.bits)) (bits-drop p)
    ∙ drop-append_seam p.bits (flat_map shared_bytes p.shared ++ flat_map key_bit_bytes p.keys))

keys-drop : (p : Part) → drop (keys_start (counts_of p)) (file_of p) ≡ flat_map key_bit_bytes p.keys
keys-drop p =
    let s = length-records shared_bytes 9 p.shared (shared-size p.shared) in
    sym (drop-twice (9 * length p.shared) (shared_start (counts_of p)) (file_of p))
    ∙ (ap (drop (9 * length p.shared)) (shared-drop p)
    ∙ (ap (λ k. drop k (flat_map shared_bytes p.shared ++ flat_map key_bit_bytes p.keys)) (sym s)
    ∙ drop-append_seam (flat_map shared_bytes p.shared) (flat_map key_bit_bytes p.keys)))

right-bytes : (p : Part) → IsPart p → (place : ℕ) → IsWrongRecord (file_of p) p.parties (counts_of p) place → ⊥
right-bytes p part place wrong = elim wrong [
  | inl w ↦
      let among : w.at < length p.bits = w.among in
      let stands : place ≡ bits_start (counts_of p) + w.at = let there = w.there in omega arith in
      let byte : get_or (file_of p) place 0 ≡ get_or p.bits w.at 0 =
      ap (λ k. get_or (file_of p) k 0) stands
      ∙ (sym (get_or-drop (bits_start (counts_of p)) (file_of p) w.at 0)
      ∙ (ap (λ ys. get_or ys w.at 0) (bits-drop p)
      ∙ get_or_append_left p.bits (flat_map shared_bytes p.shared ++ flat_map key_bit_bytes p.keys) 0 w.at among)) in
      let low = part.three_bits w.at 0 among in
      let high = w.above in
      absurd (omega arith)
  | inr later ↦ elim later [
    | inl w ↦
        let byte : get_or (file_of p) place 0
        ≡ get_or (flat_map shared_bytes p.shared ++ flat_map key_bit_bytes p.keys) (9 * w.at) 0 =
        ap (λ k. get_or (file_of p) k 0) w.there
        ∙ (sym (get_or-drop (shared_start (counts_of p)) (file_of p) (9 * w.at) 0)
        ∙ ap (λ ys. get_or ys (9 * w.at) 0) (shared-drop p)) in
        let low = first-bytes shared_bytes 9 1 p.shared (flat_map key_bit_bytes p.keys) w.at (omega arith)
        (shared-size p.shared) (λ s. once-most s.bit) w.among in
        let high = w.above in
        absurd (omega arith)
    | inr w ↦
        let byte : get_or (file_of p) place 0 ≡ get_or (flat_map key_bit_bytes p.keys ++ []) (key_bit_size p.parties * w.at) 0 =
        ap (λ k. get_or (file_of p) k 0) w.there
        ∙ (sym (get_or-drop (keys_start (counts_of p)) (file_of p) (key_bit_size p.parties * w.at) 0)
        ∙ ap (λ ys. get_or ys (key_bit_size p.parties * w.at) 0)
        (keys-drop p ∙ sym (append-nil (flat_map key_bit_bytes p.keys)))) in
        let low = first-bytes key_bit_bytes (key_bit_size p.parties) 1 p.keys [] w.at (omega arith)
        (key_bit-size p.parties p.keys part.each_owner) (λ k. once-most k.bit) w.among in
        let high = w.above in
        absurd (omega arith)
  ]
]

wrong-stated : (p : Part) → IsPart p → (place : ℕ) → IsWrongByte (file_of p) place → ⊥
unfolding file_of
wrong-stated p part place w =
    right-bytes p part place (subst (λ m. IsWrongRecord (file_of p) p.parties m place) (counts-stated p part) w)

no-records-fault : (p : Part) → IsPart p → (fault : DealerError) → IsRecordsFault (file_of p) fault → ⊥
no-records-fault p part Short w =
    let long = file-length p part in
    let stated = length-stated p part in
    absurd (omega arith)
no-records-fault p part Long w =
    let long = file-length p part in
    let stated = length-stated p part in
    absurd (omega arith)
no-records-fault p part (RecordBits place) w = wrong-stated p part place w.1.here
no-records-fault p part Magic w = w
no-records-fault p part Version w = w
no-records-fault p part Party w = w
no-records-fault p part OffsetEven w = w
no-records-fault p part Counts w = w
no-records-fault p part NoMemory w = w

pub none-is : (fault : DealerError) (x : Option DealerError) → x ≡ None → x ≡ Some fault → ⊥
none-is fault x e f = absurd cc

pub no-fault : FileHasNoFault
no-fault bytes p fault file first =
    subst (λ bs. IsFirstFault bs fault → ⊥) (sym file.spelled)
    (λ w. elim w [
      | inl head ↦ none-is fault (head_fault (file_of p)) (head-passes p file.part file.within) head
      | inr records ↦ no-records-fault p file.part fault records.1
    ]) first
