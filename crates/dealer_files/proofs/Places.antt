-- The first record of a kind that begins with too great a byte, and the first of all kinds.
use Rattle.std.proofs.Common.{◌≡◌, ℕ, ◌+◌, ◌*◌, ◌<◌, ◌≤◌, List, get_or, sym, subst, ap, ◌∙◌, arith, inl, inr, refl, false, Option, Some, None}
use Rattle.std.specs.Prelude.{IfSome, is_some}
use Rattle.std.proofs.lemmas.Bool.{cases_lt}
use Rattle.std.proofs.Math.Nat.{mul-le-mul_left}
use Rattle.share_types.specs.declared.needs.Needs.{Needs}
use Rattle.dealer_files.specs.File.{bits_start, shared_start, keys_start, key_bit_size}
use Rattle.dealer_files.specs.Checks.{IsAbove, IsFirst, IsWrongRecord, IsWrongByte, stated_parties, stated_counts}

-- the first records begin with bytes that are not above the most
abbrev pub NotAbove : List ℕ → ℕ → ℕ → ℕ → ℕ → Type 0
NotAbove bytes most start size count = (at : ℕ) → at < count → get_or bytes (start + size * at) 0 ≤ most

pub not_above-none : (bytes : List ℕ) (most start size : ℕ) → NotAbove bytes most start size 0
not_above-none bytes most start size at h = absurd (omega arith)

pub not_above-more : (bytes : List ℕ) (most start size at place : ℕ) → place ≡ start + size * at →
    NotAbove bytes most start size at → get_or bytes place 0 ≤ most → NotAbove bytes most start size (at + 1)
not_above-more bytes most start size at place there below here i h =
    elim (cases_lt i at) [
      | inl lt ↦ below i lt
      | inr le ↦
          let same : i ≡ at = omega arith in
          let e : get_or bytes (start + size * i) 0 ≡ get_or bytes place 0 =
          ap (λ n. get_or bytes (start + size * n) 0) same ∙ ap (λ n. get_or bytes n 0) (sym there) in
          rw e here
    ]

-- a record that is not the last stands whole inside
pub record-inside : (start size at count : ℕ) (long : ℕ) → at < count → start + size * count ≤ long →
    start + size * at + size ≤ long
record-inside start size at count long h inside =
    let more : size * (at + 1) ≤ size * count = mul-le-mul_left size (omega arith) in
    omega arith

pub above-none : (bytes : List ℕ) (most start size count at : ℕ) → count ≤ at →
    NotAbove bytes most start size at → (place : ℕ) → IsAbove bytes most start size count place → ⊥
above-none bytes most start size count at h below place w =
    let low = below w.at (let among = w.among in omega arith) in
    let same = ap (λ n. get_or bytes n 0) w.there in
    let high = w.above in
    absurd (omega arith)

pub above-first : (bytes : List ℕ) (most start size count at place : ℕ) → at < count → place ≡ start + size * at →
    NotAbove bytes most start size at → most < get_or bytes place 0 → IsFirst (IsAbove bytes most start size count) place
above-first bytes most start size count at place h there below above = record {
  here = record { at = at; among = h; there = there; above = above };
  before = λ earlier lt w. elim (cases_lt w.at at) [
    | inl less ↦
        let low = below w.at less in
        let same = ap (λ n. get_or bytes n 0) w.there in
        let high = w.above in
        absurd (omega arith)
    | inr le ↦
        let more : size * at ≤ size * w.at = mul-le-mul_left size le in
        let stands = w.there in
        absurd (omega arith)
  ];
}

-- where a record of so many stands
pub stands-within : (bytes : List ℕ) (most start size count place : ℕ) → 1 ≤ size → IsAbove bytes most start size count place →
    (start ≤ place) × (place < start + size * count)
stands-within bytes most start size count place some w =
    let more : size * (w.at + 1) ≤ size * count = mul-le-mul_left size (let among = w.among in omega arith) in
    let stands = w.there in
    (omega arith, omega arith)

pub some-so : {P Q : ℕ → Type 0} (r : Option ℕ) → ((place : ℕ) → P place → Q place) → IfSome r P → IfSome r Q
some-so (Some place) f p = f place p
some-so None f p = tt

pub first-bits : (bytes : List ℕ) (parties : ℕ) (n : Needs) (place : ℕ) →
    IsFirst (IsAbove bytes 7 (bits_start n) 1 n.bit) place → IsFirst (IsWrongRecord bytes parties n) place
first-bits bytes parties n place w =
    let here = stands-within bytes 7 (bits_start n) 1 n.bit place (omega arith) w.here in
    record {
      here = inl w.here;
      before = λ earlier lt h. elim h [
        | inl bit ↦ w.before earlier lt bit
        | inr later ↦ elim later [
          | inl flag ↦
              let there = stands-within bytes 1 (shared_start n) 9 n.shared earlier (omega arith) flag in
              absurd (omega arith)
          | inr flag ↦
              let there = stands-within bytes 1 (keys_start n) (key_bit_size parties) n.key earlier (omega arith) flag in
              absurd (omega arith)
        ]
      ];
    }

pub first-shared : (bytes : List ℕ) (parties : ℕ) (n : Needs) (place : ℕ) →
    ((earlier : ℕ) → IsAbove bytes 7 (bits_start n) 1 n.bit earlier → ⊥) →
    IsFirst (IsAbove bytes 1 (shared_start n) 9 n.shared) place → IsFirst (IsWrongRecord bytes parties n) place
first-shared bytes parties n place bits w =
    let here = stands-within bytes 1 (shared_start n) 9 n.shared place (omega arith) w.here in
    record {
      here = inr (inl w.here);
      before = λ earlier lt h. elim h [
        | inl bit ↦ bits earlier bit
        | inr later ↦ elim later [
          | inl flag ↦ w.before earlier lt flag
          | inr flag ↦
              let there = stands-within bytes 1 (keys_start n) (key_bit_size parties) n.key earlier (omega arith) flag in
              absurd (omega arith)
        ]
      ];
    }

pub first-keys : (bytes : List ℕ) (parties : ℕ) (n : Needs) (place : ℕ) →
    ((earlier : ℕ) → IsAbove bytes 7 (bits_start n) 1 n.bit earlier → ⊥) →
    ((earlier : ℕ) → IsAbove bytes 1 (shared_start n) 9 n.shared earlier → ⊥) →
    IsFirst (IsAbove bytes 1 (keys_start n) (key_bit_size parties) n.key) place → IsFirst (IsWrongRecord bytes parties n) place
first-keys bytes parties n place bits shared w =
    record {
      here = inr (inr w.here);
      before = λ earlier lt h. elim h [
        | inl bit ↦ bits earlier bit
        | inr later ↦ elim later [ inl flag ↦ shared earlier flag | inr flag ↦ w.before earlier lt flag ]
      ];
    }

pub none-wrong : (bytes : List ℕ) (parties : ℕ) (n : Needs) →
    ((place : ℕ) → IsAbove bytes 7 (bits_start n) 1 n.bit place → ⊥) →
    ((place : ℕ) → IsAbove bytes 1 (shared_start n) 9 n.shared place → ⊥) →
    ((place : ℕ) → IsAbove bytes 1 (keys_start n) (key_bit_size parties) n.key place → ⊥) →
    (place : ℕ) → IsWrongRecord bytes parties n place → ⊥
none-wrong bytes parties n bits shared keys place h = elim h [
  | inl bit ↦ bits place bit
  | inr later ↦ elim later [ inl flag ↦ shared place flag | inr flag ↦ keys place flag ]
]

pub none-of : (r : Option ℕ) → is_some r ≡ false → r ≡ None
none-of (Some place) e = absurd cc
none-of None e = refl

-- the same where a start, a size, the parties and the counts are known to be those
pub some-at : (bytes : List ℕ) (most count : ℕ) (s t size long : ℕ) (r : Option ℕ) → s ≡ t → size ≡ long →
    IfSome r (IsFirst (IsAbove bytes most s size count)) → IfSome r (IsFirst (IsAbove bytes most t long count))
some-at bytes most count s t size long r e f w =
    subst (λ z. IfSome r (IsFirst (IsAbove bytes most t z count))) f
    (subst (λ k. IfSome r (IsFirst (IsAbove bytes most k size count))) e w)

pub none-at : (bytes : List ℕ) (most count : ℕ) (s t size long : ℕ) → s ≡ t → size ≡ long →
    ((place : ℕ) → IsAbove bytes most s size count place → ⊥) → (place : ℕ) → IsAbove bytes most t long count place → ⊥
none-at bytes most count s t size long e f none place w =
    none place
    (subst (λ k. IsAbove bytes most k size count place) (sym e)
    (subst (λ z. IsAbove bytes most t z count place) (sym f) w))

pub some-stated : (bytes : List ℕ) (parties : ℕ) (n : Needs) (r : Option ℕ) → parties ≡ stated_parties bytes →
    n ≡ stated_counts bytes → IfSome r (IsFirst (IsWrongRecord bytes parties n)) → IfSome r (IsFirst (IsWrongByte bytes))
some-stated bytes parties n r e f w =
    subst (λ m. IfSome r (IsFirst (IsWrongRecord bytes (stated_parties bytes) m))) f
    (subst (λ k. IfSome r (IsFirst (IsWrongRecord bytes k n))) e w)

pub none-stated : (bytes : List ℕ) (parties : ℕ) (n : Needs) → parties ≡ stated_parties bytes →
    n ≡ stated_counts bytes → ((place : ℕ) → IsWrongRecord bytes parties n place → ⊥) →
    (place : ℕ) → IsWrongByte bytes place → ⊥
none-stated bytes parties n e f none =
    subst (λ m. (place : ℕ) → IsWrongRecord bytes (stated_parties bytes) m place → ⊥) f
    (subst (λ k. (place : ℕ) → IsWrongRecord bytes k n place → ⊥) e none)

pub none-of-these : (bytes : List ℕ) (parties : ℕ) (n : Needs) → parties ≡ stated_parties bytes →
    n ≡ stated_counts bytes → ((place : ℕ) → IsWrongByte bytes place → ⊥) →
    (place : ℕ) → IsWrongRecord bytes parties n place → ⊥
none-of-these bytes parties n e f none =
    subst (λ m. (place : ℕ) → IsWrongRecord bytes parties m place → ⊥) (sym f)
    (subst (λ k. (place : ℕ) → IsWrongRecord bytes k (stated_counts bytes) place → ⊥) (sym e) none)
