-- Lists of records as bytes, one piece after another.
use Rattle.std.proofs.Common.{◌≡◌, ℕ, zero, suc, ◌+◌, ◌-◌, ◌*◌, ◌<◌, ◌≤◌, List, [], ◌∷◌, ◌++◌, length, take, drop, get_or, refl, sym, ap, ◌∙◌, append_assoc, arith, inl, inr, All}
use Rattle.std.specs.List.{flat_map}
use Rattle.std.proofs.lemmas.Bool.{cases_lt}
use Rattle.std.proofs.lemmas.Grind.{flat_map-append}
use Rattle.std.proofs.lemmas.List.{append-nil, length-drop, length-take, length-append, take-append-drop, nil_from_length, get_or-drop, get_or-take}
use Rattle.std.proofs.Math.Seq.{take-add, drop-cons, drop-nil}
use Rattle.std.proofs.Math.Nat.{mul-le-mul_left}
use Rattle.dealer_files.specs.Reading.{AreFlags}
use Rattle.dealer_files.specs.Checks.{IsAbove}

-- so many records were read, so many are left, and what was read and what is left are all of the bytes
pub record ReadSoFar {X : Type 0} (f : X → List ℕ) (size count at : ℕ) (bytes : List ℕ) (list : List X) (rest : List ℕ) : Type 0 where
  pub parts : flat_map f list ++ rest ≡ bytes
  pub read : length list ≡ at
  pub left : length rest ≡ size * (count - at)

one-more : (size count at : ℕ) → at < count → size * (count - at) ≡ size + size * (count - (at + 1))
one-more size count at h =
    let e : count - at ≡ suc (count - (at + 1)) = omega arith in
    ap (λ n. size * n) e ∙ omega arith

pub read-left : {X : Type 0} (f : X → List ℕ) (size count at : ℕ) (bytes : List ℕ) (list : List X) (rest : List ℕ) →
    at < count → ReadSoFar f size count at bytes list rest → size ≤ length rest
read-left f size count at bytes list rest h was =
    let more = one-more size count at h in
    let left = was.left in
    omega arith

pub read-more : {X : Type 0} (f : X → List ℕ) (size count at : ℕ) (bytes : List ℕ) (list : List X) (rest : List ℕ) (x : X) →
    at < count → ReadSoFar f size count at bytes list rest → f x ≡ take size rest →
    ReadSoFar f size count (at + 1) bytes (list ++ x ∷ []) (drop size rest)
read-more f size count at bytes list rest x h was e = record {
  parts =
      let last : flat_map f (x ∷ []) ≡ take size rest = append-nil (f x) ∙ e in
      ap (λ xs. xs ++ drop size rest) (flat_map-append f list (x ∷ []) ∙ ap (λ xs. flat_map f list ++ xs) last)
      ∙ (append_assoc (flat_map f list) (take size rest) (drop size rest)
      ∙ (ap (λ xs. flat_map f list ++ xs) (take-append-drop size rest) ∙ was.parts));
  read = length-append list (x ∷ []) ∙ (let read = was.read in omega arith);
  left =
      let more = one-more size count at h in
      let left = was.left in
      let dropped = length-drop size rest in
      omega arith;
}

pub read-all : {X : Type 0} (f : X → List ℕ) (size count at : ℕ) (bytes : List ℕ) (list : List X) (rest : List ℕ) →
    count ≤ at → ReadSoFar f size count at bytes list rest → flat_map f list ≡ bytes
read-all f size count at bytes list rest h was =
    let none : count - at ≡ 0 = omega arith in
    let left : length rest ≡ size * 0 = was.left ∙ ap (λ n. size * n) none in
    let empty = nil_from_length rest (omega arith) in
    sym (append-nil (flat_map f list)) ∙ (ap (λ xs. flat_map f list ++ xs) (sym empty) ∙ was.parts)

-- the records that are left begin with flags
pub flags-rest : (size count at : ℕ) (rest : List ℕ) → at < count → AreFlags rest size (count - at) →
    AreFlags (drop size rest) size (count - (at + 1))
flags-rest size count at rest h flags i lt =
    let here : size + size * i ≡ size * (i + 1) = omega arith in
    let flag = flags (i + 1) (omega arith) in
    rw (get_or-drop, here) flag

pub flags-front : (size count at : ℕ) (rest : List ℕ) → at < count → 1 ≤ size → AreFlags rest size (count - at) →
    get_or (take size rest) 0 0 ≤ 1
flags-front size count at rest h some flags =
    let none : size * 0 ≡ 0 = omega arith in
    let same : get_or rest (size * 0) 0 ≡ get_or rest 0 0 = ap (λ n. get_or rest n 0) none in
    let flag = flags 0 (omega arith) in
    rw (get_or-take size rest 0 0 some) (omega arith)

-- two pieces of a list, one behind the other
pub drop-twice : {X : Type 0} (n k : ℕ) (xs : List X) → drop n (drop k xs) ≡ drop (k + n) xs
drop-twice n zero xs = ap (λ m. drop m xs) (omega arith)
drop-twice n (suc k) [] = drop-nil n ∙ sym (drop-nil (suc k + n))
drop-twice n (suc k) (x ∷ xs) =
    let e : suc k + n ≡ suc (k + n) = omega arith in
    drop-twice n k xs ∙ sym (ap (λ m. drop m (x ∷ xs)) e)

pub piece : {X : Type 0} (n m k : ℕ) (xs : List X) →
    take (n + m) (drop k xs) ≡ take n (drop k xs) ++ take m (drop (k + n) xs)
piece n m k xs = take-add n m (drop k xs) ∙ ap (λ ys. take n (drop k xs) ++ take m ys) (drop-twice n k xs)

pub one-byte : (m k : ℕ) (xs : List ℕ) → k < length xs → take (suc m) (drop k xs) ≡ get_or xs k 0 ∷ take m (drop (suc k) xs)
one-byte m k xs h = ap (take (suc m)) (drop-cons xs k 0 h)

-- records that begin with no byte above 1 begin with flags
pub flags-of : (bytes : List ℕ) (start size count length-of : ℕ) → 1 ≤ size → size * count ≤ length-of →
    ((place : ℕ) → IsAbove bytes 1 start size count place → ⊥) →
    AreFlags (take length-of (drop start bytes)) size count
flags-of bytes start size count length-of some long right at h =
    let more : size * (at + 1) ≤ size * count = mul-le-mul_left size (omega arith) in
    let inside : size * at < length-of = omega arith in
    rw (get_or-take length-of (drop start bytes) (size * at) 0 inside, get_or-drop)
    (elim (cases_lt 1 (get_or bytes (start + size * at) 0)) [
      | inl high ↦ absurd (right (start + size * at) (record { at = at; among = h; there = refl; above = high }))
      | inr low ↦ low
    ])

get_or-default : (xs : List ℕ) (i d : ℕ) → i < length xs → get_or xs i d ≡ get_or xs i 0
get_or-default [] i d h = absurd (omega arith)
get_or-default (x ∷ xs) zero d h = refl
get_or-default (x ∷ xs) (suc i) d h = get_or-default xs i d (omega arith)

-- bit records that are not above 7
pub bits-of : (bytes : List ℕ) (start count : ℕ) → ((place : ℕ) → IsAbove bytes 7 start 1 count place → ⊥) →
    All (λ r. r < 8) (take count (drop start bytes))
bits-of bytes start count right at d h =
    let few = length-take count (drop start bytes) in
    let among : at < count = omega arith in
    let there : start + 1 * at ≡ start + at = omega arith in
    let within = length-drop start bytes in
    let inside : start + at < length bytes = omega arith in
    elim (cases_lt 7 (get_or bytes (start + 1 * at) 0)) [
      | inl high ↦ absurd (right (start + 1 * at) (record { at = at; among = among; there = refl; above = high }))
      | inr low ↦
          let same : get_or bytes (start + 1 * at) 0 ≡ get_or bytes (start + at) 0 = ap (λ n. get_or bytes n 0) there in
          let zero-default = get_or-default bytes (start + at) d inside in
          rw (get_or-take count (drop start bytes) at d among, get_or-drop) (omega arith)
    ]
