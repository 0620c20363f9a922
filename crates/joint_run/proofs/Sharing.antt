-- Shares of words and of vectors, and payloads that are read back.
use Rattle.std.proofs.Common.{ℕ, zero, suc, ◌≡◌, ◌<◌, ◌≤◌, ◌+◌, ◌*◌, ◌%◌, ◌^◌, Bool, true, false, cond, List, [], ◌∷◌, length, map, take, refl, sym, ◌∙◌, ap, arith, length-take}
use Rattle.std.specs.Prelude.{get_or, bit_and, bit_xor}
use Rattle.std.proofs.lemmas.Nat.{and_le_l, pow-add, xor_comm}
use Rattle.std.proofs.lemmas.Bool.{ne_eqb, lt-ltb}
use Rattle.share_types.specs.Sums.{word_difference, part_of_public, sum_to, xor_to, xor_total}
use Rattle.plan_gates.specs.Messages.{are_two}
use Rattle.joint_run.specs.Payload.{word_bytes, word_in, vectors_bytes, vector_in}
use Rattle.std.proofs.Math.Nat.{mul-suc, mul-le-mul_left}
use Rattle.boolean_gmw.proofs.Xors.{xor_public}
use Rattle.std.proofs.Math.Pow.{pow_mono}
use Rattle.std.specs.Int.Bits.{xor_assoc}
use Rattle.dealer_files.specs.Records.{vector_of}
use Rattle.dealer_files.proofs.Vectors.{vector-small}
use Rattle.joint_run.proofs.Bytes.{payloads_read_back}
use Rattle.arithmetic_gmw.proofs.Sums.{sum_public}

pub two : (n p q : ℕ) → p < n → q < n → (p ≡ q → ⊥) → are_two n p q ≡ true
two n p q a b apart = rw (lt-ltb p n a, lt-ltb q n b, ne_eqb p q apart) refl

pub word_first : (x : ℕ) (ws : List ℕ) → word_in (word_bytes (x ∷ ws)) 0 ≡ x % 2 ^ 64
word_first x ws = payloads_read_back.0 (x ∷ ws) 0 x refl

pub word_second : (x y : ℕ) (ws : List ℕ) → word_in (word_bytes (x ∷ y ∷ ws)) 1 ≡ y % 2 ^ 64
word_second x y ws = payloads_read_back.0 (x ∷ y ∷ ws) 1 y refl

pub back : (x y : ℕ) → (word_difference x y + y) % 2 ^ 64 ≡ x % 2 ^ 64
back x y = omega arith

pub public : (m c : ℕ) → 0 < m → sum_to m (λ p. part_of_public p c) ≡ c
public zero c h = absurd (omega (arith, h))
public (suc m) c h = sum_public m c

pub cut : (v w : ℕ) → w ≡ 64 → v % 2 ^ w % 2 ^ 64 ≡ v % 2 ^ 64
cut v w e = ap (λ k. v % 2 ^ k % 2 ^ 64) e ∙ omega arith

pub vector_first : (w x : ℕ) (vs : List ℕ) → x < 2 ^ w → vector_in w (vectors_bytes w (x ∷ vs)) 0 ≡ x
vector_first w x vs small = payloads_read_back.1 w (x ∷ vs) 0 x refl small

pub vector_second : (w x y : ℕ) (vs : List ℕ) → y < 2 ^ w → vector_in w (vectors_bytes w (x ∷ y ∷ vs)) 1 ≡ y
vector_second w x y vs small = payloads_read_back.1 w (x ∷ y ∷ vs) 1 y refl small

pub choose : (w : ℕ) (b : Bool) (x y : ℕ) → x < 2 ^ w → y < 2 ^ w → cond b x y < 2 ^ w
choose w true x y p q = p
choose w false x y p q = q

pub xor_total_is : {X : Type 0} (f : X → ℕ) (xs : List X) (d : X) → xor_total (map f xs) ≡ xor_to (length xs) (λ p. f (get_or xs p d))
xor_total_is f [] d = refl
xor_total_is f (x ∷ xs) d =
    ap (bit_xor (f x)) (xor_total_is f xs d) ∙ sym (xor_first (length xs) (λ p. f (get_or (x ∷ xs) p d)))
  where
    xor_first : (m : ℕ) (h : ℕ → ℕ) → xor_to (suc m) h ≡ bit_xor (h 0) (xor_to m (λ p. h (suc p)))
    xor_first zero h = xor_comm 0 (h 0)
    xor_first (suc m) h = ap (λ v. bit_xor v (h (suc m))) (xor_first m h) ∙ xor_assoc (h 0) (xor_to m (λ p. h (suc p))) (h (suc m))

pub length_mapped : {X Y : Type 0} (f : X → Y) (xs : List X) → length (map f xs) ≡ length xs
length_mapped f [] = refl
length_mapped f (x ∷ xs) = ap suc (length_mapped f xs)

pub get_or_mapped : {X Y : Type 0} (f : X → Y) (xs : List X) (k : ℕ) (d : X) → get_or (map f xs) k (f d) ≡ f (get_or xs k d)
get_or_mapped f [] k d = refl
get_or_mapped f (x ∷ xs) zero d = refl
get_or_mapped f (x ∷ xs) (suc k) d = get_or_mapped f xs k d

pub short_vector : (bit w : ℕ) (rs : List ℕ) → vector_of bit (take w rs) < 2 ^ w
short_vector bit w rs =
    let small = vector-small bit (take w rs) in
    let count = length-take w rs in
    let grows : 2 ^ length (take w rs) ≤ 2 ^ w = pow_mono (omega (arith, count)) in
    omega (arith, small, grows)

pub and_small : (w a b : ℕ) → a < 2 ^ w → bit_and a b < 2 ^ w
and_small w a b small = let less = and_le_l a b in omega (arith, small, less)

pub join_small : (u v a b : ℕ) → a < 2 ^ u → b < 2 ^ v → a + 2 ^ u * b < 2 ^ (u + v)
join_small u v a b p q =
    let split : 2 ^ (u + v) ≡ 2 ^ u * 2 ^ v = pow-add 2 u v in
    let room : 2 ^ u * suc b ≤ 2 ^ u * 2 ^ v = mul-le-mul_left (2 ^ u) q in
    let next : 2 ^ u * suc b ≡ 2 ^ u * b + 2 ^ u = mul-suc (2 ^ u) b in
    omega (arith, p, split, room, next)

pub public_xor : (m c : ℕ) → 0 < m → xor_to m (λ p. part_of_public p c) ≡ c
public_xor zero c h = absurd (omega (arith, h))
public_xor (suc m) c h = xor_public m c
