-- Why what the parties make of their shares are shares of what the calls stand for.
use Rattle.std.proofs.Common.{◌≡◌, ℕ, zero, suc, ◌+◌, ◌*◌, ◌/◌, ◌%◌, ◌^◌, ◌<◌, sym, ap, ap₂, ◌∙◌, arith}
use Rattle.std.specs.Prelude.{bit_and, bit_xor, min}
use Rattle.std.specs.Int.{bit_at}
use Rattle.std.proofs.lemmas.Nat.Bits.{bit_at_xor, bit_at_and, bit_at-lt, same_from_bits}
use Rattle.share_types.specs.Sums.{part_of_public, xor_to}
use Rattle.boolean_gmw.specs.Shares.{Triple, closed_share}
use Rattle.boolean_gmw.specs.Laws.{AreBitTriples, XorRecombines, FlippedRecombines, SliceRecombines, JoinRecombines, AndRecombines}
use Rattle.boolean_gmw.proofs.Xors.{undone, xor_plus, xor_public, xor_and, xor_slice, xor_join}

pub xor-recombines : XorRecombines
xor-recombines n f g x y left right = xor_plus n f g ∙ ap₂ bit_xor left right

pub flipped-recombines : FlippedRecombines
flipped-recombines zero f x c some left = absurd (omega (arith, some))
flipped-recombines (suc n) f x c some left =
    xor-recombines (suc n) f (λ p. part_of_public p c) x c left (xor_public n c)

pub slice-recombines : SliceRecombines
slice-recombines n f x at width left = xor_slice n at width f ∙ ap (λ v. v / 2 ^ at % 2 ^ width) left

pub join-recombines : JoinRecombines
join-recombines n f g x y width small left right =
    xor_join n width f g small ∙ ap₂ (λ (a b : ℕ). a + 2 ^ width * b) left right

-- ---- ANDs

-- the product of what was opened and the triples' parts, in each bit
ring_bit : (a b d e : ℕ) → a < 2 → b < 2 → d < 2 → e < 2 →
    (((min a b + min d b) % 2 + min e a) % 2 + min d e) % 2 ≡ min ((d + a) % 2) ((e + b) % 2)
ring_bit a b d e p q r s = omega arith

ring : (a b d e : ℕ) →
    bit_xor (bit_xor (bit_xor (bit_and a b) (bit_and d b)) (bit_and e a)) (bit_and d e) ≡ bit_and (bit_xor d a) (bit_xor e b)
ring a b d e = same_from_bits _ _ (λ i. simp (bit_at_xor, bit_at_and)
    (ring_bit (bit_at a i) (bit_at b i) (bit_at d i) (bit_at e i) (bit_at-lt a i) (bit_at-lt b i) (bit_at-lt d i) (bit_at-lt e i)))

-- what all parties close with
closed : (n : ℕ) (triple : ℕ → Triple) (d e : ℕ) → AreBitTriples (suc n) triple →
    xor_to (suc n) (λ p. closed_share p (triple p) d e)
    ≡ bit_and (bit_xor d (xor_to (suc n) (λ p. (triple p).a))) (bit_xor e (xor_to (suc n) (λ p. (triple p).b)))
closed n triple d e honest =
    let a : ℕ → ℕ = λ p. (triple p).a in
    let b : ℕ → ℕ = λ p. (triple p).b in
    let c : ℕ → ℕ = λ p. (triple p).c in
    xor_plus (suc n) (λ p. bit_xor (bit_xor (c p) (bit_and d (b p))) (bit_and e (a p))) (λ p. part_of_public p (bit_and d e))
    ∙ (ap₂ bit_xor
    (xor_plus (suc n) (λ p. bit_xor (c p) (bit_and d (b p))) (λ p. bit_and e (a p))
    ∙ ap₂ bit_xor (xor_plus (suc n) c (λ p. bit_and d (b p)) ∙ ap₂ bit_xor honest (xor_and (suc n) d b)) (xor_and (suc n) e a))
    (xor_public n (bit_and d e))
    ∙ ring (xor_to (suc n) a) (xor_to (suc n) b) d e)

-- what is opened and the triples' part are what is shared
restored : (n : ℕ) (share part : ℕ → ℕ) (x d : ℕ) → xor_to n share ≡ x → xor_to n (λ p. bit_xor (share p) (part p)) ≡ d →
    bit_xor d (xor_to n part) ≡ x
restored n share part x d as_x as_d =
    ap (λ v. bit_xor v (xor_to n part)) (sym as_d ∙ (xor_plus n share part ∙ ap (λ v. bit_xor v (xor_to n part)) as_x))
    ∙ undone x (xor_to n part)

pub and-recombines : AndRecombines
and-recombines zero left right triple x y d e some honest as_x as_y as_d as_e = absurd (omega (arith, some))
and-recombines (suc n) left right triple x y d e some honest as_x as_y as_d as_e =
    closed n triple d e honest
    ∙ ap₂ bit_and (restored (suc n) left (λ p. (triple p).a) x d as_x as_d) (restored (suc n) right (λ p. (triple p).b) y e as_y as_e)
