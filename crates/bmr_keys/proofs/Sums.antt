-- XORs over parties, by the party's number.
use Rattle.std.proofs.Common.{◌≡◌, ◌≢◌, ℕ, zero, suc, ◌<◌, ◌≤◌, Bool, false, if◌then◌else◌, refl, sym, ap, ap₂, ◌∙◌, arith, inl, inr}
use Rattle.std.specs.Prelude.{◌==◌}
use Rattle.std.specs.Int.Bits.{xor_zero_l}
use Rattle.std.proofs.Math.Dec.{eqb-suc-zero}
use Rattle.std.proofs.lemmas.Bool.{eq-eqb, ne_eqb, cases_lt}
use Rattle.share_types.specs.Bits.{differ}
use Rattle.share_types.specs.Sums.{xor_to, part_of_public}
use Rattle.share_types.specs.Keys.{◌⊕◌, bit, times, parity_to}
use Rattle.share_types.proofs.Parties.{xor_to_same}
use Rattle.bmr_keys.specs.Mask.{own_times, slice}
use Rattle.bmr_keys.proofs.Labels.{bit-xor, bit-zero, exchange, times-xor, times-zero, slice-xor, slice-zero, xor_zero_r}

pub xor-both : (n : ℕ) (f g : ℕ → ℕ) → xor_to n (λ p. f p ⊕ g p) ≡ xor_to n f ⊕ xor_to n g
xor-both zero f g = sym (xor_zero_l 0)
xor-both (suc n) f g =
    ap (λ m. m ⊕ (f n ⊕ g n)) (xor-both n f g) ∙ exchange (xor_to n f) (xor_to n g) (f n) (g n)

pub xor-nothing : (n : ℕ) → xor_to n (λ p. 0) ≡ 0
xor-nothing zero = refl
xor-nothing (suc n) = ap (λ m. m ⊕ 0) (xor-nothing n) ∙ xor_zero_l 0

-- parties other than the first add nothing of a public number
no_part : (n c : ℕ) → 0 < n → part_of_public n c ≡ 0
no_part zero c h = absurd (omega arith)
no_part (suc n) c h = rw eqb-suc-zero refl

pub xor-public : (n c : ℕ) → 0 < n → xor_to n (λ p. part_of_public p c) ≡ c
xor-public zero c h = absurd (omega arith)
xor-public (suc zero) c h = xor_zero_l c
xor-public (suc (suc n)) c h =
    ap₂ (λ (a b : ℕ). a ⊕ b) (xor-public (suc n) c (omega arith)) (no_part (suc n) c (omega arith)) ∙ xor_zero_r c

-- what one party alone has
abbrev pub only : ℕ → (ℕ → ℕ) → ℕ → ℕ
only j f p = if j == p then f p else 0

only-other : (j : ℕ) (f : ℕ → ℕ) (p : ℕ) → j ≢ p → only j f p ≡ 0
only-other j f p h = rw (ne_eqb j p h) refl

only-own : (j : ℕ) (f : ℕ → ℕ) → only j f j ≡ f j
only-own j f = rw (eq-eqb j j refl) refl

xor-others : (n j : ℕ) (f : ℕ → ℕ) → n ≤ j → xor_to n (only j f) ≡ 0
xor-others n j f h =
    xor_to_same n (only j f) (λ p. 0) (λ p small. only-other j f p (λ e. absurd (omega arith))) ∙ xor-nothing n

pub xor-one : (n j : ℕ) (f : ℕ → ℕ) → j < n → xor_to n (only j f) ≡ f j
xor-one zero j f h = absurd (omega arith)
xor-one (suc n) j f h = elim (cases_lt j n) as (λ _. xor_to (suc n) (only j f) ≡ f j) [
  | inl small ↦
      ap₂ (λ (a b : ℕ). a ⊕ b) (xor-one n j f small) (only-other j f n (λ e. absurd (omega arith))) ∙ xor_zero_r (f j)
  | inr large ↦
      (let last : n ≡ j = omega arith in
      ap₂ (λ (a b : ℕ). a ⊕ b) (xor-others n j f (omega arith)) (ap (only j f) last ∙ only-own j f) ∙ xor_zero_l (f j))
]

-- the parties' shares of a public bit times an owner's offset
pub xor-own : (n : ℕ) (offset : ℕ → ℕ) (c i j : ℕ) → j < n →
    xor_to n (λ p. own_times p (offset p) c i j) ≡ times (bit c i) (offset j)
xor-own n offset c i j h = xor-one n j (λ p. times (bit c i) (offset p)) h

pub xor-times : (n : ℕ) (b : Bool) (f : ℕ → ℕ) → xor_to n (λ p. times b (f p)) ≡ times b (xor_to n f)
xor-times zero b f = sym (times-zero b)
xor-times (suc n) b f =
    ap (λ m. m ⊕ times b (f n)) (xor-times n b f) ∙ sym (times-xor b (xor_to n f) (f n))

pub xor-slice : (n at w : ℕ) (f : ℕ → ℕ) → xor_to n (λ p. slice at w (f p)) ≡ slice at w (xor_to n f)
xor-slice zero at w f = sym (slice-zero at w)
xor-slice (suc n) at w f =
    ap (λ m. m ⊕ slice at w (f n)) (xor-slice n at w f) ∙ sym (slice-xor at w (xor_to n f) (f n))

pub bit-xor_to : (n : ℕ) (f : ℕ → ℕ) (i : ℕ) → bit (xor_to n f) i ≡ parity_to n (λ p. bit (f p) i)
bit-xor_to zero f i = bit-zero i
bit-xor_to (suc n) f i = bit-xor (xor_to n f) (f n) i ∙ ap (λ b. differ b (bit (f n) i)) (bit-xor_to n f i)

pub parity-same : (n : ℕ) (f g : ℕ → Bool) → ((p : ℕ) → p < n → f p ≡ g p) → parity_to n f ≡ parity_to n g
parity-same zero f g h = refl
parity-same (suc n) f g h = ap₂ differ (parity-same n f g (λ p small. h p (omega arith))) (h n (omega arith))

pub parity-none : (n : ℕ) → parity_to n (λ p. false) ≡ false
parity-none zero = refl
parity-none (suc n) = ap (λ b. differ b false) (parity-none n)
