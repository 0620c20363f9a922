-- What is made, one after another, of what was made before: there is exactly one such sequence.
use Rattle.std.proofs.Common.{ℕ, zero, suc, ◌≡◌, ◌<◌, sym, ◌∙◌, arith}

-- what holds of a number where it holds of all below holds of all
below : (P : ℕ → Type 0) → ((n : ℕ) → ((k : ℕ) → k < n → P k) → P n) → (n k : ℕ) → k < n → P k
below P step zero k h = absurd (omega (arith, h))
below P step (suc n) k h = step k (λ j less. below P step n j (omega (arith, h, less)))

pub strong : (P : ℕ → Type 0) → ((n : ℕ) → ((k : ℕ) → k < n → P k) → P n) → (n : ℕ) → P n
strong P step n = below P step (suc n) n (omega arith)

-- everybody makes everything anew, so many times, from some beginning
abbrev pub turn : {X : Type 0} → X → (ℕ → (ℕ → X) → X) → ℕ → ℕ → X
turn first made zero n = first
turn first made (suc m) n = made n (turn first made m)

abbrev pub solution : {X : Type 0} → X → (ℕ → (ℕ → X) → X) → ℕ → X
solution first made n = turn first made (suc n) n

-- what is made of a sequence at a place rests on what stands before it
abbrev pub IsCausal : {X : Type 0} → (ℕ → (ℕ → X) → X) → Type 0
IsCausal {X} made = (n : ℕ) (f g : ℕ → X) → ((k : ℕ) → k < n → f k ≡ g k) → made n f ≡ made n g

module _ (X : Type 0) (first : X) (made : ℕ → (ℕ → X) → X) (causal : IsCausal made) where
  steady : (n : ℕ) → (a b : ℕ) → n < a → n < b → turn first made a n ≡ turn first made b n
  steady = strong (λ n. (a b : ℕ) → n < a → n < b → turn first made a n ≡ turn first made b n) step
    where
      step : (n : ℕ) → ((k : ℕ) → k < n → (a b : ℕ) → k < a → k < b → turn first made a k ≡ turn first made b k) →
          (a b : ℕ) → n < a → n < b → turn first made a n ≡ turn first made b n
      step n before zero b h k = absurd (omega (arith, h))
      step n before (suc a) zero h k = absurd (omega (arith, k))
      step n before (suc a) (suc b) h k =
          causal n (turn first made a) (turn first made b) (λ j less. before j less a b (omega (arith, h, less)) (omega (arith, k, less)))

  pub solves : (n : ℕ) → solution first made n ≡ made n (solution first made)
  solves n =
      causal n (turn first made n) (solution first made) (λ k less. steady k n (suc k) less (omega arith))

  pub only : (g : ℕ → X) → ((n : ℕ) → g n ≡ made n g) → (n : ℕ) → g n ≡ solution first made n
  only g is = strong (λ n. g n ≡ solution first made n)
      (λ n before. is n ∙ (causal n g (solution first made) before ∙ sym (solves n)))
