-- What gates need, one gate after another.
use Rattle.std.proofs.Common.{ℕ, zero, suc, ◌≡◌, ◌<◌, ◌≤◌, ◌+◌, ◌-◌, ◌*◌, List, [], ◌∷◌, ◌++◌, map, Option, Some, None, inl, inr, refl, sym, ◌∙◌, ap, ap₂, subst, arith}
use Rattle.std.specs.Prelude.{slice_get, option_map, IfSome}
use Rattle.std.specs.List.{AllByRecursion}
use Rattle.std.specs.Option.{unwrap_or}
use Rattle.std.proofs.lemmas.Bool.{cases_lt}
use Rattle.mot_base.specs.Limits.{most_width}
use Rattle.share_types.specs.declared.needs.Needs.{Needs}
use Rattle.share_types.specs.declared.needs.Kind as stock
use Rattle.share_types.specs.declared.needs.Kind.TheVariants.{Mult, Bit, Shared, Key}
use Rattle.share_types.specs.Needs.{count_of, no_needs, sum_of_needs}
use Rattle.share_types.specs.Sums.{each}
use Rattle.mot_base.proofs.Lists.{before_at, last_at}
use Rattle.share_types.proofs.Parties.{length-each}
use Rattle.plan_gates.specs.Gate as plan
use Rattle.plan_gates.specs.Gate.{Kind, Gate, Use, uses, operands, width_at, width_of_operand, low_width}
use Rattle.plan_gates.specs.declared.draft.Sizes.{Sizes}
use Rattle.plan_gates.specs.Plan.{Gates, sizes_of, IsOperand, IsGate, IsPlan}
use Rattle.plan_gates.specs.Needs.{needs_of, needs_there, needs_at, offset, RecordsNeverMeet}

-- what the parties below a number have, at a place
pub slice_get-each : {X : Type 0} (n : ℕ) (f : ℕ → X) (at : ℕ) → at < n → slice_get (each n f) at ≡ Some (f at)
slice_get-each zero f at h = absurd (omega arith)
slice_get-each {X} (suc n) f at h = elim (cases_lt at n) as (λ _. slice_get (each n f ++ f n ∷ []) at ≡ Some (f at)) [
  | inl small ↦ (let count = length-each n f in before_at (each n f) (f n ∷ []) at (omega arith) ∙ slice_get-each n f at small)
  | inr large ↦
      (let here : at ≡ n = omega arith in
      let end : slice_get (each n f ++ f n ∷ []) n ≡ Some (f n) = ap (slice_get (each n f ++ f n ∷ [])) (sym (length-each n f)) ∙ last_at (each n f) (f n) in
      let P : ℕ → Type 0 = λ k. slice_get (each n f ++ f n ∷ []) k ≡ Some (f k) in
      subst P (sym here) end)
]

pub each-same : {X : Type 0} (n : ℕ) (f g : ℕ → X) → ((k : ℕ) → k < n → f k ≡ g k) → each n f ≡ each n g
each-same zero f g same = refl
each-same (suc n) f g same =
    ap₂ (λ xs x. xs ++ x ∷ []) (each-same n f g (λ k h. same k (omega (arith, h)))) (same n (omega arith))

-- ---- a gate needs at most 64 records of a kind

-- each count is at most this
pub record AreAtMost (n : Needs) (most : ℕ) : Type 0 where
  pub mult : n.mult ≤ most
  pub bit : n.bit ≤ most
  pub shared : n.shared ≤ most
  pub key : n.key ≤ most

pub none-most : (most : ℕ) → AreAtMost no_needs most
none-most most = record { mult = omega arith; bit = omega arith; shared = omega arith; key = omega arith }

gate-most : (kind : plan.Kind) (sizes : Sizes) → sizes.width ≤ most_width → sizes.low ≤ most_width → AreAtMost (needs_of kind sizes) most_width
gate-most (plan.MulA x y) sizes h low = record { mult = omega arith; bit = omega arith; shared = omega arith; key = omega arith }
gate-most (plan.AndB x y) sizes h low = record { mult = omega arith; bit = h; shared = omega arith; key = omega arith }
gate-most plan.KeyMask sizes h low = record { mult = omega arith; bit = omega arith; shared = omega arith; key = h }
gate-most (plan.Garble u v m) sizes h low = record { mult = omega arith; bit = h; shared = omega arith; key = h }
gate-most (plan.BToA x) sizes h low = record { mult = omega arith; bit = omega arith; shared = low; key = omega arith }
gate-most _ sizes h low = none-most most_width

-- the first operand has at most 64 bits, and at least one where there is one
width-most : (plan : Gates) → IsPlan plan → (x : ℕ) → width_at plan.gates x ≤ most_width
width-most plan valid x = by (slice_get plan.gates x) refl
  where
    by : (o : Option Gate) → slice_get plan.gates x ≡ o → unwrap_or (option_map (λ (gate : Gate). gate.width) o) 0 ≤ most_width
    by None e = omega arith
    by (Some gate) e = (valid.each x gate e).in_width

pub low-most : (plan : Gates) → IsPlan plan → (kind : Kind) → low_width plan.gates kind ≤ most_width
low-most plan valid kind = by (slice_get (operands kind) 0)
  where
    by : (o : Option ℕ) → width_of_operand plan.gates o ≤ most_width
    by None = omega arith
    by (Some x) = width-most plan valid x

pub low-some : (plan : Gates) → IsPlan plan → (g : ℕ) (gate : Gate) → IsGate plan g gate →
    IfSome (slice_get (operands gate.kind) 0) (λ x. 1 ≤ low_width plan.gates gate.kind)
low-some plan valid g gate is = by (uses gate.kind) is.uses
  where
    there : (x : ℕ) (o : Option Gate) → slice_get plan.gates x ≡ o → (used : Gate) → slice_get plan.gates x ≡ Some used →
        1 ≤ unwrap_or (option_map (λ (gate : Gate). gate.width) o) 0
    there x None e used f = let contrary = sym e ∙ f in cc
    there x (Some gate) e used f = (valid.each x gate e).some_width

    by : (us : List Use) → AllByRecursion (IsOperand plan.gates g) us →
        IfSome (slice_get (map (λ (used : Use). used.gate) us) 0) (λ x. 1 ≤ width_of_operand plan.gates (slice_get (map (λ (used : Use). used.gate) us) 0))
    by [] all = tt
    by (used ∷ us) all = let (earlier, gate, at, gives) = all.0 in there used.gate (slice_get plan.gates used.gate) refl gate at

sum-most : (n m : Needs) (a b : ℕ) → AreAtMost n a → AreAtMost m b → AreAtMost (sum_of_needs n m) (a + b)
sum-most n m a b f g =
    let f1 = f.mult in
    let f2 = f.bit in
    let f3 = f.shared in
    let f4 = f.key in
    let g1 = g.mult in
    let g2 = g.bit in
    let g3 = g.shared in
    let g4 = g.key in
    record { mult = omega arith; bit = omega arith; shared = omega arith; key = omega arith }

pub needs-most : (plan : Gates) → IsPlan plan → (g : ℕ) → AreAtMost (needs_at plan g) most_width
needs-most plan valid g = here (slice_get plan.gates g) refl
  where
    here : (o : Option Gate) → slice_get plan.gates g ≡ o → AreAtMost (needs_there plan o) most_width
    here None e = none-most most_width
    here (Some gate) e = gate-most gate.kind (sizes_of plan gate) (valid.each g gate e).in_width (low-most plan valid gate.kind)

pub offset-most : (plan : Gates) → IsPlan plan → (g : ℕ) → AreAtMost (offset plan g) (most_width * g)
offset-most plan valid zero = none-most 0
offset-most plan valid (suc g) =
    let P : ℕ → Type 0 = λ most. AreAtMost (offset plan (suc g)) most in
    subst P (omega arith) (sum-most (offset plan g) (needs_at plan g) (most_width * g) most_width
    (offset-most plan valid g) (needs-most plan valid g))

-- ---- records never meet

counted : (n m : Needs) (kind : stock.Kind) → count_of (sum_of_needs n m) kind ≡ count_of n kind + count_of m kind
counted n m Mult = refl
counted n m Bit = refl
counted n m Shared = refl
counted n m Key = refl

offset-grows : (plan : Gates) (kind : stock.Kind) (g more later : ℕ) → later ≡ more + g →
    count_of (offset plan g) kind ≤ count_of (offset plan later) kind
offset-grows plan kind g zero later e =
    let P : ℕ → Type 0 = λ k. count_of (offset plan g) kind ≤ count_of (offset plan k) kind in
    let same : g ≡ later = omega arith in
    subst P same (omega arith)
offset-grows plan kind g (suc more) zero e = absurd (omega arith)
offset-grows plan kind g (suc more) (suc later) e =
    let before = offset-grows plan kind g more later (omega arith) in
    let sum = counted (offset plan later) (needs_at plan later) kind in
    omega arith

pub records_never_meet : RecordsNeverMeet
records_never_meet plan earlier later kind h =
    offset-grows plan kind (suc earlier) (later - suc earlier) later (omega arith)
