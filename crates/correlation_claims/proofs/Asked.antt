-- What a seat keeps beside its asks stays true with one ask more.
use Rattle.std.proofs.Common.{◌≡◌, ℕ, ◌+◌, ◌<◌, ◌≤◌, true, false, leb, List, [], ◌∷◌, length, refl, sym, subst, arith}
use Rattle.std.proofs.lemmas.Bool.Decides.{nat_tests}
use Rattle.correlation_claims.specs.declared.asks.Ask.{Ask}
use Rattle.correlation_claims.specs.declared.counter.Hand.{Hand}
use Rattle.correlation_claims.specs.Asks.{ask, range, once, is_granted, refusals_in, grants_in, last_grant}
use Rattle.correlation_claims.specs.Steps.{more}
use Rattle.correlation_claims.proofs.Counts.{refusals_in-append, grants_in-append, last_from-snoc}

within : (x y : ℕ) → x ≤ y → leb x y ≡ true
within x y le = grind (arith, nat_tests)

beyond : (x y : ℕ) → y < x → leb x y ≡ false
beyond x y less = grind (arith, nat_tests)

once-le : (stock : ℕ) (xs : List Ask) → grants_in stock xs ≤ length xs
once-le stock [] = omega arith
once-le stock (a ∷ xs) = let r = once-le stock xs in let o = one (is_granted stock a) in omega arith
  where
    one : (b : _) → once b ≤ 1
    one true = omega arith
    one false = omega arith

pub grants_in-le : (stock : ℕ) (xs : List Ask) → grants_in stock xs ≤ length xs
grants_in-le = once-le

module _ (v w : Hand) (job before n : ℕ) (e : w ≡ more v job before n) where
  pub refused : v.stock < before + n → (grants_in w.stock w.asks ≡ grants_in v.stock v.asks) × (last_grant w.stock w.asks ≡ last_grant v.stock v.asks)
  refused less = subst (λ (u : Hand). (grants_in u.stock u.asks ≡ grants_in v.stock v.asks) × (last_grant u.stock u.asks ≡ last_grant v.stock v.asks)) (sym e) (
    (let g = grants_in-append v.stock v.asks (ask job before n ∷ []) in rw g (rw (beyond (before + n) v.stock less) (omega arith))),
    (rw (last_from-snoc v.stock (range 0 0) v.asks (ask job before n)) (rw (beyond (before + n) v.stock less) refl)),
  )

  pub granted : before + n ≤ v.stock → refusals_in v.stock v.asks ≡ 0
      → (refusals_in w.stock w.asks ≡ 0) × (grants_in w.stock w.asks ≡ grants_in v.stock v.asks + 1) × (last_grant w.stock w.asks ≡ range before n)
  granted le none = subst (λ (u : Hand). (refusals_in u.stock u.asks ≡ 0) × (grants_in u.stock u.asks ≡ grants_in v.stock v.asks + 1) × (last_grant u.stock u.asks ≡ range before n)) (sym e) (
    (rw (refusals_in-append v.stock v.asks (ask job before n ∷ [])) (rw (within (before + n) v.stock le) (omega arith))),
    (rw (grants_in-append v.stock v.asks (ask job before n ∷ [])) (rw (within (before + n) v.stock le) (omega arith))),
    (rw (last_from-snoc v.stock (range 0 0) v.asks (ask job before n)) (rw (within (before + n) v.stock le) refl)),
  )
