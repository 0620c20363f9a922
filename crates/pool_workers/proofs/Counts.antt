-- How often numbers stand in lists, and how many edges are missing.
use Rattle.std.proofs.Common.{◌≡◌, ◌≢◌, ℕ, zero, suc, ◌+◌, ◌<◌, ◌≤◌, Bool, true, false, cond, eqb, List, [], ◌∷◌, ◌++◌, length, map, get_or, set, refl, sym, ap, subst, arith}
use Rattle.std.specs.Prelude.{◌&&◌}
use Rattle.std.proofs.lemmas.Bool.{eq-eqb, ne_eqb}
use mathlib.Core.Logic.{dite}
use native.Mathlib.Decide.{ℕ_discrete}
use Rattle.turn_core.specs.declared.edge.Edge.{Edge}
use Rattle.turn_core.specs.Graph.{places_from, places}
use Rattle.pool_workers.specs.Sums.{once, times, missing, target_at, source_at, incoming_of, outgoing_of}

pub once_same : (x y : ℕ) → x ≡ y → once (eqb x y) ≡ 1
once_same x y e = ap once (eq-eqb x y e)

pub once_other : (x y : ℕ) → x ≢ y → once (eqb x y) ≡ 0
once_other x y n = ap once (ne_eqb x y n)

pub times-append : (x : ℕ) (xs ys : List ℕ) → times x (xs ++ ys) ≡ times x xs + times x ys
times-append x [] ys = omega arith
times-append x (y ∷ xs) ys = let ih = times-append x xs ys in omega arith

pub times-snoc : (x : ℕ) (xs : List ℕ) (y : ℕ) → times x (xs ++ y ∷ []) ≡ times x xs + once (eqb x y)
times-snoc x xs y = let e = times-append x xs (y ∷ []) in omega arith

times-front : (e n : ℕ) (b : Bool) (r : List ℕ) → times e (cond b (n ∷ r) r) ≡ cond b (once (eqb e n)) 0 + times e r
times-front e n true r = refl
times-front e n false r = omega arith

low_front : (b : Bool) (m : ℕ) → m ≡ 0 → cond b m 0 ≡ 0
low_front true m e = e
low_front false m e = refl

times_low : (e n k : ℕ) (xs : List ℕ) → e < n → times e (places_from n k xs) ≡ 0
times_low e n k [] low = refl
times_low e n k (x ∷ xs) low =
    let f = times-front e n (eqb x k) (places_from (n + 1) k xs) in
    let ih = times_low e (n + 1) k xs (omega arith) in
    let z = low_front (eqb x k) (once (eqb e n)) (once_other e n (λ s. omega arith)) in
    omega arith

one_front : (b : Bool) (m : ℕ) → m ≡ 1 → cond b m 0 ≡ once b
one_front true m e = e
one_front false m e = refl

times_places_from : (n k : ℕ) (xs : List ℕ) (d z : ℕ) → z ≢ k → times (n + d) (places_from n k xs) ≡ once (eqb (get_or xs d z) k)
times_places_from n k [] d z apart = sym (once_other z k apart)
times_places_from n k (x ∷ xs) zero z apart =
    let f = times-front (n + 0) n (eqb x k) (places_from (n + 1) k xs) in
    let low = times_low (n + 0) (n + 1) k xs (omega arith) in
    let o = one_front (eqb x k) (once (eqb (n + 0) n)) (once_same (n + 0) n (omega arith)) in
    omega arith
times_places_from n k (x ∷ xs) (suc d) z apart =
    let f = times-front (n + suc d) n (eqb x k) (places_from (n + 1) k xs) in
    let same : n + 1 + d ≡ n + suc d = omega arith in
    let ih = subst (λ (m : ℕ). times m (places_from (n + 1) k xs) ≡ once (eqb (get_or xs d z) k)) same (times_places_from (n + 1) k xs d z apart) in
    let o = low_front (eqb x k) (once (eqb (n + suc d) n)) (once_other (n + suc d) n (λ s. omega arith)) in
    omega arith

pub times_places : (k : ℕ) (xs : List ℕ) (e z : ℕ) → z ≢ k → times e (places k xs) ≡ once (eqb (get_or xs e z) k)
times_places k xs e z apart =
    let same : 0 + e ≡ e = omega arith in
    subst (λ (m : ℕ). times m (places k xs) ≡ once (eqb (get_or xs e z) k)) same (times_places_from 0 k xs e z apart)

-- how often an edge stands among those that end at an item, and among those that start there
pub times_incoming : (item : ℕ) (edges : List Edge) (e : ℕ) → item < 4294967295 → times e (incoming_of item edges) ≡ once (eqb (target_at edges e) item)
times_incoming item edges e low = times_places item (map (λ x. x.target) edges) e 4294967295 (λ s. omega arith)

pub times_outgoing : (item : ℕ) (edges : List Edge) (e : ℕ) → item < 4294967295 → times e (outgoing_of item edges) ≡ once (eqb (source_at edges e) item)
times_outgoing item edges e low = times_places item (map (λ x. x.source) edges) e 4294967295 (λ s. omega arith)

-- ---- what is missing

weight : Bool → ℕ → ℕ
weight a n = once (a && eqb n 0)

weight_zero : (a : Bool) (n : ℕ) → n ≡ 0 → once (a && eqb n 0) ≡ once a
weight_zero true n e = ap once (eq-eqb n 0 e)
weight_zero false n e = refl

weight_more : (a : Bool) (n : ℕ) → n ≢ 0 → once (a && eqb n 0) ≡ 0
weight_more true n e = ap once (ne_eqb n 0 e)
weight_more false n e = refl

pub missing-same : (t k : ℕ) (es : List Edge) (f g : ℕ → ℕ) → ((j : ℕ) → k ≤ j → g j ≡ f j) → missing t k es g ≡ missing t k es f
missing-same t k [] f g same = refl
missing-same t k (e ∷ es) f g same =
    let here : once (eqb e.target t && eqb (g k) 0) ≡ once (eqb e.target t && eqb (f k) 0) = ap (λ (n : ℕ). once (eqb e.target t && eqb n 0)) (same k (omega arith)) in
    let ih = missing-same t (suc k) es f g (λ j low. same j (omega arith)) in
    omega arith

-- one edge more is given
pub missing-one : (t k : ℕ) (es : List Edge) (f g : ℕ → ℕ) (d : ℕ) → d < length es → f (k + d) ≡ 0 → g (k + d) ≡ 1 → ((j : ℕ) → j ≢ k + d → g j ≡ f j) → missing t k es g + once (eqb (target_at es d) t) ≡ missing t k es f
missing-one t k [] f g d within none one same = absurd (omega arith)
missing-one t k (e ∷ es) f g zero within none one same =
    let at : k + 0 ≡ k = omega arith in
    let none' : f k ≡ 0 = subst (λ (m : ℕ). f m ≡ 0) at none in
    let one' : g k ≡ 1 = subst (λ (m : ℕ). g m ≡ 1) at one in
    let z = weight_zero (eqb e.target t) (f k) none' in
    let m = weight_more (eqb e.target t) (g k) (λ s. omega arith) in
    let ih = missing-same t (suc k) es f g (λ j low. same j (λ s. omega arith)) in
    omega arith
missing-one t k (e ∷ es) f g (suc d) within none one same =
    let at : k + suc d ≡ suc k + d = omega arith in
    let none' : f (suc k + d) ≡ 0 = subst (λ (m : ℕ). f m ≡ 0) at none in
    let one' : g (suc k + d) ≡ 1 = subst (λ (m : ℕ). g m ≡ 1) at one in
    let here : once (eqb e.target t && eqb (g k) 0) ≡ once (eqb e.target t && eqb (f k) 0) = ap (λ (n : ℕ). once (eqb e.target t && eqb n 0)) (same k (λ s. omega arith)) in
    let ih = missing-one t (suc k) es f g d (omega arith) none' one' (λ j other. same j (λ s. other (omega arith))) in
    omega arith

-- nothing is missing: each edge is given
pub missing-none : (t k : ℕ) (es : List Edge) (f : ℕ → ℕ) → missing t k es f ≡ 0 → (d : ℕ) → d < length es → target_at es d ≡ t → 1 ≤ f (k + d)
missing-none t k [] f none d within here = absurd (omega arith)
missing-none t k (e ∷ es) f none zero within here =
    let at : k + 0 ≡ k = omega arith in
    let o = once_same e.target t here in
    subst (λ (m : ℕ). 1 ≤ f m) (sym at) (dite (ℕ_discrete (f k) 0) (λ z. let w = weight_zero (eqb e.target t) (f k) z in absurd (omega arith)) (λ n. omega arith))
missing-none t k (e ∷ es) f none (suc d) within here =
    let at : suc k + d ≡ k + suc d = omega arith in
    subst (λ (m : ℕ). 1 ≤ f m) at (missing-none t (suc k) es f (omega arith) d (omega arith) here)

pub none_missing : (t k : ℕ) (es : List Edge) (f : ℕ → ℕ) → ((d : ℕ) → d < length es → target_at es d ≡ t → 1 ≤ f (k + d)) → missing t k es f ≡ 0
none_missing t k [] f all = refl
none_missing t k (e ∷ es) f all =
    let ih = none_missing t (suc k) es f (λ d within here. let at : k + suc d ≡ suc k + d = omega arith in subst (λ (m : ℕ). 1 ≤ f m) at (all (suc d) (omega arith) here)) in
    let here : once (eqb e.target t && eqb (f k) 0) ≡ 0 =
    dite (ℕ_discrete e.target t)
    (λ s. let at : k + 0 ≡ k = omega arith in let one : 1 ≤ f k = subst (λ (m : ℕ). 1 ≤ f m) at (all 0 (omega arith) s) in weight_more (eqb e.target t) (f k) (λ z. omega arith))
    (λ n. ap (λ (b : Bool). once (b && eqb (f k) 0)) (ne_eqb e.target t n)) in
    omega arith

length-front : (b : Bool) (n : ℕ) (xs : List ℕ) → length (cond b (n ∷ xs) xs) ≡ once b + length xs
length-front true n xs = omega arith
length-front false n xs = omega arith

-- at the start every edge is missing
pub missing_all : (t k : ℕ) (es : List Edge) (f : ℕ → ℕ) → ((j : ℕ) → f j ≡ 0) → missing t k es f ≡ length (places_from k t (map (λ x. x.target) es))
missing_all t k [] f none = refl
missing_all t k (e ∷ es) f none =
    let z = weight_zero (eqb e.target t) (f k) (none k) in
    let at : suc k ≡ k + 1 = omega arith in
    let ih = missing_all t (suc k) es f none in
    let l = length-front (eqb e.target t) k (places_from (k + 1) t (map (λ x. x.target) es)) in
    let same : length (places_from (suc k) t (map (λ x. x.target) es)) ≡ length (places_from (k + 1) t (map (λ x. x.target) es)) = ap (λ (m : ℕ). length (places_from m t (map (λ x. x.target) es))) at in
    omega arith

pub set_self : (xs : List ℕ) (i : ℕ) → set xs i (get_or xs i 0) ≡ xs
set_self [] i = refl
set_self (x ∷ xs) zero = refl
set_self (x ∷ xs) (suc i) = ap (λ (ys : List ℕ). x ∷ ys) (set_self xs i)
