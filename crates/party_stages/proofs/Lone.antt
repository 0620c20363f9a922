-- A graph of items without edges between them.
use Rattle.std.proofs.Common.{◌≡◌, ◌⊎◌, ℕ, zero, suc, ◌+◌, ◌<◌, ◌≤◌, Bool, true, false, cond, List, [], ◌∷◌, ◌++◌, length, map, get_or, Option, Some, None, inl, inr, refl, sym, ap, ap₂, ◌∙◌, arith}
use Rattle.std.specs.Prelude.{◌==◌, ◌&&◌, ◌||◌, not, nat_lt, nat_le, slice_get}
use Rattle.std.specs.List.{All, AllByRecursion, position}
use Rattle.std.proofs.lemmas.Bool.{cases_lt, lt-ltb, ltb-true, false≢true, eq-eqb, ne_eqb}
use Rattle.std.proofs.lemmas.List.{map-append}
use Rattle.std.proofs.lemmas.List.Elements.{All-from_recursion}
use Rattle.std.proofs.lemmas.List.Quantifiers.{position-Some}
use Rattle.std.proofs.lemmas.Option.{get_or_from_slice_get}
use Rattle.mot_base.specs.Limits.{most_gates}
use Rattle.share_types.specs.Sums.{each}
use Rattle.share_types.proofs.Parties.{length-each}
use Rattle.turn_core.specs.declared.edge.Edge.{Edge}
use Rattle.turn_core.specs.declared.edge.TheConstants.{OUTSIDE, TERMINAL}
use Rattle.turn_core.specs.Graph.{sources, source, places, places_from, outgoing, has_bad_end, goes_back, first_bad_end, first_back}
use Rattle.task_pool.specs.Meanings.{AreMeanings, HasNoOutside}
use Rattle.plan_gates.proofs.NeedsLemmas.{slice_get-each}
use Rattle.party_stages.specs.Scene.{lone_items}

abbrev edge : ℕ → Edge
edge k = record { source = k; target = TERMINAL }

-- ---- the edge of an item

places_append : (first k : ℕ) (xs ys : List ℕ) → places_from first k (xs ++ ys) ≡ places_from first k xs ++ places_from (first + length xs) k ys
places_append first k [] ys = ap (λ n. places_from n k ys) (omega arith)
places_append first k (x ∷ xs) ys =
    let rest = places_append (first + 1) k xs ys in
    let far : first + 1 + length xs ≡ first + suc (length xs) = omega arith in
    by (x == k) (rest ∙ ap (λ n. places_from (first + 1) k xs ++ places_from n k ys) far)
  where
    by : (b : Bool) → places_from (first + 1) k (xs ++ ys) ≡ places_from (first + 1) k xs ++ places_from (first + suc (length xs)) k ys →
        cond b (first ∷ places_from (first + 1) k (xs ++ ys)) (places_from (first + 1) k (xs ++ ys)) ≡ cond b (first ∷ places_from (first + 1) k xs) (places_from (first + 1) k xs) ++ places_from (first + suc (length xs)) k ys
    by true e = ap (λ zs. first ∷ zs) e
    by false e = e

last_place : (n k : ℕ) → places k (each (suc n) (λ i. i)) ≡ places k (each n (λ i. i)) ++ cond (n == k) (n ∷ []) []
last_place n k =
    let far : 0 + length (each n (λ i. i)) ≡ n = let long = length-each n (λ i. i) in omega (arith, long) in
    places_append 0 k (each n (λ i. i)) (n ∷ [])
    ∙ ap (λ m. places k (each n (λ i. i)) ++ places_from m k (n ∷ [])) far

no_place : (n k : ℕ) → n ≤ k → places k (each n (λ i. i)) ≡ []
no_place zero k h = refl
no_place (suc n) k h =
    let other : (n == k) ≡ false = ne_eqb n k (λ same. omega (arith, h, same)) in
    last_place n k ∙ ap₂ (λ xs b. xs ++ cond b (n ∷ []) []) (no_place n k (omega (arith, h))) other

one_place : (n k : ℕ) → k < n → places k (each n (λ i. i)) ≡ k ∷ []
one_place zero k h = absurd (omega (arith, h))
one_place (suc n) k h = by (cases_lt k n) (one_place n k)
  where
    by : (k < n) ⊎ (n ≤ k) → (k < n → places k (each n (λ i. i)) ≡ k ∷ []) → places k (each (suc n) (λ i. i)) ≡ k ∷ []
    by (inl small) before =
        let other : (n == k) ≡ false = ne_eqb n k (λ same. omega (arith, small, same)) in
        last_place n k ∙ ap₂ (λ xs b. xs ++ cond b (n ∷ []) []) (before small) other
    by (inr large) before =
        let same : n ≡ k = omega (arith, h, large) in
        last_place n k ∙ ap₂ (λ xs b. xs ++ cond b (n ∷ []) []) (no_place n k large) (eq-eqb n k same) ∙ ap (λ m. m ∷ []) same

sources_each : (n : ℕ) → map (λ (e : Edge). e.source) (each n edge) ≡ each n (λ k. k)
sources_each zero = refl
sources_each (suc n) = map-append (λ (e : Edge). e.source) (each n edge) (edge n ∷ []) ∙ ap (λ xs. xs ++ n ∷ []) (sources_each n)

pub one_edge : (n item : ℕ) → item < n → outgoing (lone_items n) item ≡ item ∷ []
one_edge n item inside = ap (places item) (sources_each n) ∙ one_place n item inside

pub none_outside : (n : ℕ) → n ≤ most_gates → HasNoOutside (lone_items n)
none_outside n few e inside same =
    let long = length-each n edge in
    let at : slice_get (sources (lone_items n)) e ≡ Some e = ap (λ xs. slice_get xs e) (sources_each n) ∙ slice_get-each n (λ k. k) e (omega (arith, inside, long)) in
    let is : source (lone_items n) e ≡ e = get_or_from_slice_get (sources (lone_items n)) e e OUTSIDE at in
    omega (arith, few, is, same, inside, long)

-- ---- no edge is refused

fine_end : (n k : ℕ) → k < n → has_bad_end n (edge k) ≡ false
fine_end n k h = let inside : nat_lt k n ≡ true = lt-ltb k n h in rw inside (by (nat_lt TERMINAL n))
  where
    by : (b : Bool) → not (b || true) ≡ false
    by true = refl
    by false = refl

fine_way : (n k : ℕ) → n ≤ most_gates → goes_back n (edge k) ≡ false
fine_way n k few = by (nat_lt TERMINAL n) refl (nat_lt k n)
  where
    by : (b : Bool) → nat_lt TERMINAL n ≡ b → (c : Bool) → (c && (b && nat_le TERMINAL k)) ≡ false
    by false e true = refl
    by false e false = refl
    by true e false = refl
    by true e true = absurd (let less : TERMINAL < n = ltb-true TERMINAL n e in omega (arith, few, less))

fails_at : (test : Edge → Bool) (n : ℕ) → ((k : ℕ) → k < n → test (edge k) ≡ false) → (o : Option ℕ) → position test (each n edge) ≡ o → o ≡ None
fails_at test n fails None e = refl
fails_at test n fails (Some k) e =
    let found = position-Some test (each n edge) k (edge 0) e in
    let long = length-each n edge in
    let inside : k < n = omega (arith, found.0, long) in
    let is : get_or (each n edge) k (edge 0) ≡ edge k = get_or_from_slice_get (each n edge) k (edge k) (edge 0) (slice_get-each n edge k inside) in
    absurd (false≢true (sym (ap test is ∙ fails k inside) ∙ found.1))

pub never_bad : (n items : ℕ) (edges : List Edge) (e : ℕ) → n ≡ items → edges ≡ each n edge → first_bad_end items edges ≡ Some e → ⊥
never_bad n items edges e many are found =
    let none : first_bad_end n (each n edge) ≡ None = fails_at (has_bad_end n) n (fine_end n) (first_bad_end n (each n edge)) refl in
    let contrary : Some e ≡ None = sym found ∙ ap₂ (λ m es. first_bad_end m es) (sym many) are ∙ none in
    cc

pub never_back : (n items : ℕ) (edges : List Edge) (e : ℕ) → n ≡ items → n ≤ most_gates → edges ≡ each n edge → first_back items edges ≡ Some e → ⊥
never_back n items edges e many few are found =
    let none : first_back n (each n edge) ≡ None = fails_at (goes_back n) n (λ k inside. fine_way n k few) (first_back n (each n edge)) refl in
    let contrary : Some e ≡ None = sym found ∙ ap₂ (λ m es. first_back m es) (sym many) are ∙ none in
    cc

-- ---- what came to the end

means_all : {E : Type 0} (P : E → Type 0) (es : List ℕ) (vs : List E) → AreMeanings (λ _ v. P v) es vs → AllByRecursion P vs
means_all P [] [] all = tt
means_all P [] (v ∷ vs) all = absurd all
means_all P (e ∷ es) [] all = absurd all
means_all P (e ∷ es) (v ∷ vs) all = (all.0, means_all P es vs all.1)

pub all_mean : {E : Type 0} (P : E → Type 0) (es : List ℕ) (vs : List E) → AreMeanings (λ _ v. P v) es vs → All P vs
all_mean P es vs all = All-from_recursion P vs (means_all P es vs all)
