-- Each step of a counter keeps its rule.
use Rattle.std.proofs.Common.{◌≡◌, ℕ, ◌+◌, ◌-◌, ◌*◌, ◌%◌, ◌^◌, ◌<◌, ◌≤◌, Bool, true, false, cond, leb, ltb, List, [], ◌∷◌, ◌++◌, length, get_or, set, refl, sym, ap, ◌∙◌, subst, ⊎_elim, arith}
use Rattle.std.proofs.lemmas.Bool.Decides.{nat_tests}
use Rattle.std.proofs.lemmas.List.{length-set, get_or-set_same}
use Rattle.std.proofs.lemmas.List.Elements.{All-nil, All-head, All-tail, All-append, All-push, All-weaker}
use Rattle.std.specs.List.{All}
use mathlib.Core.Option.{none, some, some-injective, some-ne-none}
use lib.ListN.{get_elem?}
use Rattle.atomic_table.specs.Table.{State, Me, step, keeps, stepped, Allows, Splits, Joins, Final, Seen}
use Rattle.atomic_table.proofs.Lists.{at_set, at_snoc, set_else}
use Rattle.correlation_claims.specs.declared.asks.Ask.{Ask}
use Rattle.correlation_claims.specs.declared.counter.Hand.{Hand}
use Rattle.correlation_claims.specs.declared.counter.Stock.{Stock}
use Rattle.correlation_claims.specs.Asks.{ask, once, covers, count_all, count_refused, refusals_in}
use Rattle.correlation_claims.specs.Lawful.{AreLawful}
use Rattle.correlation_claims.specs.Steps.{hand, total, Fits, Lawful, more, together, claimed}
use Rattle.correlation_claims.proofs.Counts.{covers-append, count_all-append, count_refused-append, refusals_in-append, once_more}
use Rattle.correlation_claims.proofs.Totals.{total-set, total-snoc, one_le, total-le, total_only}

abbrev St : Type 0
St = State (Unit {0}) Hand

abbrev Sized : Ask → Type 0
Sized a = (1 ≤ a.count) × (a.count < 2 ^ 32)

-- ---- the word stays small

one_refused : (b : Bool) (n : ℕ) → n < 4294967296 → cond b 0 n ≤ 4294967296 * cond b 0 1
one_refused true n less = omega arith
one_refused false n less = omega arith

count_refused-le : (stock : ℕ) (xs : List Ask) → All Sized xs → count_refused stock xs ≤ 4294967296 * refusals_in stock xs
count_refused-le stock [] sizes = omega arith
count_refused-le stock (a ∷ xs) sizes =
    let here = one_refused (leb (a.before + a.count) stock) a.count ((All-head Sized a xs sizes).1) in
    let r = count_refused-le stock xs (All-tail Sized a xs sizes) in omega arith

word-le : (key : Stock) (s : St) → Lawful key s → get_or s.words 0 0 ≤ key.stock + 4294967296 * key.seats
word-le key s r =
    let t = total-le (λ v. count_refused key.stock v.asks) (λ v. v.parts) 4294967296 s.views (λ i v at. let fit = r.each i v at in let le = count_refused-le key.stock v.asks fit.sizes in let few = fit.few in omega arith) in
    let small = r.small in let parts = r.parts in omega arith

-- ---- an ask

length-le : (xs : List Ask) → All Sized xs → length xs ≤ count_all xs
length-le [] sizes = omega arith
length-le (a ∷ xs) sizes =
    let here = (All-head Sized a xs sizes).0 in let r = length-le xs (All-tail Sized a xs sizes) in omega arith

more_refused : (n k stock t : ℕ) → n ≤ stock + t → n + k ≤ stock + (t + cond (leb (n + k) stock) 0 k)
more_refused n k stock t le = grind (arith, nat_tests)

at_most_one : (b : Bool) → cond b 0 1 ≤ 1
at_most_one true = omega arith
at_most_one false = omega arith

module _ (key : Stock) where
  -- the view after an ask fits
  fits_more : (v : Hand) (job n k : ℕ) → Fits key v → 0 < v.parts → refusals_in v.stock v.asks ≡ 0 → 1 ≤ k → k < 2 ^ 32 → Fits key (more v job n k)
  fits_more v job n k fit has_part open_yet least most =
      let none_yet : refusals_in key.stock v.asks ≡ 0 = subst (λ z. refusals_in z v.asks ≡ 0) (fit.stock has_part) open_yet in
      let split = refusals_in-append key.stock v.asks (ask job n k ∷ []) in let one = at_most_one (leb (n + k) key.stock) in record {
        stock = fit.stock;
        sizes = All-push Sized v.asks (ask job n k) fit.sizes (least, most);
        few = omega arith;
        idle = λ none. absurd (omega arith);
      }

  asked : (s : St) (r : Lawful key s) (id : ℕ) (v : Hand) (rest : List (ℕ × Unit {0})) (job k : ℕ) → get_elem? s.views id ≡ some v → Fits key (more v job (get_or s.words 0 0) k)
      → Lawful key (stepped s 0 (get_or s.words 0 0 + k) id rest (more v job (get_or s.words 0 0) k) keeps)
  asked s r id v rest job k at fit =
      let n : ℕ = get_or s.words 0 0 in let a : Ask = ask job n k in let w : Hand = more v job n k in
      let wide : length s.words ≡ 1 = r.wide in let here : get_or (set s.words 0 (n + k)) 0 0 ≡ n + k = get_or-set_same s.words 0 (n + k) 0 (omega arith) in record {
        wide = length-set s.words 0 (n + k) ∙ wide;
        limits = r.limits;
        covered = λ x. rw here (let t = total-set (λ u. covers x u.asks) s.views id v w at in let c = r.covered x in let l = covers-append x v.asks (a ∷ []) in let o = once_more x n k in omega arith);
        summed = rw here (let t = total-set (λ u. count_all u.asks) s.views id v w at in let c = r.summed in let l = count_all-append v.asks (a ∷ []) in omega arith);
        small = rw here (let t = total-set (λ u. count_refused key.stock u.asks) s.views id v w at in let l = count_refused-append key.stock v.asks (a ∷ []) in
            let m = more_refused n k key.stock (total (λ u. count_refused key.stock u.asks) s.views) r.small in omega arith);
        parts = let t = total-set (λ u. u.parts) s.views id v w at in let p = r.parts in omega arith;
        each = λ j u at'. ⊎_elim (λ e. subst (Fits key) e.1 fit) (λ e. r.each j u e.1) (at_set s.views id j w u at');
      }

  pub claims : (slots id : ℕ) (me : Me (Unit {0}) Hand) (job k : ℕ) → 0 < me.0.parts → refusals_in me.0.stock me.0.asks ≡ 0 → 1 ≤ k → k < 2 ^ 32
      → Allows (Lawful key) slots id me 0 (λ n. (n + k) % 2 ^ 64) (claimed job (step slots 0 k 0 none) me)
  claims slots id me job k has_part open_yet least most s r _ at _ =
      let n : ℕ = get_or s.words 0 0 in let w : Hand = more me.0 job n k in let le = word-le key s r in let lim = r.limits in
      let fits : n + k < 18446744073709551616 = omega arith in let same : n + k ≡ (n + k) % 18446744073709551616 = omega arith in (
        w,
        keeps,
        tt,
        subst (λ (z : ℕ). Lawful key (stepped s 0 z id me.1 w keeps)) same (asked s r id me.0 me.1 job k at (fits_more me.0 job n k (r.each id me.0 at) has_part open_yet least most)),
        (refl, fits, (let own = one_le (λ u. count_all u.asks) s.views id me.0 at in let sum = r.summed in let l = length-le me.0.asks (r.each id me.0 at).sizes in omega arith)),
      )

  -- ---- seats

  pub splits : (id : ℕ) (v : Hand) → 1 < v.parts → v.asks ≡ [] → Splits (Lawful key) id v (hand v.stock (v.parts - 1) v.asks) (hand v.stock 1 [])
  splits id v parts fresh s r at =
      let left : Hand = hand v.stock (v.parts - 1) v.asks in let right : Hand = hand v.stock 1 [] in let fit = r.each id v at in
      let moved = λ (f : Hand → ℕ) (same : f left ≡ f v) (none : f right ≡ 0). let t = total-set f s.views id v left at in let t' = total-snoc f (set s.views id left) right in let e : total f (set s.views id left ++ right ∷ []) ≡ total f s.views = omega arith in e in record {
        wide = r.wide;
        limits = r.limits;
        covered = λ x. moved (λ u. covers x u.asks) refl refl ∙ r.covered x;
        summed = moved (λ u. count_all u.asks) refl refl ∙ r.summed;
        small = let m = moved (λ u. count_refused key.stock u.asks) refl refl in let small = r.small in omega arith;
        parts = let t = total-set (λ u. u.parts) s.views id v left at in let t' = total-snoc (λ u. u.parts) (set s.views id left) right in let p = r.parts in omega arith;
        each = λ j u at'. ⊎_elim
            (λ in_front. ⊎_elim
            (λ e. subst (Fits key) e.1 record {
              stock = λ _. fit.stock (omega arith);
              sizes = fit.sizes;
              few = subst (λ xs. refusals_in key.stock xs ≤ v.parts - 1) (sym fresh) (omega arith);
              idle = λ _. fresh;
            })
            (λ e. r.each j u e.1)
            (at_set s.views id j left u in_front))
            (λ e. subst (Fits key) e record { stock = λ _. fit.stock (omega arith); sizes = All-nil Sized; few = omega arith; idle = λ _. refl })
            (at_snoc (set s.views id left) right u j at');
      }

  pub joins : (id : ℕ) (v : Hand) (other : ℕ) (w : Hand) → 0 < v.parts → Joins (Lawful key) id v other w (together v w) (hand 0 0 [])
  joins id v other w has_part s r at apart at' =
      let both : Hand = together v w in let spent : Hand = hand 0 0 [] in let fit = r.each id v at in
      let there : get_elem? s.views other ≡ some w = sym (set_else s.views id other both apart) ∙ at' in let fit' = r.each other w there in
      let moved = λ (f : Hand → ℕ) (adds : f both ≡ f w + f v) (none : f spent ≡ 0). let t = total-set f s.views id v both at in let t' = total-set f (set s.views id both) other w spent at' in let e : total f (set (set s.views id both) other spent) ≡ total f s.views = omega arith in e in record {
        wide = r.wide;
        limits = r.limits;
        covered = λ x. moved (λ u. covers x u.asks) (covers-append x w.asks v.asks) refl ∙ r.covered x;
        summed = moved (λ u. count_all u.asks) (count_all-append w.asks v.asks) refl ∙ r.summed;
        small = let m = moved (λ u. count_refused key.stock u.asks) (count_refused-append key.stock w.asks v.asks) refl in let small = r.small in omega arith;
        parts = moved (λ u. u.parts) (omega arith) refl ∙ r.parts;
        each = λ j u at''. ⊎_elim
            (λ e. subst (Fits key) e.1 record { stock = λ none. absurd (omega arith); sizes = All-nil Sized; few = omega arith; idle = λ _. refl })
            (λ e. ⊎_elim
            (λ e'. subst (Fits key) e'.1 record {
              stock = λ _. fit.stock has_part;
              sizes = All-append Sized w.asks v.asks fit'.sizes fit.sizes;
              few = let l = refusals_in-append key.stock w.asks v.asks in let few = fit.few in let few' = fit'.few in omega arith;
              idle = λ none. absurd (omega arith);
            })
            (λ e'. r.each j u e'.1)
            (at_set s.views id j both u e.1))
            (at_set (set s.views id both) other j spent u at'');
      }

  -- ---- the end

  first-is : (ws : List ℕ) (x : ℕ) → get_elem? ws 0 ≡ some x → get_or ws 0 0 ≡ x
  first-is [] x at = absurd (some-ne-none x (sym at))
  first-is (w ∷ ws) x at = some-injective w x at

  pub closes : (ws : List ℕ) (xs : List (Unit {0})) (id : ℕ) (v : Hand) (x : ℕ) → Final (Seen (Lawful key) id v) ws xs → v.parts ≡ key.seats → get_elem? ws 0 ≡ some x
      → AreLawful v.asks × (x ≡ count_all v.asks)
  closes ws xs id v x end all found =
      let s : St = end.0 in let r : Lawful key s = end.1.0 in let at : get_elem? s.views id ≡ some v = end.1.1 in
      let only = λ (f : Hand → ℕ) (idle : (u : Hand) → u.asks ≡ [] → f u ≡ 0). total_only f (λ u. u.parts) s.views id v (λ j u at'. λ none. idle u ((r.each j u at').idle none)) at (r.parts ∙ sym all) in
      let counted : get_or s.words 0 0 ≡ count_all v.asks = sym r.summed ∙ only (λ u. count_all u.asks) (λ u none. ap count_all none) in (
        record {
          some = All-weaker Sized (λ a. 1 ≤ a.count) (λ a sized. sized.0) v.asks (r.each id v at).sizes;
          covered = λ y. sym (only (λ u. covers y u.asks) (λ u none. ap (covers y) none)) ∙ r.covered y ∙ ap (λ z. once (ltb y z)) counted;
        },
        sym (first-is ws x found) ∙ ap (λ zs. get_or zs 0 0) (sym end.2) ∙ counted,
      )
