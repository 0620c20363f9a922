-- Asks that are lawful do not meet.
use Rattle.std.proofs.Common.{◌≡◌, ℕ, suc, ◌+◌, ◌<◌, ◌≤◌, ◌^◌, true, ltb, List, [], ◌∷◌, get_or, refl, sym, ap, ◌∙◌, arith}
use Rattle.std.proofs.lemmas.List.Elements.{All-nil, All-append, All-weaker}
use Rattle.std.specs.List.{All, Contains}
use mathlib.Core.Option.{some}
use lib.ListN.{get_elem?}
use Rattle.atomic_table.proofs.Lists.{at_index}
use Rattle.share_types.specs.declared.needs.Kind.{Kind}
use Rattle.correlation_claims.specs.declared.asks.Ask.{Ask}
use Rattle.correlation_claims.specs.declared.claims.ClaimSeat.{ClaimSeat}
use Rattle.correlation_claims.specs.declared.counter.Hand.{Hand}
use Rattle.correlation_claims.specs.declared.counter.Stock.{Stock}
use Rattle.correlation_claims.specs.Asks.{once, has, covers, count_all}
use Rattle.correlation_claims.specs.Laws.{view_asks, RuleIsLawful, ViewsDoNotMeet, AsksDoNotMeet, SeatsDoNotMeet}
use Rattle.correlation_claims.specs.Seats.{asks_of, all_asks}
use Rattle.correlation_claims.specs.Steps.{total, Fits}
use Rattle.correlation_claims.proofs.Counts.{covers-append, count_all-append, at_most_one}
use Rattle.correlation_claims.proofs.Totals.{one_le, two_le}

covers-total : (x : ℕ) (xs : List Ask) → covers x xs ≡ total (λ a. once (has a x)) xs
covers-total x [] = refl
covers-total x (a ∷ xs) = ap (λ n. once (has a x) + n) (covers-total x xs)

covers-views : (x : ℕ) (vs : List Hand) → covers x (view_asks vs) ≡ total (λ v. covers x v.asks) vs
covers-views x [] = refl
covers-views x (v ∷ vs) = covers-append x v.asks (view_asks vs) ∙ ap (λ n. covers x v.asks + n) (covers-views x vs)

count_all-views : (vs : List Hand) → count_all (view_asks vs) ≡ total (λ v. count_all v.asks) vs
count_all-views [] = refl
count_all-views (v ∷ vs) = count_all-append v.asks (view_asks vs) ∙ ap (λ n. count_all v.asks + n) (count_all-views vs)

covers-seats : (x : ℕ) (kind : Kind) (ss : List ClaimSeat) → covers x (all_asks kind ss) ≡ total (λ s. covers x (asks_of s kind)) ss
covers-seats x kind [] = refl
covers-seats x kind (s ∷ ss) = covers-append x (asks_of s kind) (all_asks kind ss) ∙ ap (λ n. covers x (asks_of s kind) + n) (covers-seats x kind ss)

some-views : (key : Stock) (vs : List Hand) → ((i : ℕ) (v : Hand) → get_elem? vs i ≡ some v → Fits key v) → All (λ a. 1 ≤ a.count) (view_asks vs)
some-views key [] fit = All-nil (λ a. 1 ≤ a.count)
some-views key (v ∷ vs) fit =
    All-append (λ a. 1 ≤ a.count) v.asks (view_asks vs)
    (All-weaker (λ a. (1 ≤ a.count) × (a.count < 2 ^ 32)) (λ a. 1 ≤ a.count) (λ a sized. sized.0) v.asks (fit 0 v refl).sizes)
    (some-views key vs (λ i w at. fit (suc i) w at))

pub rule_is_lawful : RuleIsLawful
rule_is_lawful key s r =
    let sum = count_all-views s.views ∙ r.summed in (
      record {
        some = some-views key s.views r.each;
        covered = λ x. covers-views x s.views ∙ r.covered x ∙ ap (λ n. once (ltb x n)) (sym sum);
      },
      sum,
    )

-- a place that lies in an ask of the list is covered
covered_there : (x : ℕ) (xs : List Ask) (a : Ask) → Contains xs a → has a x ≡ true → 1 ≤ covers x xs
covered_there x xs a there in_a =
    let le = one_le (λ b. once (has b x)) xs there.0 a (at_index xs there.0 a there.1 (sym there.2)) in
    let one : once (has a x) ≡ 1 = ap once in_a in let same = covers-total x xs in omega arith

pub asks_do_not_meet : AsksDoNotMeet
asks_do_not_meet xs lawful i j a b apart at at' x both =
    let le = two_le (λ c. once (has c x)) xs i j a b apart at at' in let one : once (has a x) ≡ 1 = ap once both.0 in let one' : once (has b x) ≡ 1 = ap once both.1 in
    let same = covers-total x xs in let c = lawful.covered x in let most = at_most_one (ltb x (count_all xs)) in absurd (omega arith)

pub views_do_not_meet : ViewsDoNotMeet
views_do_not_meet key s r i j v w apart at at' a b there there' x both =
    let le = two_le (λ u. covers x u.asks) s.views i j v w apart at at' in let one = covered_there x v.asks a there both.0 in let one' = covered_there x w.asks b there' both.1 in
    let c = r.covered x in let most = at_most_one (ltb x (get_or s.words 0 0)) in absurd (omega arith)

pub seats_do_not_meet : SeatsDoNotMeet
seats_do_not_meet kind ss lawful i j s t apart at at' a b there there' x both =
    let le = two_le (λ u. covers x (asks_of u kind)) ss i j s t apart at at' in let one = covered_there x (asks_of s kind) a there both.0 in let one' = covered_there x (asks_of t kind) b there' both.1 in
    let same = covers-seats x kind ss in let c = lawful.covered x in let most = at_most_one (ltb x (count_all (all_asks kind ss))) in absurd (omega arith)
