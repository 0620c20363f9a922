-- Seats that are made from a bench, and that are gathered in one, from the last to the first.
use Rattle.std.proofs.Common.{◌≡◌, ℕ, ◌+◌, List, [], ◌∷◌, ◌++◌, length, None, refl, sym, ap, ◌∙◌, append_assoc, append-nil, length-append}
use Rattle.share_types.specs.declared.needs.Kind.{Kind}
use Rattle.share_types.specs.declared.needs.Kind.TheVariants.{Mult, Bit, Shared, Key}
use Rattle.correlation_claims.specs.declared.asks.Ask.{Ask}
use Rattle.correlation_claims.specs.declared.claims.Bench.{Bench}
use Rattle.correlation_claims.specs.declared.claims.ClaimSeat.{ClaimSeat}
use Rattle.correlation_claims.specs.declared.claims.Claims.{Claims}
use Rattle.correlation_claims.specs.Places.{IsPlaceOf, IsChairOf}
use Rattle.correlation_claims.specs.Seats.{EachKind, counter_at, place_at, chair_at, asks_of, refusal_of, all_asks, IsSeatOf, IsNew, IsBenchOf, parts_of, bench_asks}

pub each : (P : Kind → Type 0) → ((kind : Kind) → P kind) → EachKind P
each P h = record { mult = h Mult; bit = h Bit; shared = h Shared; key = h Key }

pub at : (P : Kind → Type 0) → EachKind P → (kind : Kind) → P kind
at P h Mult = h.mult
at P h Bit = h.bit
at P h Shared = h.shared
at P h Key = h.key

pub all_asks-snoc : (kind : Kind) (seats : List ClaimSeat) (s : ClaimSeat) → all_asks kind (seats ++ s ∷ []) ≡ all_asks kind seats ++ asks_of s kind
all_asks-snoc kind [] s = append-nil (asks_of s kind)
all_asks-snoc kind (t ∷ seats) s =
    ap (λ xs. asks_of t kind ++ xs) (all_asks-snoc kind seats s) ∙ sym (append_assoc (asks_of t kind) (all_asks kind seats) (asks_of s kind))

pub length-snoc : {X : Type 0} (ys xs : List X) (x : X) → ys ≡ xs ++ x ∷ [] → length ys ≡ length xs + 1
length-snoc ys xs x e = ap length e ∙ length-append xs (x ∷ [])

module _ (claims : Claims) where
  pub is_seat : (bench : Bench) (seat : ClaimSeat) → IsBenchOf claims 1 (λ _. []) bench → EachKind (λ kind. ((place_at seat kind).seat ≡ chair_at bench kind) × ((place_at seat kind).refused ≡ None)) → IsSeatOf claims seat
  is_seat bench seat b e = each (λ kind. IsPlaceOf (counter_at claims kind) (place_at seat kind)) (λ kind.
      let chair = at (λ k. IsChairOf (counter_at claims k) 1 [] (chair_at bench k)) b kind in let is = (at (λ k. ((place_at seat k).seat ≡ chair_at bench k) × ((place_at seat k).refused ≡ None)) e kind).0 in
      (ap (λ c. c.table_id) is ∙ chair.table, ap (λ c. c.me.0.stock) is ∙ chair.stock))

  pub is_new : (bench : Bench) (seat : ClaimSeat) → IsBenchOf claims 1 (λ _. []) bench → EachKind (λ kind. ((place_at seat kind).seat ≡ chair_at bench kind) × ((place_at seat kind).refused ≡ None)) → IsNew seat
  is_new bench seat b e = each (λ kind. (asks_of seat kind ≡ []) × (refusal_of seat kind ≡ None)) (λ kind.
      let chair = at (λ k. IsChairOf (counter_at claims k) 1 [] (chair_at bench k)) b kind in let is = at (λ k. ((place_at seat k).seat ≡ chair_at bench k) × ((place_at seat k).refused ≡ None)) e kind in
      (ap (λ c. c.me.0.asks) is.0 ∙ chair.has_asks, is.1))

  -- a bench that was a seat
  pub is_bench : (seat : ClaimSeat) (bench : Bench) → IsSeatOf claims seat → EachKind (λ kind. chair_at bench kind ≡ (place_at seat kind).seat) → IsBenchOf claims 1 (asks_of seat) bench
  is_bench seat bench s e = each (λ kind. IsChairOf (counter_at claims kind) 1 (asks_of seat kind) (chair_at bench kind)) (λ kind.
      let place = at (λ k. IsPlaceOf (counter_at claims k) (place_at seat k)) s kind in let is = at (λ k. chair_at bench k ≡ (place_at seat k).seat) e kind in record {
        table = ap (λ c. c.table_id) is ∙ place.0;
        stock = ap (λ c. c.me.0.stock) is ∙ place.1;
        has_parts = ap (λ c. c.me.0.parts) is ∙ (place_at seat kind).one_part;
        has_asks = ap (λ c. c.me.0.asks) is;
        no_slot = ap (λ c. c.me.1) is ∙ (place_at seat kind).no_slot;
      })

  -- the bench as its own chairs say
  pub own : (n : ℕ) (asks : Kind → List Ask) (bench : Bench) → IsBenchOf claims n asks bench → IsBenchOf claims (parts_of bench) (bench_asks bench) bench
  own n asks bench b = each (λ kind. IsChairOf (counter_at claims kind) (parts_of bench) (bench_asks bench kind) (chair_at bench kind)) (λ kind.
      let chair = at (λ k. IsChairOf (counter_at claims k) n (asks k) (chair_at bench k)) b kind in record {
        table = chair.table;
        stock = chair.stock;
        has_parts = chair.has_parts ∙ sym b.mult.has_parts;
        has_asks = refl;
        no_slot = chair.no_slot;
      })

  -- the asks of the first seat that is gathered
  pub first_asks : (n : ℕ) (bench : Bench) (seats rest : List ClaimSeat) (s : ClaimSeat) → IsBenchOf claims n (asks_of s) bench → seats ≡ rest ++ s ∷ [] → EachKind (λ kind. all_asks kind rest ++ bench_asks bench kind ≡ all_asks kind seats)
  first_asks n bench seats rest s b e = each (λ kind. all_asks kind rest ++ bench_asks bench kind ≡ all_asks kind seats) (λ kind.
      ap (λ xs. all_asks kind rest ++ xs) (at (λ k. IsChairOf (counter_at claims k) n (asks_of s k) (chair_at bench k)) b kind).has_asks ∙ sym (ap (all_asks kind) e ∙ all_asks-snoc kind rest s))

  -- one seat more is gathered
  pub more_asks : (n : ℕ) (old new : Bench) (all seats rest : List ClaimSeat) (s : ClaimSeat) → IsBenchOf claims n (λ kind. asks_of s kind ++ bench_asks old kind) new → seats ≡ rest ++ s ∷ []
      → EachKind (λ kind. all_asks kind seats ++ bench_asks old kind ≡ all_asks kind all) → EachKind (λ kind. all_asks kind rest ++ bench_asks new kind ≡ all_asks kind all)
  more_asks n old new all seats rest s b e so_far = each (λ kind. all_asks kind rest ++ bench_asks new kind ≡ all_asks kind all) (λ kind.
      ap (λ xs. all_asks kind rest ++ xs) (at (λ k. IsChairOf (counter_at claims k) n (asks_of s k ++ bench_asks old k) (chair_at new k)) b kind).has_asks
      ∙ sym (append_assoc (all_asks kind rest) (asks_of s kind) (bench_asks old kind))
      ∙ ap (λ xs. xs ++ bench_asks old kind) (sym (ap (all_asks kind) e ∙ all_asks-snoc kind rest s))
      ∙ at (λ k. all_asks k seats ++ bench_asks old k ≡ all_asks k all) so_far kind)
