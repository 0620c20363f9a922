-- The gates of a circuit's input wires.
use Rattle.std.proofs.Common.{ℕ, suc, ◌≡◌, ◌<◌, ◌≤◌, ◌+◌, ◌-◌, ◌*◌, ◌/◌, ◌%◌, ◌^◌, Bool, true, false, List, [], ◌∷◌, ◌++◌, length, map, take, get_or, Some, inl, inr, refl, sym, ◌∙◌, ap, subst, arith}
use Rattle.std.specs.Prelude.{slice_get, slice_index, sum}
use Rattle.std.specs.List.{flat_map, AllByRecursion}
use Rattle.std.proofs.Math.ListN.{get_or-append}
use Rattle.std.proofs.Math.Nat.{mod-lt}
use Rattle.std.proofs.lemmas.Bool.{cases_lt}
use Rattle.std.proofs.lemmas.List.{length-append, get_or-append-add, drop_more}
use Rattle.std.proofs.lemmas.List.Sums.{sum_by-cons}
use Rattle.mot_base.proofs.Lists.{inside_of, before_at, behind_at, all_append, cons_same}
use Rattle.share_types.specs.Bits.{once, number}
use Rattle.share_types.proofs.BitsLemmas.{number-cut}
use Rattle.plan_gates.specs.Gate.{Gate}
use Rattle.plan_gates.specs.Plan.{Gates}
use Rattle.gate_plan.specs.Blocks.{single, entered, Stand}
use Rattle.gate_plan.specs.Bristol.{gates_of_end, entry_wire, value_gates, input_gates}
use Rattle.gate_plan.proofs.NumberLemmas.{IsSilent}
use Rattle.gate_plan.proofs.StandLemmas.{AllGates, all_none, all_both, length_row, stand_row, all_row}
use Rattle.gate_plan.proofs.BlockLemmas.{entered_fits, entered_silent}
use Rattle.gate_plan.proofs.BristolBitLemmas.{entered_size, silent_row}

-- ---- how many they are, and that they tell nothing

pub length_value : (keys : Bool) (n party k width : ℕ) → length (value_gates keys n party k width) ≡ gates_of_end keys * width
length_value keys n party k width =
    length_row (gates_of_end keys) width (λ at. (entered keys (n + gates_of_end keys * at) 1 party k at).gates)
    (λ at. entered_size keys (n + gates_of_end keys * at) 1 party k at)

pub length_inputs : (keys : Bool) (parties n k : ℕ) (widths : List ℕ) →
    length (input_gates keys parties n k widths) ≡ gates_of_end keys * sum widths
length_inputs keys parties n k [] = omega arith
length_inputs keys parties n k (w ∷ ws) =
    let size : ℕ = gates_of_end keys in
    let own = length_value keys n (k % parties) k w in
    let rest = length_inputs keys parties (n + size * w) (k + 1) ws in
    let whole : size * sum (w ∷ ws) ≡ size * (w + sum ws) = ap (λ m. size * m) (sum_by-cons (λ m. m) w ws) in
    let both = length-append (value_gates keys n (k % parties) k w) (input_gates keys parties (n + size * w) (k + 1) ws) in
    let split : size * (w + sum ws) ≡ size * w + size * sum ws = omega arith in
    omega (arith, own, rest, whole, both, split)

pub silent_inputs : (keys : Bool) (parties n k : ℕ) (widths : List ℕ) →
    AllByRecursion IsSilent (input_gates keys parties n k widths)
silent_inputs keys parties n k [] = tt
silent_inputs keys parties n k (w ∷ ws) =
    all_append IsSilent (value_gates keys n (k % parties) k w)
    (input_gates keys parties (n + gates_of_end keys * w) (k + 1) ws)
    (silent_row w (λ at. (entered keys (n + gates_of_end keys * at) 1 (k % parties) k at).gates)
    (λ at. entered_silent keys (n + gates_of_end keys * at) 1 (k % parties) k at))
    (silent_inputs keys parties (n + gates_of_end keys * w) (k + 1) ws)

-- ---- parts that stand

pub stand_first : (gates : List Gate) (n : ℕ) (xs ys : List Gate) → Stand gates n (xs ++ ys) → Stand gates n xs
stand_first gates n xs ys stand i gate e = stand i gate (before_at xs ys i (inside_of xs i gate e) ∙ e)

pub stand_second : (gates : List Gate) (n m : ℕ) (xs ys : List Gate) → m ≡ n + length xs → Stand gates n (xs ++ ys) →
    Stand gates m ys
stand_second gates n m xs ys place stand i gate e =
    let at : n + (length xs + i) ≡ m + i = omega (arith, place) in
    subst (λ k. slice_get gates k ≡ Some gate) at (stand (length xs + i) gate (behind_at xs ys i ∙ e))

-- ---- the gates of one input wire

cut_bit : (xs : List Bool) (at : ℕ) → at < length xs → number xs / 2 ^ at % 2 ^ 1 ≡ once (get_or xs at false)
cut_bit xs at h =
    sym (number-cut xs at 1 (omega arith))
    ∙ (ap (λ (ys : List Bool). number (take 1 ys)) (drop_more xs at false h)
    ∙ alone (get_or xs at false))
  where
    alone : (b : Bool) → number (b ∷ []) ≡ once b
    alone true = refl
    alone false = refl

-- numbers are those of values from a place on
abbrev pub AreValues : List ℕ → ℕ → List (List Bool) → Type 0
AreValues inputs k values = (j : ℕ) → j < length values → slice_index inputs (k + j) ≡ number (get_or values j [])

-- the gates of an input wire, which take the wire's bit from the number of its value
pub record IsEntry (gates : List Gate) (keys : Bool) (parties n k : ℕ) (widths : List ℕ) (w : ℕ) : Type 0 where
  pub value : ℕ
  pub at : ℕ
  pub stands : Stand gates (n + gates_of_end keys * w)
      (entered keys (n + gates_of_end keys * w) 1 (value % parties) value at).gates
  pub takes : (inputs : List ℕ) (values : List (List Bool)) → map (λ v. length v) values ≡ widths →
      AreValues inputs k values →
      slice_index inputs value / 2 ^ at % 2 ^ 1 ≡ once (get_or (flat_map (λ v. v) values) w false)

entry_first : (gates : List Gate) (keys : Bool) (parties n k v : ℕ) (widths : List ℕ) (w : ℕ) → w < v →
    Stand gates n (value_gates keys n (k % parties) k v) → IsEntry gates keys parties n k (v ∷ widths) w
entry_first gates keys parties n k v widths w small stand = record {
  value = k;
  at = w;
  stands = stand_row gates n (gates_of_end keys) v
      (λ at. (entered keys (n + gates_of_end keys * at) 1 (k % parties) k at).gates)
      (λ at. entered_size keys (n + gates_of_end keys * at) 1 (k % parties) k at) stand w small;
  takes = takes;
}
  where
    takes : (inputs : List ℕ) (values : List (List Bool)) → map (λ v. length v) values ≡ v ∷ widths →
        AreValues inputs k values →
        slice_index inputs k / 2 ^ w % 2 ^ 1 ≡ once (get_or (flat_map (λ v. v) values) w false)
    takes inputs [] same are = cc
    takes inputs (u ∷ values) same are =
        let long = (cons_same (length u) v (map (λ v. length v) values) widths same).0 in
        let here : k ≡ k + 0 = omega arith in
        let more : List Bool = flat_map (λ v. v) values in
        ap (λ (m : ℕ). m / 2 ^ w % 2 ^ 1) (ap (slice_index inputs) here ∙ are 0 (omega arith))
        ∙ (cut_bit u w (omega (arith, small, long)) ∙ ap once (sym (get_or-append u more false w (omega (arith, small, long)))))

entry_behind : (gates : List Gate) (keys : Bool) (parties n k v : ℕ) (widths : List ℕ) (w : ℕ) → v ≤ w →
    IsEntry gates keys parties (n + gates_of_end keys * v) (k + 1) widths (w - v) →
    IsEntry gates keys parties n k (v ∷ widths) w
entry_behind gates keys parties n k v widths w large later =
    let size : ℕ = gates_of_end keys in
    let back : v + (w - v) ≡ w = omega (arith, large) in
    let place : n + size * v + size * (w - v) ≡ n + size * w = spread n size v (w - v) w back in
    record {
      value = later.value;
      at = later.at;
      stands = subst (λ m. Stand gates m (entered keys m 1 (later.value % parties) later.value later.at).gates) place
          later.stands;
      takes = takes;
    }
  where
    spread : (n size v j w : ℕ) → v + j ≡ w → n + size * v + size * j ≡ n + size * w
    spread n size v j w e =
        let whole : n + size * v + size * j ≡ n + size * (v + j) = omega arith in
        whole ∙ ap (λ m. n + size * m) e

    takes : (inputs : List ℕ) (values : List (List Bool)) → map (λ v. length v) values ≡ v ∷ widths →
        AreValues inputs k values →
        slice_index inputs later.value / 2 ^ later.at % 2 ^ 1 ≡ once (get_or (flat_map (λ v. v) values) w false)
    takes inputs [] same are = cc
    takes inputs (u ∷ values) same are =
        let parts = cons_same (length u) v (map (λ v. length v) values) widths same in
        let long = parts.0 in
        let more : List Bool = flat_map (λ v. v) values in
        let place : length u + (w - v) ≡ w = omega (arith, large, long) in
        later.takes inputs values parts.1
        (λ j within. let e : k + 1 + j ≡ k + suc j = omega arith in
        ap (slice_index inputs) e ∙ are (suc j) (omega (arith, within)))
        ∙ ap once
        (sym (get_or-append-add u more (w - v) false) ∙ ap (λ m. get_or (u ++ more) m false) place)

pub entry_found : (gates : List Gate) (keys : Bool) (parties n k : ℕ) (widths : List ℕ) (w : ℕ) → w < sum widths →
    Stand gates n (input_gates keys parties n k widths) → IsEntry gates keys parties n k widths w
entry_found gates keys parties n k [] w h stand = absurd (omega arith)
entry_found gates keys parties n k (v ∷ vs) w h stand =
    let size : ℕ = gates_of_end keys in
    let own = value_gates keys n (k % parties) k v in
    let rest = input_gates keys parties (n + size * v) (k + 1) vs in
    let count = length_value keys n (k % parties) k v in
    elim (cases_lt w v) as (λ _. IsEntry gates keys parties n k (v ∷ vs) w) [
      | inl small ↦ entry_first gates keys parties n k v vs w small (stand_first gates n own rest stand)
      | inr large ↦
          (let whole = sum_by-cons (λ m. m) v vs in
          entry_behind gates keys parties n k v vs w large
          (entry_found gates keys parties (n + size * v) (k + 1) vs (w - v) (omega (arith, h, large, whole))
          (stand_second gates n (n + size * v) own rest (omega (arith, count)) stand)))
    ]

-- the wire of an input wire is that of its gates
pub entry_is : (keys : Bool) (w party k at : ℕ) → (entered keys (0 + gates_of_end keys * w) 1 party k at).wire ≡ entry_wire keys w
entry_is false w party k at = let e : 0 + 1 * w ≡ w = omega arith in ap single e
entry_is true w party k at =
    let e : 0 + 2 * w ≡ 2 * w = omega arith in ap (λ (m : ℕ). record { mask = m; gate = m + 1 }) e

-- ---- they may stand

pub inputs_fit : (plan : Gates) (keys : Bool) (n k : ℕ) (widths : List ℕ) → 1 ≤ plan.parties →
    Stand plan.gates n (input_gates keys plan.parties n k widths) →
    AllGates plan n (input_gates keys plan.parties n k widths)
inputs_fit plan keys n k [] some stand = all_none plan n
inputs_fit plan keys n k (w ∷ ws) some stand =
    let size : ℕ = gates_of_end keys in
    let party : ℕ = k % plan.parties in
    let own = value_gates keys n party k w in
    let rest = input_gates keys plan.parties (n + size * w) (k + 1) ws in
    let count = length_value keys n party k w in
    let first = stand_first plan.gates n own rest stand in
    let f : ℕ → List Gate = λ at. (entered keys (n + gates_of_end keys * at) 1 (k % plan.parties) k at).gates in
    let sizes : (at : ℕ) → length (f at) ≡ gates_of_end keys = λ at. entered_size keys (n + gates_of_end keys * at) 1 party k at in
    all_both plan n own (n + size * w) rest (omega (arith, count))
    (all_row plan n size w f sizes
    (λ i h. (entered_fits plan (n + size * i) 1 (omega arith) (omega arith) keys party k i
    (mod-lt k (omega (arith, some))) (stand_row plan.gates n size w f sizes first i h)).gates))
    (inputs_fit plan keys (n + size * w) (k + 1) ws some
    (stand_second plan.gates n (n + size * w) own rest (omega (arith, count)) stand))
