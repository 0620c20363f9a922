-- Lawful parts: where no gate enters one, all are, and every plan has some.
use Rattle.std.proofs.Common.{ℕ, zero, suc, ◌≡◌, ◌<◌, ◌≤◌, ◌-◌, ◌%◌, ◌^◌, false, List, [], ◌∷◌, ◌++◌, length, Option, Some, None, inl, inr, refl, sym, ◌∙◌, ap, ap₂, subst, arith}
use Rattle.std.specs.Prelude.{slice_get, slice_index, bit_xor}
use Rattle.std.specs.Int.Bits.{xor_zero_l}
use Rattle.std.proofs.Math.Nat.{mod-lt, mod-eq_of_lt}
use Rattle.std.proofs.Math.Pow.{pow_mono}
use Rattle.std.proofs.lemmas.Bool.{cases_lt}
use Rattle.std.proofs.lemmas.List.{length-append}
use Rattle.std.proofs.lemmas.Nat.{pow_pos, xor_comm}
use Rattle.mot_base.proofs.Lists.{index_at}
use Rattle.share_types.specs.Sums.{sum_to, xor_to}
use Rattle.plan_gates.specs.Gate.{Kind, Gate, Use, Word, Vector, ShareAOnline, ShareBOnline, operands, width_at, gate_of}
use Rattle.plan_gates.specs.Plan.{Gates, StandsAt, IsOperand, IsPlan, has_conversions}
use Rattle.plan_gates.specs.Plain.{Outside, AreLawful, number_of, seen_of, gate_number, number_at, plain_before, plain_numbers}
use Rattle.plan_gates.proofs.KeyLemmas.{unconverted_at}
use Rattle.gate_plan.specs.Keeps.{PartsExist}
use Rattle.gate_plan.proofs.NumberLemmas.{plans_have_numbers, operand_before}

-- where no gate enters a part, all parts are lawful
pub lawful_without : (plan : Gates) (outside : Outside) (numbers : List ℕ) → has_conversions plan ≡ false →
    AreLawful plan outside numbers
lawful_without plan outside numbers none = record {
  words = λ o party x m w there.
      (let contrary = unconverted_at plan o (gate_of (ShareAOnline party x m) w) none there in cc);
  vectors = λ o party x m w there.
      (let contrary = unconverted_at plan o (gate_of (ShareBOnline party x m) w) none there in cc);
}

-- ---- party 0 has each number, and the others nothing

abbrev part_of : List ℕ → ℕ → ℕ → ℕ
part_of numbers zero x = slice_index numbers x
part_of numbers (suc party) x = 0

sum_first : (numbers : List ℕ) (x n : ℕ) → sum_to (suc n) (λ p. part_of numbers p x) ≡ slice_index numbers x
sum_first numbers x zero = omega arith
sum_first numbers x (suc n) = let before = sum_first numbers x n in omega (arith, before)

xor_first : (numbers : List ℕ) (x n : ℕ) → xor_to (suc n) (λ p. part_of numbers p x) ≡ slice_index numbers x
xor_first numbers x zero = xor_zero_l (slice_index numbers x)
xor_first numbers x (suc n) =
    ap (λ k. bit_xor k 0) (xor_first numbers x n) ∙ (xor_comm (slice_index numbers x) 0 ∙ xor_zero_l (slice_index numbers x))

module _ (plan : Gates) (valid : IsPlan plan) (inputs : List ℕ) where
  abbrev outside_of : List ℕ → Outside
  outside_of numbers = record { inputs = inputs; parts = part_of numbers }

  -- the numbers of the gates before a place, of which each enters what stands before it
  made : ℕ → List ℕ
  made zero = []
  made (suc g) = made g ++ number_at plan.gates (outside_of (made g)) (made g) (slice_get plan.gates g) ∷ []

  length_made : (n : ℕ) → length (made n) ≡ n
  unfolding made
  length_made zero = refl
  length_made (suc n) =
      let before = length_made n in
      length-append (made n) (number_at plan.gates (outside_of (made n)) (made n) (slice_get plan.gates n) ∷ []) ∙ omega (arith, before)

  made_same : (n i x : ℕ) → x < i → i ≤ n → slice_index (made i) x ≡ slice_index (made n) x
  unfolding made
  made_same zero i x h le = absurd (omega (arith, h, le))
  made_same (suc n) i x h le = elim (cases_lt i (suc n)) as (λ _. slice_index (made i) x ≡ slice_index (made (suc n)) x) [
    | inl small ↦
        (let last = number_at plan.gates (outside_of (made n)) (made n) (slice_get plan.gates n) in
        let count = length_made n in
        made_same n i x h (omega (arith, small))
        ∙ sym (get_same (made n) (last ∷ []) x (omega (arith, count, h, small))))
    | inr large ↦ (let e : i ≡ suc n = omega (arith, le, large) in ap (λ k. slice_index (made k) x) e)
  ]
    where
      get_same : (xs ys : List ℕ) (x : ℕ) → x < length xs → slice_index (xs ++ ys) x ≡ slice_index xs x
      get_same [] ys x h = absurd (omega (arith, h))
      get_same (y ∷ xs) ys zero h = refl
      get_same (y ∷ xs) ys (suc x) h = get_same xs ys x (omega (arith, h))

  -- a gate's number hangs on the part of its first operand alone
  same_parts : (kind : Kind) (before others : List ℕ) (numbers : List ℕ) →
      ((x : ℕ) → slice_get (operands kind) 0 ≡ Some x → slice_index before x ≡ slice_index others x) →
      number_of kind (seen_of plan.gates (outside_of before) numbers kind)
      ≡ number_of kind (seen_of plan.gates (outside_of others) numbers kind)
  same_parts (ShareAOnline zero x m) before others numbers same = same x refl
  same_parts (ShareAOnline (suc party) x m) before others numbers same = refl
  same_parts (ShareBOnline zero x m) before others numbers same = same x refl
  same_parts (ShareBOnline (suc party) x m) before others numbers same = refl
  same_parts _ before others numbers same = refl

  abbrev all : List ℕ
  all = made (length plan.gates)

  -- these are the numbers of the gates
  plain_made : (n : ℕ) → n ≤ length plan.gates → plain_before plan.gates (outside_of all) n ≡ made n
  unfolding made
  plain_made zero h = refl
  plain_made (suc n) h =
      let before = plain_made n (omega (arith, h)) in
      ap₂ (λ (xs : List ℕ) (k : ℕ). xs ++ k ∷ []) before
      (ap (λ (ns : List ℕ). number_at plan.gates (outside_of all) ns (slice_get plan.gates n)) before
      ∙ same (slice_get plan.gates n) refl)
    where
      same : (o : Option Gate) → slice_get plan.gates n ≡ o →
          number_at plan.gates (outside_of all) (made n) o ≡ number_at plan.gates (outside_of (made n)) (made n) o
      same None there = refl
      same (Some gate) there =
          ap (λ (k : ℕ). k % 2 ^ gate.width)
          (same_parts gate.kind all (made n) (made n)
          (λ x e. sym (made_same (length plan.gates) n x (operand_before plan valid n gate there 0 x e) (omega (arith, h)))))

  numbers_made : plain_numbers plan (outside_of all) ≡ all
  numbers_made = plain_made (length plan.gates) (omega arith)

  -- a number fits the width of its gate
  number_small : (x : ℕ) (gate : Gate) → slice_get plan.gates x ≡ Some gate → slice_index all x < 2 ^ gate.width
  number_small x gate there =
      let number = plans_have_numbers plan (outside_of all) valid x gate there in
      let own = index_at (plain_numbers plan (outside_of all)) x (gate_number plan.gates (outside_of all) (plain_numbers plan (outside_of all)) gate) number in
      subst (λ (k : ℕ). k < 2 ^ gate.width)
      (sym own ∙ ap (λ (ns : List ℕ). slice_index ns x) numbers_made)
      (mod-lt _ (pow_pos gate.width))

  -- the number of an operand has its width
  operand_small : (o : ℕ) (used : Use) (w : ℕ) → IsOperand plan.gates o used → width_at plan.gates used.gate ≡ w →
      slice_index all used.gate < 2 ^ w
  operand_small o used w (below, gate, there, gives) wide =
      let own : width_at plan.gates used.gate ≡ gate.width = rw there refl in
      subst (λ k. slice_index all used.gate < 2 ^ k) (sym own ∙ wide) (number_small used.gate gate there)

  some_parties : suc (plan.parties - 1) ≡ plan.parties
  some_parties = let some = valid.some_parties in omega (arith, some)

  lawful_made : AreLawful plan (outside_of all) (plain_numbers plan (outside_of all))
  lawful_made = record { words = word_is; vectors = vector_is }
    where
      word_is : (o party x m w : ℕ) → StandsAt plan.gates o (ShareAOnline party x m) w →
          sum_to plan.parties (λ p. part_of all p x) % 2 ^ 64 ≡ slice_index (plain_numbers plan (outside_of all)) x
      word_is o party x m w there =
          let is = valid.each o (gate_of (ShareAOnline party x m) w) there in
          let small = operand_small o (record { given = Word; gate = x }) w is.uses.0 is.fit.0 in
          let more = pow_mono is.in_width in
          let total = ap (λ n. sum_to n (λ p. part_of all p x)) (sym some_parties) ∙ sum_first all x (plan.parties - 1) in
          ap (λ k. k % 2 ^ 64) total
          ∙ (mod-eq_of_lt (omega (arith, small, more)) ∙ ap (λ (ns : List ℕ). slice_index ns x) (sym numbers_made))

      vector_is : (o party x m w : ℕ) → StandsAt plan.gates o (ShareBOnline party x m) w →
          xor_to plan.parties (λ p. part_of all p x) % 2 ^ w ≡ slice_index (plain_numbers plan (outside_of all)) x
      vector_is o party x m w there =
          let is = valid.each o (gate_of (ShareBOnline party x m) w) there in
          let small = operand_small o (record { given = Vector; gate = x }) w is.uses.0 is.fit.0 in
          let total = ap (λ n. xor_to n (λ p. part_of all p x)) (sym some_parties) ∙ xor_first all x (plan.parties - 1) in
          ap (λ k. k % 2 ^ w) total
          ∙ (mod-eq_of_lt small ∙ ap (λ (ns : List ℕ). slice_index ns x) (sym numbers_made))

-- every valid plan has lawful parts on all inputs
pub parts_exist : PartsExist
parts_exist plan inputs valid = (part_of (all plan valid inputs), lawful_made plan valid inputs)
