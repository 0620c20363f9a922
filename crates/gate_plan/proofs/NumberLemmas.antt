-- The numbers of a valid plan's gates, and what its gates tell, part by part.
use Rattle.std.proofs.Common.{ℕ, zero, suc, ◌≡◌, ◌<◌, ◌≤◌, ◌+◌, ◌%◌, ◌^◌, List, [], ◌∷◌, ◌++◌, length, Option, Some, None, inl, inr, refl, sym, ◌∙◌, ap, ap₂, subst, arith, append_assoc}
use Rattle.std.specs.Prelude.{slice_get, slice_index}
use Rattle.std.specs.List.{AllByRecursion}
use Rattle.std.proofs.lemmas.Bool.{cases_lt}
use Rattle.std.proofs.lemmas.List.{length-append}
use Rattle.std.proofs.lemmas.Option.{slice_get-map}
use Rattle.mot_base.proofs.Lists.{mapped_some, index_at, inside_of, before_at, last_at, all_at}
use Rattle.plan_gates.specs.Gate.{Gate, Use, uses, operands, receiver_of, low_width}
use Rattle.plan_gates.specs.Plan.{Gates, IsOperand, IsPlan}
use Rattle.plan_gates.specs.Plain.{Outside, operand_number, operands_there, operands_behind, number_of, number_at, plain_before, plain_numbers, GateTold, told_entry, told_by}
use Rattle.plan_gates.proofs.PlainLemmas.{length_plain}
use Rattle.gate_plan.specs.Blocks.{AreNumbers}

-- ---- numbers by their places

module _ (gates : List Gate) (outside : Outside) where
  -- the number of the gate at a place, from those of the gates before it
  abbrev own : ℕ → ℕ
  own g = number_at gates outside (plain_before gates outside g) (slice_get gates g)

  plain_at : (n i : ℕ) → i < n → slice_get (plain_before gates outside n) i ≡ Some (own i)
  plain_at zero i h = absurd (omega arith)
  plain_at (suc n) i h =
      let before = plain_before gates outside n in
      let count = length_plain gates outside n in
      elim (cases_lt i n) as (λ _. slice_get (before ++ own n ∷ []) i ≡ Some (own i)) [
        | inl small ↦ before_at before (own n ∷ []) i (omega arith) ∙ plain_at n i small
        | inr large ↦
            (let here : n ≡ i = omega arith in
            let P : ℕ → Type 0 = λ k. slice_get (before ++ own n ∷ []) k ≡ Some (own k) in
            subst P here (ap (slice_get (before ++ own n ∷ [])) (sym count) ∙ last_at before (own n)))
      ]

  -- a number is the same behind more gates
  plain_same : (n i x : ℕ) → x < i → i ≤ n →
      slice_index (plain_before gates outside i) x ≡ slice_index (plain_before gates outside n) x
  plain_same n i x h le =
      index_at (plain_before gates outside i) x (own x) (plain_at i x h)
      ∙ sym (index_at (plain_before gates outside n) x (own x) (plain_at n x (omega arith)))

-- the operands of a gate of a valid plan stand before it
pub operand_before : (plan : Gates) → IsPlan plan → (g : ℕ) (gate : Gate) → slice_get plan.gates g ≡ Some gate →
    (k x : ℕ) →
    slice_get (operands gate.kind) k ≡ Some x → x < g
operand_before plan valid g gate there k x e =
    let used = mapped_some (λ (u : Use). u.gate) (slice_get (uses gate.kind) k) x
    (sym (slice_get-map (λ (u : Use). u.gate) (uses gate.kind) k) ∙ e) in
    let is : IsOperand plan.gates g used.0 = all_at (IsOperand plan.gates g) (uses gate.kind) k used.0
    (valid.each g gate there).uses used.1 in
    let below = is.0 in
    let same = used.2 in
    omega (arith, below, same)

-- and so do those of its first operand
behind_before : (plan : Gates) → IsPlan plan → (g : ℕ) (gate : Gate) → slice_get plan.gates g ≡ Some gate →
    (k x : ℕ) → slice_get (operands_behind plan.gates (slice_get (operands gate.kind) 0)) k ≡ Some x → x < g
behind_before plan valid g gate there k x e = first (slice_get (operands gate.kind) 0) refl e
  where
    second : (t : ℕ) → t < g → (o : Option Gate) → slice_get plan.gates t ≡ o → slice_get (operands_there o) k ≡ Some x → x < g
    second t h None found e = cc
    second t h (Some table) found e =
        let below = operand_before plan valid t table found k x e in omega (arith, h, below)

    first : (o : Option ℕ) → slice_get (operands gate.kind) 0 ≡ o → slice_get (operands_behind plan.gates o) k ≡ Some x → x < g
    first None found e = cc
    first (Some t) found e =
        second t (operand_before plan valid g gate there 0 t found) (slice_get plan.gates t) refl e

pub plans_have_numbers : (plan : Gates) (outside : Outside) → IsPlan plan → AreNumbers plan.gates outside
    (plain_numbers plan outside)
plans_have_numbers plan outside valid g gate there =
    plain_at plan.gates outside (length plan.gates) g within
    ∙ (ap (λ o. Some (number_at plan.gates outside (plain_before plan.gates outside g) o)) there
    ∙ (ap₂ (λ x y. made x y (first (used 2)) (first (behind 0)) (first (behind 1))) (operand 0) (operand 1)
    ∙ (ap₂ (λ z left. made (whole (used 0)) (whole (used 1)) z left (first (behind 1))) (operand 2) (hidden 0)
    ∙ ap (made (whole (used 0)) (whole (used 1)) (whole (used 2)) (whole (behind 0))) (hidden 1))))
  where
    made : ℕ → ℕ → ℕ → ℕ → ℕ → Option ℕ
    made x y z left right = Some (number_of gate.kind (record {
      outside = outside;
      x = x;
      y = y;
      z = z;
      low = low_width plan.gates gate.kind;
      left = left;
      right = right;
    }) % 2 ^ gate.width)

    first : Option ℕ → ℕ
    first o = operand_number (plain_before plan.gates outside g) o

    whole : Option ℕ → ℕ
    whole o = operand_number (plain_numbers plan outside) o

    used : ℕ → Option ℕ
    used k = slice_get (operands gate.kind) k

    behind : ℕ → Option ℕ
    behind k = slice_get (operands_behind plan.gates (slice_get (operands gate.kind) 0)) k

    within : g < length plan.gates
    within = inside_of plan.gates g gate there

    same : (o : Option ℕ) → ((x : ℕ) → o ≡ Some x → x < g) →
        operand_number (plain_before plan.gates outside g) o ≡ operand_number (plain_numbers plan outside) o
    same None below = refl
    same (Some x) below = plain_same plan.gates outside (length plan.gates) g x (below x refl) (omega (arith, within))

    operand : (k : ℕ) →
        operand_number (plain_before plan.gates outside g) (slice_get (operands gate.kind) k)
        ≡ operand_number (plain_numbers plan outside) (slice_get (operands gate.kind) k)
    operand k = same (slice_get (operands gate.kind) k) (λ x e. operand_before plan valid g gate there k x e)

    hidden : (k : ℕ) →
        operand_number (plain_before plan.gates outside g)
        (slice_get (operands_behind plan.gates (slice_get (operands gate.kind) 0)) k)
        ≡ operand_number (plain_numbers plan outside)
        (slice_get (operands_behind plan.gates (slice_get (operands gate.kind) 0)) k)
    hidden k = same (slice_get (operands_behind plan.gates (slice_get (operands gate.kind) 0)) k)
        (λ x e. behind_before plan valid g gate there k x e)

-- ---- what gates tell

-- what some gates tell, of which the first has a number, where these are the numbers of all gates
abbrev pub told_from : List Gate → ℕ → List ℕ → List GateTold
told_from [] n numbers = []
told_from (gate ∷ gates) n numbers =
    told_entry gate.width (slice_index numbers n) (receiver_of gate.kind) ++ told_from gates (n + 1) numbers

told_places : (gates : List Gate) (before numbers : List ℕ) → length gates ≡ length numbers →
    told_by gates numbers ≡ told_from gates (length before) (before ++ numbers)
told_places [] before numbers h = refl
told_places (gate ∷ gates) before [] h = absurd (omega (arith, h))
told_places (gate ∷ gates) before (n ∷ numbers) h =
    let here : slice_index (before ++ n ∷ numbers) (length before) ≡ n =
    index_at (before ++ n ∷ numbers) (length before) n (front before) in
    let more : length (before ++ n ∷ []) ≡ length before + 1 = length-append before (n ∷ []) in
    ap₂ (λ (k : ℕ) (rest : List GateTold). told_entry gate.width k (receiver_of gate.kind) ++ rest)
    (sym here)
    (told_places gates (before ++ n ∷ []) numbers (omega (arith, h))
    ∙ ap₂ (λ (m : ℕ) (all : List ℕ). told_from gates m all) more (append_assoc before (n ∷ []) numbers))
  where
    front : (xs : List ℕ) → slice_get (xs ++ n ∷ numbers) (length xs) ≡ Some n
    front [] = refl
    front (x ∷ xs) = front xs

pub told_by_place : (gates : List Gate) (numbers : List ℕ) → length gates ≡ length numbers →
    told_by gates numbers ≡ told_from gates 0 numbers
told_by_place gates numbers h = told_places gates [] numbers h

pub told_append : (xs ys : List Gate) (n : ℕ) (numbers : List ℕ) →
    told_from (xs ++ ys) n numbers ≡ told_from xs n numbers ++ told_from ys (n + length xs) numbers
told_append [] ys n numbers = let e : n ≡ n + 0 = omega arith in ap (λ k. told_from ys k numbers) e
told_append (x ∷ xs) ys n numbers =
    let entry = told_entry x.width (slice_index numbers n) (receiver_of x.kind) in
    let place : n + 1 + length xs ≡ n + suc (length xs) = omega arith in
    ap (λ (rest : List GateTold). entry ++ rest)
    (told_append xs ys (n + 1) numbers
    ∙ ap (λ k. told_from xs (n + 1) numbers ++ told_from ys k numbers) place)
    ∙ sym (append_assoc entry (told_from xs (n + 1) numbers) (told_from ys (n + suc (length xs)) numbers))

-- a gate that is no output
abbrev pub IsSilent : Gate → Type 0
IsSilent gate = receiver_of gate.kind ≡ None

pub told_nothing : (gates : List Gate) (n : ℕ) (numbers : List ℕ) → AllByRecursion IsSilent gates →
    told_from gates n numbers ≡ []
told_nothing [] n numbers silent = refl
told_nothing (gate ∷ gates) n numbers silent =
    ap (λ o. told_entry gate.width (slice_index numbers n) o ++ told_from gates (n + 1) numbers) silent.0
    ∙ told_nothing gates (n + 1) numbers silent.1
