-- What the code that makes the gates of a circuit in Bristol Fashion does, step by step.
use Rattle.std.proofs.Common.{ℕ, suc, ◌≡◌, ◌<◌, ◌≤◌, ◌+◌, ◌-◌, ◌*◌, ◌%◌, ◌^◌, Bool, true, List, [], ◌∷◌, ◌++◌, length, take, Some, sym, ◌∙◌, ap, ap₂, subst, arith, append-nil, append_assoc}
use Rattle.std.specs.Prelude.{slice_get, slice_index, sum, nat_lt}
use Rattle.std.specs.List.{list_all}
use Rattle.std.proofs.lemmas.Bool.{and_parts}
use Rattle.std.proofs.lemmas.List.{length-append, take_more, length-take-le}
use Rattle.std.proofs.lemmas.List.Sums.{sum_by-cons, sum_by_more_le}
use Rattle.mot_base.specs.Limits.{most_gates}
use Rattle.mot_base.proofs.Lists.{inside_of}
use Rattle.bristol_reader.specs.Circuit as bristol
use Rattle.bristol_reader.specs.Circuit.{Circuit}
use Rattle.bristol_reader.specs.Line.{input_bound}
use Rattle.bristol_reader.specs.Built.{FitsBehind, IsCircuit, first_gates}
use Rattle.plan_gates.specs.Gate.{Gate}
use Rattle.plan_gates.specs.Plan.{Gates, with_gates}
use Rattle.gate_plan.specs.declared.wire.Wire.{Wire}
use Rattle.gate_plan.specs.Blocks.{Lowered, wire_among, in_row}
use Rattle.gate_plan.specs.Bristol.{gates_of_end, gates_of_kind, gates_of_gate, bristol_gates_before, all_bristol_gates, value_gates, input_gates, kind_gates, output_wire, rewired, gates_made, wires_made, wired_before, wired_draft}
use Rattle.gate_plan.proofs.StandLemmas.{length_row}
use Rattle.gate_plan.proofs.BristolCountLemmas.{few_outs}
use Rattle.gate_plan.proofs.BristolInputLemmas.{length_inputs}
use Rattle.gate_plan.proofs.BristolPlanLemmas.{length_wired, gates_mono, wires_count}

abbrev row : Gates → List Gate → Gates
row draft gates = record draft { gates = gates }

-- ---- gates in a row

module _ (old now : Gates) (n size : ℕ) (f : ℕ → List Gate) (sizes : (i : ℕ) → length (f i) ≡ size)
    (before : now ≡ with_gates old (in_row n f)) where
  -- where the next ones begin
  pub row_start : length now.gates ≡ length old.gates + size * n
  row_start =
      let same = ap (λ (p : Gates). length p.gates) before in
      let both = length-append old.gates (in_row n f) in
      let all = length_row size n f sizes in
      omega arith

  -- one more of them
  pub row_next : (after : Gates) (block : List Gate) → block ≡ f n → after ≡ with_gates now block →
      after ≡ with_gates old (in_row (n + 1) f)
  row_next after block own is =
      let later : suc n ≡ n + 1 = omega arith in
      is
      ∙ (ap₂ (λ (p : Gates) (b : List Gate). with_gates p b) before own
      ∙ (ap (row old) (append_assoc old.gates (in_row n f) (f n))
      ∙ ap (λ k. with_gates old (in_row k f)) later))

  -- and room for them
  pub row_room : (count : ℕ) → n < count → length old.gates + size * count ≤ most_gates →
      length now.gates + size ≤ most_gates
  row_room count h room =
      let start = row_start in
      let less = within size n count h in
      omega (arith, room, start, less)
    where
      within : (size n count : ℕ) → n < count → size * n + size ≤ size * count
      within size n count h =
          let back : n + 1 + (count - suc n) ≡ count = omega (arith, h) in
          let whole : size * (n + 1 + (count - suc n)) ≡ size * n + size + size * (count - suc n) = omega arith in
          let same : size * count ≡ size * n + size + size * (count - suc n) = ap (λ m. size * m) (sym back) ∙ whole in
          omega (arith, same)

-- ---- inputs

inputs_next : (keys : Bool) (parties n k : ℕ) (ws : List ℕ) (w : ℕ) →
    input_gates keys parties n k (ws ++ w ∷ [])
    ≡ input_gates keys parties n k ws
    ++ value_gates keys (n + gates_of_end keys * sum ws) ((k + length ws) % parties) (k + length ws) w
inputs_next keys parties n k [] w =
    let P : ℕ → ℕ → List Gate = λ m j. value_gates keys m (j % parties) j w in
    let e : k ≡ k + 0 = omega arith in
    let e2 : n ≡ n + gates_of_end keys * 0 = omega arith in
    append-nil (P n k) ∙ ap₂ P e2 e
inputs_next keys parties n k (v ∷ ws) w =
    let size : ℕ = gates_of_end keys in
    let P : ℕ → ℕ → List Gate = λ m j. value_gates keys m (j % parties) j w in
    let own : List Gate = value_gates keys n (k % parties) k v in
    let e : k + 1 + length ws ≡ k + length (v ∷ ws) = omega arith in
    let whole : sum (v ∷ ws) ≡ v + sum ws = sum_first v ws in
    let e2 : n + size * v + size * sum ws ≡ n + size * (v + sum ws) = omega arith in
    ap (λ (rest : List Gate). own ++ rest)
    (inputs_next keys parties (n + size * v) (k + 1) ws w
    ∙ ap₂ (λ m j. input_gates keys parties (n + size * v) (k + 1) ws ++ P m j)
    (e2 ∙ ap (λ m. n + size * m) (sym whole)) e)
    ∙ sym (append_assoc own (input_gates keys parties (n + size * v) (k + 1) ws)
    (P (n + size * sum (v ∷ ws)) (k + length (v ∷ ws))))
  where
    sum_first : (v : ℕ) (ws : List ℕ) → sum (v ∷ ws) ≡ v + sum ws
    sum_first v ws = sum_by-cons (λ m. m) v ws

abbrev pub inputs_draft : Bool → ℕ → List ℕ → Gates
inputs_draft keys parties widths = record { parties = parties; gates = input_gates keys parties 0 0 widths }

module _ (keys : Bool) (parties : ℕ) (widths : List ℕ) (draft : Gates) (k : ℕ) (h : k < length widths)
    (before : draft ≡ inputs_draft keys parties (take k widths)) where
  inputs_size : length draft.gates ≡ gates_of_end keys * sum (take k widths)
  inputs_size = ap (λ (p : Gates). length p.gates) before ∙ length_inputs keys parties 0 0 (take k widths)

  -- the gates of one input value more, and room for them
  pub value_next : (after : Gates) (party width : ℕ) → party ≡ k % parties → width ≡ slice_index widths k →
      after ≡ with_gates draft (value_gates keys (length draft.gates) party k width) →
      after ≡ inputs_draft keys parties (take (k + 1) widths)
  value_next after party width own wide is =
      let size : ℕ = gates_of_end keys in
      let front = take k widths in
      let short = length-take-le k widths (omega (arith, h)) in
      let here : 0 + length front ≡ k = omega (arith, short) in
      let many = inputs_size in
      let start : length draft.gates ≡ 0 + size * sum front = omega (arith, many) in
      let fields : List Gate → Gates = λ gates. record { parties = parties; gates = gates } in
      is
      ∙ (ap₂ (λ (p : Gates) m. with_gates p (value_gates keys m party k width)) before start
      ∙ ap fields
      (ap₂ (λ p w. input_gates keys parties 0 0 front ++ value_gates keys (0 + size * sum front) p k w) own wide
      ∙ (ap (λ j. input_gates keys parties 0 0 front ++ value_gates keys (0 + size * sum front) (j % parties) j (slice_index widths k))
      (sym here)
      ∙ (sym (inputs_next keys parties 0 0 front (slice_index widths k)) ∙ ap (input_gates keys parties 0 0)
      (sym (take_more widths k 0 h))))))

  pub value_room : (width : ℕ) → gates_of_end keys * sum widths ≤ most_gates → width ≡ slice_index widths k →
      length draft.gates + gates_of_end keys * width ≤ most_gates
  value_room width few wide =
      let size : ℕ = gates_of_end keys in
      let many = inputs_size in
      let more = sum_by_more_le (λ n. n) widths k 0 h in
      let less = scaled size (sum (take k widths)) width (sum widths) (omega (arith, more, wide)) in
      omega (arith, few, many, less)
    where
      scaled : (size a b c : ℕ) → a + b ≤ c → size * a + size * b ≤ size * c
      scaled size a b c h =
          let back : a + b + (c - (a + b)) ≡ c = omega (arith, h) in
          let whole : size * (a + b + (c - (a + b))) ≡ size * a + size * b + size * (c - (a + b)) = omega arith in
          let same : size * c ≡ size * a + size * b + size * (c - (a + b)) = ap (λ m. size * m) (sym back) ∙ whole in
          omega (arith, same)

-- ---- one gate of a circuit

module _ (keys : Bool) (parties : ℕ) (c : Circuit) (n : ℕ) (draft : Gates) (wires : List Wire) (g : bristol.Gate)
    (circuit : IsCircuit c)
    (few : all_bristol_gates keys c ≤ most_gates) (there : slice_get c.gates n ≡ Some g)
    (before : draft ≡ wired_draft keys parties c n)
    (kept : wires ≡ (wired_before keys parties c n).wires) where
  abbrev v : Lowered
  v = wired_before keys parties c n

  within : n < length c.gates
  within = inside_of c.gates n g there

  pub fits : FitsBehind (first_gates n c) g
  fits = circuit.built.each n g there

  pub range : list_all (λ w. nat_lt w (length wires)) g.outs ≡ true
  range =
      let count : length wires ≡ c.wires = ap length kept ∙ wires_count keys parties c n in
      subst (λ m. list_all (λ w. nat_lt w m) g.outs ≡ true) (sym count)
      (and_parts (list_all (λ y. nat_lt y (input_bound g.kind c.wires)) g.ins)
      (list_all (λ w. nat_lt w c.wires) g.outs) fits.range).1

  draft_size : length draft.gates ≡ length v.gates
  draft_size = ap (λ (p : Gates). length p.gates) before

  pub room : length draft.gates + gates_of_kind keys g.kind (length g.outs) ≤ most_gates
  room =
      let here = within in
      let size = length_wired keys parties c n in
      let same = draft_size in
      let count : bristol_gates_before keys c.gates
      (suc n) ≡ bristol_gates_before keys c.gates n + gates_of_kind keys g.kind (length g.outs)
      = ap (λ o. bristol_gates_before keys c.gates n + gates_of_gate keys o) there in
      let more = gates_mono keys c.gates (suc n) (length c.gates) (omega arith) in
      omega arith

  pub few_numbers : length draft.gates + 3 * length g.outs + 2 < 2 ^ 32
  few_numbers =
      let most = room in
      let outs = few_outs c n g circuit there in
      let all = circuit.built.few_wires in
      omega arith

  pub draft_next : (after : Gates) →
      after ≡ with_gates draft
      (kind_gates keys g.kind (λ i. wire_among wires (slice_index g.ins i)) (slice_index g.ins 0)
      (length g.outs) (length draft.gates)) →
      after ≡ wired_draft keys parties c (n + 1)
  draft_next after is =
      let later : suc n ≡ n + 1 = omega arith in
      let fields : List Gate → Gates = λ gates. record { parties = parties; gates = gates } in
      is
      ∙ (ap₂ (λ (p : Gates) (ws : List Wire). with_gates p
      (kind_gates keys g.kind (λ i. wire_among ws (slice_index g.ins i)) (slice_index g.ins 0)
      (length g.outs) (length p.gates))) before kept
      ∙ (ap (λ o. fields (v.gates ++ gates_made keys v o)) (sym there) ∙ ap (wired_draft keys parties c) later))

  pub wires_next : (after : List Wire) (x : Wire) (first : ℕ) → x ≡ wire_among wires (slice_index g.ins 0) →
      first ≡ length draft.gates →
      after ≡ rewired wires g.outs (output_wire keys g.kind x first) 0 →
      after ≡ (wired_before keys parties c (n + 1)).wires
  wires_next after x first own start is =
      let later : suc n ≡ n + 1 = omega arith in
      is
      ∙ (ap₂ (λ (a : Wire) (m : ℕ). rewired wires g.outs (output_wire keys g.kind a m) 0) own (start ∙ draft_size)
      ∙ (ap (λ (ws : List Wire). rewired ws g.outs
      (output_wire keys g.kind (wire_among ws (slice_index g.ins 0)) (length v.gates)) 0) kept
      ∙ (ap (wires_made keys v) (sym there) ∙ ap (λ k. (wired_before keys parties c k).wires) later)))

-- room for the outputs, behind all gates
pub all_room : (keys : Bool) (parties : ℕ) (c : Circuit) (draft : Gates) → all_bristol_gates keys c ≤ most_gates →
    draft ≡ wired_draft keys parties c (length c.gates) →
    length draft.gates + gates_of_end keys * sum c.outputs ≤ most_gates
all_room keys parties c draft few is =
    let same = ap (λ (p : Gates). length p.gates) is in
    let size = length_wired keys parties c (length c.gates) in
    omega arith
