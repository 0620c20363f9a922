-- Each gate of a plan that takes an input takes it from the input's party, within the input's width.
use Rattle.std.proofs.Common.{◌≡◌, ℕ, zero, suc, ◌+◌, ◌-◌, ◌*◌, ◌%◌, ◌<◌, Bool, true, false, cond, List, [], ◌∷◌, ◌++◌, length, take, Option, Some, None, refl, sym, ap, ◌∙◌, subst, arith}
use Rattle.std.specs.Prelude.{slice_get, slice_index, sum, IsSome}
use Rattle.std.specs.List.{AllByRecursion}
use Rattle.std.specs.Option.{unwrap_or}
use Rattle.std.proofs.lemmas.List.{length-append}
use Rattle.share_types.specs.declared.sharing.Sharing.{Sharing}
use Rattle.share_types.specs.declared.sharing.Sharing.TheVariants as sharing
use Rattle.share_types.specs.declared.sharing.WireType.{WireType}
use Rattle.share_types.specs.declared.receiver.Receiver.TheVariants.{All}
use Rattle.circuit_tables.specs.Table.{Input}
use Rattle.mixed_language.specs.declared.language.Operation.{Operation}
use Rattle.mixed_language.specs.declared.language.Operation.TheVariants.{InputWord, InputBits, ConstWord, ConstBits, Add, Sub, Mul, AddConst, MulConst, Xor, And, Not, Slice, Join, A2Y, A2B, B2Y, Y2B, B2A, Y2A, Output}
use Rattle.mixed_language.specs.declared.operand.Operand.{Operand}
use Rattle.mixed_language.specs.Operands.{width_by}
use Rattle.mixed_language.specs.Language.{domain_of, widths_of, is_in, gives, states, is_name_slot, is_owner_slot, is_width_slot}
use Rattle.mixed_language.specs.Circuit.{Circuit, Statement}
use Rattle.share_types.specs.Wires.{wire_type, width_of}
use Rattle.mixed_language.specs.Valid.{IsCircuit}
use Rattle.mixed_language.specs.Table.{inputs_of, input_entry, owner_of}
use Rattle.mot_base.proofs.Lists.{same_some}
use Rattle.bristol_reader.specs.Circuit as bristol
use Rattle.bristol_reader.specs.Table as bristol_table
use Rattle.bristol_reader.specs.declared.kind.BristolKind.{BristolKind}
use Rattle.bristol_reader.specs.declared.kind.BristolKind.TheVariants as kind
use Rattle.plan_gates.specs.Gate as plan
use Rattle.plan_gates.specs.Gate.{Gate, InA, InB, KeyMask, InOnline, gate_of}
use Rattle.gate_plan.specs.declared.wire.Wire.{Wire}
use Rattle.gate_plan.specs.Blocks.{Lowered, wire_among, entered, anded, told, in_row}
use Rattle.gate_plan.specs.declared.convert.Parts.{Parts}
use Rattle.gate_plan.specs.declared.convert.Parts.TheVariants.{Word, Vector}
use Rattle.gate_plan.specs.declared.adder.Sums.{Sums}
use Rattle.gate_plan.specs.Adder.{pair_at, first_bit, next_bit, last_bit, bit_at, sums_at, bit_behind, adder}
use Rattle.gate_plan.specs.Convert.{entry_gates, entries, joiner_of, joined_wire, joint_gates, from_parts}
use Rattle.gate_plan.specs.Lowering.{Source, block_of, block_at, source_of, is_keys, wire_handled, width_handled, lowered_to}
use Rattle.gate_plan.specs.Bristol.{gates_of_end, gates_of_and, value_gates, input_gates, kind_gates, gates_made, wired_before, output_gates}
use Rattle.gate_plan.proofs.HandledLemmas.{handled_own}
use Rattle.joint_run.specs.Honest.{Taken, taken_by}
use Rattle.gate_tasks.specs.Stage.{taken_from}
use Rattle.local_run.specs.Inputs.{TakesFrom}
use Rattle.local_engine.specs.Inputs.{MixedPlansTakeInputs, BristolPlansTakeInputs}
use Rattle.local_run.proofs.Lists.{at_left, at_right}

-- gates that take no inputs but those of a table
abbrev TakeOf : List Input → List Gate → Type 0
TakeOf inputs gates =
    (g : ℕ) (gate : Gate) (t : Taken) → slice_get gates g ≡ Some gate → taken_by gate.kind ≡ Some t →
    TakesFrom inputs gate t

take_both : (inputs : List Input) (xs ys : List Gate) → TakeOf inputs xs → TakeOf inputs ys →
    TakeOf inputs (xs ++ ys)
take_both inputs [] ys first second g gate t there e = second g gate t there e
take_both inputs (x ∷ xs) ys first second zero gate t there e = first zero gate t there e
take_both inputs (x ∷ xs) ys first second (suc g) gate t there e =
    take_both inputs xs ys (λ h other u there e. first (suc h) other u there e) second g gate t there e

take_one : (inputs : List Input) (gate : Gate) →
    ((t : Taken) → taken_by gate.kind ≡ Some t → TakesFrom inputs gate t) → TakeOf inputs (gate ∷ [])
take_one inputs gate own zero other t there e =
    let same : gate ≡ other = same_some gate other there in
    subst (λ (u : Gate). TakesFrom inputs u t) same (own t (ap (λ (u : Gate). taken_by u.kind) same ∙ e))
take_one inputs gate own (suc g) other t there e = cc

-- ---- mixed circuits

-- a gate that takes the whole input of a statement
record IsTaking (op : Operation) (v : Source) (gate : Gate) (t : Taken) : Type 0 where
  owner : states is_owner_slot op ≡ true
  party : t.party ≡ v.party
  k : t.k ≡ v.k
  from : taken_from gate.kind ≡ 0
  width : gate.width ≡ v.width

take_silent : (inputs : List Input) (gate : Gate) → taken_by gate.kind ≡ None → TakeOf inputs (gate ∷ [])
take_silent inputs gate none = take_one inputs gate (λ t e. let contrary = sym none ∙ e in cc)

-- gates that take no input
take_two : (inputs : List Input) (g h : Gate) → taken_by g.kind ≡ None → taken_by h.kind ≡ None →
    TakeOf inputs (g ∷ h ∷ [])
take_two inputs g h one two =
    take_both inputs (g ∷ []) (h ∷ []) (take_silent inputs g one) (take_silent inputs h two)

take_three : (inputs : List Input) (g h i : Gate) → taken_by g.kind ≡ None → taken_by h.kind ≡ None →
    taken_by i.kind ≡ None → TakeOf inputs (g ∷ h ∷ i ∷ [])
take_three inputs g h i one two three =
    take_both inputs (g ∷ []) (h ∷ i ∷ []) (take_silent inputs g one) (take_two inputs h i two three)

take_row : (inputs : List Input) (count : ℕ) (f : ℕ → List Gate) →
    ((i : ℕ) → i < count → TakeOf inputs (f i)) → TakeOf inputs (in_row count f)
take_row inputs zero f own = λ g gate t there e. cc
take_row inputs (suc n) f own =
    take_both inputs (in_row n f) (f n) (take_row inputs n f (λ i h. own i (omega (arith, h)))) (own n (omega arith))

-- gates of which none takes an input
abbrev AreSilent : List Gate → Type 0
AreSilent gates = AllByRecursion (λ gate. taken_by gate.kind ≡ None) gates

take_none : (inputs : List Input) (gates : List Gate) → AreSilent gates → TakeOf inputs gates
take_none inputs [] silent = λ g gate t there e. cc
take_none inputs (gate ∷ gates) silent =
    take_both inputs (gate ∷ []) gates (take_silent inputs gate silent.0) (take_none inputs gates silent.1)

-- the adder, and values that are entered in parts
first_takes : (inputs : List Input) (n : ℕ) (a b : Wire) → TakeOf inputs (first_bit n a b)
first_takes inputs n a b = take_none inputs (first_bit n a b) (refl, (refl, (refl, (refl, (refl, (refl, (refl, (refl, (refl, tt)))))))))

next_takes : (inputs : List Input) (n bit : ℕ) (a b : Wire) (t : Sums) → TakeOf inputs (next_bit n bit a b t)
next_takes inputs n bit a b t =
    take_none inputs (next_bit n bit a b t)
    (refl, (refl, (refl, (refl, (refl, (refl, (refl, (refl, (refl, (refl, (refl, (refl, (refl, (refl, (refl, (refl, (refl, tt)))))))))))))))))

last_takes : (inputs : List Input) (n bit : ℕ) (a b : Wire) (t : Sums) → TakeOf inputs (last_bit n bit a b t)
last_takes inputs n bit a b t =
    take_none inputs (last_bit n bit a b t) (refl, (refl, (refl, (refl, (refl, (refl, (refl, (refl, (refl, (refl, tt))))))))))

adder_takes : (inputs : List Input) (n i : ℕ) (a b : Wire) → TakeOf inputs (adder n i a b)
unfolding adder
adder_takes inputs n i a b =
    take_both inputs (first_bit n a b) (in_row i (bit_behind n a b) ++ last_bit (bit_at n i) (i + 1) a b (sums_at n i)) (first_takes inputs n a b)
    (take_both inputs (in_row i (bit_behind n a b)) (last_bit (bit_at n i) (i + 1) a b (sums_at n i))
    (take_row inputs i (bit_behind n a b) (λ j h. next_takes inputs (bit_at n j) (j + 1) a b (sums_at n j)))
    (last_takes inputs (bit_at n i) (i + 1) a b (sums_at n i)))

entry_takes : (inputs : List Input) (parts : Parts) (n party : ℕ) → TakeOf inputs (entry_gates parts n party)
entry_takes inputs (Word x) n party = take_two inputs _ _ refl refl
entry_takes inputs (Vector x width) n party = take_two inputs _ _ refl refl

joint_takes : (inputs : List Input) (parts : Parts) (n m k : ℕ) → TakeOf inputs (joint_gates (joiner_of parts) n m k)
joint_takes inputs (Word x) n m k =
    adder_takes inputs (m + 1073 * k) 62 (joined_wire (joiner_of (Word x)) n m k) (pair_at (n + 2 * (k + 1)))
joint_takes inputs (Vector x width) n m k = take_two inputs _ _ refl refl

parts_take : (inputs : List Input) (parts : Parts) (parties n : ℕ) → TakeOf inputs (from_parts parts parties n).gates
parts_take inputs parts parties n =
    take_both inputs (entries parts n parties) (in_row (parties - 1) (joint_gates (joiner_of parts) n (n + 2 * parties)))
    (take_row inputs parties (λ party. entry_gates parts (n + 2 * party) party) (λ i h. entry_takes inputs parts (n + 2 * i) i))
    (take_row inputs (parties - 1) (joint_gates (joiner_of parts) n (n + 2 * parties)) (λ i h. joint_takes inputs parts n (n + 2 * parties) i))

taking : (inputs : List Input) (parties : ℕ) (op : Operation) (keys : Bool) (v : Source) (n : ℕ) →
    ((gate : Gate) (t : Taken) → IsTaking op v gate t → TakesFrom inputs gate t) → TakeOf inputs (block_of parties op keys v n).gates
taking inputs parties InputWord keys v n own =
    take_one inputs (gate_of (InA v.party v.k) v.width) (λ t e. own (gate_of (InA v.party v.k) v.width) t
    (let taken = same_some _ t e in
    record { owner = refl; party = sym (ap (λ (u : Taken). u.party) taken); k = sym (ap (λ (u : Taken). u.k) taken); from = refl; width = refl }))
taking inputs parties InputBits false v n own =
    take_one inputs (gate_of (InB v.party v.k 0) v.width) (λ t e. own (gate_of (InB v.party v.k 0) v.width) t
    (let taken = same_some _ t e in
    record { owner = refl; party = sym (ap (λ (u : Taken). u.party) taken); k = sym (ap (λ (u : Taken). u.k) taken); from = refl; width = refl }))
taking inputs parties Output false v n own =
    take_silent inputs (gate_of (cond v.is_word (plan.OutA v.x.gate v.to) (plan.OutB v.x.gate v.to)) v.width) (either v.is_word)
  where
    either : (b : Bool) → taken_by (cond b (plan.OutA v.x.gate v.to) (plan.OutB v.x.gate v.to)) ≡ None
    either true = refl
    either false = refl
taking inputs parties ConstWord keys v n own = take_silent inputs _ refl
taking inputs parties ConstBits false v n own = take_silent inputs _ refl
taking inputs parties InputBits true v n own =
    take_both inputs (gate_of KeyMask v.width ∷ []) (gate_of (InOnline v.party v.k 0 n) v.width ∷ []) (take_silent inputs _ refl)
    (take_one inputs (gate_of (InOnline v.party v.k 0 n) v.width) (λ t e. own (gate_of (InOnline v.party v.k 0 n) v.width) t
    (let taken = same_some _ t e in
    record { owner = refl; party = sym (ap (λ (u : Taken). u.party) taken); k = sym (ap (λ (u : Taken). u.k) taken); from = refl; width = refl })))
taking inputs parties ConstBits true v n own = take_two inputs _ _ refl refl
taking inputs parties Xor true v n own = take_two inputs _ _ refl refl
taking inputs parties And true v n own = take_three inputs _ _ _ refl refl refl
taking inputs parties Not true v n own = take_silent inputs _ refl
taking inputs parties Slice true v n own = take_two inputs _ _ refl refl
taking inputs parties Join true v n own = take_two inputs _ _ refl refl
taking inputs parties Y2B keys v n own = take_silent inputs _ refl
taking inputs parties Output true v n own = take_two inputs _ _ refl refl
taking inputs parties Add keys v n own = take_silent inputs _ refl
taking inputs parties Sub keys v n own = take_silent inputs _ refl
taking inputs parties Mul keys v n own = take_silent inputs _ refl
taking inputs parties AddConst keys v n own = take_silent inputs _ refl
taking inputs parties MulConst keys v n own = take_silent inputs _ refl
taking inputs parties Xor false v n own = take_silent inputs _ refl
taking inputs parties And false v n own = take_silent inputs _ refl
taking inputs parties Not false v n own = take_silent inputs _ refl
taking inputs parties Slice false v n own = take_silent inputs _ refl
taking inputs parties Join false v n own = take_silent inputs _ refl
taking inputs parties A2Y keys v n own = parts_take inputs (Word v.x.gate) parties n
taking inputs parties A2B keys v n own =
    take_both inputs (from_parts (Word v.x.gate) parties n).gates (_ ∷ []) (parts_take inputs (Word v.x.gate) parties n) (take_silent inputs _ refl)
taking inputs parties B2Y keys v n own = parts_take inputs (Vector v.x.gate v.width) parties n
taking inputs parties B2A keys v n own = take_silent inputs _ refl
taking inputs parties Y2A keys v n own = take_two inputs _ _ refl refl

-- an input has a name, and its value is as wide as its line states
record IsInput (op : Operation) (given : Sharing) (width stated : ℕ) : Type 0 where
  named : states is_name_slot op ≡ true
  wide : width_of (wire_type (gives op given) width) ≡ stated

input_is : (op : Operation) (given : Sharing) (stated start : ℕ) (os : List Operand) (width : ℕ) →
    states is_owner_slot op ≡ true → is_in (domain_of op) given ≡ true →
    width_by (widths_of op) stated start os ≡ Some width →
    (states is_width_slot op ≡ false → stated ≡ 64) → IsInput op given width stated
input_is InputWord sharing.A stated start os width owner domain wide bare =
    record { named = refl; wide = sym (bare refl) }
input_is InputBits sharing.B stated start os width owner domain wide bare =
    record { named = refl; wide = sym (same_some stated width wide) }
input_is InputBits sharing.Y stated start os width owner domain wide bare =
    record { named = refl; wide = sym (same_some stated width wide) }
input_is InputWord sharing.B stated start os width owner domain wide bare = cc
input_is InputWord sharing.Y stated start os width owner domain wide bare = cc
input_is InputBits sharing.A stated start os width owner domain wide bare = cc
input_is ConstWord given stated start os width owner domain wide bare = cc
input_is ConstBits given stated start os width owner domain wide bare = cc
input_is Add given stated start os width owner domain wide bare = cc
input_is Sub given stated start os width owner domain wide bare = cc
input_is Mul given stated start os width owner domain wide bare = cc
input_is AddConst given stated start os width owner domain wide bare = cc
input_is MulConst given stated start os width owner domain wide bare = cc
input_is Xor given stated start os width owner domain wide bare = cc
input_is And given stated start os width owner domain wide bare = cc
input_is Not given stated start os width owner domain wide bare = cc
input_is Slice given stated start os width owner domain wide bare = cc
input_is Join given stated start os width owner domain wide bare = cc
input_is A2Y given stated start os width owner domain wide bare = cc
input_is A2B given stated start os width owner domain wide bare = cc
input_is B2Y given stated start os width owner domain wide bare = cc
input_is Y2B given stated start os width owner domain wide bare = cc
input_is B2A given stated start os width owner domain wide bare = cc
input_is Y2A given stated start os width owner domain wide bare = cc
input_is Output given stated start os width owner domain wide bare = cc

some_there : (o : Option ℕ) → IsSome o → (party : ℕ) × (o ≡ Some party)
some_there None some = cc
some_there (Some party) some = (party, refl)

-- the entry of a statement stands behind those of the statements before it
entry_there : (ss : List Statement) (n : ℕ) (s : Statement) (x : Input) → slice_get ss n ≡ Some s →
    slice_get (input_entry s (owner_of s.shape)) 0 ≡ Some x →
    slice_get (inputs_of ss) (length (inputs_of (take n ss))) ≡ Some x
entry_there [] n s x there e = cc
entry_there (u ∷ ss) zero s x there e =
    at_left (input_entry u (owner_of u.shape)) (inputs_of ss) 0 x
    (subst (λ (y : Statement). slice_get (input_entry y (owner_of y.shape)) 0 ≡ Some x) (sym (same_some u s there)) e)
entry_there (u ∷ ss) (suc n) s x there e =
    let own = input_entry u (owner_of u.shape) in
    ap (slice_get (own ++ inputs_of ss)) (length-append own (inputs_of (take n ss)))
    ∙ at_right own (inputs_of ss) (length (inputs_of (take n ss))) x (entry_there ss n s x there e)

module _ (c : Circuit) (circuit : IsCircuit c) where
  abbrev all : List Statement
  all = c.statements

  take_here : (n : ℕ) (s : Statement) (wires : List Wire) → slice_get all n ≡ Some s → (gate : Gate) (t : Taken) →
      IsTaking s.shape.operation (source_of c n wires s) gate t → TakesFrom (inputs_of all) gate t
  take_here n s wires there gate t is =
      let row = circuit.each n s there in
      let owner = some_there s.shape.party (row.numbers.owner is.owner) in
      let entry : Input = record { name = s.name; party = record { 0 = owner.0 }; width = s.shape.width } in
      let owned : owner_of s.shape ≡ Some owner.0 = ap (λ (b : Bool). cond b s.shape.party None) is.owner ∙ owner.1 in
      let input =
      input_is s.shape.operation row.sharing s.shape.width s.shape.place row.operands row.width
      is.owner row.domain row.wide row.numbers.no_width in
      let w : WireType = wire_type (gives s.shape.operation row.sharing) row.width in
      let own : s.wire ≡ Some w = row.wire ∙ ap (λ (b : Bool). cond b (Some w) None) input.named in
      let wide : width_handled (wire_handled all s) ≡ s.shape.width =
      ap width_handled (handled_own c n s w circuit there own).0 ∙ input.wide in
      let from = is.from in
      let same = is.width in
      record {
        input = entry;
        there = ap (slice_get (inputs_of all)) is.k
            ∙ entry_there all n s entry there (ap (λ (o : Option ℕ). slice_get (input_entry s o) 0) owned);
        party = sym (is.party ∙ ap (λ (o : Option ℕ). unwrap_or o 0) owner.1);
        within = omega (arith, from, wide, same);
      }

  take_before : (n : ℕ) → TakeOf (inputs_of all) (lowered_to c n).gates
  take_before zero = λ g gate t there e. cc
  take_before (suc n) =
      take_both (inputs_of all) (lowered_to c n).gates (block_at c n (lowered_to c n) (slice_get all n)).gates (take_before n)
      (by (slice_get all n) refl)
    where
      by : (o : Option Statement) → slice_get all n ≡ o → TakeOf (inputs_of all) (block_at c n (lowered_to c n) o).gates
      by None there = λ g gate t there e. cc
      by (Some s) there =
          let wires = (lowered_to c n).wires in
          taking (inputs_of all) c.parties s.shape.operation (is_keys (wire_handled all s)) (source_of c n wires s) (length (lowered_to c n).gates)
          (take_here n s wires there)

pub mixed_plans_take_inputs : MixedPlansTakeInputs
mixed_plans_take_inputs c circuit = take_before c circuit (length c.statements)

-- ---- circuits in Bristol Fashion

-- a bit of an input value
take_bit : (inputs : List Input) (keys : Bool) (n party k at : ℕ) →
    TakesFrom inputs (gate_of (InB party k at) 1) (record { party = party; k = k }) →
    TakeOf inputs (entered keys n 1 party k at).gates
take_bit inputs false n party k at own =
    take_one inputs (gate_of (InB party k at) 1) (λ t e. subst (λ (u : Taken). TakesFrom inputs (gate_of (InB party k at) 1) u) (same_some _ t e) own)
take_bit inputs true n party k at own =
    take_both inputs (gate_of KeyMask 1 ∷ []) (gate_of (InOnline party k at n) 1 ∷ []) (take_silent inputs _ refl)
    (take_one inputs (gate_of (InOnline party k at n) 1) (λ t e.
    subst (λ (u : Taken). TakesFrom inputs (gate_of (InOnline party k at n) 1) u) (same_some _ t e)
    (record { input = own.input; there = own.there; party = own.party; within = own.within })))

take_inputs : (inputs : List Input) (keys : Bool) (parties n k : ℕ) (widths : List ℕ) →
    ((i : ℕ) (x : Input) → slice_get (bristol_table.inputs_from parties k widths) i ≡ Some x →
    slice_get inputs (k + i) ≡ Some x) →
    TakeOf inputs (input_gates keys parties n k widths)
take_inputs inputs keys parties n k [] at = λ g gate t there e. cc
take_inputs inputs keys parties n k (w ∷ ws) at =
    take_both inputs (value_gates keys n (k % parties) k w) (input_gates keys parties (n + gates_of_end keys * w) (k + 1) ws)
    (take_row inputs w (λ i. (entered keys (n + gates_of_end keys * i) 1 (k % parties) k i).gates)
    (λ i h. take_bit inputs keys (n + gates_of_end keys * i) (k % parties) k i (own i h)))
    (take_inputs inputs keys parties (n + gates_of_end keys * w) (k + 1) ws (λ i x there.
    let place : k + suc i ≡ k + 1 + i = omega arith in
    subst (λ (n : ℕ). slice_get inputs n ≡ Some x) place (at (suc i) x there)))
  where
    own : (i : ℕ) → i < w → TakesFrom inputs (gate_of (InB (k % parties) k i) 1) (record { party = k % parties; k = k })
    own i h =
        let entry : Input =
        record { name = bristol_table.input_name k; party = record { 0 = k % parties }; width = w } in
        let place : k + 0 ≡ k = omega arith in
        let found : slice_get inputs k ≡ Some entry =
        subst (λ (n : ℕ). slice_get inputs n ≡ Some entry) place (at 0 entry refl) in
        record { input = entry; there = found; party = refl; within = omega (arith, h) }

take_and : (inputs : List Input) (keys : Bool) (n : ℕ) (a b : Wire) → TakeOf inputs (anded keys n 1 a b).gates
take_and inputs false n a b = take_silent inputs _ refl
take_and inputs true n a b = take_three inputs _ _ _ refl refl refl

take_kind : (inputs : List Input) (keys : Bool) (k : BristolKind) (x : ℕ → Wire) (word outs n : ℕ) →
    TakeOf inputs (kind_gates keys k x word outs n)
take_kind inputs false kind.Xor x word outs n = take_silent inputs _ refl
take_kind inputs true kind.Xor x word outs n = take_two inputs _ _ refl refl
take_kind inputs keys kind.And x word outs n = take_and inputs keys n (x 0) (x 1)
take_kind inputs false kind.Inv x word outs n = take_silent inputs _ refl
take_kind inputs true kind.Inv x word outs n = take_silent inputs _ refl
take_kind inputs false kind.Eq x word outs n = take_silent inputs _ refl
take_kind inputs true kind.Eq x word outs n = take_two inputs _ _ refl refl
take_kind inputs keys kind.Eqw x word outs n = λ g gate t there e. cc
take_kind inputs keys kind.Mand x word outs n =
    take_row inputs outs (λ i. (anded keys (n + gates_of_and keys * i) 1 (x i) (x (outs + i))).gates)
    (λ i h. take_and inputs keys (n + gates_of_and keys * i) (x i) (x (outs + i)))

take_made : (inputs : List Input) (keys : Bool) (before : Lowered) (o : Option bristol.Gate) →
    TakeOf inputs (gates_made keys before o)
take_made inputs keys before None = λ g gate t there e. cc
take_made inputs keys before (Some g) =
    take_kind inputs keys g.kind (λ i. wire_among before.wires (slice_index g.ins i)) (slice_index g.ins 0) (length g.outs)
    (length before.gates)

take_wired : (keys : Bool) (parties : ℕ) (c : bristol.Circuit) (n : ℕ) →
    TakeOf (bristol_table.inputs_of parties c) (wired_before keys parties c n).gates
take_wired keys parties c zero =
    take_inputs (bristol_table.inputs_of parties c) keys parties 0 0 c.inputs (λ i x there.
    let place : i ≡ 0 + i = omega arith in
    subst (λ (n : ℕ). slice_get (bristol_table.inputs_of parties c) n ≡ Some x) place there)
take_wired keys parties c (suc n) =
    let before = wired_before keys parties c n in
    take_both (bristol_table.inputs_of parties c) before.gates (gates_made keys before (slice_get c.gates n))
    (take_wired keys parties c n) (take_made (bristol_table.inputs_of parties c) keys before (slice_get c.gates n))

take_output : (inputs : List Input) (keys : Bool) (n : ℕ) (a : Wire) → TakeOf inputs (told keys n 1 a All).gates
take_output inputs false n a = take_silent inputs _ refl
take_output inputs true n a = take_two inputs _ _ refl refl

pub bristol_plans_take_inputs : BristolPlansTakeInputs
bristol_plans_take_inputs keys parties c =
    let v = wired_before keys parties c (length c.gates) in
    let from = c.wires - sum c.outputs in
    take_both (bristol_table.inputs_of parties c) v.gates
    (output_gates keys v.wires (length v.gates) from (sum c.outputs))
    (take_wired keys parties c (length c.gates))
    (take_row (bristol_table.inputs_of parties c) (sum c.outputs)
    (λ j. (told keys (length v.gates + gates_of_end keys * j) 1 (wire_among v.wires (from + j)) All).gates)
    (λ j h. take_output (bristol_table.inputs_of parties c) keys (length v.gates + gates_of_end keys * j)
    (wire_among v.wires (from + j))))
