-- The gates of an operation may stand behind those of its operands.
use Rattle.std.proofs.Common.{ℕ, ◌≡◌, ◌<◌, ◌≤◌, ◌+◌, ◌-◌, ◌^◌, Bool, true, false, cond, List, [], ◌∷◌, ◌++◌, length, Some, None, refl, sym, ◌∙◌, subst, arith}
use Rattle.std.specs.Prelude.{map, slice_get, IfSome, nat_le, ◌==◌}
use Rattle.std.specs.List.{list_all, AllByRecursion}
use Rattle.std.proofs.lemmas.Bool.{eqb-true, leb-true}
use Rattle.std.proofs.Math.Pow.{pow-sub-lt}
use Rattle.std.proofs.lemmas.Nat.{pow_pos}
use Rattle.std.proofs.lemmas.List.{length-append}
use Rattle.mot_base.specs.Limits.{most_width}
use Rattle.mot_base.proofs.Lists.{same_some, both_true}
use Rattle.share_types.specs.declared.sharing.Sharing.{Sharing}
use Rattle.share_types.specs.declared.sharing.Sharing.TheVariants.{A, B, Y}
use Rattle.share_types.specs.declared.sharing.WireType.{WireType}
use Rattle.share_types.specs.declared.sharing.WireType.TheVariants as wire
use Rattle.share_types.specs.Wires.{sharing_of, is_shared, wire_type, width_of, party_told}
use Rattle.mixed_language.specs.declared.language.Operation.{Operation}
use Rattle.mixed_language.specs.declared.language.Operation.TheVariants.{InputWord, InputBits, ConstWord, ConstBits, Add, Sub, Mul, AddConst, MulConst, Xor, And, Not, Slice, Join, A2Y, A2B, B2Y, Y2B, B2A, Y2A, Output}
use Rattle.mixed_language.specs.declared.operand.Operand.{Operand}
use Rattle.mixed_language.specs.declared.language.Widths.TheVariants.{Cut, Joined}
use Rattle.mixed_language.specs.Language.{domain_of, widths_of, is_in, gives, arity_of, states, is_name_slot, is_width_slot}
use Rattle.mixed_language.specs.Operands.{width_by, alike_width}
use Rattle.mixed_language.specs.Wide.{IsWide}
use Rattle.plan_gates.specs.Gate as planned
use Rattle.plan_gates.specs.Gate.{Kind, Word, gate_of, uses, operands, constant_of, party_of, width_at, InA, ConstA, AddA, SubA, AddConstA, MulConstA, MulA, OutA, OutB, YToB, BToA}
use Rattle.plan_gates.specs.Plan.{Gates, IsOperand, FitWidths, ArePaired, IsGate}
use Rattle.gate_plan.specs.declared.wire.Wire.{Wire}
use Rattle.gate_plan.specs.declared.convert.Parts.{Parts}
use Rattle.gate_plan.specs.declared.convert.Parts.TheVariants as part
use Rattle.gate_plan.specs.Blocks.{one, Stand}
use Rattle.gate_plan.specs.Convert.{width_of_parts, from_parts}
use Rattle.gate_plan.specs.Lowering.{Source, block_of, is_keys, is_word}
use Rattle.gate_plan.proofs.StandLemmas.{first_of, stand_front, stand_back, IsValue, later, value_width, value_operand, own_value, AreBits, IsShared, bits_gate, word_gate, AllGates, all_one, all_both}
use Rattle.gate_plan.proofs.PartsLemmas.{gate_of_parts}
use Rattle.gate_plan.proofs.PartsFitLemmas.{given_of, parts_fit}
use Rattle.gate_plan.proofs.OperationLemmas.{is_of_word}
use Rattle.gate_plan.proofs.BlockLemmas.{entered_fits, constant_fits, xored_fits, anded_fits, flipped_fits, sliced_fits, joined_fits, vector_fits, told_fits}

-- how bits are shared, as keys or by XOR
abbrev pub of_bits : Bool → Sharing
of_bits false = B
of_bits true = Y

as_bits : (keys : Bool) (gates : List planned.Gate) (bound : ℕ) (a : Wire) (width : ℕ) →
    IsShared (of_bits keys) gates bound a width → AreBits keys gates bound a width
as_bits false gates bound a width is = is
as_bits true gates bound a width is = is

pub shared_same : (given : Sharing) (w : WireType) → is_shared given w ≡ true → sharing_of w ≡ given
shared_same A wire.A e = refl
shared_same B (wire.B width) e = refl
shared_same Y (wire.Y width) e = refl
shared_same _ _ e = cc

word_wide : (w : WireType) → is_shared A w ≡ true → width_of w ≡ most_width
word_wide wire.A e = refl
word_wide _ e = cc

pub record OneOperand (os : List Operand) : Type 0 where
  pub x : Operand
  pub is : os ≡ x ∷ []
  pub first : slice_get os 0 ≡ Some x

pub one_operand : (os : List Operand) → length os ≡ 1 → OneOperand os
one_operand [] e = cc
one_operand (x ∷ []) e = record { x = x; is = refl; first = refl }
one_operand (x ∷ y ∷ os) e = absurd (omega (arith, e))

pub record TwoOperands (os : List Operand) : Type 0 where
  pub x : Operand
  pub y : Operand
  pub is : os ≡ x ∷ y ∷ []
  pub first : slice_get os 0 ≡ Some x
  pub second : slice_get os 1 ≡ Some y

pub two_operands : (os : List Operand) → length os ≡ 2 → TwoOperands os
two_operands [] e = cc
two_operands (x ∷ []) e = absurd (omega (arith, e))
two_operands (x ∷ y ∷ []) e = record { x = x; y = y; is = refl; first = refl; second = refl }
two_operands (x ∷ y ∷ z ∷ os) e = absurd (omega (arith, e))

-- ---- widths

tested : (b : Bool) (n width : ℕ) → cond b (Some n) None ≡ Some width → (b ≡ true) × (n ≡ width)
tested true n width e = (refl, same_some n width e)
tested false n width e = cc

one_width : (x : Operand) (width : ℕ) → alike_width (x ∷ []) ≡ Some width → width_of x.wire ≡ width
one_width x width e =
    (tested (list_all (λ (z : Operand). width_of z.wire == width_of x.wire) (x ∷ []))
    (width_of x.wire) width e).1

two_widths : (x y : Operand) (width : ℕ) → alike_width (x ∷ y ∷ []) ≡ Some width →
    (width_of x.wire ≡ width) × (width_of y.wire ≡ width)
two_widths x y width e =
    let parts = tested (list_all (λ (z : Operand). width_of z.wire == width_of x.wire) (x ∷ y ∷ []))
    (width_of x.wire) width e in
    let first =
    both_true (width_of x.wire == width_of x.wire)
    (list_all (λ (z : Operand). width_of z.wire == width_of x.wire) (y ∷ [])) parts.0 in
    let second = both_true (width_of y.wire == width_of x.wire) true first.1 in
    (parts.1, eqb-true _ _ second.0 ∙ parts.1)

of_word_wide : (os : List Operand) (width : ℕ) → length os ≡ 1 →
    ((i : ℕ) (o : Operand) → slice_get os i ≡ Some o → is_shared A o.wire ≡ true) → alike_width os ≡ Some width →
    width ≡ most_width
of_word_wide os width one shared alike =
    let t = one_operand os one in
    sym (one_width t.x width (subst (λ zs. alike_width zs ≡ Some width) t.is alike))
    ∙ word_wide t.x.wire (shared 0 t.x t.first)

-- what is made of a word is as wide as one
pub whole_word : (op : Operation) (given : Sharing) (width stated place : ℕ) (os : List Operand) → is_of_word op ≡ true →
    is_in (domain_of op) given ≡ true → length os ≡ arity_of op →
    ((i : ℕ) (o : Operand) → slice_get os i ≡ Some o → is_shared given o.wire ≡ true) →
    width_by (widths_of op) stated place os ≡ Some width →
    (states is_name_slot op ≡ true) × (width_of (wire_type (gives op given) width) ≡ most_width)
whole_word A2Y A width stated place os e domain arity shared wide = (refl, of_word_wide os width arity shared wide)
whole_word A2B A width stated place os e domain arity shared wide = (refl, of_word_wide os width arity shared wide)
whole_word _ _ width stated place os e domain arity shared wide = cc

-- ---- operands

-- what an operation stands on, from what its line states: its operands are values before a place, as many
-- as it takes and shared so, and its numbers are in order
pub record Sound (plan : Gates) (n : ℕ) (op : Operation) (given : Sharing) (v : Source) (stated : ℕ)
    (os : List Operand) (width : ℕ) : Type 0 where
  pub arity : length os ≡ arity_of op
  pub wide : width_by (widths_of op) stated v.place os ≡ Some width
  pub shared : (i : ℕ) (o : Operand) → slice_get os i ≡ Some o → is_shared given o.wire ≡ true
  pub x : (o : Operand) → slice_get os 0 ≡ Some o → IsShared given plan.gates n v.x (width_of o.wire)
  pub y : (o : Operand) → slice_get os 1 ≡ Some o → IsShared given plan.gates n v.y (width_of o.wire)
  pub party : v.party < plan.parties
  pub to : IfSome (party_told v.to) (λ party. party < plan.parties)
  pub constant : v.constant < 2 ^ stated
  pub bare : states is_width_slot op ≡ false → stated ≡ most_width
  pub low : (o : Operand) → slice_get os 0 ≡ Some o → v.low ≡ width_of o.wire
  pub operand_wide : (o : Operand) → slice_get os 0 ≡ Some o → IsWide o.wire

module _ (plan : Gates) (n : ℕ) (op : Operation) (v : Source) (stated : ℕ) (os : List Operand)
    (width : ℕ) where
  one_word : Sound plan n op A v stated os width → length os ≡ 1 → v.width ≡ most_width →
      IsValue plan.gates n Word v.x.gate v.width
  one_word sound one whole =
      let t = one_operand os one in
      subst (IsValue plan.gates n Word v.x.gate)
      (word_wide t.x.wire (sound.shared 0 t.x t.first) ∙ sym whole) (sound.x t.x t.first)

  two_words : Sound plan n op A v stated os width → length os ≡ 2 → v.width ≡ most_width →
      IsValue plan.gates n Word v.x.gate v.width × IsValue plan.gates n Word v.y.gate v.width
  two_words sound two whole =
      let t = two_operands os two in (
        subst (IsValue plan.gates n Word v.x.gate)
            (word_wide t.x.wire (sound.shared 0 t.x t.first) ∙ sym whole) (sound.x t.x t.first),
        subst (IsValue plan.gates n Word v.y.gate)
            (word_wide t.y.wire (sound.shared 1 t.y t.second) ∙ sym whole) (sound.y t.y t.second),
      )

  -- bits of the first operand, and of both
  first_bits : (keys : Bool) → Sound plan n op (of_bits keys) v stated os width → (o : Operand) →
      slice_get os 0 ≡ Some o → (w : ℕ) → width_of o.wire ≡ w → AreBits keys plan.gates n v.x w
  first_bits keys sound o first w same =
      subst (AreBits keys plan.gates n v.x) same (as_bits keys plan.gates n v.x (width_of o.wire) (sound.x o first))

  second_bits : (keys : Bool) → Sound plan n op (of_bits keys) v stated os width → (o : Operand) →
      slice_get os 1 ≡ Some o → (w : ℕ) → width_of o.wire ≡ w → AreBits keys plan.gates n v.y w
  second_bits keys sound o second w same =
      subst (AreBits keys plan.gates n v.y) same (as_bits keys plan.gates n v.y (width_of o.wire) (sound.y o second))

  one_vector : (keys : Bool) → Sound plan n op (of_bits keys) v stated os width → length os ≡ 1 →
      alike_width os ≡ Some width → v.width ≡ width → AreBits keys plan.gates n v.x v.width
  one_vector keys sound one alike same =
      let t = one_operand os one in
      let w = one_width t.x width (subst (λ zs. alike_width zs ≡ Some width) t.is alike) in
      first_bits keys sound t.x t.first v.width (w ∙ sym same)

  two_vectors : (keys : Bool) → Sound plan n op (of_bits keys) v stated os width → length os ≡ 2 →
      alike_width os ≡ Some width → v.width ≡ width →
      AreBits keys plan.gates n v.x v.width × AreBits keys plan.gates n v.y v.width
  two_vectors keys sound two alike same =
      let t = two_operands os two in
      let w = two_widths t.x t.y width (subst (λ zs. alike_width zs ≡ Some width) t.is alike) in (
        first_bits keys sound t.x t.first v.width (w.0 ∙ sym same),
        second_bits keys sound t.y t.second v.width (w.1 ∙ sym same),
      )

  -- bits that are cut out lie within the operand
  cut_vector : (keys : Bool) → Sound plan n op (of_bits keys) v stated os width → length os ≡ 1 →
      width_by Cut stated v.place os ≡ Some width → v.width ≡ width →
      (low : ℕ) × AreBits keys plan.gates n v.x low × (v.place + v.width ≤ low)
  cut_vector keys sound one cut same =
      let t = one_operand os one in
      let parted = tested (nat_le (v.place + stated) (width_of t.x.wire)) stated width
      (subst (λ zs. width_by Cut stated v.place zs ≡ Some width) t.is cut) in
      let within = leb-true _ _ parted.0 in
      let whole = parted.1 in
      (width_of t.x.wire, first_bits keys sound t.x t.first (width_of t.x.wire) refl, omega (arith, within, whole, same))

  -- bits that are joined are those of both operands
  joined_vectors : (keys : Bool) → Sound plan n op (of_bits keys) v stated os width → length os ≡ 2 →
      width_by Joined stated v.place os ≡ Some width → v.width ≡ width →
      (low high : ℕ) × AreBits keys plan.gates n v.x low × AreBits keys plan.gates n v.y high ×
      (v.width ≡ low + high)
  joined_vectors keys sound two joined same =
      let t = two_operands os two in
      let parted = tested (nat_le (width_of t.x.wire + width_of t.y.wire) most_width)
      (width_of t.x.wire + width_of t.y.wire) width
      (subst (λ zs. width_by Joined stated v.place zs ≡ Some width) t.is joined) in (
        width_of t.x.wire,
        width_of t.y.wire,
        first_bits keys sound t.x t.first (width_of t.x.wire) refl,
        second_bits keys sound t.y t.second (width_of t.y.wire) refl,
        same ∙ sym parted.1,
      )

-- ---- each operation

module _ (plan : Gates) (n : ℕ) where
  -- the gates of an operation may stand where they do, and give its value
  pub record IsFit (op : Operation) (keys : Bool) (given : Sharing) (v : Source) : Type 0 where
    pub gates : AllGates plan n (block_of plan.parties op keys v n).gates
    pub value : IsShared (gives op given) plan.gates (n + length (block_of plan.parties op keys v n).gates)
        (block_of plan.parties op keys v n).wire v.width

  -- both of one gate on words
  abbrev FitsAlone : Kind → ℕ → Type 0
  FitsAlone kind w = AllGates plan n (gate_of kind w ∷ []) × IsValue plan.gates (n + 1) Word n w

  of_word : (kind : Kind) (w : ℕ) → Stand plan.gates n (gate_of kind w ∷ []) → planned.gives kind ≡ Word →
      w ≡ most_width → constant_of kind < 2 ^ w → AllByRecursion (IsOperand plan.gates n) (uses kind) →
      FitWidths kind w (map (width_at plan.gates) (operands kind)) → ArePaired plan.gates kind →
      IfSome (party_of kind) (λ party. party < plan.parties) → FitsAlone kind w
  of_word kind w stand is whole small before fits paired party = (
    all_one plan n (gate_of kind w) (word_gate plan n kind w whole small before fits paired party),
    own_value plan.gates n (gate_of kind w) Word (first_of plan.gates n (gate_of kind w) [] stand) is,
  )

  -- a constant of bits fits the width of its line
  constant_small : (v : Source) (stated width : ℕ) → v.constant < 2 ^ stated → stated ≡ width → v.width ≡ width →
      v.constant < 2 ^ v.width
  constant_small v stated width h is same = subst (λ (k : ℕ). v.constant < 2 ^ k) (is ∙ sym same) h

  -- a value that is entered in parts
  entered_fit : (parts : Parts) (v : Source) → width_of_parts parts ≡ v.width → 1 ≤ width_of_parts parts →
      width_of_parts parts ≤ most_width → v.party < plan.parties →
      IsValue plan.gates n (given_of parts) (gate_of_parts parts) (width_of_parts parts) →
      Stand plan.gates n (from_parts parts plan.parties n).gates →
      AllGates plan n (from_parts parts plan.parties n).gates
      × AreBits true plan.gates (n + length (from_parts parts plan.parties n).gates)
      (from_parts parts plan.parties n).wire v.width
  entered_fit parts v wide some most party value stand =
      let f = parts_fit plan parts n some most (omega (arith, party)) value stand in (
        f.gates,
        subst (AreBits true plan.gates (n + length (from_parts parts plan.parties n).gates)
            (from_parts parts plan.parties n).wire) wide f.value,
      )

  -- the bits of a word
  bits_fit : (v : Source) → v.width ≡ most_width → v.party < plan.parties →
      IsValue plan.gates n planned.Word v.x.gate 64 →
      Stand plan.gates n (block_of plan.parties A2B true v n).gates → IsFit A2B true A v
  bits_fit v whole party value stand =
      let word = from_parts (part.Word v.x.gate) plan.parties n in
      let last : planned.Gate = gate_of (YToB word.wire.mask word.wire.gate) v.width in
      let m : ℕ = n + length word.gates in
      let f = entered_fit (part.Word v.x.gate) v (sym whole) (omega arith) (omega arith) party value
      (stand_front plan.gates word.gates (last ∷ []) n stand) in
      let g = vector_fits plan m v.width (omega (arith, whole)) (omega (arith, whole)) word.wire f.1
      (stand_back plan.gates word.gates (last ∷ []) n m refl stand) in
      let size : length (word.gates ++ last ∷ []) ≡ length word.gates + 1 = length-append word.gates (last ∷ []) in
      record {
        gates = all_both plan n word.gates m (last ∷ []) refl f.0 g.gates;
        value = later (n + length (word.gates ++ last ∷ [])) (omega (arith, size)) g.value;
      }

  -- a wire that becomes a word
  number_fit : (v : Source) → 1 ≤ v.low → v.low ≤ most_width → v.width ≡ most_width → AreBits true plan.gates n v.x v.low →
      Stand plan.gates n (block_of plan.parties Y2A true v n).gates → IsFit Y2A true Y v
  number_fit v some most whole bits stand =
      let first : planned.Gate = gate_of (YToB v.x.mask v.x.gate) v.low in
      let last : planned.Gate = gate_of (BToA n) v.width in
      let f = vector_fits plan n v.low some most v.x bits (stand_front plan.gates (first ∷ []) (last ∷ []) n stand) in
      let behind = stand_back plan.gates (first ∷ []) (last ∷ []) n (n + 1) refl stand in
      record {
        gates = all_both plan n (first ∷ []) (n + 1) (last ∷ []) refl f.gates
            (all_one plan (n + 1) last
            (word_gate plan (n + 1) (BToA n) v.width whole (pow_pos v.width) (value_operand f.value, tt) tt tt tt));
        value = later (n + 2) (omega arith)
            (own_value plan.gates (n + 1) last planned.Word (first_of plan.gates (n + 1) last [] behind) refl);
      }

  pub fit : (op : Operation) (keys : Bool) (given : Sharing) (v : Source) (stated : ℕ) (os : List Operand)
      (width : ℕ) →
      is_in (domain_of op) given ≡ true → states is_name_slot op ≡ true →
      keys ≡ is_keys (Some (wire_type (gives op given) width)) → Sound plan n op given v stated os width →
      1 ≤ v.width → v.width ≤ most_width → v.width ≡ width_of (wire_type (gives op given) width) →
      Stand plan.gates n (block_of plan.parties op keys v n).gates → IsFit op keys given v
  fit InputWord keys A v stated os width domain names alike sound some most same stand =
      let f =
      of_word (InA v.party v.k) v.width stand refl same (pow_pos v.width)
      tt tt tt sound.party in
      record { gates = f.0; value = f.1 }
  fit ConstWord keys A v stated os width domain names alike sound some most same stand =
      let f =
      of_word (ConstA v.constant) v.width stand refl same
      (subst (λ (k : ℕ). v.constant < 2 ^ k) (sound.bare refl ∙ sym same) sound.constant)
      tt tt tt tt in
      record { gates = f.0; value = f.1 }
  fit Add keys A v stated os width domain names alike sound some most same stand =
      let u = two_words plan n Add v stated os width sound sound.arity same in
      let f =
      of_word (AddA v.x.gate v.y.gate) v.width stand refl same (pow_pos v.width)
      (value_operand u.0, (value_operand u.1, tt)) (value_width u.0, (value_width u.1, tt)) tt tt in
      record { gates = f.0; value = f.1 }
  fit Sub keys A v stated os width domain names alike sound some most same stand =
      let u = two_words plan n Sub v stated os width sound sound.arity same in
      let f =
      of_word (SubA v.x.gate v.y.gate) v.width stand refl same (pow_pos v.width)
      (value_operand u.0, (value_operand u.1, tt)) (value_width u.0, (value_width u.1, tt)) tt tt in
      record { gates = f.0; value = f.1 }
  fit Mul keys A v stated os width domain names alike sound some most same stand =
      let u = two_words plan n Mul v stated os width sound sound.arity same in
      let f =
      of_word (MulA v.x.gate v.y.gate) v.width stand refl same (pow_pos v.width)
      (value_operand u.0, (value_operand u.1, tt)) (value_width u.0, (value_width u.1, tt)) tt tt in
      record { gates = f.0; value = f.1 }
  fit AddConst keys A v stated os width domain names alike sound some most same stand =
      let u = one_word plan n AddConst v stated os width sound sound.arity same in
      let f =
      of_word (AddConstA v.x.gate v.constant) v.width stand refl same
      (subst (λ (k : ℕ). v.constant < 2 ^ k) (sound.bare refl ∙ sym same) sound.constant)
      (value_operand u, tt) (value_width u, tt) tt tt in
      record { gates = f.0; value = f.1 }
  fit MulConst keys A v stated os width domain names alike sound some most same stand =
      let u = one_word plan n MulConst v stated os width sound sound.arity same in
      let f =
      of_word (MulConstA v.x.gate v.constant) v.width stand refl same
      (subst (λ (k : ℕ). v.constant < 2 ^ k) (sound.bare refl ∙ sym same) sound.constant)
      (value_operand u, tt) (value_width u, tt) tt tt in
      record { gates = f.0; value = f.1 }
  fit InputBits false B v stated os width domain names alike sound some most same stand =
      let f = entered_fits plan n v.width some most false v.party v.k 0 sound.party stand in
      record { gates = f.gates; value = f.value }
  fit ConstBits false B v stated os width domain names alike sound some most same stand =
      let small = constant_small v stated width sound.constant (same_some stated width sound.wide) same in
      let f = constant_fits plan n v.width some most false v.constant small stand in
      record { gates = f.gates; value = f.value }
  fit Xor false B v stated os width domain names alike sound some most same stand =
      let u = two_vectors plan n Xor v stated os width false sound sound.arity sound.wide same in
      let f = xored_fits plan n v.width some most false v.x v.y u.0 u.1 stand in
      record { gates = f.gates; value = f.value }
  fit And false B v stated os width domain names alike sound some most same stand =
      let u = two_vectors plan n And v stated os width false sound sound.arity sound.wide same in
      let f = anded_fits plan n v.width some most false v.x v.y u.0 u.1 stand in
      record { gates = f.gates; value = f.value }
  fit Not false B v stated os width domain names alike sound some most same stand =
      let u = one_vector plan n Not v stated os width false sound sound.arity sound.wide same in
      let f = flipped_fits plan n v.width some most false v.x (2 ^ v.width - 1) (pow-sub-lt v.width (omega arith)) u stand in
      record { gates = f.gates; value = f.value }
  fit Slice false B v stated os width domain names alike sound some most same stand =
      let u = cut_vector plan n Slice v stated os width false sound sound.arity sound.wide same in
      let f = sliced_fits plan n v.width some most false v.x v.place u.0 u.1 u.2 stand in
      record { gates = f.gates; value = f.value }
  fit Join false B v stated os width domain names alike sound some most same stand =
      let u = joined_vectors plan n Join v stated os width false sound sound.arity sound.wide same in
      let f = joined_fits plan n v.width some most false v.x v.y u.0 u.1 u.2 u.3 u.4 stand in
      record { gates = f.gates; value = f.value }
  fit InputBits true Y v stated os width domain names alike sound some most same stand =
      let f = entered_fits plan n v.width some most true v.party v.k 0 sound.party stand in
      record { gates = f.gates; value = f.value }
  fit ConstBits true Y v stated os width domain names alike sound some most same stand =
      let small = constant_small v stated width sound.constant (same_some stated width sound.wide) same in
      let f = constant_fits plan n v.width some most true v.constant small stand in
      record { gates = f.gates; value = f.value }
  fit Xor true Y v stated os width domain names alike sound some most same stand =
      let u = two_vectors plan n Xor v stated os width true sound sound.arity sound.wide same in
      let f = xored_fits plan n v.width some most true v.x v.y u.0 u.1 stand in
      record { gates = f.gates; value = f.value }
  fit And true Y v stated os width domain names alike sound some most same stand =
      let u = two_vectors plan n And v stated os width true sound sound.arity sound.wide same in
      let f = anded_fits plan n v.width some most true v.x v.y u.0 u.1 stand in
      record { gates = f.gates; value = f.value }
  fit Not true Y v stated os width domain names alike sound some most same stand =
      let u = one_vector plan n Not v stated os width true sound sound.arity sound.wide same in
      let f = flipped_fits plan n v.width some most true v.x (2 ^ v.width - 1) (pow-sub-lt v.width (omega arith)) u stand in
      record { gates = f.gates; value = f.value }
  fit Slice true Y v stated os width domain names alike sound some most same stand =
      let u = cut_vector plan n Slice v stated os width true sound sound.arity sound.wide same in
      let f = sliced_fits plan n v.width some most true v.x v.place u.0 u.1 u.2 stand in
      record { gates = f.gates; value = f.value }
  fit Join true Y v stated os width domain names alike sound some most same stand =
      let u = joined_vectors plan n Join v stated os width true sound sound.arity sound.wide same in
      let f = joined_fits plan n v.width some most true v.x v.y u.0 u.1 u.2 u.3 u.4 stand in
      record { gates = f.gates; value = f.value }
  fit Y2B keys Y v stated os width domain names alike sound some most same stand =
      let u = one_vector plan n Y2B v stated os width true sound sound.arity sound.wide same in
      let f = vector_fits plan n v.width some most v.x u stand in
      record { gates = f.gates; value = f.value }
  fit A2Y keys A v stated os width domain names alike sound some most same stand =
      let u = one_word plan n A2Y v stated os width sound sound.arity
      (same ∙ of_word_wide os width sound.arity sound.shared sound.wide) in
      let f = entered_fit (part.Word v.x.gate) v (sym (same ∙ of_word_wide os width sound.arity sound.shared sound.wide))
      (omega arith) (omega arith) sound.party
      (subst (IsValue plan.gates n planned.Word v.x.gate)
      (same ∙ of_word_wide os width sound.arity sound.shared sound.wide) u) stand in
      record { gates = f.0; value = f.1 }
  fit B2Y keys B v stated os width domain names alike sound some most same stand =
      let u = one_vector plan n B2Y v stated os width false sound sound.arity sound.wide same in
      let f = entered_fit (part.Vector v.x.gate v.width) v refl some most sound.party u stand in
      record { gates = f.0; value = f.1 }
  fit A2B keys A v stated os width domain names alike sound some most same stand =
      let whole = same ∙ of_word_wide os width sound.arity sound.shared sound.wide in
      let u = one_word plan n A2B v stated os width sound sound.arity whole in
      let f = bits_fit v whole sound.party (subst (IsValue plan.gates n planned.Word v.x.gate) whole u) stand in
      record { gates = f.gates; value = f.value }
  fit B2A keys B v stated os width domain names alike sound some most same stand =
      let t = one_operand os sound.arity in
      let u = first_bits plan n B2A v stated os width false sound t.x t.first (width_of t.x.wire) refl in
      let f = of_word (BToA v.x.gate) v.width stand refl same (pow_pos v.width) (value_operand u, tt) tt tt tt in
      record { gates = f.0; value = f.1 }
  fit Y2A keys Y v stated os width domain names alike sound some most same stand =
      let t = one_operand os sound.arity in
      let low = sound.low t.x t.first in
      let wide = sound.operand_wide t.x t.first in
      let least = wide.0 in
      let top = wide.1 in
      let u = first_bits plan n Y2A v stated os width true sound t.x t.first v.low (sym low) in
      let f = number_fit v (omega (arith, least, low)) (omega (arith, top, low)) same u stand in
      record { gates = f.gates; value = f.value }
  fit _ _ _ v stated os width domain names alike sound some most same stand = cc

  -- the gates of an output may stand behind the value that it tells
  pub output_fits : (keys : Bool) (v : Source) (w : WireType) → keys ≡ is_keys (Some w) →
      IsShared (sharing_of w) plan.gates n v.x (width_of w) → IsWide w →
      IfSome (party_told v.to) (λ party. party < plan.parties) →
      v.is_word ≡ is_word (Some w) → v.width ≡ width_of w → Stand plan.gates n (block_of plan.parties Output keys v n).gates →
      AllGates plan n (block_of plan.parties Output keys v n).gates
  output_fits true v (wire.Y width) alike is wide to word same stand =
      let some = wide.0 in
      let most = wide.1 in
      told_fits plan n v.width (omega (arith, some, same)) (omega (arith, most, same)) true v.x v.to to
      (subst (AreBits true plan.gates n v.x) (sym same) is) stand
  output_fits true v _ alike is wide to word same stand = cc
  output_fits false v w alike is wide to word same stand =
      all_one plan n (gate_of (cond v.is_word (OutA v.x.gate v.to) (OutB v.x.gate v.to)) v.width)
      (subst (λ (b : Bool). IsGate plan n
      (gate_of (cond b (OutA v.x.gate v.to) (OutB v.x.gate v.to)) v.width)) (sym word)
      (by_sharing w alike is wide same))
    where
      by_sharing : (w : WireType) → false ≡ is_keys (Some w) →
          IsShared (sharing_of w) plan.gates n v.x (width_of w) → IsWide w → v.width ≡ width_of w →
          IsGate plan n
          (gate_of (cond (is_word (Some w)) (OutA v.x.gate v.to) (OutB v.x.gate v.to)) v.width)
      by_sharing wire.A alike is wide same =
          word_gate plan n (OutA v.x.gate v.to) v.width same (pow_pos v.width) (value_operand is, tt)
          (value_width is ∙ sym same, tt) tt to
      by_sharing (wire.B width) alike is wide same =
          let some = wide.0 in
          let most = wide.1 in
          bits_gate plan n (OutB v.x.gate v.to) v.width (λ e. cc) (omega (arith, some, same))
          (omega (arith, most, same)) (pow_pos v.width)
          (value_operand is, tt) (value_width is ∙ sym same, tt) tt to
      by_sharing (wire.Y width) alike is wide same = cc
