-- The gates of an operation: how many they are, what they tell, and the number of the value that they give.
use Rattle.std.proofs.Common.{ℕ, ◌≡◌, ◌<◌, ◌≤◌, ◌+◌, ◌-◌, ◌*◌, ◌/◌, ◌%◌, ◌^◌, Bool, true, false, cond, List, [], ◌∷◌, length, Some, refl, sym, ◌∙◌, ap, ap₂, subst, arith}
use Rattle.std.specs.Prelude.{slice_get, slice_index, bit_xor}
use Rattle.std.specs.List.{AllByRecursion}
use Rattle.std.proofs.Math.Nat.{div-one, mod-eq_of_lt}
use Rattle.std.proofs.lemmas.List.{length-append}
use Rattle.mot_base.specs.Limits.{most_width}
use Rattle.mot_base.proofs.Lists.{index_at, all_append}
use Rattle.share_types.specs.Sums.{word_difference}
use Rattle.share_types.specs.declared.sharing.Sharing.{Sharing}
use Rattle.share_types.specs.declared.sharing.Sharing.TheVariants.{A, B, Y}
use Rattle.share_types.specs.Wires.{wire_type}
use Rattle.mixed_language.specs.declared.language.Operation.{Operation}
use Rattle.mixed_language.specs.declared.language.Operation.TheVariants.{InputWord, InputBits, ConstWord, ConstBits, Add, Sub, Mul, AddConst, MulConst, Xor, And, Not, Slice, Join, A2Y, A2B, B2Y, Y2B, B2A, Y2A, Output}
use Rattle.mixed_language.specs.Language.{domain_of, is_in, gives, states, is_name_slot, is_told_slot, arity_of}
use Rattle.mixed_language.specs.Eval.{number_made}
use Rattle.mixed_language.specs.Eval as eval
use Rattle.plan_gates.specs.Gate.{Gate, gate_of, YToB, BToA, InA, ConstA, AddA, SubA, AddConstA, MulConstA, MulA, OutA, OutB}
use Rattle.plan_gates.specs.Plan.{Gates, IsPlan}
use Rattle.plan_gates.specs.Plain.{Outside, AreLawful, number_of, seen_of, plain_numbers}
use Rattle.gate_plan.specs.declared.wire.Wire.{Wire}
use Rattle.gate_plan.specs.declared.convert.Parts.{Parts}
use Rattle.gate_plan.specs.declared.convert.Parts.TheVariants.{Word, Vector}
use Rattle.gate_plan.specs.Blocks.{Stand, IsNumberOf}
use Rattle.gate_plan.specs.Convert.{width_of_parts, from_parts}
use Rattle.gate_plan.specs.Lowering.{Source, block_of, gates_of, handled_by, is_keys}
use Rattle.gate_plan.proofs.NumberLemmas.{IsSilent}
use Rattle.gate_plan.proofs.PartsLemmas.{gate_of_parts, length_parts, parts_silent, parts_has}
use Rattle.gate_plan.proofs.StandLemmas.{stand_front, stand_back}
use Rattle.gate_plan.proofs.ValueLemmas.{HasBits, has_small, has_number, one_made, entered_made, constant_made, xored_made, anded_made, flipped_made, sliced_made, joined_made, vector_made, told_made}

-- an operation names its value and tells none, or is an output
pub data Named (op : Operation) : Type 0 where
  Names : states is_name_slot op ≡ true → states is_told_slot op ≡ false → Named op
  Tells : op ≡ Output → Named op

pub named : (op : Operation) → Named op
named Output = Tells refl
named _ = Names refl refl

pub own_handled : {X : Type 0} (op : Operation) (told own : X) → states is_name_slot op ≡ true →
    handled_by op told own ≡ own
own_handled Output told own e = cc
own_handled _ told own e = refl

-- the gates are as many as the table of counts says
pub block_count : (parties : ℕ) (op : Operation) (keys : Bool) (v : Source) (n : ℕ) →
    length (block_of parties op keys v n).gates ≡ gates_of parties op keys
block_count parties A2Y keys v n = length_parts (Word v.x.gate) parties n
block_count parties A2B keys v n =
    let word = from_parts (Word v.x.gate) parties n in
    let sum : Gate = gate_of (YToB word.wire.mask word.wire.gate) v.width in
    length-append word.gates (sum ∷ []) ∙ ap (λ k. k + 1) (length_parts (Word v.x.gate) parties n)
block_count parties B2Y keys v n = length_parts (Vector v.x.gate v.width) parties n
block_count parties _ false v n = refl
block_count parties _ true v n = refl

-- the gates of a value tell nothing
pub block_silent : (parties : ℕ) (op : Operation) (keys : Bool) (v : Source) (n : ℕ) →
    states is_told_slot op ≡ false → AllByRecursion IsSilent (block_of parties op keys v n).gates
block_silent parties A2Y keys v n untold = parts_silent (Word v.x.gate) parties n
block_silent parties A2B keys v n untold =
    let word = from_parts (Word v.x.gate) parties n in
    let sum : Gate = gate_of (YToB word.wire.mask word.wire.gate) v.width in
    all_append IsSilent word.gates (sum ∷ []) (parts_silent (Word v.x.gate) parties n) (refl, tt)
block_silent parties B2Y keys v n untold = parts_silent (Vector v.x.gate v.width) parties n
block_silent parties Y2A keys v n untold = (refl, (refl, tt))
block_silent parties Output keys v n untold = cc
block_silent parties InputBits true v n untold = (refl, (refl, tt))
block_silent parties ConstBits true v n untold = (refl, (refl, tt))
block_silent parties Xor true v n untold = (refl, (refl, tt))
block_silent parties And true v n untold = (refl, (refl, (refl, tt)))
block_silent parties Slice true v n untold = (refl, (refl, tt))
block_silent parties Join true v n untold = (refl, (refl, tt))
block_silent parties _ false v n untold = (refl, tt)
block_silent parties _ true v n untold = (refl, tt)

-- ---- which values are shared as keys

-- whether the operands are, where the value that is handled is or not
abbrev pub takes_keys : Operation → Bool → Bool
takes_keys Y2B keys = true
takes_keys Y2A keys = true
takes_keys InputBits keys = keys
takes_keys ConstBits keys = keys
takes_keys Xor keys = keys
takes_keys And keys = keys
takes_keys Not keys = keys
takes_keys Slice keys = keys
takes_keys Join keys = keys
takes_keys Output keys = keys
takes_keys _ keys = false

-- and whether the value that is given is. What an output tells is not
abbrev pub gives_keys : Operation → Bool → Bool
gives_keys A2Y keys = true
gives_keys B2Y keys = true
gives_keys InputBits keys = keys
gives_keys ConstBits keys = keys
gives_keys Xor keys = keys
gives_keys And keys = keys
gives_keys Not keys = keys
gives_keys Slice keys = keys
gives_keys Join keys = keys
gives_keys _ keys = false

abbrev pub is_by_keys : Sharing → Bool
is_by_keys Y = true
is_by_keys _ = false

pub keys_taken : (op : Operation) (given : Sharing) (width : ℕ) → is_in (domain_of op) given ≡ true →
    states is_name_slot op ≡ true →
    takes_keys op (is_keys (Some (wire_type (gives op given) width))) ≡ is_by_keys given
keys_taken Output given width domain names = cc
keys_taken B2Y A width domain names = cc
keys_taken B2A A width domain names = cc
keys_taken Y2A A width domain names = cc
keys_taken Y2B A width domain names = cc
keys_taken Y2B B width domain names = cc
keys_taken _ A width domain names = refl
keys_taken B2Y B width domain names = refl
keys_taken B2A B width domain names = refl
keys_taken InputBits B width domain names = refl
keys_taken ConstBits B width domain names = refl
keys_taken Xor B width domain names = refl
keys_taken And B width domain names = refl
keys_taken Not B width domain names = refl
keys_taken Slice B width domain names = refl
keys_taken Join B width domain names = refl
keys_taken InputBits Y width domain names = refl
keys_taken ConstBits Y width domain names = refl
keys_taken Xor Y width domain names = refl
keys_taken And Y width domain names = refl
keys_taken Not Y width domain names = refl
keys_taken Slice Y width domain names = refl
keys_taken Join Y width domain names = refl
keys_taken Y2B Y width domain names = refl
keys_taken Y2A Y width domain names = refl
keys_taken _ _ width domain names = cc

pub keys_given : (op : Operation) (given : Sharing) (width : ℕ) → is_in (domain_of op) given ≡ true →
    states is_name_slot op ≡ true →
    gives_keys op (is_keys (Some (wire_type (gives op given) width)))
    ≡ is_keys (Some (wire_type (gives op given) width))
keys_given Output given width domain names = cc
keys_given A2Y given width domain names = refl
keys_given A2B given width domain names = refl
keys_given B2Y given width domain names = refl
keys_given B2A given width domain names = refl
keys_given Y2A given width domain names = refl
keys_given Y2B given width domain names = refl
keys_given InputBits given width domain names = refl
keys_given ConstBits given width domain names = refl
keys_given Xor given width domain names = refl
keys_given And given width domain names = refl
keys_given Not given width domain names = refl
keys_given Slice given width domain names = refl
keys_given Join given width domain names = refl
keys_given _ A width domain names = refl
keys_given _ _ width domain names = cc

-- the operations whose operand the parties enter as a word
abbrev pub is_of_word : Operation → Bool
is_of_word A2Y = true
is_of_word A2B = true
is_of_word _ = false

-- ---- the number of the value

module _ (plan : Gates) (valid : IsPlan plan) (outside : Outside) where
  abbrev numbers : List ℕ
  numbers = plain_numbers plan outside

  -- what an operation is evaluated on is what its gates are made of
  pub record Alike (op : Operation) (keys : Bool) (v : Source) (e : eval.Seen) : Type 0 where
    pub high : ℕ
    pub input : e.input ≡ slice_index outside.inputs v.k
    pub x : 1 ≤ arity_of op → HasBits plan valid outside (takes_keys op keys) v.x e.low e.x
    pub y : 2 ≤ arity_of op → HasBits plan valid outside (takes_keys op keys) v.y high e.y
    pub width : states is_name_slot op ≡ true → e.width ≡ v.width
    pub place : e.place ≡ v.place
    pub constant : e.constant ≡ v.constant
    pub low : e.low ≡ v.low
    pub whole : is_of_word op ≡ true → v.width ≡ most_width

  -- one gate whose number, before it is cut, is another
  abbrev IsMade : Operation → Bool → Source → ℕ → eval.Seen → Type 0
  IsMade op keys v n e =
      IsNumberOf (gives_keys op keys) numbers (block_of plan.parties op keys v n).wire (number_made op e % 2 ^ v.width)

  recut : (keys : Bool) (a : Wire) (w x y : ℕ) → x ≡ y → IsNumberOf keys numbers a (x % 2 ^ w) →
      IsNumberOf keys numbers a (y % 2 ^ w)
  recut keys a w x y same is = let P : ℕ → Type 0 = λ k. IsNumberOf keys numbers a (k % 2 ^ w) in subst P same is

  some_parties : 1 ≤ plan.parties
  some_parties = let some = valid.some_parties in omega (arith, some)

  -- a value that is entered in parts has the number of its operand
  entered_in : (parts : Parts) (v : Source) (n : ℕ) (e : eval.Seen) → AreLawful plan outside numbers →
      Stand plan.gates n (from_parts parts plan.parties n).gates →
      slice_index numbers (gate_of_parts parts) ≡ e.x → width_of_parts parts ≡ v.width →
      IsNumberOf true numbers (from_parts parts plan.parties n).wire (e.x % 2 ^ v.width)
  entered_in parts v n e lawful stand operand wide =
      let a = (from_parts parts plan.parties n).wire in
      let has = parts_has plan valid outside parts n lawful some_parties stand in
      let small = has_small plan valid outside a (width_of_parts parts) (slice_index numbers (gate_of_parts parts)) has in
      let whole : slice_index numbers (gate_of_parts parts) ≡ e.x % 2 ^ v.width =
      sym (mod-eq_of_lt small) ∙ ap₂ (λ k w. k % 2 ^ w) operand wide in
      subst (IsNumberOf true numbers a) whole
      (has_number plan valid outside a (width_of_parts parts) (slice_index numbers (gate_of_parts parts)) has)

  -- a wire that becomes a vector, and that a word, keeps its number
  number_law : (keys : Bool) (v : Source) (n : ℕ) (e : eval.Seen) → Alike Y2A keys v e →
      Stand plan.gates n (block_of plan.parties Y2A keys v n).gates → IsMade Y2A keys v n e
  number_law keys v n e a stand =
      let vector : Gate = gate_of (YToB v.x.mask v.x.gate) v.low in
      let word : Gate = gate_of (BToA n) v.width in
      let has = a.x (omega arith) in
      let small = subst (λ w. e.x < 2 ^ w) a.low (has_small plan valid outside v.x e.low e.x has) in
      let first : slice_get numbers n ≡ Some (e.x % 2 ^ v.low) =
      one_made plan valid outside n v.low (YToB v.x.mask v.x.gate) e.x
      (stand_front plan.gates (vector ∷ []) (word ∷ []) n stand) (sym has.is) in
      one_made plan valid outside (n + 1) v.width (BToA n) e.x
      (stand_back plan.gates (vector ∷ []) (word ∷ []) n (n + 1) refl stand)
      (sym (index_at numbers n (e.x % 2 ^ v.low) first ∙ mod-eq_of_lt small))

  pub law : (op : Operation) (keys : Bool) (v : Source) (n : ℕ) (e : eval.Seen) →
      AreLawful plan outside numbers → Alike op keys v e →
      Stand plan.gates n (block_of plan.parties op keys v n).gates → IsMade op keys v n e
  law InputWord keys v n e lawful a stand =
      one_made plan valid outside n v.width (InA v.party v.k) (number_made InputWord e) stand a.input
  law InputBits keys v n e lawful a stand =
      recut keys (block_of plan.parties InputBits keys v n).wire v.width (slice_index outside.inputs v.k / 2 ^ 0) e.input
      (div-one (slice_index outside.inputs v.k) ∙ sym a.input)
      (entered_made plan valid outside keys n v.width v.party v.k 0 stand)
  law ConstWord keys v n e lawful a stand =
      one_made plan valid outside n v.width (ConstA v.constant) (number_made ConstWord e) stand a.constant
  law ConstBits keys v n e lawful a stand =
      recut keys (block_of plan.parties ConstBits keys v n).wire v.width v.constant e.constant (sym a.constant)
      (constant_made plan valid outside keys n v.width v.constant stand)
  law Add keys v n e lawful a stand =
      one_made plan valid outside n v.width (AddA v.x.gate v.y.gate) (number_made Add e) stand
      (ap₂ (λ p q. p + q) (sym (a.x (omega arith)).0) (sym (a.y (omega arith)).0))
  law Sub keys v n e lawful a stand =
      one_made plan valid outside n v.width (SubA v.x.gate v.y.gate) (number_made Sub e) stand
      (ap₂ (λ p q. word_difference p q) (sym (a.x (omega arith)).0) (sym (a.y (omega arith)).0))
  law Mul keys v n e lawful a stand =
      one_made plan valid outside n v.width (MulA v.x.gate v.y.gate) (number_made Mul e) stand
      (ap₂ (λ p q. p * q) (sym (a.x (omega arith)).0) (sym (a.y (omega arith)).0))
  law AddConst keys v n e lawful a stand =
      one_made plan valid outside n v.width (AddConstA v.x.gate v.constant) (number_made AddConst e) stand
      (ap₂ (λ p q. p + q) (sym (a.x (omega arith)).0) a.constant)
  law MulConst keys v n e lawful a stand =
      one_made plan valid outside n v.width (MulConstA v.x.gate v.constant) (number_made MulConst e) stand
      (ap₂ (λ p q. p * q) (sym (a.x (omega arith)).0) a.constant)
  law Xor keys v n e lawful a stand =
      xored_made plan valid outside keys n v.width v.x v.y e.low a.high e.x e.y stand (a.x (omega arith))
      (a.y (omega arith))
  law And keys v n e lawful a stand =
      anded_made plan valid outside keys n v.width v.x v.y e.low a.high e.x e.y stand (a.x (omega arith))
      (a.y (omega arith))
  law Not keys v n e lawful a stand =
      recut keys (block_of plan.parties Not keys v n).wire v.width (bit_xor e.x (2 ^ v.width - 1)) (number_made Not e)
      (ap (λ w. bit_xor e.x (2 ^ w - 1)) (sym (a.width refl)))
      (flipped_made plan valid outside keys n v.width v.x (2 ^ v.width - 1) e.low e.x stand (a.x (omega arith)))
  law Slice keys v n e lawful a stand =
      recut keys (block_of plan.parties Slice keys v n).wire v.width (e.x / 2 ^ v.place) (number_made Slice e)
      (ap (λ at. e.x / 2 ^ at) (sym a.place))
      (sliced_made plan valid outside keys n v.width v.x v.place e.low e.x stand (a.x (omega arith)))
  law Join keys v n e lawful a stand =
      joined_made plan valid outside keys n v.width v.x v.y e.low a.high e.x e.y stand (a.x (omega arith))
      (a.y (omega arith))
  law A2Y keys v n e lawful a stand = entered_in (Word v.x.gate) v n e lawful stand (a.x (omega arith)).0 (sym (a.whole refl))
  law A2B keys v n e lawful a stand =
      let word = from_parts (Word v.x.gate) plan.parties n in
      let sum : Gate = gate_of (YToB word.wire.mask word.wire.gate) v.width in
      let has = parts_has plan valid outside (Word v.x.gate) n lawful some_parties
      (stand_front plan.gates word.gates (sum ∷ []) n stand) in
      one_made plan valid outside (n + length word.gates) v.width (YToB word.wire.mask word.wire.gate) e.x
      (stand_back plan.gates word.gates (sum ∷ []) n (n + length word.gates) refl stand)
      (sym (has.is ∙ (a.x (omega arith)).0))
  law B2Y keys v n e lawful a stand = entered_in (Vector v.x.gate v.width) v n e lawful stand (a.x (omega arith)).0 refl
  law B2A keys v n e lawful a stand =
      one_made plan valid outside n v.width (BToA v.x.gate) e.x stand (sym (a.x (omega arith)).0)
  law Y2A keys v n e lawful a stand = number_law keys v n e a stand
  law Y2B keys v n e lawful a stand =
      vector_made plan valid outside n v.width v.x e.low e.x stand (a.x (omega arith))
  law Output true v n e lawful a stand =
      told_made plan valid outside true n v.width v.x v.to e.low e.x stand (a.x (omega arith))
  law Output false v n e lawful a stand =
      one_made plan valid outside n v.width (cond v.is_word (OutA v.x.gate v.to) (OutB v.x.gate v.to)) (number_made Output e) stand
      (either v.is_word)
    where
      either : (b : Bool) → e.x ≡ number_of (cond b (OutA v.x.gate v.to) (OutB v.x.gate v.to))
          (seen_of plan.gates outside numbers (cond b (OutA v.x.gate v.to) (OutB v.x.gate v.to)))
      either true = sym (a.x (omega arith)).0
      either false = sym (a.x (omega arith)).0
