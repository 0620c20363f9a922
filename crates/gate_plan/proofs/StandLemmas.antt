-- The gates of a finished plan, part by part.
use Rattle.std.proofs.Common.{ℕ, zero, suc, ◌≡◌, ◌<◌, ◌≤◌, ◌+◌, ◌-◌, ◌*◌, ◌^◌, Bool, true, false, List, [], ◌∷◌, ◌++◌, length, map, take, drop, Some, inl, inr, refl, sym, ◌∙◌, ap, subst, arith}
use Rattle.std.specs.Prelude.{slice_get, IfSome, option_map}
use Rattle.std.specs.Option.{unwrap_or}
use Rattle.std.specs.List.{AllByRecursion}
use Rattle.std.proofs.lemmas.Bool.{cases_lt}
use Rattle.mot_base.specs.Limits.{most_width}
use Rattle.mot_base.proofs.Lists.{same_some, inside_of, before_at, behind_at, taken_at}
use Rattle.std.proofs.lemmas.List.{length-append}
use Rattle.share_types.specs.declared.sharing.Sharing.{Sharing}
use Rattle.share_types.specs.declared.sharing.Sharing.TheVariants.{A, B, Y}
use Rattle.plan_gates.specs.Gate.{Kind, Gate, Given, Word, Vector, Mask, Online, gate_of, gives, uses, operands, constant_of, party_of, width_at}
use Rattle.plan_gates.specs.Plan.{Gates, IsOperand, FitWidths, IsWire, ArePaired, IsGate}
use Rattle.gate_plan.specs.declared.wire.Wire.{Wire}
use Rattle.gate_plan.specs.Blocks.{Stand, in_row}

-- ---- lists that grow at their ends

-- what stands in a list stays where it is
pub grown : {X : Type 0} (list : ℕ → List X) →
    ((n : ℕ) → (more : List X) × (list (suc n) ≡ list n ++ more)) →
    (n m i : ℕ) (x : X) → n ≤ m → slice_get (list n) i ≡ Some x → slice_get (list m) i ≡ Some x
grown list next n zero i x h e = let same : n ≡ 0 = omega arith in
    subst (λ k. slice_get (list k) i ≡ Some x) same e
grown list next n (suc m) i x h e = elim (cases_lt n (suc m)) as (λ _. slice_get (list (suc m)) i ≡ Some x) [
  | inl small ↦
      (let before = grown list next n m i x (omega (arith, small)) e in
      let within = inside_of (list m) i x before in
      ap (λ xs. slice_get xs i) (next m).1 ∙ (before_at (list m) (next m).0 i within ∙ before))
  | inr large ↦
      (let same : n ≡ suc m = omega (arith, h, large) in subst (λ k. slice_get (list k) i ≡ Some x) same e)
]

-- some gates stand behind others
pub stand_behind : (xs ys : List Gate) → Stand (xs ++ ys) (length xs) ys
stand_behind xs ys i gate e = behind_at xs ys i ∙ e

pub stand_grown : (gates more : List Gate) (n : ℕ) (block : List Gate) → Stand gates n block →
    Stand (gates ++ more) n block
stand_grown gates more n block stand i gate e =
    let there = stand i gate e in
    let within = inside_of gates (n + i) gate there in
    before_at gates more (n + i) within ∙ there

-- the first of some gates
pub first_of : (gates : List Gate) (n : ℕ) (gate : Gate) (rest : List Gate) → Stand gates n (gate ∷ rest) →
    slice_get gates n ≡ Some gate
first_of gates n gate rest stand =
    let place : n + 0 ≡ n = omega arith in
    subst (λ k. slice_get gates k ≡ Some gate) place (stand 0 gate refl)

-- ---- valid gates

-- the gate at a place gives a value of a width, and stands before another place
pub record IsValue (gates : List Gate) (bound : ℕ) (given : Given) (x width : ℕ) : Type 0 where
  pub below : x < bound
  pub gate : Gate
  pub there : slice_get gates x ≡ Some gate
  pub given_is : gives gate.kind ≡ given
  pub width_is : gate.width ≡ width

pub later : {gates : List Gate} {bound : ℕ} {given : Given} {x width : ℕ} (more : ℕ) → bound ≤ more →
    IsValue gates bound given x width →
    IsValue gates more given x width
later more h is = record {
  below = (let below = is.below in omega (arith, h));
  gate = is.gate;
  there = is.there;
  given_is = is.given_is;
  width_is = is.width_is;
}

-- the gate at a place is as wide as its value
pub value_width : {gates : List Gate} {bound : ℕ} {given : Given} {x width : ℕ} →
    IsValue gates bound given x width → width_at gates x ≡ width
value_width is = ap (λ o. unwrap_or (option_map (λ (g : Gate). g.width) o) 0) is.there ∙ is.width_is

-- it may be an operand of the gate there
pub value_operand : {gates : List Gate} {bound : ℕ} {given : Given} {x width : ℕ} →
    IsValue gates bound given x width →
    IsOperand gates bound (record { given = given; gate = x })
value_operand is = (is.below, is.gate, is.there, is.given_is)

-- the value of a gate that stands
pub own_value : (gates : List Gate) (n : ℕ) (gate : Gate) (given : Given) → slice_get gates n ≡ Some gate →
    gives gate.kind ≡ given →
    IsValue gates (n + 1) given n gate.width
own_value gates n gate given there is =
    record { below = omega arith; gate = gate; there = there; given_is = is; width_is = refl }

-- both gates of a wire that is shared as keys stand before a place, and have a width
pub record IsKeyed (gates : List Gate) (bound : ℕ) (a : Wire) (width : ℕ) : Type 0 where
  pub mask : IsValue gates bound Mask a.mask width
  pub online : IsValue gates bound Online a.gate width
  pub pair : IsWire gates a.mask a.gate

-- the gates of bits that are shared as keys or by XOR
abbrev pub AreBits : Bool → List Gate → ℕ → Wire → ℕ → Type 0
AreBits false gates bound a width = IsValue gates bound Vector a.gate width
AreBits true gates bound a width = IsKeyed gates bound a width

-- the gates of a value that is shared so
abbrev pub IsShared : Sharing → List Gate → ℕ → Wire → ℕ → Type 0
IsShared A gates bound a width = IsValue gates bound Word a.gate width
IsShared B gates bound a width = AreBits false gates bound a width
IsShared Y gates bound a width = AreBits true gates bound a width

pub later_bits : (keys : Bool) (gates : List Gate) (bound more : ℕ) (a : Wire) (width : ℕ) → bound ≤ more →
    AreBits keys gates bound a width → AreBits keys gates more a width
later_bits false gates bound more a width h is = later more h is
later_bits true gates bound more a width h is =
    record { mask = later more h is.mask; online = later more h is.online; pair = is.pair }

pub later_shared : (given : Sharing) (gates : List Gate) (bound more : ℕ) (a : Wire) (width : ℕ) → bound ≤ more →
    IsShared given gates bound a width → IsShared given gates more a width
later_shared A gates bound more a width h is = later more h is
later_shared B gates bound more a width h is = later_bits false gates bound more a width h is
later_shared Y gates bound more a width h is = later_bits true gates bound more a width h is

-- a gate may stand where its width, constant, operands, pairs and party are in order
pub bits_gate : (plan : Gates) (g : ℕ) (kind : Kind) (w : ℕ) →
    (gives kind ≡ Word → w ≡ most_width) → 1 ≤ w → w ≤ most_width →
    constant_of kind < 2 ^ w → AllByRecursion (IsOperand plan.gates g) (uses kind) →
    FitWidths kind w (map (width_at plan.gates) (operands kind)) → ArePaired plan.gates kind →
    IfSome (party_of kind) (λ party. party < plan.parties) → IsGate plan g (gate_of kind w)
bits_gate plan g kind w word some most small before fit paired party = record {
  some_width = some;
  in_width = most;
  word = word;
  small = small;
  uses = before;
  fit = fit;
  paired = paired;
  party = party;
}

-- and so may one of 64 bits
pub word_gate : (plan : Gates) (g : ℕ) (kind : Kind) (w : ℕ) → w ≡ most_width → constant_of kind < 2 ^ w →
    AllByRecursion (IsOperand plan.gates g) (uses kind) →
    FitWidths kind w (map (width_at plan.gates) (operands kind)) → ArePaired plan.gates kind →
    IfSome (party_of kind) (λ party. party < plan.parties) → IsGate plan g (gate_of kind w)
word_gate plan g kind w whole small before fit paired party = record {
  some_width = omega (arith, whole);
  in_width = omega (arith, whole);
  word = λ e. whole;
  small = small;
  uses = before;
  fit = fit;
  paired = paired;
  party = party;
}

-- each of some gates may stand at its place, where the first has a number
pub record AllGates (plan : Gates) (n : ℕ) (block : List Gate) : Type 0 where
  pub each : (i : ℕ) (gate : Gate) → slice_get block i ≡ Some gate → IsGate plan (n + i) gate

pub all_none : (plan : Gates) (n : ℕ) → AllGates plan n []
all_none plan n = record { each = λ i gate e. cc }

pub all_one : (plan : Gates) (n : ℕ) (gate : Gate) → IsGate plan n gate → AllGates plan n (gate ∷ [])
all_one plan n gate is = record { each = at }
  where
    at : (i : ℕ) (other : Gate) → slice_get (gate ∷ []) i ≡ Some other → IsGate plan (n + i) other
    at zero other e =
        let place : n ≡ n + 0 = omega arith in
        subst (λ k. IsGate plan k other) place (subst (IsGate plan n) (same_some gate other e) is)
    at (suc i) other e = cc

pub all_both : (plan : Gates) (n : ℕ) (xs : List Gate) (m : ℕ) (ys : List Gate) → m ≡ n + length xs →
    AllGates plan n xs → AllGates plan m ys →
    AllGates plan n (xs ++ ys)
all_both plan n xs m ys place first second = record { each = at }
  where
    at : (i : ℕ) (gate : Gate) → slice_get (xs ++ ys) i ≡ Some gate → IsGate plan (n + i) gate
    at i gate e = elim (cases_lt i (length xs)) as (λ _. IsGate plan (n + i) gate) [
      | inl small ↦ first.each i gate (sym (before_at xs ys i small) ∙ e)
      | inr large ↦
          (let k : ℕ = i - length xs in
          let here : length xs + k ≡ i = omega (arith, large) in
          let there : m + k ≡ n + i = omega (arith, large, place) in
          let is : slice_get ys k ≡ Some gate =
          sym (behind_at xs ys k) ∙ (ap (slice_get (xs ++ ys)) here ∙ e) in
          subst (λ j. IsGate plan j gate) there (second.each k gate is))
    ]

-- ---- gates in a row, as many of each

-- so many of a size are so many times the size
pub length_row : (size count : ℕ) (f : ℕ → List Gate) → ((i : ℕ) → length (f i) ≡ size) →
    length (in_row count f) ≡ size * count
length_row size zero f each = omega arith
length_row size (suc count) f each =
    let before = length_row size count f each in
    let both = length-append (in_row count f) (f count) in
    let own = each count in
    omega arith

-- those at a place stand behind the earlier ones
pub stand_row : (gates : List Gate) (n size count : ℕ) (f : ℕ → List Gate) → ((i : ℕ) → length (f i) ≡ size) →
    Stand gates n (in_row count f) → (i : ℕ) → i < count → Stand gates (n + size * i) (f i)
stand_row gates n size zero f each stand i h = absurd (omega arith)
stand_row gates n size (suc count) f each stand i h = elim (cases_lt i count) as (λ _. Stand gates (n + size * i) (f i)) [
  | inl small ↦
      stand_row gates n size count f each
      (λ j gate e. stand j gate (before_at (in_row count f) (f count) j (inside_of (in_row count f) j gate e) ∙ e)) i small
  | inr large ↦
      (let here : count ≡ i = omega arith in
      let P : ℕ → Type 0 = λ k. Stand gates (n + size * k) (f k) in
      let all = length_row size count f each in
      subst P here (λ j gate e.
      let place : n + (length (in_row count f) + j) ≡ n + size * count + j = omega arith in
      subst (λ k. slice_get gates k ≡ Some gate) place
      (stand (length (in_row count f) + j) gate (behind_at (in_row count f) (f count) j ∙ e))))
]

-- and may stand, where each of them may
pub all_row : (plan : Gates) (n size count : ℕ) (f : ℕ → List Gate) → ((i : ℕ) → length (f i) ≡ size) →
    ((i : ℕ) → i < count → AllGates plan (n + size * i) (f i)) → AllGates plan n (in_row count f)
all_row plan n size zero f each fits = all_none plan n
all_row plan n size (suc count) f each fits =
    let size_is = length_row size count f each in
    all_both plan n (in_row count f) (n + size * count) (f count) (omega arith)
    (all_row plan n size count f each (λ i h. fits i (omega arith))) (fits count (omega arith))

-- ---- a piece of some gates

dropped : {X : Type 0} (xs : List X) (k i : ℕ) → slice_get (drop k xs) i ≡ slice_get xs (k + i)
dropped xs zero i = let e : i ≡ 0 + i = omega arith in ap (slice_get xs) e
dropped [] (suc k) i = refl
dropped (x ∷ xs) (suc k) i =
    let e : suc (k + i) ≡ suc k + i = omega arith in dropped xs k i ∙ ap (slice_get (x ∷ xs)) e

-- so many of them, from a place on
pub piece : (gates all : List Gate) (n k size m : ℕ) → m ≡ n + k → Stand gates n all →
    Stand gates m (take size (drop k all))
piece gates all n k size m place stand i gate e =
    let inside = taken_at (drop k all) size i gate e in
    let here : n + (k + i) ≡ m + i = omega (arith, place) in
    subst (λ j. slice_get gates j ≡ Some gate) here (stand (k + i) gate (sym (dropped all k i) ∙ inside.1))

-- those behind others
pub stand_front : (gates xs ys : List Gate) (n : ℕ) → Stand gates n (xs ++ ys) → Stand gates n xs
stand_front gates xs ys n stand i gate e =
    stand i gate (before_at xs ys i (inside_of xs i gate e) ∙ e)

pub stand_back : (gates xs ys : List Gate) (n m : ℕ) → m ≡ n + length xs → Stand gates n (xs ++ ys) → Stand gates m ys
stand_back gates xs ys n m place stand i gate e =
    let here : n + (length xs + i) ≡ m + i = omega (arith, place) in
    subst (λ j. slice_get gates j ≡ Some gate) here (stand (length xs + i) gate (behind_at xs ys i ∙ e))
