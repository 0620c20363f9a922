-- How wide the values of a circuit are.
use Rattle.std.proofs.Common.{ℕ, zero, suc, ◌≡◌, ◌<◌, ◌≤◌, ◌+◌, Bool, true, false, cond, List, [], ◌∷◌, ◌++◌, length, take, Option, Some, None, refl, sym, ◌∙◌, subst, arith}
use Rattle.std.specs.Prelude.{slice_get, slice_index, All, option_map, option_and_then, nat_le, ◌==◌}
use Rattle.std.specs.List.{list_all, AllByRecursion}
use Rattle.std.proofs.lemmas.Bool.{leb-true}
use Rattle.share_types.specs.declared.sharing.Sharing.{Sharing}
use Rattle.share_types.specs.declared.sharing.Sharing.TheVariants.{A, B, Y}
use Rattle.share_types.specs.declared.sharing.WireType.{WireType}
use Rattle.mixed_language.specs.declared.operand.Operand.{Operand}
use Rattle.mixed_language.specs.declared.language.Widths.{Widths}
use Rattle.mixed_language.specs.declared.language.Widths.TheVariants.{Whole, Stated, Alike, Cut, Joined}
use Rattle.mixed_language.specs.Language.{gives, widths_of}
use Rattle.mixed_language.specs.Circuit.{Circuit, Statement, wire_at}
use Rattle.share_types.specs.Wires.{width_of, wire_type}
use Rattle.mixed_language.specs.Operands.{width_by}
use Rattle.mixed_language.specs.Valid.{IsStatement, AreOperands, IsCircuit}
use Rattle.std.specs.Option.{unwrap_or}
use Rattle.share_types.specs.Bits.{bits}
use Rattle.share_types.proofs.BitsLemmas.{length-bits}
use Rattle.std.proofs.lemmas.List.Elements.{All-from_recursion}
use Rattle.circuit_tables.specs.Table.{Told}
use Rattle.circuit_tables.specs.Values.{HaveWidths}
use Rattle.circuit_tables.proofs.Narrow.{values_narrow}
use Rattle.mixed_language.specs.Language.{states, is_name_slot, is_told_slot}
use Rattle.mixed_language.specs.Table.{inputs_of, input_entry, owner_of, receiver_of, name_at, width_at, told_value}
use Rattle.mixed_language.specs.Eval.{told_among}
use Rattle.mixed_language.specs.Wide.{IsWide, AllWide}
use Rattle.mot_base.proofs.Lists.{same_some, taken_at as took}
use Rattle.mixed_language.proofs.EarlierLemmas.{wire_there}

-- a number of bits that a value may have
record Fits (width : ℕ) : Type 0 where
  some : 1 ≤ width
  most : width ≤ 64

-- each operand has such a number
record AllFit (operands : List Operand) : Type 0 where
  each : (i : ℕ) (x : Operand) → slice_get operands i ≡ Some x → Fits (width_of x.wire)

fit_operands : (ss : List Statement) (sharing : Sharing) (operands : List Operand) → AllWide ss →
    AreOperands ss sharing operands → AllFit operands
fit_operands ss sharing operands wide uses = record {
  each = λ i x e. let w = wide x.at x.wire (uses.found i x e) in record { some = w.0; most = w.1 };
}

same_width : (n width : ℕ) → Fits n → Some n ≡ Some width → Fits width
same_width n width fits e = subst Fits (same_some n width e) fits

tested : (b : Bool) (n width : ℕ) → (b ≡ true → Fits n) → cond b (Some n) None ≡ Some width → Fits width
tested true n width fits e = same_width n width (fits refl) e
tested false n width fits e = cc

fit_alike : (o : Option Operand) (width : ℕ) (test : Operand → Bool) → ((x : Operand) → o ≡ Some x → Fits (width_of x.wire)) →
    option_and_then (λ first. cond (test first) (Some (width_of first.wire)) None) o ≡ Some width → Fits width
fit_alike None width test fits e = cc
fit_alike (Some x) width test fits e = tested (test x) (width_of x.wire) width (λ t. fits x refl) e

fit_given : (widths : Widths) (stated place : ℕ) (operands : List Operand) (width : ℕ) → Fits stated → AllFit operands →
    width_by widths stated place operands ≡ Some width → Fits width
fit_given Whole stated place operands width own all e = same_width 64 width (record { some = omega arith; most = omega arith }) e
fit_given Stated stated place operands width own all e = same_width stated width own e
fit_given Alike stated place operands width own all e =
    fit_alike (slice_get operands 0) width (λ first. list_all (λ x. width_of x.wire == width_of first.wire) operands)
    (λ x h. all.each 0 x h) e
fit_given Cut stated place [] width own all e = cc
fit_given Cut stated place (x ∷ []) width own all e =
    tested (nat_le (place + stated) (width_of x.wire)) stated width (λ t. own) e
fit_given Cut stated place (x ∷ y ∷ more) width own all e = cc
fit_given Joined stated place [] width own all e = cc
fit_given Joined stated place (x ∷ []) width own all e = cc
fit_given Joined stated place (x ∷ y ∷ []) width own all e =
    tested (nat_le (width_of x.wire + width_of y.wire) 64) (width_of x.wire + width_of y.wire) width
    (λ t. let low = (all.each 0 x refl).some in record { some = omega arith; most = leb-true _ _ t }) e
fit_given Joined stated place (x ∷ y ∷ z ∷ more) width own all e = cc

fit_wire : (sharing : Sharing) (width : ℕ) → Fits width → IsWide (wire_type sharing width)
fit_wire A width fits = (omega arith, omega arith)
fit_wire B width fits = (fits.some, fits.most)
fit_wire Y width fits = (fits.some, fits.most)

chosen : (b : Bool) (wire given : WireType) → cond b (Some given) None ≡ Some wire → given ≡ wire
chosen true wire given e = same_some given wire e
chosen false wire given e = cc

-- the value of a statement behind such values is so wide too
pub statement_wide : (parties : ℕ) (before : List Statement) (s : Statement) (wire : WireType) → AllWide before →
    IsStatement parties before s → s.wire ≡ Some wire → IsWide wire
statement_wide parties before s wire wide is e =
    let op = s.shape.operation in
    let own : Fits s.shape.width = record { some = is.numbers.some_width; most = is.numbers.in_width } in
    let operands = fit_operands before is.sharing is.operands wide is.uses in
    let fits = fit_given (widths_of op) s.shape.width s.shape.place is.operands is.width own operands is.wide in
    let given = wire_type (gives op is.sharing) is.width in
    subst IsWide (chosen (states is_name_slot op) wire given (sym is.wire ∙ e)) (fit_wire (gives op is.sharing) is.width fits)

wire_here : (ss : List Statement) (at : ℕ) (s : Statement) (wire : WireType) → slice_get ss at ≡ Some s → s.wire ≡ Some wire →
    wire_at ss at ≡ Some wire
wire_here ss at s wire e f = rw e f

-- values among the first statements are so wide, where all values before a place are
first_wide : (ss : List Statement) (n : ℕ) →
    ((at : ℕ) → at < n → (wire : WireType) → wire_at ss at ≡ Some wire → IsWide wire) → AllWide (take n ss)
first_wide ss n below at wire e =
    let earlier = wire_there (take n ss) at wire e in
    let kept = took ss n at earlier.0 earlier.1 in
    below at kept.0 wire (wire_here ss at earlier.0 wire kept.1 earlier.2)

wide_below : (c : Circuit) → IsCircuit c → (n at : ℕ) → at < n → (wire : WireType) → wire_at c.statements at ≡ Some wire → IsWide wire
wide_below c circuit zero at h wire e = absurd (omega arith)
wide_below c circuit (suc n) at h wire e =
    let there = wire_there c.statements at wire e in
    let before = first_wide c.statements at (λ x small w f. wide_below c circuit n x (omega (arith, h, small)) w f) in
    statement_wide c.parties (take at c.statements) there.0 wire before (circuit.each at there.0 there.1) there.2

-- each value of a circuit has 1 to 64 bits
pub circuit_wide : (c : Circuit) → IsCircuit c → AllWide c.statements
circuit_wide c circuit at wire e = wide_below c circuit (at + 1) at (omega arith) wire e

width_some : (o : Option WireType) → ((wire : WireType) → o ≡ Some wire → IsWide wire) → unwrap_or (option_map width_of o) 0 ≤ 64
width_some None wide = omega arith
width_some (Some wire) wide = (wide wire refl).1

-- each output that values of such widths tell has at most 64 bits
pub told_narrow : (all : List Statement) (values : List ℕ) → AllWide all → (ss : List Statement) →
    AllByRecursion (λ t. length t.bits ≤ 64) (told_among all values ss)
told_narrow all values wide [] = tt
told_narrow all values wide (s ∷ ss) = here (states is_told_slot s.shape.operation) (told_narrow all values wide ss)
  where
    told : Told
    told = record {
      name = name_at all (told_value s);
      to = receiver_of s.shape.party;
      bits = bits (width_at all (told_value s)) (slice_index values (told_value s));
    }

    narrow : length told.bits ≤ 64
    narrow = rw (length-bits (width_at all (told_value s)) (slice_index values (told_value s)))
        (width_some (wire_at all (told_value s)) (λ wire e. wide (told_value s) wire e))

    here : (b : Bool) → AllByRecursion (λ t. length t.bits ≤ 64) (told_among all values ss) →
        AllByRecursion (λ t. length t.bits ≤ 64) (cond b (told ∷ []) [] ++ told_among all values ss)
    here true rest = (narrow, rest)
    here false rest = rest

inputs_few : (ss : List Statement) → ((at : ℕ) (s : Statement) → slice_get ss at ≡ Some s → s.shape.width ≤ 64) →
    AllByRecursion (λ x. x.width ≤ 64) (inputs_of ss)
inputs_few [] few = tt
inputs_few (s ∷ ss) few = here (owner_of s.shape) (inputs_few ss (λ at t e. few (suc at) t e))
  where
    here : (o : Option ℕ) → AllByRecursion (λ x. x.width ≤ 64) (inputs_of ss) → AllByRecursion (λ x. x.width ≤ 64) (input_entry s o ++ inputs_of ss)
    here None rest = rest
    here (Some party) rest = (few 0 s refl, rest)

-- no value of a circuit's inputs has more than 64 bits
pub inputs_narrow : (c : Circuit) → IsCircuit c → (v : List (List Bool)) → HaveWidths None (inputs_of c.statements) v →
    All (λ bits. length bits ≤ 64) v
inputs_narrow c circuit v widths =
    values_narrow None (inputs_of c.statements) v 64 widths
    (All-from_recursion (λ x. x.width ≤ 64) _ (inputs_few c.statements (λ at s e. (circuit.each at s e).numbers.in_width)))
