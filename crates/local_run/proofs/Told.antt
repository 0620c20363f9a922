-- What each party is told, as outputs of the circuit.
use Rattle.std.proofs.Common.{ℕ, zero, suc, ◌≡◌, ◌≤◌, ◌+◌, Bool, true, false, cond, List, [], ◌∷◌, ◌++◌, length, map, take, Option, Some, None, refl, sym, ◌∙◌, ap, ap₂, arith, append-nil, append_assoc}
use Rattle.std.specs.Prelude.{filter, slice_get, slice_index, option_map}
use Rattle.std.specs.List.{flat_map}
use Rattle.std.specs.Option.{unwrap_or}
use Rattle.std.proofs.lemmas.Grind.{flat_map-append}
use Rattle.std.proofs.lemmas.List.{take_all}
use Rattle.std.proofs.lemmas.List.Elements.{filter-append}
use Rattle.share_types.specs.declared.bits.Bits.{Bits}
use Rattle.share_types.specs.Sums.{each}
use Rattle.share_types.specs.Bits.{bits, number}
use Rattle.share_types.specs.declared.receiver.Receiver.{Receiver}
use Rattle.circuit_tables.specs.Table.{Output, Told, asked, joined_bits, AreCut}
use Rattle.mot_base.proofs.Lists.{take_next, length_taken, some_at as there, index_at as index_is}
use Rattle.plan_gates.specs.Gate.{Gate, width_at, receiver_of}
use Rattle.plan_gates.specs.Plan.{Gates}
use Rattle.plan_gates.specs.Plain.{Outside, plain_before, GateTold, told_entry, told_by}
use Rattle.plan_gates.proofs.PlainLemmas.{length_plain}
use Rattle.plan_gates.specs.Messages.{tells_by, tells}
use Rattle.share_types.specs.Wires.{includes}
use Rattle.gate_tasks.specs.Report.{tells_at, told_gates, told_to}
use Rattle.local_run.specs.Told.{ToldBitsAreThoseOfOutputs, bits_of_entries, outputs_to, AreToldInPlain}

-- ---- the bits of all gates

abbrev bits_to : ℕ → List GateTold → List Bool
bits_to p ts = flat_map (λ (t : GateTold). t.bits) (filter (λ (t : GateTold). includes t.to p) ts)

to_append : (p : ℕ) (xs ys : List GateTold) → bits_to p (xs ++ ys) ≡ bits_to p xs ++ bits_to p ys
to_append p xs ys =
    ap (flat_map (λ (t : GateTold). t.bits)) (filter-append (λ (t : GateTold). includes t.to p) xs ys)
    ∙ flat_map-append (λ (t : GateTold). t.bits) (filter (λ (t : GateTold). includes t.to p) xs) (filter (λ (t : GateTold). includes t.to p) ys)

width_is : (gates : List Gate) (n : ℕ) (gate : Gate) → slice_get gates n ≡ Some gate → width_at gates n ≡ gate.width
width_is gates n gate h = ap (λ (o : Option Gate). unwrap_or (option_map (λ (g : Gate). g.width) o) 0) h

-- one gate more
told_more : (gates : List Gate) (numbers : List ℕ) (gate : Gate) (n : ℕ) → length numbers ≡ length gates →
    told_by (gates ++ gate ∷ []) (numbers ++ n ∷ []) ≡ told_by gates numbers ++ told_entry gate.width n (receiver_of gate.kind)
told_more [] [] gate n same = append-nil (told_entry gate.width n (receiver_of gate.kind))
told_more [] (m ∷ numbers) gate n same = absurd (omega (arith, same))
told_more (g ∷ gates) [] gate n same = absurd (omega (arith, same))
told_more (g ∷ gates) (m ∷ numbers) gate n same =
    ap (λ ts. told_entry g.width m (receiver_of g.kind) ++ ts) (told_more gates numbers gate n (omega (arith, same)))
    ∙ sym (append_assoc (told_entry g.width m (receiver_of g.kind)) (told_by gates numbers) (told_entry gate.width n (receiver_of gate.kind)))

entry_bits : (p width n : ℕ) (o : Option Receiver) →
    bits_to p (told_entry width n o) ≡ cond (tells_by p o) (bits width n) []
entry_bits p width n None = refl
entry_bits p width n (Some to) = by (includes to p) refl
  where
    by : (b : Bool) → includes to p ≡ b → flat_map (λ (t : GateTold). t.bits) (cond (includes to p) (record { to = to; bits = bits width n } ∷ []) []) ≡ cond (includes to p) (bits width n) []
    by true e = rw e (append-nil (bits width n))
    by false e = rw e refl

one_told : (plan : Gates) (numbers : List ℕ) (p n : ℕ) (gate : Gate) (number : ℕ) → slice_get plan.gates n ≡ Some gate → slice_get numbers n ≡ Some number →
    flat_map (λ g. bits (width_at plan.gates g) (slice_index numbers g)) (filter (λ g. tells_at (slice_get plan.gates g) p) (n ∷ []))
    ≡ cond (tells p gate) (bits gate.width number) []
one_told plan numbers p n gate number here known =
    ap (λ (b : Bool). flat_map (λ g. bits (width_at plan.gates g) (slice_index numbers g)) (cond b (n ∷ []) [])) (ap (λ (o : Option Gate). tells_at o p) here)
    ∙ by (tells p gate)
  where
    by : (b : Bool) → flat_map (λ g. bits (width_at plan.gates g) (slice_index numbers g)) (cond b (n ∷ []) []) ≡ cond b (bits gate.width number) []
    by true = append-nil (bits (width_at plan.gates n) (slice_index numbers n)) ∙ ap₂ bits (width_is plan.gates n gate here) (index_is numbers n number known)
    by false = refl

told_before : (plan : Gates) (numbers : List ℕ) (p n : ℕ) → length numbers ≡ length plan.gates → n ≤ length plan.gates →
    flat_map (λ g. bits (width_at plan.gates g) (slice_index numbers g)) (told_gates plan p n) ≡ bits_to p (told_by (take n plan.gates) (take n numbers))
told_before plan numbers p zero same le = refl
told_before plan numbers p (suc n) same le =
    let f : ℕ → List Bool = λ g. bits (width_at plan.gates g) (slice_index numbers g) in
    let tells_it : ℕ → Bool = λ g. tells_at (slice_get plan.gates g) p in
    let less : n ≤ length plan.gates = omega (arith, le) in
    let few : n ≤ length numbers = omega (arith, le, same) in
    let g = there plan.gates n (omega (arith, le)) in
    let v = there numbers n (omega (arith, le, same)) in
    let before = told_before plan numbers p n same less in
    let more : suc n ≡ n + 1 = omega arith in
    let gates_next : take (suc n) plan.gates ≡ take n plan.gates ++ g.0 ∷ [] = ap (λ k. take k plan.gates) more ∙ take_next plan.gates n g.0 g.1 in
    let numbers_next : take (suc n) numbers ≡ take n numbers ++ v.0 ∷ [] = ap (λ k. take k numbers) more ∙ take_next numbers n v.0 v.1 in
    let even : length (take n numbers) ≡ length (take n plan.gates) = length_taken numbers n few ∙ sym (length_taken plan.gates n less) in
    ap (flat_map f) (filter-append tells_it (each n (λ k. k)) (n ∷ []))
    ∙ (flat_map-append f (filter tells_it (each n (λ k. k))) (filter tells_it (n ∷ []))
    ∙ (ap₂ (λ (xs ys : List Bool). xs ++ ys) before (one_told plan numbers p n g.0 v.0 g.1 v.1)
    ∙ (ap (λ (ys : List Bool). bits_to p (told_by (take n plan.gates) (take n numbers)) ++ ys) (sym (entry_bits p g.0.width v.0 (receiver_of g.0.kind)))
    ∙ (sym (to_append p (told_by (take n plan.gates) (take n numbers)) (told_entry g.0.width v.0 (receiver_of g.0.kind)))
    ∙ (ap (bits_to p) (sym (told_more (take n plan.gates) (take n numbers) g.0 v.0 even))
    ∙ ap₂ (λ gs ns. bits_to p (told_by gs ns)) (sym gates_next) (sym numbers_next))))))

pub told_bits_are_those_of_outputs : ToldBitsAreThoseOfOutputs
told_bits_are_those_of_outputs plan numbers p same =
    told_before plan numbers p (length plan.gates) same (omega arith)
    ∙ ap₂ (λ gs ns. bits_to p (told_by gs ns)) (take_all (length plan.gates) plan.gates (omega arith)) (take_all (length plan.gates) numbers (omega (arith, same)))

-- ---- outputs, party by party

-- a list that maps to the same as another is as long, and begins the same
pub record Heads (X Y Z : Type 0) (f : X → Z) (g : Y → Z) (x : X) (y : Y) (xs : List X) (ys : List Y) : Type 0 where
  pub first : f x ≡ g y
  pub rest : map f xs ≡ map g ys

pub heads : {X Y Z : Type 0} (f : X → Z) (g : Y → Z) (x : X) (y : Y) (xs : List X) (ys : List Y) → map f (x ∷ xs) ≡ map g (y ∷ ys) →
    Heads X Y Z f g x y xs ys
heads f g x y xs ys e = record { first = cc; rest = cc }

-- what is chosen of both maps to the same, where both choose alike
module _ (p : ℕ) {Z : Type 0} (f : Told → Z) (g : Output → Z) where
  chosen : (ts : List Told) (os : List Output) → map (λ t. t.to) ts ≡ map (λ o. o.to) os → map f ts ≡ map g os →
      map f (outputs_to p ts) ≡ map g (asked (Some (record { 0 = p })) os)
  chosen [] [] to same = refl
  chosen [] (o ∷ os) to same = cc
  chosen (t ∷ ts) [] to same = cc
  chosen (t ∷ ts) (o ∷ os) to same =
      let head = heads (λ (t : Told). t.to) (λ (o : Output). o.to) t o ts os to in
      let both = heads f g t o ts os same in
      ap (λ (r : Receiver). map f (cond (includes r p) (t ∷ outputs_to p ts) (outputs_to p ts))) head.first
      ∙ by (includes o.to p) both.first (chosen ts os head.rest both.rest)
    where
      by : (b : Bool) → f t ≡ g o → map f (outputs_to p ts) ≡ map g (asked (Some (record { 0 = p })) os) →
          map f (cond b (t ∷ outputs_to p ts) (outputs_to p ts)) ≡ map g (cond b (o ∷ asked (Some (record { 0 = p })) os) (asked (Some (record { 0 = p })) os))
      by true here rest = ap₂ (λ (z : Z) (zs : List Z). z ∷ zs) here rest
      by false here rest = rest

pub cuts_by_party : (table : List Output) (joined : List Bool) (outputs : List Told) (p : ℕ) → AreCut table joined outputs →
    AreCut (asked (Some (record { 0 = p })) table) (flat_map (λ (t : Told). t.bits) (outputs_to p outputs)) (outputs_to p outputs)
cuts_by_party table joined outputs p cut = record {
  names = chosen p (λ (t : Told). t.name) (λ (o : Output). o.name) outputs table cut.receivers cut.names;
  receivers = chosen p (λ (t : Told). t.to) (λ (o : Output). o.to) outputs table cut.receivers cut.receivers;
  widths = chosen p (λ (t : Told). length t.bits) (λ (o : Output). o.width) outputs table cut.receivers cut.widths;
  joined = refl;
}

-- ---- vectors that are told

joined_is : (f w : ℕ → ℕ) (gs : List ℕ) (told : List Bits) → map (λ (b : Bits). b.word) told ≡ map f gs → map (λ (b : Bits). b.width) told ≡ map w gs →
    joined_bits told ≡ flat_map (λ g. bits (w g) (f g)) gs
joined_is f w [] [] words widths = refl
joined_is f w [] (b ∷ told) words widths = cc
joined_is f w (g ∷ gs) [] words widths = cc
joined_is f w (g ∷ gs) (b ∷ told) words widths =
    let word = heads (λ (b : Bits). b.word) f b g told gs words in
    let width = heads (λ (b : Bits). b.width) w b g told gs widths in
    ap₂ (λ (x y : List Bool). x ++ y) (ap₂ bits width.first word.first) (joined_is f w gs told word.rest width.rest)

pub joined_entries : (plan : Gates) (outside : Outside) (p : ℕ) (told : List Bits) → AreToldInPlain plan outside p told →
    joined_bits told ≡ bits_of_entries (told_by plan.gates (plain_before plan.gates outside (length plan.gates))) p
joined_entries plan outside p told are =
    let numbers = plain_before plan.gates outside (length plan.gates) in
    joined_is (slice_index numbers) (width_at plan.gates) (told_to plan p) told are.words are.widths
    ∙ told_bits_are_those_of_outputs plan numbers p (length_plain plan.gates outside (length plan.gates))
