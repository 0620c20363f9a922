-- The bits of a circuit's wires, gate by gate.
use Rattle.std.proofs.Common.{ℕ, ◌≡◌, ◌<◌, ◌≤◌, ◌+◌, ◌-◌, ◌*◌, Bool, true, false, not, zero, suc, ◌&&◌, ◌||◌, nat_lt, List, [], ◌∷◌, ◌++◌, length, take, drop, get_or, set, Option, Some, None, refl, sym, ◌∙◌, ap, subst, cond, arith, inl, inr}
use Rattle.std.specs.Prelude.{◌==◌, nat_le, slice_get, sum, option_map}
use Rattle.std.specs.List.{list_all, flat_map, range_with_len}
use Rattle.std.proofs.lemmas.Bool.{and_parts, and_from, or_cases, or_parts, or_from, or_left, or_right, ne_eqb, eqb-true, eqb-false, eq-eqb, lt-ltb, ltb-true, cases_eq, false≢true, not_from_false}
use Rattle.std.proofs.lemmas.List.{get_or-set_same, get_or-set_other, length-set, get_or-take, length-take-le, ext_get_or, take_more, take_all, take-take, take-append-drop, length-take, length-drop, get_or-drop, take_at}
use Rattle.std.proofs.lemmas.List.FromFn.{length-range_with_len, get_or-range_with_len}
use Rattle.std.proofs.lemmas.List.Sums.{AllPass-from_list_all}
use Rattle.std.proofs.lemmas.List.Folds.{list_any-append, list_any_at}
use Rattle.std.proofs.lemmas.Option.{slice_get_within, get_or_from_slice_get, slice_get-get_or}
use Rattle.bristol_reader.specs.declared.kind.BristolKind.{BristolKind}
use Rattle.bristol_reader.specs.declared.kind.BristolKind.TheVariants.{Xor, And, Inv, Eq, Eqw, Mand}
use Rattle.share_types.specs.Bits.{differ}
use Rattle.bristol_reader.specs.Kinds.{is_arity, is_constant, output_bit}
use Rattle.bristol_reader.specs.Circuit.{Gate, Circuit, is_among, is_set_by, is_set, are_apart, are_outputs_set}
use Rattle.bristol_reader.specs.Line.{input_bound, is_in_range, are_ins_set, are_outs_new}
use Rattle.bristol_reader.specs.Built.{FitsBehind, first_gates, IsBuilt, IsCircuit}
use Rattle.bristol_reader.specs.Stored.{a_gate, reads_none_of}
use Rattle.bristol_reader.specs.Eval.{bit_at, input_bit, IsMet, AreWireBits}
use Rattle.bristol_reader.proofs.BoolLemmas.{below_at}
use Rattle.bristol_reader.proofs.BuiltLemmas.{parts, is_set_more}
use Rattle.bristol_reader.proofs.MarkLemmas.{not_apart, among_more, cut_at}
use Rattle.mot_base.proofs.Lists.{not_true}

-- ---- one gate

-- the bit of an output rests on the bits of the inputs alone
output_same : (kind : BristolKind) (f g : ℕ → Bool) (ins n i : ℕ) → is_arity kind ins n ≡ true → i < n → ((k : ℕ) → k < ins → f k ≡ g k) → output_bit kind f n i ≡ output_bit kind g n i
output_same Xor f g ins n i arity within same =
    let count = eqb-true ins 2 (and_parts (ins == 2) (n == 1) arity).0 in
    ap (λ (b : Bool). differ b (f 1)) (same 0 (omega arith)) ∙ ap (differ (g 0)) (same 1 (omega arith))
output_same And f g ins n i arity within same =
    let count = eqb-true ins 2 (and_parts (ins == 2) (n == 1) arity).0 in
    ap (λ (b : Bool). b && f 1) (same 0 (omega arith)) ∙ ap (λ (b : Bool). g 0 && b) (same 1 (omega arith))
output_same Inv f g ins n i arity within same =
    let count = eqb-true ins 1 (and_parts (ins == 1) (n == 1) arity).0 in ap not (same 0 (omega arith))
output_same Eq f g ins n i arity within same =
    let count = eqb-true ins 1 (and_parts (ins == 1) (n == 1) arity).0 in same 0 (omega arith)
output_same Eqw f g ins n i arity within same =
    let count = eqb-true ins 1 (and_parts (ins == 1) (n == 1) arity).0 in same 0 (omega arith)
output_same Mand f g ins n i arity within same =
    let count = eqb-true ins (2 * n) (and_parts (nat_le 1 n) (ins == 2 * n) arity).1 in
    ap (λ (b : Bool). b && f (n + i)) (same i (omega arith)) ∙ ap (λ (b : Bool). g i && b) (same (n + i) (omega arith))

-- two lists of bits that agree on the wires of a gate
pub record Agree (a b : List Bool) (g : Gate) : Type 0 where
  pub outs : (i : ℕ) → i < length g.outs → bit_at a (get_or g.outs i 0) ≡ bit_at b (get_or g.outs i 0)
  pub ins : is_constant g.kind ≡ false → (k : ℕ) → k < length g.ins → bit_at a (get_or g.ins k 0) ≡ bit_at b (get_or g.ins k 0)

input_same : (a b : List Bool) (g : Gate) (constant : Bool) → is_constant g.kind ≡ constant → (is_constant g.kind ≡ false → (k : ℕ) → k < length g.ins → bit_at a (get_or g.ins k 0) ≡ bit_at b (get_or g.ins k 0)) → (k : ℕ) → k < length g.ins → input_bit a g k ≡ input_bit b g k
input_same a b g true is same k within =
    ap (λ (t : Bool). cond t (get_or g.ins k 0 == 1) (bit_at a (get_or g.ins k 0))) is
    ∙ sym (ap (λ (t : Bool). cond t (get_or g.ins k 0 == 1) (bit_at b (get_or g.ins k 0))) is)
input_same a b g false is same k within =
    ap (λ (t : Bool). cond t (get_or g.ins k 0 == 1) (bit_at a (get_or g.ins k 0))) is
    ∙ same is k within
    ∙ sym (ap (λ (t : Bool). cond t (get_or g.ins k 0 == 1) (bit_at b (get_or g.ins k 0))) is)

outputs_same : (a b : List Bool) (g : Gate) (i : ℕ) → is_arity g.kind (length g.ins) (length g.outs) ≡ true → i < length g.outs → (is_constant g.kind ≡ false → (k : ℕ) → k < length g.ins → bit_at a (get_or g.ins k 0) ≡ bit_at b (get_or g.ins k 0)) → output_bit g.kind (input_bit a g) (length g.outs) i ≡ output_bit g.kind (input_bit b g) (length g.outs) i
outputs_same a b g i arity within same = output_same g.kind (input_bit a g) (input_bit b g) (length g.ins) (length g.outs) i arity within (input_same a b g _ refl same)

-- a gate that is met stays so
pub met_kept : (a b : List Bool) (g : Gate) → is_arity g.kind (length g.ins) (length g.outs) ≡ true → Agree a b g → IsMet a g → IsMet b g
met_kept a b g arity agree met = record {
  each = λ i within.
      sym (agree.outs i within)
      ∙ met.each i within
      ∙ outputs_same a b g i arity within agree.ins;
}

-- ---- the outputs of one gate, one after another

pub record SetTo (old : List Bool) (g : Gate) (k : ℕ) (now : List Bool) : Type 0 where
  pub count : length now ≡ length old
  pub met : (i : ℕ) → i < k → bit_at now (get_or g.outs i 0) ≡ output_bit g.kind (input_bit old g) (length g.outs) i
  pub kept : (w : ℕ) → is_among (take k g.outs) w ≡ false → bit_at now w ≡ bit_at old w

pub set_none : (old : List Bool) (g : Gate) → SetTo old g 0 old
set_none old g = record { count = refl; met = λ i h. absurd (omega arith); kept = λ w h. refl }

front_among : (outs : List ℕ) (k w : ℕ) → is_among outs w ≡ false → is_among (take k outs) w ≡ false
front_among outs k w h = (or_parts (is_among (take k outs) w) (is_among (drop k outs) w) (sym (list_any-append (λ x. x == w) (take k outs) (drop k outs)) ∙ ap (λ (ws : List ℕ). is_among ws w) (take-append-drop k outs) ∙ h)).0

-- an output that stands earlier is another wire
earlier_differs : (outs : List ℕ) (i k : ℕ) → are_apart outs ≡ true → i < k → k < length outs → get_or outs i 0 ≡ get_or outs k 0 → ⊥
earlier_differs outs i k apart before within same =
    let count = length-take-le k outs (omega arith) in
    let here : get_or (take k outs) i 0 ≡ get_or outs k 0 = get_or-take k outs i 0 before ∙ same in
    let among : is_among (take k outs) (get_or outs k 0) ≡ true = list_any_at (λ x. x == get_or outs k 0) (take k outs) i 0 (omega arith) (eq-eqb _ _ here) in
    false≢true (sym (ap are_apart (cut_at outs k within) ∙ not_apart (take k outs) (get_or outs k 0) (drop (k + 1) outs) among) ∙ apart)

in_not_out : (g : Gate) (k : ℕ) → reads_none_of g ≡ true → is_constant g.kind ≡ false → k < length g.ins → is_among g.outs (get_or g.ins k 0) ≡ false
in_not_out g k others wires within =
    let all : list_all (λ w. not (is_among g.outs w)) g.ins ≡ true = ap (λ (b : Bool). b || list_all (λ w. not (is_among g.outs w)) g.ins) (sym wires) ∙ others in
    not_true (is_among g.outs (get_or g.ins k 0)) (AllPass-from_list_all (λ w. not (is_among g.outs w)) g.ins all k 0 within)

pub set_more : (old now : List Bool) (g : Gate) (k : ℕ) (v : Bool) → is_arity g.kind (length g.ins) (length g.outs) ≡ true → is_in_range (length old) g ≡ true → are_apart g.outs ≡ true → reads_none_of g ≡ true → k < length g.outs → SetTo old g k now → v ≡ output_bit g.kind (input_bit now g) (length g.outs) k → SetTo old g (k + 1) (set now (get_or g.outs k 0) v)
set_more old now g k v arity range apart others within to is =
    let out = get_or g.outs k 0 in
    let bound : out < length old = below_at (length old) g.outs k (and_parts (list_all (λ x. nat_lt x (input_bound g.kind (length old))) g.ins) _ range).1 within in
    let size = to.count in
    let value : v ≡ output_bit g.kind (input_bit old g) (length g.outs) k =
    is ∙ outputs_same now old g k arity within (λ wires j h. to.kept (get_or g.ins j 0) (front_among g.outs k (get_or g.ins j 0) (in_not_out g j others wires h))) in
    record {
      count = length-set now out v ∙ to.count;
      met = λ i h. elim (cases_eq i k) [
        | inl e ↦ (ap (λ (j : ℕ). bit_at (set now out v) (get_or g.outs j 0)) e
            ∙ get_or-set_same now out v false (omega arith)
            ∙ value
            ∙ sym (ap (output_bit g.kind (input_bit old g) (length g.outs)) e))
        | inr ne ↦ (let before : i < k = omega (arith, ne) in
            get_or-set_other now out (get_or g.outs i 0) v false (earlier_differs g.outs i k apart before within)
            ∙ to.met i before)
      ];
      kept = λ w h.
          let more : is_among (take k g.outs) w || (out == w) ≡ false = sym (among_more (take k g.outs) out w) ∙ ap (λ (ws : List ℕ). is_among ws w) (sym (take_more g.outs k 0 within)) ∙ h in
          let parts = or_parts (is_among (take k g.outs) w) (out == w) more in
          get_or-set_other now out w v false (λ e. eqb-false out w parts.1 (sym e)) ∙ to.kept w parts.0;
    }

pub set_kept : (old now : List Bool) (g : Gate) (k : ℕ) → length g.outs ≤ k → SetTo old g k now → (w : ℕ) → is_among g.outs w ≡ false → bit_at now w ≡ bit_at old w
set_kept old now g k past to w h = to.kept w (ap (λ (ws : List ℕ). is_among ws w) (take_all k g.outs past) ∙ h)

pub set_met : (old now : List Bool) (g : Gate) (k : ℕ) → is_arity g.kind (length g.ins) (length g.outs) ≡ true → reads_none_of g ≡ true → length g.outs ≤ k → SetTo old g k now → IsMet now g
set_met old now g k arity others past to = record {
  each = λ i h.
      to.met i (omega arith)
      ∙ outputs_same old now g i arity h (λ wires j within. sym (set_kept old now g k past to (get_or g.ins j 0) (in_not_out g j others wires within)));
}

-- ---- which wires are set

set_mono : (c : Circuit) (k at w : ℕ) → k ≤ at → is_set (first_gates k c) w ≡ true → is_set (first_gates at c) w ≡ true
unfolding is_set
set_mono c k at w le h = elim (or_cases (nat_lt w (sum c.inputs)) (is_set_by (take k c.gates) w) h) [
  | inl input ↦ or_left _ _ input
  | inr by ↦ or_right (nat_lt w (sum c.inputs)) _
      (ap (λ (gs : List Gate). is_set_by gs w) (sym (take-append-drop k (take at c.gates)))
      ∙ list_any-append (λ g. is_among g.outs w) (take k (take at c.gates)) (drop k (take at c.gates))
      ∙ or_left _ _ (ap (λ (gs : List Gate). is_set_by gs w) (take-take k at c.gates le) ∙ by))
]

pub input_set : (c : Circuit) (w : ℕ) → w < sum c.inputs → is_set c w ≡ true
unfolding is_set
input_set c w h = or_left _ _ (lt-ltb w (sum c.inputs) h)

out_set : (c : Circuit) (k at i : ℕ) (h : Gate) → slice_get c.gates k ≡ Some h → k < at → i < length h.outs → is_set (first_gates at c) (get_or h.outs i 0) ≡ true
unfolding is_set
out_set c k at i h there before within =
    let w = get_or h.outs i 0 in
    let inside = slice_get_within c.gates k h there in
    let among : is_among h.outs w ≡ true = list_any_at (λ x. x == w) h.outs i 0 within (eq-eqb w w refl) in
    let long : k < length (take at c.gates) = simp length-take (omega arith) in
    let here : get_or (take at c.gates) k h ≡ h = get_or-take at c.gates k h before ∙ get_or_from_slice_get c.gates k h h there in
    or_right (nat_lt w (sum c.inputs)) _ (list_any_at (λ g. is_among g.outs w) (take at c.gates) k h long (ap (λ (g : Gate). is_among g.outs w) here ∙ among))

pub in_set : (c : Circuit) (h : Gate) (k : ℕ) → are_ins_set c h ≡ true → is_constant h.kind ≡ false → k < length h.ins → is_set c (get_or h.ins k 0) ≡ true
in_set c h k used wires within =
    let all : list_all (is_set c) h.ins ≡ true = ap (λ (b : Bool). b || list_all (is_set c) h.ins) (sym wires) ∙ used in
    AllPass-from_list_all (is_set c) h.ins all k 0 within

-- a wire that is set is no output of a gate whose outputs are new
not_new : (c : Circuit) (outs : List ℕ) (w : ℕ) → list_all (λ v. not (is_set c v)) outs ≡ true → is_set c w ≡ true → is_among outs w ≡ false
not_new c [] w new h = refl
not_new c (v ∷ outs) w new h =
    let tests = and_parts (not (is_set c v)) _ new in
    or_from (v == w) _ (ne_eqb v w (λ e. false≢true (sym (not_true (is_set c v) tests.0) ∙ ap (is_set c) e ∙ h))) (not_new c outs w tests.1 h)

pub set_not_among : (c : Circuit) (g : Gate) (w : ℕ) → are_outs_new c g.outs ≡ true → is_set c w ≡ true → is_among g.outs w ≡ false
set_not_among c g w once h = not_new c g.outs w (and_parts _ (are_apart g.outs) once).0 h

none_read : (c : Circuit) (outs ins : List ℕ) → list_all (λ v. not (is_set c v)) outs ≡ true → list_all (is_set c) ins ≡ true → list_all (λ w. not (is_among outs w)) ins ≡ true
none_read c outs [] new used = refl
none_read c outs (w ∷ ins) new used =
    let tests = and_parts (is_set c w) _ used in
    and_from _ _ (not_from_false _ (not_new c outs w new tests.0)) (none_read c outs ins new tests.1)

pub reads_none : (c : Circuit) (g : Gate) → FitsBehind c g → reads_none_of g ≡ true
reads_none c g fits = elim (or_cases (is_constant g.kind) (list_all (is_set c) g.ins) fits.used) [
  | inl constant ↦ or_left _ _ constant
  | inr wires ↦ or_right (is_constant g.kind) _ (none_read c g.outs g.ins (and_parts _ (are_apart g.outs) fits.once).0 wires)
]

-- ---- all gates

-- bits are those of a circuit's wires as far as its first gates go
pub record EvaluatedTo (c : Circuit) (inputs : List (List Bool)) (bits : List Bool) (at : ℕ) : Type 0 where
  pub count : length bits ≡ c.wires
  pub given : take (sum c.inputs) bits ≡ flat_map (λ v. v) inputs
  pub each : (k : ℕ) (g : Gate) → k < at → slice_get c.gates k ≡ Some g → IsMet bits g

first_same : (total : ℕ) (a b : List Bool) → length a ≡ length b → total ≤ length a → ((w : ℕ) → w < total → bit_at a w ≡ bit_at b w) → take total a ≡ take total b
first_same total a b count few same =
    let one = length-take-le total a few in
    let other = length-take-le total b (omega arith) in
    ext_get_or false (take total a) (take total b) (omega arith)
    (λ i within. get_or-take total a i false (omega arith) ∙ same i (omega arith) ∙ sym (get_or-take total b i false (omega arith)))

pub evaluated_more : (c : Circuit) (inputs : List (List Bool)) (bits after : List Bool) (at : ℕ) (g : Gate) → IsBuilt c → slice_get c.gates at ≡ Some g → EvaluatedTo c inputs bits at → length after ≡ length bits → IsMet after g → ((w : ℕ) → is_among g.outs w ≡ false → bit_at after w ≡ bit_at bits w) → EvaluatedTo c inputs after (at + 1)
evaluated_more c inputs bits after at g built there to size met kept =
    let fits = built.each at g there in
    let stays : (w : ℕ) → is_set (first_gates at c) w ≡ true → bit_at after w ≡ bit_at bits w = λ w h. kept w (set_not_among (first_gates at c) g w fits.once h) in
    let few = built.few_inputs in
    let count = to.count in
    record {
      count = size ∙ to.count;
      given = first_same (sum c.inputs) after bits size (omega arith) (λ w h. stays w (input_set (first_gates at c) w h)) ∙ to.given;
      each = λ k h before is. elim (cases_eq k at) [
        | inl e ↦ (let same : Some h ≡ Some g = sym is ∙ ap (slice_get c.gates) e ∙ there in
            let one : h ≡ g = cc in
            subst (IsMet after) (sym one) met)
        | inr ne ↦ (let earlier : k < at = omega (arith, ne) in
            let own = built.each k h is in
            met_kept bits after h own.arity
            (record {
              outs = λ i within. sym (stays (get_or h.outs i 0) (out_set c k at i h is earlier within));
              ins = λ wires j within. sym (stays (get_or h.ins j 0) (set_mono c k at (get_or h.ins j 0) (omega arith) (in_set (first_gates k c) h j own.used wires within)));
            })
            (to.each k h earlier is))
      ];
    }

pub evaluated_all : (c : Circuit) (inputs : List (List Bool)) (bits : List Bool) (at : ℕ) → length c.gates ≤ at → EvaluatedTo c inputs bits at → AreWireBits c inputs bits
evaluated_all c inputs bits at past to = record {
  count = to.count;
  given = to.given;
  each = λ k g is. let within = slice_get_within c.gates k g is in to.each k g (omega arith) is;
}

pub evaluated_none : (c : Circuit) (inputs : List (List Bool)) (bits : List Bool) → length bits ≡ c.wires → take (sum c.inputs) bits ≡ flat_map (λ v. v) inputs → EvaluatedTo c inputs bits 0
evaluated_none c inputs bits count given = record { count = count; given = given; each = λ k g h is. absurd (omega arith) }

-- the parts of a gate are the gate
some_parts : (o : Option Gate) (kind : BristolKind) (ins outs : List ℕ) → option_map (λ g. g.kind) o ≡ Some kind → option_map (λ g. g.ins) o ≡ Some ins → option_map (λ g. g.outs) o ≡ Some outs → o ≡ Some (a_gate kind ins outs)
some_parts None kind ins outs k i o = cc
some_parts (Some g) kind ins outs k i o =
    let a : g.kind ≡ kind = cc in
    let b : g.ins ≡ ins = cc in
    let d : g.outs ≡ outs = cc in
    ap (λ (x : BristolKind). Some (a_gate x g.ins g.outs)) a
    ∙ ap (λ (x : List ℕ). Some (a_gate kind x g.outs)) b
    ∙ ap (λ (x : List ℕ). Some (a_gate kind ins x)) d

pub gate_parts : (gates : List Gate) (at : ℕ) (kind : BristolKind) (ins outs : List ℕ) → option_map (λ g. g.kind) (slice_get gates at) ≡ Some kind → option_map (λ g. g.ins) (slice_get gates at) ≡ Some ins → option_map (λ g. g.outs) (slice_get gates at) ≡ Some outs → slice_get gates at ≡ Some (a_gate kind ins outs)
gate_parts gates at kind ins outs k i o = some_parts (slice_get gates at) kind ins outs k i o

-- ---- once

-- two lists of bits of the same wires agree on each wire that the first gates set
pub input_alone : (c : Circuit) (w : ℕ) → is_set (first_gates 0 c) w ≡ true → w < sum c.inputs
unfolding is_set
input_alone c w h = elim (or_cases (nat_lt w (sum c.inputs)) false h) [ inl low ↦ ltb-true w (sum c.inputs) low | inr none ↦ absurd (false≢true none) ]

pub among_place : (ws : List ℕ) (w : ℕ) → is_among ws w ≡ true → (i : ℕ) × (i < length ws) × (get_or ws i 0 ≡ w)
among_place [] w h = absurd (false≢true h)
among_place (x ∷ ws) w h = elim (or_cases (x == w) (is_among ws w) h) [
  | inl here ↦ (0, omega arith, eqb-true x w here)
  | inr later ↦ (let p = among_place ws w later in (suc p.0, (let within = p.1 in omega arith), p.2))
]

pub set_next : (c : Circuit) (n w : ℕ) → n < length c.gates → is_set (first_gates (suc n) c) w ≡ (is_set (first_gates n c) w || is_among (get_or c.gates n (a_gate Xor [] [])).outs w)
set_next c n w within =
    let g = get_or c.gates n (a_gate Xor [] []) in
    let e : suc n ≡ n + 1 = omega arith in
    ap (λ (gs : List Gate). is_set (parts c.wires c.inputs c.outputs gs) w) (ap (λ (m : ℕ). take m c.gates) e ∙ take_more c.gates n (a_gate Xor [] []) within)
    ∙ is_set_more (first_gates n c) g w

agree_to : (c : Circuit) (inputs : List (List Bool)) (a b : List Bool) (n : ℕ) → IsBuilt c → AreWireBits c inputs a → AreWireBits c inputs b → n ≤ length c.gates → (w : ℕ) → is_set (first_gates n c) w ≡ true → bit_at a w ≡ bit_at b w
agree_to c inputs a b zero built one other le w h =
    let low = input_alone c w h in
    sym (get_or-take (sum c.inputs) a w false low) ∙ ap (λ (bits : List Bool). bit_at bits w) (one.given ∙ sym other.given) ∙ get_or-take (sum c.inputs) b w false low
agree_to c inputs a b (suc n) built one other le w h =
    let g = get_or c.gates n (a_gate Xor [] []) in
    let there : slice_get c.gates n ≡ Some g = slice_get-get_or c.gates n (a_gate Xor [] []) (omega arith) in
    let fits = built.each n g there in
    let before = agree_to c inputs a b n built one other (omega arith) in
    elim (or_cases (is_set (first_gates n c) w) (is_among g.outs w) (sym (set_next c n w (omega arith)) ∙ h)) [
      | inl earlier ↦ before w earlier
      | inr now ↦ (let found = among_place g.outs w now in
          let i = found.0 in
          ap (bit_at a) (sym found.2)
          ∙ (one.each n g there).each i found.1
          ∙ outputs_same a b g i fits.arity found.1 (λ wires j within. before (get_or g.ins j 0) (in_set (first_gates n c) g j fits.used wires within))
          ∙ sym ((other.each n g there).each i found.1)
          ∙ ap (bit_at b) found.2)
    ]

-- the output wires have the same bits
pub all_set : (c : Circuit) (w : ℕ) → is_set c w ≡ true → is_set (first_gates (length c.gates) c) w ≡ true
all_set c w h = ap (λ (gs : List Gate). is_set (parts c.wires c.inputs c.outputs gs) w) (take_all (length c.gates) c.gates (omega arith)) ∙ h

pub output_set : (c : Circuit) (w : ℕ) → IsCircuit c → c.wires - sum c.outputs ≤ w → w < c.wires → is_set c w ≡ true
unfolding are_outputs_set
output_set c w circuit low high =
    let from = c.wires - sum c.outputs in
    let few = circuit.built.few_outputs in
    let size = length-range_with_len from (sum c.outputs) in
    let here : get_or (range_with_len from (sum c.outputs)) (w - from) 0 ≡ w = get_or-range_with_len from (sum c.outputs) (w - from) 0 (omega arith) ∙ omega arith in
    ap (is_set c) (sym here) ∙ AllPass-from_list_all (is_set c) (range_with_len from (sum c.outputs)) circuit.set (w - from) 0 (omega arith)

pub same_outputs : (c : Circuit) (inputs : List (List Bool)) (a b : List Bool) → IsCircuit c → AreWireBits c inputs a → AreWireBits c inputs b → drop (c.wires - sum c.outputs) a ≡ drop (c.wires - sum c.outputs) b
same_outputs c inputs a b circuit one other =
    let from = c.wires - sum c.outputs in
    let few = circuit.built.few_outputs in
    let first = one.count in
    let second = other.count in
    let long : length (drop from a) ≡ length (drop from b) = simp length-drop (omega arith) in
    ext_get_or false (drop from a) (drop from b) long
    (λ i within.
    let inside : from + i < c.wires = (let size = length-drop from a in omega arith) in
    get_or-drop from a i false
    ∙ agree_to c inputs a b (length c.gates) circuit.built one other (omega arith) (from + i) (all_set c (from + i) (output_set c (from + i) circuit (omega arith) inside))
    ∙ sym (get_or-drop from b i false))

pub out_below : (wires : ℕ) (g : Gate) (i : ℕ) → is_in_range wires g ≡ true → i < length g.outs → get_or g.outs i 0 < wires
out_below wires g i range within = below_at wires g.outs i (and_parts (list_all (λ x. nat_lt x (input_bound g.kind wires)) g.ins) _ range).1 within

-- a gate that is told by its parts fits behind those before it
pub gate_fits : (c : Circuit) (at : ℕ) (kind : BristolKind) (ins outs : List ℕ) → IsCircuit c → option_map (λ g. g.kind) (slice_get c.gates at) ≡ Some kind → option_map (λ g. g.ins) (slice_get c.gates at) ≡ Some ins → option_map (λ g. g.outs) (slice_get c.gates at) ≡ Some outs → FitsBehind (first_gates at c) (a_gate kind ins outs)
gate_fits c at kind ins outs circuit k i o = circuit.built.each at (a_gate kind ins outs) (gate_parts c.gates at kind ins outs k i o)

pub gate_step : (c : Circuit) (inputs : List (List Bool)) (bits lent after : List Bool) (at n : ℕ) (kind : BristolKind) (ins outs : List ℕ) → IsCircuit c → option_map (λ g. g.kind) (slice_get c.gates at) ≡ Some kind → option_map (λ g. g.ins) (slice_get c.gates at) ≡ Some ins → option_map (λ g. g.outs) (slice_get c.gates at) ≡ Some outs → EvaluatedTo c inputs bits at → lent ≡ bits → length after ≡ length lent → IsMet after (a_gate kind ins outs) → ((w : ℕ) → is_among outs w ≡ false → bit_at after w ≡ bit_at lent w) → n ≡ length bits → EvaluatedTo c inputs (take n (after ++ drop (length after) bits)) (at + 1)
gate_step c inputs bits lent after at n kind ins outs circuit k i o to same size met kept len =
    let count : length after ≡ length bits = size ∙ ap length same in
    let whole : take n (after ++ drop (length after) bits) ≡ after = take_at after (drop (length after) bits) n (count ∙ sym len) in
    subst (λ (xs : List Bool). EvaluatedTo c inputs xs (at + 1)) (sym whole)
    (evaluated_more c inputs bits after at (a_gate kind ins outs) circuit.built (gate_parts c.gates at kind ins outs k i o) to count met (λ w h. kept w h ∙ ap (λ (xs : List Bool). bit_at xs w) same))
