-- The wire of each wire of a circuit, gate by gate.
use Rattle.std.proofs.Common.{ℕ, zero, suc, ◌≡◌, ◌<◌, ◌≤◌, ◌+◌, true, false, not, List, [], ◌∷◌, ◌++◌, length, take, get_or, set, refl, sym, ◌∙◌, ap, arith}
use Rattle.std.specs.Prelude.{◌==◌}
use Rattle.std.proofs.lemmas.Bool.{and_parts, or_parts, eqb-false}
use Rattle.std.proofs.lemmas.List.{take_more, take_all, length-set, length-take-le, get_or-set_same, get_or-set_other}
use Rattle.mot_base.proofs.Lists.{not_true}
use Rattle.bristol_reader.specs.Circuit.{is_among, are_apart}
use Rattle.gate_plan.specs.declared.wire.Wire.{Wire}
use Rattle.gate_plan.specs.Blocks.{single, wire_among}
use Rattle.gate_plan.specs.Bristol.{rewired}

-- a wire, as std reads a list
among_is : (wires : List Wire) (w : ℕ) → wire_among wires w ≡ get_or wires w (single 0)
among_is [] w = refl
among_is (a ∷ wires) zero = refl
among_is (a ∷ wires) (suc w) = among_is wires w

-- a place keeps the wire that it is given
set_same : (wires : List Wire) (w : ℕ) (a : Wire) → w < length wires → wire_among (set wires w a) w ≡ a
set_same wires w a h = among_is (set wires w a) w ∙ get_or-set_same wires w a (single 0) h

-- and each other place the one that it has
set_other : (wires : List Wire) (at w : ℕ) (a : Wire) →
    (at == w) ≡ false → wire_among (set wires at a) w ≡ wire_among wires w
set_other wires at w a other =
    among_is (set wires at a) w
    ∙ (get_or-set_other wires at w a (single 0) (λ e. eqb-false at w other (sym e)) ∙ sym (among_is wires w))

pub length_rewired : (wires : List Wire) (outs : List ℕ) (made : ℕ → Wire) (i : ℕ) →
    length (rewired wires outs made i) ≡ length wires
length_rewired wires [] made i = refl
length_rewired wires (out ∷ outs) made i = length_rewired (set wires out (made i)) outs made (i + 1)
    ∙ length-set wires out (made i)

-- a wire that is no output keeps what it has
pub rewired_other : (wires : List Wire) (outs : List ℕ) (made : ℕ → Wire) (i w : ℕ) →
    is_among outs w ≡ false →
    wire_among (rewired wires outs made i) w ≡ wire_among wires w
rewired_other wires [] made i w h = refl
rewired_other wires (out ∷ outs) made i w h =
    let parts = or_parts (out == w) (is_among outs w) h in
    rewired_other (set wires out (made i)) outs made (i + 1) w parts.1
    ∙ set_other wires out w (made i) parts.0

-- an output has its own
pub rewired_out : (wires : List Wire) (outs : List ℕ) (made : ℕ → Wire) (i k : ℕ) → are_apart outs ≡ true →
    k < length outs →
    ((j : ℕ) → j < length outs → get_or outs j 0 < length wires) →
    wire_among (rewired wires outs made i) (get_or outs k 0) ≡ made (i + k)
rewired_out wires [] made i k apart h range = absurd (omega (arith, h))
rewired_out wires (out ∷ outs) made i zero apart h range =
    let parts = and_parts (not (is_among outs out)) (are_apart outs) apart in
    let place : i ≡ i + 0 = omega arith in
    rewired_other (set wires out (made i)) outs made (i + 1) out (not_true (is_among outs out) parts.0)
    ∙ (set_same wires out (made i) (range 0 (omega arith)) ∙ ap made place)
rewired_out wires (out ∷ outs) made i (suc k) apart h range =
    let parts = and_parts (not (is_among outs out)) (are_apart outs) apart in
    let place : i + 1 + k ≡ i + suc k = omega arith in
    let size = length-set wires out (made i) in
    rewired_out (set wires out (made i)) outs made (i + 1) k parts.1 (omega (arith, h))
    (λ j within. let low = range (suc j) (omega (arith, within)) in omega (arith, low, size))
    ∙ ap made place

-- ---- one output after another

-- with one output more
rewired_more : (wires : List Wire) (outs : List ℕ) (out : ℕ) (made : ℕ → Wire) (i : ℕ) →
    rewired wires (outs ++ out ∷ []) made i ≡ set (rewired wires outs made i) out (made (i + length outs))
rewired_more wires [] out made i = let place : i ≡ i + 0 = omega arith in
    ap (λ k. set wires out (made k)) place
rewired_more wires (o ∷ outs) out made i =
    let place : i + 1 + length outs ≡ i + suc (length outs) = omega arith in
    let before = set wires o (made i) in
    rewired_more before outs out made (i + 1)
    ∙ ap (λ k. set (rewired before outs made (i + 1)) out (made k)) place

pub rewired_next : (wires : List Wire) (outs : List ℕ) (made : ℕ → Wire) (k : ℕ) → k < length outs →
    rewired wires (take (k + 1) outs) made 0 ≡ set (rewired wires (take k outs) made 0) (get_or outs k 0)
    (made k)
rewired_next wires outs made k h =
    let count = length-take-le k outs (omega (arith, h)) in
    let place : 0 + length (take k outs) ≡ k = omega (arith, count) in
    ap (λ os. rewired wires os made 0) (take_more outs k 0 h)
    ∙ (rewired_more wires (take k outs) (get_or outs k 0) made 0
    ∙ ap (λ j. set (rewired wires (take k outs) made 0) (get_or outs k 0) (made j)) place)

pub rewired_all : (wires : List Wire) (outs : List ℕ) (made : ℕ → Wire) (k : ℕ) → length outs ≤ k →
    rewired wires (take k outs) made 0 ≡ rewired wires outs made 0
rewired_all wires outs made k past = ap (λ os. rewired wires os made 0) (take_all k outs past)
