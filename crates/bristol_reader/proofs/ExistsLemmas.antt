-- That each circuit has a plain evaluation.
use Rattle.std.proofs.Common.{ℕ, zero, suc, ◌≡◌, ◌≤◌, ◌+◌, ◌-◌, Bool, true, false, List, [], ◌∷◌, ◌++◌, length, take, get_or, set, refl, sym, ◌∙◌, ap, subst, add-one, arith}
use Rattle.std.specs.Prelude.{sum, replicate}
use Rattle.std.specs.List.{flat_map}
use Rattle.std.proofs.lemmas.Bool.{and_parts}
use Rattle.std.proofs.lemmas.List.{length-append, length-drop, length-replicate}
use Rattle.std.proofs.lemmas.List.Sums.{sum_by-cons}
use Rattle.std.proofs.Math.Seq.{take-append_seam}
use Rattle.mot_base.proofs.Lists.{some_at}
use Rattle.circuit_tables.specs.Table.{total_width}
use Rattle.circuit_tables.proofs.CutLemmas.{cut_of, cut_is_cut}
use Rattle.bristol_reader.specs.Kinds.{is_arity, output_bit}
use Rattle.bristol_reader.specs.Circuit.{Circuit, Gate, are_apart}
use Rattle.bristol_reader.specs.Line.{is_in_range}
use Rattle.bristol_reader.specs.Built.{IsBuilt, first_gates}
use Rattle.bristol_reader.specs.Stored.{reads_none_of}
use Rattle.bristol_reader.specs.Table.{HaveInputWidths, outputs_from, outputs_of}
use Rattle.bristol_reader.specs.Eval.{AreWireBits, EachEvaluates, input_bit, output_bits}
use Rattle.bristol_reader.proofs.InputLemmas.{flat_count}
use Rattle.bristol_reader.proofs.EvalLemmas.{SetTo, EvaluatedTo, set_none, set_more, set_met, set_kept, evaluated_none, evaluated_more, evaluated_all, reads_none}

-- ---- the bits of a circuit's wires in Bristol Fashion, gate by gate

-- what a gate asks of the wires behind which it stands
record Fits (old : List Bool) (g : Gate) : Type 0 where
  pub arity : is_arity g.kind (length g.ins) (length g.outs) ≡ true
  pub range : is_in_range (length old) g ≡ true
  pub apart : are_apart g.outs ≡ true
  pub others : reads_none_of g ≡ true

outs_to : (old : List Bool) (g : Gate) (k : ℕ) → Fits old g → k ≤ length g.outs →
    (now : List Bool) × SetTo old g k now
outs_to old g zero fits h = (old, set_none old g)
outs_to old g (suc k) fits h =
    let before = outs_to old g k fits (omega (arith, h)) in
    let bit = output_bit g.kind (input_bit before.0 g) (length g.outs) k in
    let now = set before.0 (get_or g.outs k 0) bit in (
      now,
      subst (λ (n : ℕ). SetTo old g n now) (add-one k)
          (set_more old before.0 g k bit fits.arity fits.range fits.apart fits.others (omega (arith, h))
          before.1 refl),
    )

wires_to : (c : Circuit) (inputs : List (List Bool)) (n : ℕ) →
    IsBuilt c → HaveInputWidths c inputs → n ≤ length c.gates →
    (made : List Bool) × EvaluatedTo c inputs made n
wires_to c inputs zero built widths h =
    let given = flat_map (λ (v : List Bool). v) inputs in
    let rest = replicate (c.wires - sum c.inputs) false in
    let count : length given ≡ sum c.inputs = flat_count inputs ∙ ap sum widths.widths in
    let more = length-replicate (c.wires - sum c.inputs) false in
    let few = built.few_inputs in (
      given ++ rest,
      evaluated_none c inputs (given ++ rest) (length-append given rest ∙ omega (arith, count, more, few))
          (ap (λ (n : ℕ). take n (given ++ rest)) (sym count) ∙ take-append_seam given rest),
    )
wires_to c inputs (suc n) built widths h =
    let before = wires_to c inputs n built widths (omega (arith, h)) in
    let there = some_at c.gates n (omega (arith, h)) in
    let g = there.0 in
    let behind = built.each n g there.1 in
    let fits : Fits before.0 g = record {
      arity = behind.arity;
      range = ap (λ (k : ℕ). is_in_range k g) before.1.count ∙ behind.range;
      apart = (and_parts _ (are_apart g.outs) behind.once).1;
      others = reads_none (first_gates n c) g behind;
    } in
    let now = outs_to before.0 g (length g.outs) fits (omega arith) in (
      now.0,
      subst (EvaluatedTo c inputs now.0) (add-one n)
          (evaluated_more c inputs before.0 now.0 n g built there.1 before.1 now.1.count
          (set_met before.0 now.0 g (length g.outs) fits.arity fits.others (omega arith) now.1)
          (set_kept before.0 now.0 g (length g.outs) (omega arith) now.1)),
    )

pub wire_bits : (c : Circuit) (inputs : List (List Bool)) →
    IsBuilt c → HaveInputWidths c inputs →
    (made : List Bool) × AreWireBits c inputs made
wire_bits c inputs built widths =
    let all = wires_to c inputs (length c.gates) built widths (omega arith) in
    (all.0, evaluated_all c inputs all.0 (length c.gates) (omega arith) all.1)

outputs_width : (at : ℕ) (widths : List ℕ) → total_width (outputs_from at widths) ≡ sum widths
outputs_width at [] = refl
outputs_width at (w ∷ widths) =
    ap (λ (n : ℕ). w + n) (outputs_width (at + 1) widths) ∙ sym (sum_by-cons (λ n. n) w widths)

pub length_outputs : (c : Circuit) (inputs : List (List Bool)) (made : List Bool) →
    IsBuilt c → AreWireBits c inputs made →
    length (output_bits c made) ≡ sum c.outputs
length_outputs c inputs made built are =
    let few = built.few_outputs in
    let count = are.count in
    length-drop (c.wires - sum c.outputs) made ∙ omega (arith, few, count)

pub each_evaluates : EachEvaluates
each_evaluates c v whole widths =
    let made = wire_bits c v whole.built widths in
    let table = outputs_of c in
    let left = output_bits c made.0 in (
      cut_of table left,
      record {
        bits = made.0;
        wires = made.1;
        told = cut_is_cut table left (outputs_width 0 c.outputs ∙ sym (length_outputs c v made.0 whole.built made.1));
      },
    )
