-- What a builder keeps, gate by gate.
use Rattle.std.proofs.Common.{ℕ, ◌≡◌, ◌<◌, ◌≤◌, Bool, true, false, not, ◌&&◌, ◌||◌, nat_lt, List, [], ◌∷◌, ◌++◌, length, take, get_or, Some, refl, sym, ◌∙◌, ap, subst, arith, ◌⊎◌, inl, inr}
use Rattle.std.specs.Prelude.{slice_get, sum}
use Rattle.std.specs.List.{list_all}
use Rattle.std.proofs.lemmas.Bool.{and_parts}
use Rattle.std.proofs.lemmas.List.{take-append-le, length-append}
use Rattle.std.proofs.lemmas.List.Folds.{list_any-append}
use Rattle.std.proofs.lemmas.Option.{slice_get_within}
use Rattle.std.proofs.Math.Seq.{take-append_seam}
use Rattle.std.proofs.lemmas.Bool.{ltb-true}
use Rattle.mot_base.specs.Limits.{most_statements, most_wires}
use Rattle.bristol_reader.specs.Circuit.{Gate, Circuit, is_among, is_set_by, is_set, are_apart, with_gate}
use Rattle.bristol_reader.specs.Line.{are_outs_new}
use Rattle.bristol_reader.specs.Marks.{is_marked, are_new_to, IsMarked}
use Rattle.bristol_reader.specs.Built.{are_positive, FitsBehind, first_gates, IsBuilt, IsKept}
use Rattle.mot_base.proofs.Lists.{pushed_at as pushed, or_false}

or_assoc : (a b m : Bool) → (a || (b || (m || false))) ≡ ((a || b) || m)
or_assoc true b m = refl
or_assoc false true m = refl
or_assoc false false true = refl
or_assoc false false false = refl

-- which wires are set behind one more gate
pub is_set_more : (c : Circuit) (g : Gate) (w : ℕ) → is_set (with_gate c g) w ≡ (is_set c w || is_among g.outs w)
unfolding is_set
is_set_more c g w =
    ap (λ (b : Bool). nat_lt w (sum c.inputs) || b) (list_any-append (λ h. is_among h.outs w) c.gates (g ∷ []))
    ∙ or_assoc (nat_lt w (sum c.inputs)) (is_set_by c.gates w) (is_among g.outs w)

abbrev pub parts : ℕ → List ℕ → List ℕ → List Gate → Circuit
parts wires inputs outputs gates = record { wires = wires; inputs = inputs; outputs = outputs; gates = gates }

-- without gates the inputs are set
is_set_none : (wires : ℕ) (inputs outputs : List ℕ) (w : ℕ) → nat_lt w (sum inputs) ≡ is_set (parts wires inputs outputs []) w
unfolding is_set
is_set_none wires inputs outputs w = sym (or_false (nat_lt w (sum inputs)))

pub kept_none : (stated wires total : ℕ) (inputs outputs : List ℕ) (gates : List Gate) (told : List Bool) → gates ≡ [] → stated ≤ most_statements → wires ≤ most_wires → are_positive inputs ≡ true → are_positive outputs ≡ true → sum inputs ≤ wires → sum outputs ≤ wires → length told ≡ wires → total ≡ sum inputs → ((w : ℕ) → w < wires → get_or told w false ≡ nat_lt w total) → IsKept stated (parts wires inputs outputs gates) told
kept_none stated wires total inputs outputs gates told none few_gates few_wires ins outs few_ins few_outs count is marks =
    subst (λ (gs : List Gate). IsKept stated (parts wires inputs outputs gs) told) (sym none)
    (record {
      built = record {
        few_gates = omega arith;
        few_wires = few_wires;
        input_widths = ins;
        few_inputs = few_ins;
        output_widths = outs;
        few_outputs = few_outs;
        each = λ at g h. cc;
      };
      some_left = omega arith;
      few = few_gates;
      count = count;
      tells = λ w h. marks w h ∙ ap (nat_lt w) is ∙ is_set_none wires inputs outputs w;
    })

fits_more : (c : Circuit) (g h : Gate) (at : ℕ) → IsBuilt c → FitsBehind c g → (slice_get c.gates at ≡ Some h) ⊎ ((at ≡ length c.gates) × (g ≡ h)) → FitsBehind (first_gates at (with_gate c g)) h
fits_more c g h at built fits (inl p) =
    let within = slice_get_within c.gates at h p in
    subst (λ (gs : List Gate). FitsBehind (parts c.wires c.inputs c.outputs gs) h) (sym (take-append-le at c.gates (g ∷ []) (omega arith))) (built.each at h p)
fits_more c g h at built fits (inr p) =
    subst (λ (gs : List Gate). FitsBehind (parts c.wires c.inputs c.outputs gs) h) (sym (ap (λ (i : ℕ). take i (c.gates ++ g ∷ [])) p.0 ∙ take-append_seam c.gates (g ∷ [])))
    (subst (λ (k : Gate). FitsBehind c k) p.1 fits)

pub built_more : (c : Circuit) (g : Gate) → IsBuilt c → length c.gates < most_statements → FitsBehind c g → IsBuilt (with_gate c g)
built_more c g built room fits = record {
  few_gates = simp length-append (omega arith);
  few_wires = built.few_wires;
  input_widths = built.input_widths;
  few_inputs = built.few_inputs;
  output_widths = built.output_widths;
  few_outputs = built.few_outputs;
  each = λ at h e. fits_more c g h at built fits (pushed c.gates g h at e);
}

pub kept_more : (stated : ℕ) (c : Circuit) (g : Gate) (told marked : List Bool) → IsKept stated c told → length c.gates < stated → FitsBehind c g → IsMarked told g.outs marked → IsKept stated (with_gate c g) marked
kept_more stated c g told marked kept room fits marks =
    let few = kept.few in
    let same = kept.count in
    record {
      built = built_more c g kept.built (omega arith) fits;
      some_left = simp length-append (omega arith);
      few = few;
      count = marks.count ∙ kept.count;
      tells = λ w h.
          marks.each w (omega arith)
          ∙ ap (λ (b : Bool). b || is_among g.outs w) (kept.tells w h)
          ∙ sym (is_set_more c g w);
    }

new_wires : (stated : ℕ) (c : Circuit) (told : List Bool) (outs : List ℕ) → IsKept stated c told → list_all (λ w. nat_lt w c.wires) outs ≡ true → list_all (λ w. not (is_marked told w)) outs ≡ list_all (λ w. not (is_set c w)) outs
new_wires stated c told [] kept h = refl
new_wires stated c told (w ∷ outs) kept h =
    let tests = and_parts (nat_lt w c.wires) _ h in
    ap (λ (b : Bool). not b && list_all (λ v. not (is_marked told v)) outs) (kept.tells w (ltb-true w c.wires tests.0))
    ∙ ap (λ (b : Bool). not (is_set c w) && b) (new_wires stated c told outs kept tests.1)

-- outputs are new to the marks as they are to the circuit
pub same_new : (stated : ℕ) (c : Circuit) (told : List Bool) (outs : List ℕ) → IsKept stated c told → list_all (λ w. nat_lt w c.wires) outs ≡ true → are_new_to told outs ≡ are_outs_new c outs
same_new stated c told outs kept h = ap (λ (b : Bool). b && are_apart outs) (new_wires stated c told outs kept h)
