-- What is known of a gate that was read.
use Rattle.std.proofs.Common.{ℕ, ◌≡◌, ◌+◌, true, ◌&&◌, List, [], ◌∷◌, length, take, drop, Some, Ok, ◌∙◌, ap, subst, arith}
use Rattle.std.specs.Prelude.{◌==◌}
use Rattle.std.proofs.lemmas.Bool.{and_parts, eqb-true}
use Rattle.std.proofs.lemmas.List.{length-take-le, length-drop}
use Rattle.std.proofs.lemmas.Option.{cond_some}
use Rattle.bristol_reader.specs.declared.kind.BristolKind.{BristolKind}
use Rattle.bristol_reader.specs.declared.cause.BristolCause.TheVariants.{Arity, WireRange, UsedBeforeSet}
use Rattle.bristol_reader.specs.Kinds.{is_arity}
use Rattle.bristol_reader.specs.Circuit.{Gate, Circuit}
use Rattle.bristol_reader.specs.Line.{gate_stated, is_in_range, are_ins_set, gate_used}
use Rattle.text_lines.specs.Chain.{or_cause, unless}
use Rattle.text_lines.proofs.ChainLemmas.{ok_then, or_some, unless_true}

pub stated_arity : (kind : BristolKind) (ns : List ℕ) (g : Gate) → gate_stated kind ns ≡ Some g → is_arity g.kind (length g.ins) (length g.outs) ≡ true
stated_arity kind [] g h = cc
stated_arity kind (n ∷ []) g h = cc
stated_arity kind (ins ∷ outs ∷ wires) g h =
    let found = cond_some (length wires == ins + outs && is_arity kind ins outs) _ g h in
    let tests = and_parts (length wires == ins + outs) (is_arity kind ins outs) found.0 in
    let all = eqb-true (length wires) (ins + outs) tests.0 in
    let first : length (take ins wires) ≡ ins = length-take-le ins wires (omega arith) in
    let second : length (drop ins wires) ≡ outs = simp length-drop (omega arith) in
    let P : Gate → Type 0 = λ k. is_arity k.kind (length k.ins) (length k.outs) ≡ true in
    subst P found.1 (ap (λ (n : ℕ). is_arity kind n (length (drop ins wires))) first ∙ ap (is_arity kind ins) second ∙ tests.1)

-- a gate that was read has as many inputs and outputs as its kind, its wires are in range, and its inputs are set
pub record IsUsed (c : Circuit) (g : Gate) : Type 0 where
  pub arity : is_arity g.kind (length g.ins) (length g.outs) ≡ true
  pub range : is_in_range c.wires g ≡ true
  pub used : are_ins_set c g ≡ true

pub used_facts : (c : Circuit) (kind : BristolKind) (ns : List ℕ) (g : Gate) → gate_used c kind ns ≡ Ok g → IsUsed c g
unfolding gate_used
used_facts c kind ns g h =
    let one = ok_then (or_cause Arity (gate_stated kind ns)) _ g h in
    let two = ok_then (unless WireRange (is_in_range c.wires one.0)) _ g one.2 in
    let three = ok_then (unless UsedBeforeSet (are_ins_set c one.0)) _ g two.2 in
    let same : one.0 ≡ g = (let e = three.2 in cc) in
    subst (IsUsed c) same
    (record {
      arity = stated_arity kind ns one.0 (or_some Arity _ one.0 one.1);
      range = unless_true WireRange _ two.0 two.1;
      used = unless_true UsedBeforeSet _ three.0 three.1;
    })
