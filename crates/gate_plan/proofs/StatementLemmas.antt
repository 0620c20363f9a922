-- The gates that the code makes of a statement are the statement's.
use Rattle.std.proofs.Common.{ℕ, suc, ◌≡◌, ◌≤◌, ◌+◌, true, List, [], ◌∷◌, ◌++◌, length, take, Option, Some, refl, sym, ◌∙◌, ap, ap₂, subst, arith}
use Rattle.std.specs.Prelude.{slice_get, option_map, Result, Ok, Err, IfOk}
use Rattle.mot_base.specs.Limits.{most_gates}
use Rattle.mot_base.proofs.Lists.{same_some, inside_of}
use Rattle.share_types.specs.declared.sharing.Sharing.{Sharing}
use Rattle.share_types.specs.declared.sharing.Sharing.TheVariants.{A, B, Y}
use Rattle.share_types.specs.declared.sharing.WireType.{WireType}
use Rattle.share_types.specs.Wires.{wire_type, width_of}
use Rattle.mixed_language.specs.declared.language.Operation.{Operation}
use Rattle.mixed_language.specs.declared.language.Operation.TheVariants.{ConstBits}
use Rattle.mixed_language.specs.Language.{domain_of, widths_of, is_in, gives, states, is_name_slot}
use Rattle.mixed_language.specs.Operands.{width_by}
use Rattle.mixed_language.specs.declared.form.Form.{Form}
use Rattle.mixed_language.specs.Circuit.{Circuit, Statement, Shape, shape_of}
use Rattle.mixed_language.specs.Eval.{operand_width}
use Rattle.mixed_language.specs.Valid.{IsStatement, IsCircuit}
use Rattle.mixed_language.specs.Table.{inputs_of}
use Rattle.plan_gates.specs.Plan.{Gates, with_gates}
use Rattle.gate_plan.specs.declared.wire.Wire.{Wire}
use Rattle.gate_plan.specs.declared.statement.Setting.{Setting}
use Rattle.gate_plan.specs.Blocks.{Block, Lowered}
use Rattle.gate_plan.specs.Statements.{block_in}
use Rattle.gate_plan.specs.Lowering.{block_of, operand_wire, source_from, lowered_to, draft_to, wire_handled, is_keys, all_gates}
use Rattle.gate_plan.proofs.OperationLemmas.{Named, Names, Tells, named}
use Rattle.gate_plan.proofs.HandledLemmas.{handled_own}
use Rattle.gate_plan.proofs.PlanLemmas.{start, block, next, next_start, count, gates_rise}
use Rattle.gate_plan.proofs.ValidLemmas.{told}

-- what follows from what an `Ok` has
pub if_ok : {X E : Type 0} (r : Result X E) (P Q : X → Type 0) →
    ((value : X) → P value → Q value) → IfOk r P → IfOk r Q
if_ok (Ok value) P Q f h = f value h
if_ok (Err e) P Q f h = tt

module _ (c : Circuit) (circuit : IsCircuit c) (n : ℕ) (s : Statement)
    (there : slice_get c.statements n ≡ Some s) where
  abbrev all : List Statement
  all = c.statements

  row : IsStatement c.parties (take n all) s
  row = circuit.each n s there

  -- a statement handles a value
  pub handled : (w : WireType) × (wire_handled all s ≡ Some w)
  handled = by_name (named s.shape.operation)
    where
      by_name : Named s.shape.operation → (w : WireType) × (wire_handled all s ≡ Some w)
      by_name (Names e untold) =
          let w = wire_type (gives s.shape.operation row.sharing) row.width in
          let own : s.wire ≡ Some w = row.wire ∙ rw e refl in
          (w, (handled_own c n s w circuit there own).0)
      by_name (Tells e) =
          let t = told c circuit n s there e in
          (t.operand.wire, t.handled)

  -- a constant of bits has the width of its line
  pub constant_width : (w : WireType) → Some w ≡ wire_handled all s → s.shape.operation ≡ ConstBits →
      s.shape.width ≡ width_of w
  constant_width w wired e =
      let P : Operation → Type 0 = λ op. width_by (widths_of op) s.shape.width s.shape.place row.operands
      ≡ Some row.width in
      let stated : s.shape.width ≡ row.width = same_some _ _ (subst P e row.wide) in
      let named : states is_name_slot s.shape.operation ≡ true = rw e refl in
      let own : s.wire ≡ Some (wire_type (gives s.shape.operation row.sharing) row.width) =
      row.wire ∙ rw named refl in
      let same : wire_type (gives s.shape.operation row.sharing) row.width ≡ w =
      same_some _ _ (sym (handled_own c n s _ circuit there own).0 ∙ sym wired) in
      (stated ∙
      (of_bits row.sharing (subst (λ op. is_in (domain_of op) row.sharing ≡ true) e row.domain)
      ∙ ap width_of (ap (λ op. wire_type (gives op row.sharing) row.width) (sym e) ∙ same)))
    where
      of_bits : (given : Sharing) → is_in (domain_of ConstBits) given ≡ true →
          row.width ≡ width_of (wire_type (gives ConstBits given) row.width)
      of_bits A e = cc
      of_bits B e = refl
      of_bits Y e = refl

  -- the block that the code makes, from the form, its setting, and the value handled
  pub code_block : (form : Form) (setting : Setting) (w : WireType) (draft : Gates) →
      s.shape ≡ shape_of form → setting.parties ≡ c.parties →
      setting.x ≡ operand_wire (lowered_to c n).wires (slice_get (shape_of form).operands 0) →
      setting.y ≡ operand_wire (lowered_to c n).wires (slice_get (shape_of form).operands 1) →
      setting.k ≡ length (inputs_of (take n all)) →
      setting.low ≡ operand_width all (slice_get (shape_of form).operands 0) →
      Some w ≡ wire_handled all s → draft ≡ draft_to c n →
      block_in setting form w (length draft.gates) ≡ block c n s
  code_block form setting w draft same parties first second inputs low wired before =
      let wires = (lowered_to c n).wires in
      let made : Shape → ℕ → Wire → Wire → ℕ → Option WireType → ℕ → ℕ → Block =
      λ sh ps x y k o l m. block_of ps sh.operation (is_keys o) (source_from sh x y k o l) m in
      let sh : Shape = shape_of form in
      let a = operand_wire wires (slice_get sh.operands 0) in
      let b = operand_wire wires (slice_get sh.operands 1) in
      ap₂ (λ (p q : Wire). made sh setting.parties p q setting.k (Some w) setting.low (length draft.gates)) first second
      ∙ (ap₂ (λ (m : ℕ) (o : Option WireType). made sh setting.parties a b m o setting.low (length draft.gates)) inputs wired
      ∙ (ap₂ (λ (ps l : ℕ). made sh ps a b (length (inputs_of (take n all))) (wire_handled all s) l (length draft.gates)) parties low
      ∙ (ap (λ (p : Gates). made sh c.parties a b (length (inputs_of (take n all))) (wire_handled all s)
      (operand_width all (slice_get sh.operands 0)) (length p.gates)) before
      ∙ ap (λ (sh : Shape). made sh c.parties (operand_wire wires (slice_get sh.operands 0))
      (operand_wire wires (slice_get sh.operands 1)) (length (inputs_of (take n all)))
      (wire_handled all s) (operand_width all (slice_get sh.operands 0)) (start c n)) (sym same))))

  -- and room for it
  pub room : (draft : Gates) (made : Block) → all_gates c ≤ most_gates → draft ≡ draft_to c n →
      made ≡ block c n s → length draft.gates + length made.gates ≤ most_gates
  room draft made few before is =
      let within = inside_of all n s there in
      let first = ap (λ (p : Gates). length p.gates) before in
      let own = ap (λ (b : Block). length b.gates) is in
      let more = next_start c n s there in
      let all_to = count c (suc n) (omega (arith, within)) in
      let rise = gates_rise c (suc n) (length all) (omega (arith, within)) in
      omega (arith, few, first, own, more, all_to, rise)

  -- the draft behind it, and the wires
  pub draft_next : (draft after : Gates) (made : Block) → draft ≡ draft_to c n → made ≡ block c n s →
      after ≡ with_gates draft made.gates →
      after ≡ draft_to c (n + 1)
  draft_next draft after made before is more =
      let later : suc n ≡ n + 1 = omega arith in
      more
      ∙ (ap₂ (λ (p : Gates) (b : Block). with_gates p b.gates) before is
      ∙ (ap (λ (l : Lowered). record { parties = c.parties; gates = l.gates }) (sym (next c n s there))
      ∙ ap (draft_to c) later))

  pub wires_next : (wires : List Wire) (wire : Wire) (made : Block) → wires ≡ (lowered_to c n).wires →
      made ≡ block c n s → wire ≡ made.wire →
      wires ++ wire ∷ [] ≡ (lowered_to c (n + 1)).wires
  wires_next wires wire made before is own =
      let later : suc n ≡ n + 1 = omega arith in
      ap₂ (λ (ws : List Wire) (w : Wire). ws ++ w ∷ []) before (own ∙ ap (λ (b : Block). b.wire) is)
      ∙ (ap (λ (l : Lowered). l.wires) (sym (next c n s there)) ∙ ap (λ k. (lowered_to c k).wires) later)

-- what is told of the statement at a place, if it is there
pub shape_here : (statements : List Statement) (at : ℕ) (s : Statement) (shape : Shape) →
    slice_get statements at ≡ Some s →
    option_map (λ s. s.shape) (slice_get statements at) ≡ Some shape → s.shape ≡ shape
shape_here statements at s shape there e =
    same_some s.shape shape (sym (ap (option_map (λ (t : Statement). t.shape)) there) ∙ e)
