use Rattle.std.proofs.Common.{ℕ, ap, sym, subst, length, arith}
use Rattle.mixed_circuit.specs.declared.read.Stage.{Stage}
use Rattle.mixed_circuit.specs.declared.cause.CircuitCause.{CircuitCause}
use Rattle.mixed_language.specs.Circuit.{Circuit}
use Rattle.mixed_circuit.specs.Grammar.{circuits}
use Rattle.mixed_circuit.proofs.ReadLemmas.{ReadTo}
use Rattle.text_lines.proofs.ReaderLemmas.{one_more}
use Rattle.mixed_circuit.proofs.read.read_mixed.Goals as goal

pub behind_next-requires : goal.behind_next-requires
behind_next-requires c =
    let count = ap length c.in-Some.ensures.next in
    let few = c.loop-line.invariant.1 in
    omega (arith, count, few)

pub loop-line-preserved : goal.loop-line-preserved
loop-line-preserved c =
    let count = ap length c.in-Some.ensures.next in
    let few = c.loop-line.invariant.1 in
    let counted = c.in_ok-stage.ensures.counted in
    let P : ℕ → Type 0 = λ n. ReadTo c.args.bytes.now c.in_ok-stage.stage n c.next_line.new.self in
    (subst P (sym counted) (one_more Stage Circuit CircuitCause circuits _ _ _ _ _ _ _ c.loop-line.invariant.0 c.in-Some.ensures.next c.in_ok-stage.ensures.read), omega (arith, count, few, counted))
