use Rattle.std.proofs.Common.{List, ℕ, length, sym, ap, subst, arith}
use Rattle.circuit_tables.specs.Table.{Input, AreNamedApart}
use Rattle.bristol_reader.proofs.TableLemmas.{inputs_all, named_apart, have_widths}
use Rattle.bristol_reader.proofs.circuit.Bristol.inputs.Goals as goal

pub returns-clause-apart : goal.returns-clause-apart
returns-clause-apart c =
    let widths = c.args.self.now.inputs in
    let all = ap (λ (ws : List ℕ). length ws) c.input_widths-widths.ensures.value in
    let value = c.len-at-end.ensures.value in
    let past = c.loop-at-test.false in
    let is = inputs_all c.args.parties widths c.loop-at.table c.loop-at.at-counter (omega arith) c.loop-at.invariant in
    subst (λ (t : List Input). AreNamedApart t) (sym is) (named_apart c.args.parties widths (omega arith))

pub returns-clause-widths : goal.returns-clause-widths
returns-clause-widths c =
    let widths = c.args.self.now.inputs in
    let all = ap (λ (ws : List ℕ). length ws) c.input_widths-widths.ensures.value in
    let value = c.len-at-end.ensures.value in
    let past = c.loop-at-test.false in
    have_widths c.args.parties c.args.self.now c.loop-at.table (inputs_all c.args.parties widths c.loop-at.table c.loop-at.at-counter (omega arith) c.loop-at.invariant)
