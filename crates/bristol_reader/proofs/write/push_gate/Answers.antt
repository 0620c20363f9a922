use Rattle.bristol_reader.proofs.WriteLemmas.{on_ok, gate_there}
use Rattle.bristol_reader.proofs.write.push_gate.Goals as goal

pub returns : goal.returns
returns c = on_ok c.push_line.result
    (λ last. gate_there c.args.circuit.now.gates c.args.at c.kind.result c.ins.result.now c.outs.result.now _ _ c.kind.ensures c.ins.ensures c.outs.ensures last)
    c.push_line.ensures
