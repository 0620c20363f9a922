use Rattle.std.proofs.Common.{arith}
use Rattle.gate_plan.proofs.BristolCountLemmas.{is_there, few_there}
use Rattle.gate_plan.proofs.bristol.gates_of_gate.Goals as goal

pub gates_of_kind-requires : goal.gates_of_kind-requires
gates_of_kind-requires c =
    let circuit = c.args.circuit.now in
    let there =
    is_there circuit.gates c.args.at c.kind.result c.outs.result.now c.kind.ensures c.outs.ensures in
    let few = few_there circuit c.args.at c.kind.result c.outs.result.now c.requires.circuit there in
    omega arith

pub returns-clause-few : goal.returns-clause-few
returns-clause-few c =
    let circuit = c.args.circuit.now in
    let there =
    is_there circuit.gates c.args.at c.kind.result c.outs.result.now c.kind.ensures c.outs.ensures in
    let few = few_there circuit c.args.at c.kind.result c.outs.result.now c.requires.circuit there in
    let most = c.gates_of_kind.ensures.few in
    omega arith
