use Rattle.std.proofs.Common.{◌≡◌, map, drop}
use Rattle.mixed_circuit.specs.Line.{operands_of}
use Rattle.mixed_circuit.proofs.OperandLemmas.{behind_first}
use Rattle.mixed_circuit.proofs.builder.Builder.operands.Given as goal

abbrev pub invariant-loop-word : goal.invariant-loop-word
invariant-loop-word l = behind_first l.found.items (operands_of l.self.statements (map (λ word. word.now) (drop l.word-index l.words))) ≡ operands_of l.self.statements (map (λ word. word.now) l.words)
