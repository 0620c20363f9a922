use Rattle.mixed_circuit.specs.declared.read.Stage.{Stage}
use Rattle.mixed_circuit.specs.declared.cause.CircuitCause.{CircuitCause}
use Rattle.mixed_language.specs.Circuit.{Circuit}
use Rattle.mixed_circuit.specs.Grammar.{circuits}
use Rattle.text_lines.proofs.ReaderLemmas.{reads_or_faults}
use Rattle.mixed_circuit.proofs.read.each_text_reads_or_faults.Goals as goal

pub returns : goal.returns
returns c = λ text. reads_or_faults Stage Circuit CircuitCause circuits text
