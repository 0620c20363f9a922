use Rattle.std.proofs.Common.{List, Bool, Option}
use Rattle.circuit_values.specs.declared.cause.ValuesCause.{ValuesCause}
use Rattle.circuit_values.specs.Values.{values}
use Rattle.text_lines.proofs.ReaderLemmas.{reads_or_faults}
use Rattle.circuit_values.proofs.read.each_text_reads_or_faults.Goals as goal

pub returns : goal.returns
returns c = λ inputs owner text. reads_or_faults (List (Option (List Bool))) (List (List Bool)) ValuesCause (values inputs owner) text
