use Rattle.std.proofs.Common.{length}
use Rattle.bristol_reader.specs.declared.cause.BristolCause.{BristolCause}
use Rattle.bristol_reader.specs.Circuit.{Circuit}
use Rattle.bristol_reader.specs.Grammar.{Known, circuits}
use Rattle.text_lines.specs.Text.{lines}
use Rattle.text_lines.proofs.ReaderLemmas.{reads_or_faults}
use Rattle.bristol_reader.proofs.read.each_text_reads_or_faults.Goals as goal

pub returns : goal.returns
returns c = λ text. reads_or_faults Known Circuit BristolCause (circuits (length (lines text))) text
