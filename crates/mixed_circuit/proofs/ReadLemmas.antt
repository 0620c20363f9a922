-- How far the reader of circuits has read a text.
use Rattle.std.proofs.Common.{ℕ, List}
use Rattle.mixed_circuit.specs.declared.read.Stage.{Stage}
use Rattle.mixed_circuit.specs.declared.cause.CircuitCause.{CircuitCause}
use Rattle.mixed_language.specs.Circuit.{Circuit}
use Rattle.mixed_circuit.specs.Grammar.{circuits}
use Rattle.text_lines.specs.Text.{Text}
use Rattle.text_lines.proofs.ReaderLemmas.{IsReadTo}

-- how far a text is read
abbrev pub ReadTo : Text → Stage → ℕ → List Text → Type 0
ReadTo text stage number left = IsReadTo Stage Circuit CircuitCause circuits text stage number left
