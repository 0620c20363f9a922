-- What is known of each circuit that is read.
use Rattle.bristol_reader.specs.Circuit.{Circuit}
use Rattle.bristol_reader.specs.Built.{IsCircuit}
use Rattle.bristol_reader.specs.Grammar.{Reads}
use Rattle.text_lines.specs.Text.{Text}

-- its headers are in order, each gate fits behind those before it, and each output wire is an input or set
abbrev pub EachReadIsCircuit : Type 0
EachReadIsCircuit = (text : Text) (c : Circuit) → Reads text c → IsCircuit c
