use Rattle.std.proofs.Common.{None, refl}
use Rattle.circuit_tables.specs.Values.{HaveWidths}
use Rattle.bristol_reader.specs.Table as bristol
use Rattle.bristol_reader.proofs.TableLemmas.{have_widths}
use Rattle.any_circuit.specs.Circuits.{circuit_of, inputs_of}
use Rattle.any_circuit.proofs.circuit.Circuit.evaluate.Goals as goal

pub plain_bristol-requires : goal.plain_bristol-requires
plain_bristol-requires c =
    let widths : HaveWidths None (inputs_of (circuit_of c.args.self.now)) c.args.values.now = c.requires in
    have_widths c.in-Bristol.field-1.parties c.in-Bristol.circuit (bristol.inputs_of c.in-Bristol.field-1.parties c.in-Bristol.circuit) refl c.args.values.now
    (rw c.in-Bristol.is at widths)
