use Rattle.std.proofs.Common.{map}
use Rattle.mot_base.specs.Faults.{Rose}
use Rattle.cli_words.specs.Request.{local_request}
use Rattle.any_circuit.specs.Circuits.{circuit_of}
use Rattle.command_ends.specs.Refusal.{outcome_of}
use Rattle.command_ends.proofs.RefusalLemmas.{refusal_said}
use Rattle.motion_cli.proofs.LocalLemmas.{all_read, parts_unloaded}
use Rattle.motion_cli.proofs.local.run_texts.Goals as goal

pub returns-in_err-parts-clause-came : goal.returns-in_err-parts-clause-came
returns-in_err-parts-clause-came g c =
    let old = c.args.files.now in
    let new = c.load_parts.new.files in
    let said = refusal_said c.from_residual-in_err-parts.result c.in_err-parts.field-0.0 c.from_residual-in_err-parts.ensures.1 in
    rw said
    (parts_unloaded (g.F.Files.holds old) (Rose (g.F.Files.faults old) (g.F.Files.faults new)) (local_request c.args.words.now)
    c.args.circuit.items c.args.values.items (circuit_of c.in_ok-circuit.circuit) (outcome_of c.in_err-parts.field-0.0)
    c.in_ok-circuit.ensures.ok (rw (c.prefix_of.ensures, c.parties.ensures.value) at c.in_err-parts.ensures.err))

pub returns-clause-came : goal.returns-clause-came
returns-clause-came g c =
    all_read (g.F.Files.holds c.args.files.now) _ (local_request c.args.words.now) c.args.circuit.items c.args.values.items
    (circuit_of c.in_ok-circuit.circuit) (map (λ text. text.items) c.in_ok-parts.parts.items) _
    c.in_ok-circuit.ensures.ok
    (rw (c.prefix_of.ensures, c.parties.ensures.value) at c.in_ok-parts.ensures.ok) c.run_circuit.ensures
