use Rattle.mot_base.specs.Faults.{Rose}
use Rattle.cli_words.specs.Request.{local_request}
use Rattle.command_ends.specs.Refusal.{outcome_of}
use Rattle.command_ends.proofs.RefusalLemmas.{refusal_said}
use Rattle.command_ends.proofs.StoreLemmas.{rose_since}
use Rattle.motion_cli.proofs.LocalLemmas.{both_loaded, both_unloaded}
use Rattle.motion_cli.proofs.local.local_report.Goals as goal

pub returns-in_err-circuit-clause-came : goal.returns-in_err-circuit-clause-came
returns-in_err-circuit-clause-came g c =
    let old = c.args.files.now in
    let new = c.load_both.new.files in
    let said = refusal_said c.from_residual.result c.in_err-circuit.field-0.0 c.from_residual.ensures.1 in
    rw said
    (both_unloaded (g.F.Files.holds old) (Rose (g.F.Files.faults old) (g.F.Files.faults new)) (local_request c.args.words.now)
    (outcome_of c.in_err-circuit.field-0.0) (rw (c.as_str.ensures.value, c.as_str-2.ensures.value) at c.in_err-circuit.ensures.err))

pub returns-clause-came : goal.returns-clause-came
returns-clause-came g c =
    let old = c.args.files.now in
    let mid = c.load_both.new.files in
    let new = c.run_texts.new.files in
    let since = Rose (g.F.Files.faults old) (g.F.Files.faults new) in
    let rose = Rose (g.F.Files.faults mid) (g.F.Files.faults new) in
    both_loaded (g.F.Files.holds old) rose since (local_request c.args.words.now) c.in_ok-circuit.circuit.items c.in_ok-circuit.values.items _
    (rose_since (g.F.Files.faults old) (g.F.Files.faults mid) (g.F.Files.faults new) c.load_both.ensures.never_falls)
    (rw c.as_str.ensures.value at c.in_ok-circuit.ensures.circuit) (rw c.as_str-2.ensures.value at c.in_ok-circuit.ensures.values)
    (rw c.load_both.ensures.same at c.run_texts.ensures.came)
