use Rattle.std.proofs.Common.{◌≡◌, inl, length, map, sym, ap, ◌∙◌}
use Rattle.std.specs.Prelude.{option_map, string_bytes}
use Rattle.std.proofs.lemmas.List.{length-map}
use Rattle.plan_gates.specs.Plan.{has_keys}
use Rattle.cli_words.specs.Request.{local_request}
use Rattle.any_circuit.specs.Circuits.{circuit_of, parties_of}
use Rattle.motion_cli.specs.Dealer.{part_names}
use Rattle.command_ends.specs.Refusal.{outcome_of}
use Rattle.command_ends.proofs.RefusalLemmas.{refusal_said}
use Rattle.motion_cli.proofs.TakenLemmas.{plan_parties, some_parties, taken_serve, no_parts, run_reads}
use Rattle.motion_cli.proofs.local.run_circuit.Goals as goal

pub returns-in_err-taken : goal.returns-in_err-taken
returns-in_err-taken g c =
    let circuit = circuit_of c.args.circuit.now in
    let parties = ap (λ p. p.parties) c.in_ok-plan.ensures.plan ∙ plan_parties circuit in
    let said = refusal_said c.from_residual-in_err-taken.result c.in_err-taken.field-0.0 c.from_residual-in_err-taken.ensures.1 in
    let untaken = rw (c.prefix_of.ensures, c.as_slice.ensures.value) at c.in_err-taken.ensures.err circuit c.in_ok-plan.ensures.plan parties in
    rw said
    (no_parts (local_request c.args.words.now) c.args.values.items circuit (map (λ text. text.items) c.args.parts.items) c.in_ok-values.values
    (outcome_of c.in_err-taken.field-0.0) c.in_ok-plan.ensures.few
    (ap has_keys (sym c.in_ok-plan.ensures.plan) ∙ c.in_ok-judge_keys.ensures.unkeyed) c.in_ok-values.ensures.ok untaken)

pub run_and_report-requires-clause-serve : goal.run_and_report-requires-clause-serve
run_and_report-requires-clause-serve g c = λ κs within.
    let circuit = circuit_of c.args.circuit.now in
    let parties = ap (λ p. p.parties) c.in_ok-plan.ensures.plan ∙ plan_parties circuit in
    let taken = rw (c.prefix_of.ensures, c.as_slice.ensures.value) at c.in_ok-taken.ensures.taken circuit c.in_ok-plan.ensures.plan parties in
    let files = map (λ text. text.items) c.args.parts.items in
    let count : length files ≡ length (part_names (option_map string_bytes c.args.words.now.dealer) (parties_of circuit)) =
    length-map c.args.parts.items (λ text. text.items) ∙ c.requires.parts in
    rw (c.as_slice-2.ensures.value, c.in_ok-plan.ensures.plan)
    (taken_serve (option_map string_bytes c.args.words.now.dealer) c.args.words.now.seed.0 circuit files c.in_ok-taken.taken.items
    (some_parties circuit c.requires.whole) count taken)

pub returns : goal.returns
returns g c =
    let circuit = circuit_of c.args.circuit.now in
    let parties = ap (λ p. p.parties) c.in_ok-plan.ensures.plan ∙ plan_parties circuit in
    let taken = rw (c.prefix_of.ensures, c.as_slice.ensures.value) at c.in_ok-taken.ensures.taken circuit c.in_ok-plan.ensures.plan parties in
    let run = rw c.as_slice-2.ensures.value at c.in_ok-run_and_report.ensures in
    inl
    (run_reads (local_request c.args.words.now) c.args.values.items circuit (map (λ text. text.items) c.args.parts.items) c.in_ok-values.values
    c.in_ok-taken.taken.items _ c.requires.whole c.in_ok-plan.ensures.few
    (ap has_keys (sym c.in_ok-plan.ensures.plan) ∙ c.in_ok-judge_keys.ensures.unkeyed) c.in_ok-values.ensures.ok taken run)
