use Rattle.std.proofs.Common.{ℕ, ◌≡◌, ◌++◌, Ok, Err, refl, inl, sym, ◌∙◌, ap}
use Rattle.std.specs.Fmt.{decimal}
use Rattle.std.specs.Prelude.{codes}
use Rattle.gate_plan.specs.declared.error.PlanError.TheVariants.{TooManyGates}
use Rattle.any_circuit.specs.Circuits.{Circuit, circuit_of, gates_of}
use Rattle.command_ends.specs.Outcome.{line, circuit_refused}
use Rattle.motion_cli.proofs.commands.plan_of.Goals as goal

pub returns-in-Ok-clause-few : goal.returns-in-Ok-clause-few
returns-in-Ok-clause-few c = λ many.
    let circuit : Circuit = circuit_of c.args.circuit.now in
    let error = (c.plan.ensures.too_many (gates_of circuit)).1 (many, refl) in
    (let is : Ok c.in-Ok.plan ≡ Err (TooManyGates (gates_of circuit)) = sym c.in-Ok.is ∙ error in cc)

pub returns-in-Err-TooManyGates-clause-err : goal.returns-in-Err-TooManyGates-clause-err
returns-in-Err-TooManyGates-clause-err c =
    let gates = c.in-Err-TooManyGates.gates in
    let is = c.in-Err-TooManyGates.is ∙ ap Err c.in-Err-TooManyGates.field-0-is in
    let shown = (c.plan.ensures.too_many gates).0 is in
    inl (shown.0, ap (λ (n : ℕ). circuit_refused c.args.name.now (codes "gates " ++ line (decimal n))) shown.1)
