use Rattle.std.proofs.Common.{List, Bor, length, map, ◌∙◌, ap}
use Rattle.mixed_circuit.specs.declared.cause.CircuitCause.TheVariants.{NameUnknown}
use Rattle.mixed_circuit.specs.Line.{operands_of}
use Rattle.text_lines.proofs.ChainLemmas.{or_some}
use Rattle.mixed_circuit.proofs.SaysLemmas.{operands_count}
use Rattle.text_lines.specs.Text.{Text}
use Rattle.mixed_circuit.proofs.line.statement_of_raw.Goals as goal

pub statement_said-requires-clause-arity : goal.statement_said-requires-clause-arity
statement_said-requires-clause-arity c =
    let names : List Text = map (λ (word : Bor Text). word.now) c.deref.result.now in
    let found = or_some NameUnknown (operands_of c.args.builder.now.statements names) c.in_ok-operands.operands.items c.in_ok-operands.ensures in
    ap length c.deref-4.ensures.value
    ∙ operands_count c.args.builder.now.statements names c.in_ok-operands.operands.items found
    ∙ ap (λ (words : List (Bor Text)). length (map (λ (word : Bor Text). word.now) words)) c.deref.ensures.value
    ∙ c.requires.arity
