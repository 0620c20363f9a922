use Rattle.std.proofs.Common.{◌∙◌, ap, sym, List, Bool, Option, Some}
use Rattle.text_lines.specs.Chain.{or_cause}
use Rattle.circuit_values.specs.declared.cause.ValuesCause.TheVariants.{Missing}
use Rattle.circuit_values.proofs.ReadLemmas.{values_all}
use Rattle.circuit_values.proofs.read.values_behind.Goals as goal

pub returns : goal.returns
returns c =
    ap (λ (o : Option (List (List Bool))). or_cause Missing o) (values_all c.args.asked.now.owner c.args.asked.now.inputs c.args.given c.requires (sym c.is_one_missing.ensures ∙ c.if-is_one_missing.false))
    ∙ ap (λ (v : List (List Bool)). or_cause Missing (Some v)) (sym (c.of.ensures ∙ c.in_ok-values.ensures))
