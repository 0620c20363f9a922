use Rattle.std.proofs.Common.{◌<◌, ◌+◌, length, take, arith, sym, subst, List}
use Rattle.clap.specs.Words.{found_of, first_value}
use Rattle.cli_words.specs.Filled.{chosen, AreFound}
use Rattle.cli_words.specs.declared.fill.Chosen.{Chosen}
use Rattle.cli_words.proofs.Filling.{option_next}
use Rattle.cli_words.proofs.fill.options_found.Goals as goal

pub loop-option-preserved : goal.loop-option-preserved
loop-option-preserved c =
    let within : c.loop-option.option-index < length c.args.row.now = omega arith in
    let f = first_value (found_of c.args.matches.now) in
    let next = option_next f c.args.row.now c.loop-option.option-index _ c.loop-option.options.items c.in_ok-value.value within
    c.loop-option.invariant c.in_ok-value.ensures.ok in
    let P : List Chosen → Type 0 = λ options. AreFound f (take (c.loop-option.option-index + 1) c.args.row.now) (chosen options) in
    subst P (sym c.in_ok-keep.ensures) next
