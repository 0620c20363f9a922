use Rattle.std.proofs.Common.{List, Bool, ◌∙◌, ap, sym, drop}
use Rattle.std.specs.List.{list_any}
use Rattle.share_types.specs.Bits.{number}
use Rattle.circuit_tables.proofs.BitLists.{cut_number, cut_high}
use Rattle.circuit_values.proofs.bits.cut_bits.Goals as goal

pub returns-then-has_one_from-clause-none : goal.returns-then-has_one_from-clause-none
returns-then-has_one_from-clause-none c = cut_high c.args.bits.items c.args.width (ap (λ (xs : List Bool). list_any (λ bit. bit) (drop c.args.width xs)) (sym c.deref.ensures.value) ∙ sym c.has_one_from.ensures ∙ c.if-has_one_from.true)

pub returns-clause-some : goal.returns-clause-some
returns-clause-some c = ap number c.truncate.ensures.items ∙ cut_number c.args.bits.items c.args.width (ap (λ (xs : List Bool). list_any (λ bit. bit) (drop c.args.width xs)) (sym c.deref.ensures.value) ∙ sym c.has_one_from.ensures ∙ c.if-has_one_from.false)
