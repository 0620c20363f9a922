use Rattle.std.proofs.Common.{ℕ, Bool, ◌≡◌, ◌∙◌, sym, subst}
use Rattle.std.specs.Prelude.{IfOk, IfSome, is_some}
use Rattle.share_types.specs.Bits.{bits, number}
use Rattle.circuit_values.proofs.LiteralLemmas.{decimal_of, word_bits, fits_is}
use Rattle.circuit_values.proofs.literal.decimal_bits.Goals as goal

pub returns-clause-fits : goal.returns-clause-fits
returns-clause-fits c =
    let decimal = decimal_of c.args.literal.now c.in-Some.word c.requires.decimal (sym c.number.ensures ∙ c.in-Some.is) in
    let value = word_bits c.push_bits.new.out.items c.new-bits.result.items c.in-Some.word decimal.low c.new-bits.ensures.items c.in_ok-push_bits.ensures in
    let P : Bool → Type 0 = λ b. IfOk c.fit_bits.result (λ found. is_some found ≡ b) in
    subst P (fits_is c.args.literal.now c.in-Some.word c.args.width (number c.push_bits.new.out.items) c.requires.decimal decimal value) c.fit_bits.ensures.none

pub returns-clause-value : goal.returns-clause-value
returns-clause-value c =
    let decimal = decimal_of c.args.literal.now c.in-Some.word c.requires.decimal (sym c.number.ensures ∙ c.in-Some.is) in
    let value = word_bits c.push_bits.new.out.items c.new-bits.result.items c.in-Some.word decimal.low c.new-bits.ensures.items c.in_ok-push_bits.ensures in
    let P : ℕ → Type 0 = λ n. IfOk c.fit_bits.result (λ found. IfSome found (λ fitted. fitted.items ≡ bits c.args.width n)) in
    subst P (value ∙ sym decimal.value) c.fit_bits.ensures.value
