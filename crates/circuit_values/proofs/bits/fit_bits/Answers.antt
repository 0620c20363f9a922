use Rattle.std.proofs.Common.{◌<◌, ◌^◌, sym, subst, ℕ}
use Rattle.std.proofs.lemmas.Bool.{lt-ltb}
use Rattle.circuit_tables.proofs.BitLists.{number_short}
use Rattle.circuit_values.proofs.bits.fit_bits.Goals as goal

pub returns-clause-none : goal.returns-clause-none
returns-clause-none c =
    let P : ℕ → Type 0 = λ n. n < 2 ^ c.args.width in
    sym (lt-ltb _ _ (subst P c.in-Some.ensures.some (number_short c.in-Some.bits.items c.args.width c.in-Some.ensures.short)))
