use Rattle.std.proofs.Common.{◌≤◌, subst, arith}
use Rattle.std.specs.Prelude.{List, ℕ, sum}
use Rattle.bristol_reader.proofs.WidthLemmas.{few_values}
use Rattle.bristol_reader.proofs.widths.Widths.len.Goals as goal

pub overflow_cast-result : goal.overflow_cast-result
overflow_cast-result c =
    let few = few_values c.self.inside.list.items c.self.invariant.1 in
    let total = c.self.invariant.0 in
    let count = c.len.ensures in
    let ok = c.self.inside.list.ok.0 in
    omega arith

pub returns-clause-few : goal.returns-clause-few
returns-clause-few c =
    let few = few_values c.self.inside.list.items c.self.invariant.1 in
    let count = c.len.ensures in
    let ok = c.self.inside.list.ok.0 in
    let P : List ℕ → Type 0 = λ ws. c.len.result ≤ sum ws in
    subst P c.self.view_is (omega arith)
