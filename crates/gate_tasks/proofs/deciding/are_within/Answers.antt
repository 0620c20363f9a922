use Rattle.std.proofs.Common.{◌≤◌}
use Rattle.share_types.specs.declared.needs.Kind.TheVariants.{Mult, Bit, Shared, Key}
use Rattle.share_types.specs.Needs.{count_of, sum_of_needs}
use Rattle.gate_tasks.proofs.Decided.{refused, of_all_kinds}
use Rattle.gate_tasks.proofs.deciding.are_within.Goals as goal

pub returns-then-not-is_within : goal.returns-then-not-is_within
returns-then-not-is_within c = refused _ c.is_within.ensures c.if-not-is_within.true (λ all. all Mult)

pub returns-then-not-is_within-2 : goal.returns-then-not-is_within-2
returns-then-not-is_within-2 c = refused _ c.is_within-2.ensures c.if-not-is_within-2.true (λ all. all Bit)

pub returns-then-not-is_within-3 : goal.returns-then-not-is_within-3
returns-then-not-is_within-3 c = refused _ c.is_within-3.ensures c.if-not-is_within-3.true (λ all. all Shared)

pub returns : goal.returns
returns c = (
  λ e.
      of_all_kinds (λ kind. count_of (sum_of_needs c.args.bases c.args.needs) kind ≤ count_of c.args.counts kind)
      (c.is_within.ensures.0 c.if-not-is_within.false) (c.is_within-2.ensures.0 c.if-not-is_within-2.false)
      (c.is_within-3.ensures.0 c.if-not-is_within-3.false) (c.is_within-4.ensures.0 e),
  λ all. c.is_within-4.ensures.1 (all Key),
)
