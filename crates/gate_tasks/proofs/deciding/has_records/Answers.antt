use Rattle.std.proofs.Common.{ap, arith}
use Rattle.share_types.specs.declared.needs.Needs.{Needs}
use Rattle.share_types.specs.declared.needs.Kind.TheVariants.{Bit, Shared}
use Rattle.gate_tasks.proofs.Decided.{refused, all_behind}
use Rattle.gate_tasks.proofs.deciding.has_records.Goals as goal

pub returns-then-not-is_behind-2 : goal.returns-then-not-is_behind-2
returns-then-not-is_behind-2 c =
    let asked = ap (λ (n : Needs). n.bit) c.needs_at-asked.ensures in
    let before = ap (λ (n : Needs). n.bit) c.offset-before.ensures in
    let counts = ap (λ (n : Needs). n.bit) c.counts-counts.ensures in
    refused _ c.is_behind-2.ensures c.if-not-is_behind-2.true
    (λ all some.
    let enough = all Bit (omega (arith, some, asked)) in
    omega (arith, enough, asked, before, counts))

pub returns-then-not-is_behind-3 : goal.returns-then-not-is_behind-3
returns-then-not-is_behind-3 c =
    let asked = ap (λ (n : Needs). n.shared) c.needs_at-asked.ensures in
    let before = ap (λ (n : Needs). n.shared) c.offset-before.ensures in
    let counts = ap (λ (n : Needs). n.shared) c.counts-counts.ensures in
    refused _ c.is_behind-3.ensures c.if-not-is_behind-3.true
    (λ all some.
    let enough = all Shared (omega (arith, some, asked)) in
    omega (arith, enough, asked, before, counts))

pub returns : goal.returns
returns c =
    all_behind _ _ _ _ _ _ _ c.is_behind-4.result c.offset-before.ensures c.needs_at-asked.ensures c.counts-counts.ensures
    (c.is_behind.ensures.0 c.if-not-is_behind.false)
    (c.is_behind-2.ensures.0 c.if-not-is_behind-2.false)
    (c.is_behind-3.ensures.0 c.if-not-is_behind-3.false)
    c.is_behind-4.ensures
