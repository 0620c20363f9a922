use Rattle.std.proofs.Common.{◌≡◌, ℕ, ◌+◌, length, Option, Some, sym, ap, ap₂, ◌∙◌, arith}
use Rattle.share_types.proofs.Parties.{length-each}
use Rattle.local_run.specs.Items.{first_item, place_by, place_of}
use Rattle.local_run.proofs.Numbers.{first_at, few_items, round_small}
use Rattle.local_run.proofs.items.Items.number.Goals as goal

pub index-first-requires : goal.index-first-requires
index-first-requires c =
    let many = ap length c.requires.firsts ∙ length-each (length c.args.plan.now.gates) (first_item c.args.plan.now) in
    omega (arith, many, c.args.self.now.firsts.ok.0, c.requires.item.gate)

pub overflow_add-result : goal.overflow_add-result
overflow_add-result c =
    let first = first_at c.args.plan.now _ c.args.item.gate _ c.requires.firsts c.requires.item.gate c.index-first.ensures in
    let few = few_items c.args.plan.now c.args.item.gate c.requires.plan (omega (arith, c.requires.item.gate)) in
    omega (arith, few, first, c.from.ensures, c.requires.item.party, c.requires.plan.most_parties)

pub returns-in_default : goal.returns-in_default
returns-in_default c =
    let first = first_at c.args.plan.now _ c.args.item.gate _ c.requires.firsts c.requires.item.gate c.index-first.ensures in
    let plan = c.args.plan.now in
    let i = c.args.item in
    ap₂ (λ a b. a + b) first c.from.ensures ∙ sym (ap (λ (o : Option ℕ). first_item plan i.gate + place_by plan i.gate i.party.0 o) (sym c.awaits.ensures ∙ c.in_default.is))

pub overflow_add-result-2 : goal.overflow_add-result-2
overflow_add-result-2 c =
    let first = first_at c.args.plan.now _ c.args.item.gate _ c.requires.firsts c.requires.item.gate c.index-first.ensures in
    let few = few_items c.args.plan.now c.args.item.gate c.requires.plan (omega (arith, c.requires.item.gate)) in
    omega (arith, few, first, c.from-2.ensures, c.parties.ensures.value, c.requires.plan.most_parties)

pub overflow_add-result-3 : goal.overflow_add-result-3
overflow_add-result-3 c =
    let first = first_at c.args.plan.now _ c.args.item.gate _ c.requires.firsts c.requires.item.gate c.index-first.ensures in
    let few = few_items c.args.plan.now c.args.item.gate c.requires.plan (omega (arith, c.requires.item.gate)) in
    omega (arith, few, first, c.from-2.ensures, c.parties.ensures.value, c.requires.plan.most_parties, c.waiting_before.ensures.few, round_small c.args.plan.now c.args.item.party.0 c.args.item.gate c.args.item.stage c.in-Some.round (sym c.awaits.ensures ∙ c.in-Some.is))

pub overflow_add-result-4 : goal.overflow_add-result-4
overflow_add-result-4 c =
    let first = first_at c.args.plan.now _ c.args.item.gate _ c.requires.firsts c.requires.item.gate c.index-first.ensures in
    let few = few_items c.args.plan.now c.args.item.gate c.requires.plan (omega (arith, c.requires.item.gate)) in
    omega (arith, few, first, c.from-2.ensures, c.parties.ensures.value, c.requires.plan.most_parties, c.waiting_before.ensures.few, round_small c.args.plan.now c.args.item.party.0 c.args.item.gate c.args.item.stage c.in-Some.round (sym c.awaits.ensures ∙ c.in-Some.is), c.listeners_below.ensures.few, c.requires.item.party)

pub returns : goal.returns
returns c =
    let first = first_at c.args.plan.now _ c.args.item.gate _ c.requires.firsts c.requires.item.gate c.index-first.ensures in
    let plan = c.args.plan.now in
    let i = c.args.item in
    let place : place_of plan i ≡ place_by plan i.gate i.party.0 (Some c.in-Some.round) =
    ap (place_by plan i.gate i.party.0) (sym c.awaits.ensures ∙ c.in-Some.is) in
    omega (arith, first, c.from-2.ensures, c.parties.ensures.value, c.waiting_before.ensures.value, c.listeners_below.ensures.value, place)
