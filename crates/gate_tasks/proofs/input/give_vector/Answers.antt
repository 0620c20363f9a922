use Rattle.std.proofs.Common.{◌≡◌, ◌≤◌, ◌^◌, ◌%◌, ◌/◌, ◌∷◌, [], Some, sym, ◌∙◌, ap, ap₂, subst, get_or, take, drop, arith}
use Rattle.std.specs.Prelude.{slice_get, ◌==◌, if◌then◌else◌, bit_xor}
use Rattle.mot_base.specs.Limits.{most_width}
use Rattle.mot_base.specs.Tape.{share_of_tape}
use Rattle.share_types.specs.Bits.{number}
use Rattle.share_types.specs.Sums.{xor_to}
use Rattle.share_types.specs.declared.bits.Bits.{Bits}
use Rattle.share_types.proofs.BitsLemmas.{number-cut}
use Rattle.plan_gates.specs.Gate.{width_at}
use Rattle.joint_run.specs.Payload.{vectors_bytes}
use Rattle.joint_run.specs.Party.{given_vector}
use Rattle.gate_tasks.specs.ByValue.{stand}
use Rattle.gate_tasks.specs.Sending.{payload_of}
use Rattle.joint_run.proofs.Grown.{there_is}
use Rattle.gate_tasks.proofs.Operands.{wide_in, its_width}
use Rattle.gate_tasks.proofs.Giving.{same_length, field_at, own_share, given_share, outs_same, is_other}
use Rattle.gate_tasks.proofs.input.give_vector.Goals as goal
use Rattle.mot_base.proofs.Lists.{some_at as inside_there}

pub bits-x-requires-clause-some : goal.bits-x-requires-clause-some
bits-x-requires-clause-some c =
    let env = c.args.env.now in
    let wide = wide_in env.plan.now env.gate c.requires.plan c.requires.serves.there in
    subst (λ w. 1 ≤ w) (its_width env.plan.now.gates env.gate c.width.result c.width.ensures) wide.0

pub bits-x-requires-clause-most : goal.bits-x-requires-clause-most
bits-x-requires-clause-most c =
    let env = c.args.env.now in
    let wide = wide_in env.plan.now env.gate c.requires.plan c.requires.serves.there in
    subst (λ w. w ≤ most_width) (its_width env.plan.now.gates env.gate c.width.result c.width.ensures) wide.1

pub index-kept-requires : goal.index-kept-requires
index-kept-requires c =
    let env = c.args.env.now in
    let long = same_length (λ (v : Bits). v.word) c.in_ok-shares.shares.items c.parties.result _ c.in_ok-shares.ensures.words in
    let parties = c.parties.ensures.value in
    let inside = c.requires.me in
    let from = c.from.ensures in
    omega (arith, long, parties, inside, from)

pub outs-requires-clause-each : goal.outs-requires-clause-each
outs-requires-clause-each c =
    let long = same_length (λ (v : Bits). v.word) c.in_ok-shares.shares.items c.parties.result _ c.in_ok-shares.ensures.words in
    let parties = c.parties.ensures.value in
    λ to inside. omega (arith, long, parties, inside)

pub returns-clause-kept : goal.returns-clause-kept
returns-clause-kept c =
    let env = c.args.env.now in
    let me = env.own.now.me.0 in
    let n = env.plan.now.parties in
    let shares = c.in_ok-shares.shares.items in
    let long = same_length (λ (v : Bits). v.word) shares c.parties.result _ c.in_ok-shares.ensures.words in
    let parties = c.parties.ensures.value in
    let inside = c.requires.me in
    let most = c.requires.plan.most_parties in
    let at : slice_get shares me ≡ Some c.index-kept.result.now =
    there_is shares me c.index-kept.result.now (omega (arith, long, parties, inside))
    ∙ ap (λ (v : Bits). Some v) (sym (c.index-kept.ensures ∙ ap (λ i. get_or shares i c.index-kept.result.now) c.from.ensures)) in
    let bits = get_or env.own.now.inputs c.args.k [] in
    let wide : c.bits-x.result.width ≡ width_at env.plan.now.gates env.gate =
    c.bits-x.ensures.width ∙ sym (its_width env.plan.now.gates env.gate c.width.result c.width.ensures) in
    let taken : c.bits-x.result.word ≡ number bits / 2 ^ c.args.at % 2 ^ width_at env.plan.now.gates env.gate =
    c.bits-x.ensures.value ∙ (ap (λ w. number (take w (drop c.args.at bits))) (sym (its_width env.plan.now.gates env.gate c.width.result c.width.ensures))
    ∙ number-cut bits c.args.at (width_at env.plan.now.gates env.gate) c.requires.input) in
    field_at (λ (v : Bits). v.word) shares c.parties.result _ me c.index-kept.result.now c.in_ok-shares.ensures.words (omega (arith, parties, inside)) at
    ∙ (own_share c.bits-x.result env.own.now.seed.0 env.own.now.session env.gate me c.parties.result (omega (arith, parties, most))
    ∙ (ap (λ k. bit_xor c.bits-x.result.word (xor_to k (λ q. if q == me then 0 else share_of_tape env.own.now.seed.0 env.own.now.session env.gate q % 2 ^ c.bits-x.result.width))) parties
    ∙ ap₂ (λ x w. bit_xor x (xor_to n (λ q. if q == me then 0 else share_of_tape env.own.now.seed.0 env.own.now.session env.gate q % 2 ^ w))) taken wide))

pub returns-clause-width : goal.returns-clause-width
returns-clause-width c =
    let env = c.args.env.now in
    let me = env.own.now.me.0 in
    let shares = c.in_ok-shares.shares.items in
    let long = same_length (λ (v : Bits). v.word) shares c.parties.result _ c.in_ok-shares.ensures.words in
    let parties = c.parties.ensures.value in
    let inside = c.requires.me in
    let at : slice_get shares me ≡ Some c.index-kept.result.now =
    there_is shares me c.index-kept.result.now (omega (arith, long, parties, inside))
    ∙ ap (λ (v : Bits). Some v) (sym (c.index-kept.ensures ∙ ap (λ i. get_or shares i c.index-kept.result.now) c.from.ensures)) in
    field_at (λ (v : Bits). v.width) shares c.parties.result _ me c.index-kept.result.now c.in_ok-shares.ensures.widths (omega (arith, parties, inside)) at
    ∙ (c.bits-x.ensures.width ∙ sym (its_width env.plan.now.gates env.gate c.width.result c.width.ensures))

pub returns-clause-sent : goal.returns-clause-sent
returns-clause-sent c =
    let env = c.args.env.now in
    let me = env.own.now.me.0 in
    let shares = c.in_ok-shares.shares.items in
    let long = same_length (λ (v : Bits). v.word) shares c.parties.result _ c.in_ok-shares.ensures.words in
    let parties = c.parties.ensures.value in
    let most = c.requires.plan.most_parties in
    let wide : c.bits-x.result.width ≡ width_at env.plan.now.gates env.gate =
    c.bits-x.ensures.width ∙ sym (its_width env.plan.now.gates env.gate c.width.result c.width.ensures) in
    c.in_ok-outs.ensures
    ∙ outs_same env 0 (λ to. payload_of (slice_get shares to)) (λ to. vectors_bytes (width_at env.plan.now.gates env.gate) (given_vector (stand env) to ∷ []))
    (λ to inside sent.
    let (v, at) = inside_there shares to (omega (arith, long, parties, inside)) in
    let word : v.word ≡ share_of_tape env.own.now.seed.0 env.own.now.session env.gate to % 2 ^ c.bits-x.result.width =
    field_at (λ (y : Bits). y.word) shares c.parties.result _ to v c.in_ok-shares.ensures.words (omega (arith, parties, inside)) at
    ∙ given_share c.bits-x.result env.own.now.seed.0 env.own.now.session env.gate me c.parties.result to (omega (arith, inside, most)) (is_other env.plan.now me to env.gate 0 sent) in
    let width : v.width ≡ c.bits-x.result.width =
    field_at (λ (y : Bits). y.width) shares c.parties.result _ to v c.in_ok-shares.ensures.widths (omega (arith, parties, inside)) at in
    ap payload_of at
    ∙ ap₂ (λ w n. vectors_bytes w (n ∷ [])) (width ∙ wide) (word ∙ ap (λ w. share_of_tape env.own.now.seed.0 env.own.now.session env.gate to % 2 ^ w) wide))
