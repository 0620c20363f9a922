use Rattle.std.proofs.Common.{ℕ, ◌≡◌, ◌<◌, ◌^◌, ◌%◌, ◌/◌, ◌∷◌, [], length, sym, ◌∙◌, ap, ap₂, subst, get_or, arith}
use Rattle.std.specs.Prelude.{slice_index, remove, ◌==◌, if◌then◌else◌}
use Rattle.share_types.specs.Sums.{word_difference, total, sum_to}
use Rattle.share_types.specs.Bits.{number}
use Rattle.std.specs.Vec.{vec_len}
use Rattle.share_types.proofs.BitsLemmas.{number-cut}
use Rattle.joint_run.specs.Payload.{word_bytes}
use Rattle.joint_run.specs.Party.{given_word}
use Rattle.gate_tasks.specs.ByValue.{stand}
use Rattle.joint_run.proofs.Grown.{got}
use Rattle.gate_tasks.proofs.Giving.{total_others, cut_word, outs_same, is_other}
use Rattle.gate_tasks.proofs.input.give_word.Goals as goal
use Rattle.mot_base.proofs.Lists.{index_at as got_index}

pub returns-clause-kept : goal.returns-clause-kept
returns-clause-kept c =
    let env = c.args.env.now in
    let h = stand env in
    let me = env.own.now.me.0 in
    let n = env.plan.now.parties in
    let shares = c.in_ok-shares.shares.items in
    let same : c.parties.result ≡ n = c.parties.ensures.value in
    let others = c.in_ok-shares.ensures.others in
    let count : vec_len c.in_ok-shares.shares ≡ n = c.in_ok-shares.ensures.count ∙ same in
    let ok = c.in_ok-shares.shares.ok.0 in
    let long : length shares ≡ n = omega (arith, count, ok) in
    let rest = total_others n me (given_word h) shares long c.requires.me
    (λ to inside apart. others to (subst (λ k. to < k) (sym same) inside) apart) in
    let bits = get_or env.own.now.inputs c.args.k [] in
    let read : c.bits-x.result.word ≡ number bits / 2 ^ 0 % 2 ^ 64 = c.bits-x.ensures.value ∙ number-cut bits 0 64 c.requires.input in
    c.index-share.ensures
    ∙ (ap (λ i. get_or shares i c.index-share.result.now) c.from.ensures
    ∙ (got shares me (word_difference c.bits-x.result.word (total (remove shares me))) c.index-share.result.now c.in_ok-shares.ensures.own
    ∙ (ap₂ word_difference read rest ∙ cut_word (number bits) (sum_to n (λ q. if q == me then 0 else given_word h q)))))

pub returns-clause-sent : goal.returns-clause-sent
returns-clause-sent c =
    let env = c.args.env.now in
    let me = env.own.now.me.0 in
    let same : c.parties.result ≡ env.plan.now.parties = c.parties.ensures.value in
    let others = c.in_ok-shares.ensures.others in
    c.in_ok-outs.ensures
    ∙ outs_same env 0 (λ to. word_bytes (slice_index c.in_ok-shares.shares.items to ∷ [])) (λ to. word_bytes (given_word (stand env) to ∷ []))
    (λ to inside sent. ap (λ (w : ℕ). word_bytes (w ∷ []))
    (got_index c.in_ok-shares.shares.items to (given_word (stand env) to) (others to (subst (λ n. to < n) (sym same) inside) (is_other env.plan.now me to env.gate 0 sent))))
