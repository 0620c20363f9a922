use Rattle.std.proofs.Common.{◌≡◌, ◌∙◌, ap, ap₂, ◌+◌, ◌*◌, ℕ}
use Rattle.std.proofs.lemmas.List.{length-set}
use Rattle.share_types.specs.Keys.{◌⊕◌, key_at, times}
use Rattle.bmr_keys.proofs.KeyLists.{added-at}
use Rattle.bmr_keys.proofs.lists.add_own.Goals as goal

pub loop-i-preserved : goal.loop-i-preserved
loop-i-preserved c =
    let kept = c.loop-i.invariant in
    let keys = c.loop-i.keys in
    let n = c.args.owners in
    let added_place = c.from.result * n + c.from-in-loop-i.result in
    let place : added_place ≡ c.loop-i.i * n + c.args.me.0 =
    ap₂ (λ (a b : ℕ). a * n + b) c.from.ensures c.from-in-loop-i.ensures in (
      length-set keys added_place c.add_offset.result ∙ kept.0,
      added-at n c.args.c.width c.args.me.0 c.args.offset.0 c.args.c.word c.args.keys.now c.loop-i.i added_place keys
          c.add_offset.result c.loop-i-test.true c.requires.me kept.0 kept.1 place
          (c.add_offset.ensures ∙ ap (λ b. key_at keys added_place ⊕ times b c.args.offset.0) c.is_set.ensures),
    )
