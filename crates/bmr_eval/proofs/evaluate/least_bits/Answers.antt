use Rattle.std.proofs.Common.{◌≡◌, ℕ, ◌+◌, ◌*◌, ◌^◌, ◌∙◌, ap, ap₂, sym, arith, add-one, Bool}
use Rattle.share_types.specs.Bits.{once, number}
use Rattle.share_types.specs.Sums.{each}
use Rattle.share_types.specs.Keys.{bit, key_at}
use Rattle.bmr_keys.proofs.Labels.{number-each_more}
use Rattle.bmr_eval.proofs.evaluate.least_bits.Goals as goal

pub loop-i-preserved : goal.loop-i-preserved
loop-i-preserved c =
    let i = c.loop-i.i in
    let keys = c.args.keys.now in
    let n = c.args.owners in
    let f = λ (k : ℕ). bit (key_at keys (k * n)) 0 in
    let from = c.from.ensures in
    let place : c.from.result * n + 0 ≡ i * n = ap (λ k. k * n + 0) from ∙ omega arith in
    let set : c.is_odd.result ≡ f i = c.is_odd.ensures ∙ (ap (λ k. bit k 0) c.key_by.ensures ∙ ap (λ k. bit (key_at keys k) 0) place) in (
      c.with_bit-word.ensures.word
          ∙ (ap₂ (λ (m : ℕ) (b : Bool). m + 2 ^ i * once b) c.loop-i.invariant.0 set
          ∙ (sym (number-each_more i f) ∙ ap (λ k. number (each k f)) (sym (add-one i)))),
      c.with_bit-word.ensures.below,
    )
