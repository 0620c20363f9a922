use Rattle.std.proofs.Common.{◌≡◌, ℕ, ◌+◌, ◌*◌, ◌%◌, ◌^◌, ◌∙◌, ap, ap₂, Bool, arith}
use Rattle.share_types.specs.Sums.{sum_to}
use Rattle.share_types.specs.Keys.{bit}
use Rattle.share_types.proofs.Parties.{sum_to_more}
use Rattle.share_convert.specs.Convert.{shared_bit_at, turned_word}
use Rattle.share_convert.proofs.b_to_a_close.Goals as goal

-- one place more
more : (sum turned i : ℕ) (f : ℕ → ℕ) → sum ≡ sum_to i f % 2 ^ 64 → turned * 2 ^ i ≡ f i →
    (sum + turned * 2 ^ i % 2 ^ 64) % 2 ^ 64 ≡ sum_to (i + 1) f % 2 ^ 64
more sum turned i f e g = let next = sum_to_more i f in omega arith

pub loop-i-preserved : goal.loop-i-preserved
loop-i-preserved c =
    let i = c.loop-i.i in
    let v = c.args.v.word in
    let word = λ (k : ℕ). (shared_bit_at c.args.stock.now k).word in
    let f = λ (k : ℕ). 2 ^ k * turned_word (bit v k) (word k) in
    let turned : c.turned.result ≡ turned_word (bit v i) (word i) =
    c.turned.ensures ∙ ap₂ (λ (b : Bool) (k : ℕ). turned_word b (word k)) c.is_set.ensures c.from.ensures in
    more c.loop-i.sum c.turned.result i f c.loop-i.invariant (ap (λ t. t * 2 ^ i) turned ∙ turned_order (2 ^ i) (turned_word (bit v i) (word i)))
  where
    turned_order : (p t : ℕ) → t * p ≡ p * t
    turned_order p t = omega arith
