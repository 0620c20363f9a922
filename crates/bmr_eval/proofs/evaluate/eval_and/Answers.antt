use Rattle.std.proofs.Common.{ℕ, ◌*◌, ◌/◌, ◌%◌, ◌∙◌, List, length, ap, sym}
use Rattle.share_types.specs.Bits.{number}
use Rattle.share_types.specs.Sums.{each}
use Rattle.share_types.specs.Keys.{bit, key_at}
use Rattle.share_types.specs.declared.keys.Key.{Key}
use Rattle.share_types.proofs.Parties.{length-each}
use Rattle.bmr_eval.specs.Active.{result_key, online_seen, entries_in}
use Rattle.bmr_eval.proofs.Onlines.{evaluated}
use Rattle.bmr_eval.proofs.evaluate.eval_and.Goals as goal

pub least_bits-word-requires-clause-count : goal.least_bits-word-requires-clause-count
least_bits-word-requires-clause-count c =
    ap length (c.as_slice.ensures.value ∙ c.in_ok-keys.ensures)
    ∙ (length-each _ _ ∙ ap (λ n. c.args.u.now.masked.width * n) (sym c.from-owners.ensures))

pub returns : goal.returns
returns c = λ entries a b table left right.
    let t = c.args.t.now in
    let u = c.args.u.now in
    let v = c.args.v.now in
    let n = t.parties in
    let gate = c.args.gate in
    let wide = c.requires.shape.left_width in
    let keys = c.new.ensures ∙ (c.in_ok-keys.ensures ∙ ap (λ w. each {X = Key} (w * n) (λ k. record {
      0 =
          result_key n (entries_in n t) gate (online_seen n u) (online_seen n v) (k / n) (k % n);
    })) wide) in
    let least = λ (w owners : ℕ) (ks : List Key). number (each w (λ i. bit (key_at ks (i * owners)) 0)) in
    let word =
    c.least_bits-word.ensures.number
    ∙ (ap (λ w. least w c.from-owners.result c.as_slice.result.now) wide
    ∙ (ap (λ owners. least t.width owners c.as_slice.result.now) c.from-owners.ensures
    ∙ ap (least t.width n) (c.as_slice.ensures.value ∙ sym c.new.ensures))) in
    evaluated n t.width gate entries a b t u v _ table left right c.requires.some wide keys word
