use Rattle.std.proofs.Common.{◌≡◌, ◌∙◌, ap, arith, List}
use Rattle.share_types.specs.Sums.{each}
use Rattle.share_types.specs.Keys.{◌⊕◌, bit, times, key_at}
use Rattle.share_types.specs.declared.keys.Key.{Key}
use Rattle.bmr_eval.proofs.Onlines.{entered}
use Rattle.bmr_eval.proofs.entry.enter.Goals as goal

pub returns : goal.returns
returns c = λ n u p.
    let width = c.args.masked.width in
    let past = c.loop-i-test.false in
    let to_end = c.loop-i.auto.i-end in
    let all : c.loop-i.i ≡ width = omega arith in
    entered n width c.loop-i.i c.args.offset.0 c.args.masked.word u c.args.part.now c.loop-i.keys.items p all
    (c.loop-i.invariant ∙ ap (λ (keys : List Key). each {X = Key} c.loop-i.i (λ i. record {
      0 =
          key_at keys i ⊕ times (bit c.args.masked.word i) c.args.offset.0;
    })) c.as_slice-zero_keys.ensures)
