use Rattle.std.proofs.Common.{◌≡◌, ◌+◌, ap, ap₂, ◌∙◌, sym, arith, List, ◌++◌, ◌∷◌, [], ℕ}
use Rattle.mot_base.specs.Tape.{key_of_tape}
use Rattle.share_types.specs.declared.keys.Key.{Key}
use Rattle.share_types.proofs.Parties.{each_more}
use Rattle.bmr_keys.specs.Hiding.{zero_key_of, even_key}
use Rattle.bmr_keys.proofs.part.zero_keys.Goals as goal

pub loop-i-preserved : goal.loop-i-preserved
unfolding zero_key_of
loop-i-preserved c =
    let kept = c.loop-i.invariant in
    let place = kept.1 in
    let moved = c.next_zero_key.ensures.moved in
    let i = c.loop-i.i in
    let f = λ (k : ℕ). (let key : Key = record { 0 = zero_key_of c.args.seed.now.0 (c.args.first + k) } in key) in
    let key : c.next_zero_key.result ≡ f i =
    ap (λ (n : ℕ). (let key : Key = record { 0 = n } in key))
    (c.next_zero_key.ensures.key ∙ ap₂ (λ (s : List ℕ) (p : ℕ). even_key (key_of_tape s p)) kept.0 kept.1) in (
      ap (λ tape. tape.seed) moved ∙ kept.0,
      ap (λ tape. tape.place) moved ∙ omega arith,
      c.in_ok-push.ensures.items ∙ (ap₂ (λ (xs : List Key) (x : Key). xs ++ x ∷ []) kept.2 key ∙ sym (each_more i f)),
    )
