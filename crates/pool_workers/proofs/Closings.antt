-- A pool that was taken apart.
use Rattle.std.proofs.Common.{◌≡◌, ℕ, ◌<◌, ◌≤◌, Bool, true, false, eqb, List, Option, Some, refl, sym, ap, ◌∙◌, arith}
use Rattle.std.specs.Prelude.{nat_lt}
use mathlib.Core.Logic.{dite}
use native.Mathlib.Decide.{dec_lt}
use Rattle.std.proofs.lemmas.Bool.{lt-ltb, ltb-true}
use Rattle.std.proofs.Common.{ltb}
use Rattle.turn_core.specs.declared.edge.Edge.{Edge}
use Rattle.pool_workers.specs.declared.view.View.{View}
use Rattle.pool_workers.specs.Sums.{once, times, source_at, IsForward}
use Rattle.pool_workers.specs.Words.{all_parts, taken_word, takers, word_at}
use Rattle.pool_workers.specs.Steps.{Complete}
use Rattle.pool_workers.specs.Shifts.{Closes, AreEnds}
use Rattle.pool_workers.proofs.WordSteps as W

ltb_off : (a b : ℕ) → b ≤ a → ltb a b ≡ false
ltb_off a b high = elim_bool (ltb a b) (λ t. absurd (let l = ltb-true a b t in omega arith))
  where
    elim_bool : (c : Bool) → (c ≡ true → ⊥) → c ≡ false
    elim_bool true n = absurd (n refl)
    elim_bool false n = refl

once_small : (b : Bool) → once b ≤ 1
once_small true = omega arith
once_small false = omega arith

module _ {E : Type 0} (items : ℕ) (edges : List Edge) (means : ℕ → E → Type 0) (v : View) (values : List (Option E)) (c : Closes items edges means v values) (every : v.parts ≡ all_parts) (all : (x : ℕ) → x < items → 1 ≤ times x v.took) where
  -- each item was taken once, and nothing else
  pub took_once : (x : ℕ) → times x v.took ≡ once (nat_lt x items)
  took_once x =
      let k = W.knows_takers items edges c.state.words c.state.views c.id v every c.at c.kept.words x in
      dite (dec_lt x items)
      (λ low.
      let t = c.kept.words.taken x low in
      let s = once_small (eqb (word_at c.state.words x) taken_word) in
      let a = all x low in
      let one : times x v.took ≡ 1 = omega arith in
      one ∙ sym (ap once (lt-ltb x items low)))
      (λ high. (c.kept.words.each c.id v c.at).known x (omega arith) ∙ sym (ap once (ltb_off x items (omega arith))))

  pub closed_ends : IsForward items edges → Complete edges v → AreEnds edges means values
  closed_ends dag complete e within end =
      let few = dag.few in
      let cell = c.kept.cells e within in
      let g = W.knows_givers items edges c.state.words c.state.views c.id v every c.at c.kept.words e in
      let t = W.knows_takers items edges c.state.words c.state.views c.id v every c.at c.kept.words 4294967295 in
      let known = (c.kept.words.each c.id v c.at).known 4294967295 (omega arith) in
      let a = all (source_at edges e) (dag.sources e within) in
      let gave = complete e within in
      let r = cell.full (omega arith) (ap (takers c.state.views) end ∙ t ∙ known) in
      (r.0, c.home e (Some r.0) r.1, r.2)
