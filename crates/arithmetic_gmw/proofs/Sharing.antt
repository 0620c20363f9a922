-- The words that a party gives out, with its own share put in its place.
use Rattle.std.proofs.Common.{◌≡◌, ◌≢◌, ℕ, zero, suc, ◌+◌, ◌<◌, List, [], ◌∷◌, ◌++◌, length, get_or, take, set, remove, slice_get, Some, refl, ap, ◌∙◌, arith}
use Rattle.std.proofs.lemmas.Bool.{ne_eqb, eq-eqb}
use Rattle.std.proofs.lemmas.List.{take_more, length-set, get_or-set_same, get_or-set_other}
use Rattle.std.proofs.lemmas.List.FromFn.{length-map-range_with_len, get_or-map-range_with_len}
use Rattle.std.proofs.lemmas.Option.{slice_get-get_or}
use Rattle.mot_base.specs.Tape.{share_of_tape}
use Rattle.share_types.specs.Sums.{word_difference, total, Recombines}
use Rattle.arithmetic_gmw.specs.Sharing.{word_of, words_of}

total-push : (xs : List ℕ) (y : ℕ) → total (xs ++ y ∷ []) ≡ total xs + y
total-push [] y = omega arith
total-push (x ∷ xs) y = let rest = total-push xs y in omega arith

pub total-take_more : (xs : List ℕ) (i : ℕ) → i < length xs →
    total (take (i + 1) xs) ≡ total (take i xs) + get_or xs i 0
total-take_more xs i h = ap total (take_more xs i 0 h) ∙ total-push (take i xs) (get_or xs i 0)

-- the other elements, and the one that stood in this place, sum to the list
total-remove : (xs : List ℕ) (i v : ℕ) → i < length xs →
    total (remove (set xs i v) i) + get_or xs i 0 ≡ total xs
total-remove [] i v h = omega arith
total-remove (x ∷ xs) zero v h = omega arith
total-remove (x ∷ xs) (suc i) v h = let rest = total-remove xs i v (omega arith) in omega arith

total-set : (xs : List ℕ) (i v : ℕ) → i < length xs →
    total (set xs i v) + get_or xs i 0 ≡ total xs + v
total-set [] i v h = omega arith
total-set (x ∷ xs) zero v h = omega arith
total-set (x ∷ xs) (suc i) v h = let rest = total-set xs i v (omega arith) in omega arith

word_own : (seed : List ℕ) (session gate me : ℕ) → word_of seed session gate me me ≡ 0
unfolding word_of
word_own seed session gate me = rw (eq-eqb me me refl) refl

word_other : (seed : List ℕ) (session gate me to : ℕ) → to ≢ me →
    word_of seed session gate me to ≡ share_of_tape seed session gate to
unfolding word_of
word_other seed session gate me to h = rw (ne_eqb to me h) refl

module _ (seed : List ℕ) (session gate me count : ℕ) where
  abbrev tape_words : List ℕ
  tape_words = words_of seed session gate me count

  length-words_of : length tape_words ≡ count
  length-words_of = length-map-range_with_len (word_of seed session gate me) 0 count

  word_at : (to : ℕ) → to < count →
      get_or tape_words to 0 ≡ word_of seed session gate me to
  word_at to h = get_or-map-range_with_len (word_of seed session gate me) 0 count to to 0 h (omega arith)

  -- `own` in the place of `me`
  abbrev shares : ℕ → List ℕ
  shares own = set tape_words me own

  length-shares : (own : ℕ) → length (shares own) ≡ count
  length-shares own = simp length-set length-words_of

  other_share : (own to : ℕ) → to < count → to ≢ me →
      slice_get (shares own) to ≡ Some (share_of_tape seed session gate to)
  other_share own to h other =
      let inside : to < length (shares own) = rw (length-shares own) h in
      slice_get-get_or (shares own) to 0 inside ∙ ap (λ (v : ℕ). Some v)
      (get_or-set_other tape_words me to own 0 other ∙ (word_at to h ∙ word_other seed session gate me to other))

  module _ (x own : ℕ) (h : me < count) (less : own ≡ word_difference x (total tape_words)) where
    inside : me < length tape_words
    inside = rw length-words_of h

    nothing : get_or tape_words me 0 ≡ 0
    nothing = word_at me h ∙ word_own seed session gate me

    own_share : slice_get (shares own) me ≡ Some (word_difference x (total (remove (shares own) me)))
    own_share =
        let here : me < length (shares own) = rw (length-shares own) h in
        let whole = total-remove tape_words me own inside in
        let before = nothing in
        let others : total tape_words ≡ total (remove (shares own) me) = omega arith in
        slice_get-get_or (shares own) me 0 here ∙ ap (λ (v : ℕ). Some v)
        (get_or-set_same tape_words me own 0 inside ∙ (less ∙ ap (word_difference x) others))

    recombine : Recombines (shares own) x
    recombine =
        let whole = total-set tape_words me own inside in
        let before = nothing in
        omega arith

-- the same of words that are known to be these, with what is put in a place that is known to be me's
module _ (seed : List ℕ) (session gate me count at x own : ℕ) (words : List ℕ) where
  pub count_given : words ≡ words_of seed session gate me count → length words ≡ count
  count_given e = rw e (length-words_of seed session gate me count)

  pub others_given : words ≡ words_of seed session gate me count → at ≡ me →
      (to : ℕ) → to < count → to ≢ me → slice_get (set words at own) to ≡ Some (share_of_tape seed session gate to)
  others_given e f to h other = rw (e, f) (other_share seed session gate me count own to h other)

  pub own_given : words ≡ words_of seed session gate me count → at ≡ me → me < count →
      own ≡ word_difference x (total words) →
      slice_get (set words at own) me ≡ Some (word_difference x (total (remove (set words at own) me)))
  own_given e f h less = rw (e, f) (own_share seed session gate me count x own h (less ∙ ap (λ v. word_difference x (total v)) e))

  pub recombine_given : words ≡ words_of seed session gate me count → at ≡ me → me < count →
      own ≡ word_difference x (total words) → Recombines (set words at own) x
  recombine_given e f h less = rw (e, f) (recombine seed session gate me count x own h (less ∙ ap (λ v. word_difference x (total v)) e))
