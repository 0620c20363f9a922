-- No line is spelled as two operations want.
use Rattle.std.proofs.Common.{ℕ, ◌≡◌, Bool, true, false, not, ◌&&◌, ◌||◌, List, [], ◌∷◌, length, Some, suc, zero, refl, sym, ◌∙◌, ap, subst, cond, arith, inl, inr}
use Rattle.std.specs.Prelude.{◌==◌, slice_get}
use Rattle.std.specs.List.{list_all, find}
use Rattle.std.specs.Str.{bytes_eq}
use Rattle.std.proofs.lemmas.Slice.Eq.{bytes_eq-Decides}
use Rattle.std.proofs.lemmas.Bool.{false≢true, eqb-true, eq-eqb}
use Rattle.mixed_language.specs.declared.language.Operation.{Operation}
use Rattle.mixed_language.specs.declared.language.Slot.{Slot}
use Rattle.mixed_language.specs.declared.language.Slot.TheVariants as slot
use Rattle.mixed_language.specs.Language.{operations, word_of, slots_of}
use Rattle.mixed_circuit.specs.Line.{is_spelled, each_spelled, are_spelled, operation_of, OneOperation}
use Rattle.mot_base.proofs.Lists.{same_some, not_true as not_false, either_true, both_true}
use Rattle.text_lines.specs.Text.{Text}

abbrev pub is_keyword_slot : Slot → Bool
is_keyword_slot slot.Keyword = true
is_keyword_slot _ = false

-- the word at a place is the operation's
abbrev pub is_keyword_at : ℕ → List Slot → Bool
is_keyword_at k [] = false
is_keyword_at zero (s ∷ slots) = is_keyword_slot s
is_keyword_at (suc k) (s ∷ slots) = is_keyword_at k slots

-- two operations whose lines are of two lengths, or have two words in their third place
abbrev pub are_apart : Operation → Operation → Bool
are_apart a b = not (length (slots_of a) == length (slots_of b)) || (is_keyword_at 2 (slots_of a) && is_keyword_at 2 (slots_of b) && not (bytes_eq (word_of a) (word_of b)))

abbrev pub all_apart : List Operation → Bool
all_apart [] = true
all_apart (o ∷ more) = list_all (are_apart o) more && all_apart more

table : all_apart operations ≡ true
table = refl

keyword_is : (s : Slot) → is_keyword_slot s ≡ true → s ≡ slot.Keyword
keyword_is slot.Keyword h = refl
keyword_is slot.Name h = cc
keyword_is slot.Equals h = cc
keyword_is slot.Owner h = cc
keyword_is slot.Letter h = cc
keyword_is slot.Width h = cc
keyword_is slot.Place h = cc
keyword_is slot.Constant h = cc
keyword_is slot.Operand h = cc
keyword_is slot.Told h = cc

-- the word in the place of the operation's
word_there : (k : ℕ) (o : Operation) (slots : List Slot) (words : List Text) → length slots ≡ length words → is_keyword_at k slots ≡ true → each_spelled o slots words ≡ true → slice_get words k ≡ Some (word_of o)
word_there k o [] words count at h = cc
word_there k o (s ∷ slots) [] count at h = absurd (omega arith)
word_there zero o (s ∷ slots) (word ∷ words) count at h =
    let spelled = both_true (is_spelled o s word) (each_spelled o slots words) h in
    let P : Slot → Type 0 = λ t. is_spelled o t word ≡ true in
    ap Some ((bytes_eq-Decides word (word_of o)).0 (subst P (keyword_is s at) spelled.0))
word_there (suc k) o (s ∷ slots) (word ∷ words) count at h = word_there k o slots words (omega arith) at (both_true (is_spelled o s word) (each_spelled o slots words) h).1

-- two operations that are apart have no line in common
never_both : (a b : Operation) (words : List Text) → are_apart a b ≡ true → are_spelled a words ≡ true → are_spelled b words ≡ true → ⊥
never_both a b words apart h k =
    let first = both_true (length (slots_of a) == length words) (each_spelled a (slots_of a) words) h in
    let second = both_true (length (slots_of b) == length words) (each_spelled b (slots_of b) words) k in
    let one = eqb-true _ _ first.0 in
    let other = eqb-true _ _ second.0 in
    elim (either_true _ _ apart) [
      | inl p ↦ false≢true (sym (not_false _ p) ∙ eq-eqb _ _ (one ∙ sym other))
      | inr p ↦ (let places = both_true (is_keyword_at 2 (slots_of a) && is_keyword_at 2 (slots_of b)) _ p in
          let both = both_true (is_keyword_at 2 (slots_of a)) (is_keyword_at 2 (slots_of b)) places.0 in
          let x = word_there 2 a (slots_of a) words one both.0 first.1 in
          let y = word_there 2 b (slots_of b) words other both.1 second.1 in
          let same : word_of a ≡ word_of b = same_some _ _ (sym x ∙ y) in
          false≢true (sym (not_false _ places.1) ∙ (bytes_eq-Decides (word_of a) (word_of b)).1 same))
    ]

later_apart : (o : Operation) (more : List Operation) (i : ℕ) (x : Operation) → list_all (are_apart o) more ≡ true → slice_get more i ≡ Some x → are_apart o x ≡ true
later_apart o [] i x h at = cc
later_apart o (y ∷ more) zero x h at = let P : Operation → Type 0 = λ z. are_apart o z ≡ true in subst P (same_some _ _ at) (both_true (are_apart o y) (list_all (are_apart o) more) h).0
later_apart o (y ∷ more) (suc i) x h at = later_apart o more i x (both_true (are_apart o y) (list_all (are_apart o) more) h).1 at

not_spelled : (b : Bool) → (b ≡ true → ⊥) → b ≡ false
not_spelled true h = absurd (h refl)
not_spelled false h = refl

find_one : (all : List Operation) (words : List Text) (i : ℕ) (x : Operation) → all_apart all ≡ true → slice_get all i ≡ Some x → are_spelled x words ≡ true → find (λ o. are_spelled o words) all ≡ Some x
find_one [] words i x apart at h = cc
find_one (o ∷ more) words zero x apart at h =
    let same = same_some _ _ at in
    let P : Operation → Type 0 = λ y. are_spelled y words ≡ true in
    ap (λ b. cond b (Some o) (find (λ o. are_spelled o words) more)) (subst P (sym same) h) ∙ at
find_one (o ∷ more) words (suc i) x apart at h =
    let parts = both_true (list_all (are_apart o) more) (all_apart more) apart in
    let other = not_spelled (are_spelled o words) (λ e. never_both o x words (later_apart o more i x parts.0 at) e h) in
    ap (λ b. cond b (Some o) (find (λ o. are_spelled o words) more)) other ∙ find_one more words i x parts.1 at h

pub one_line_one_operation : OneOperation
unfolding operation_of
one_line_one_operation words i x at h = find_one operations words i x table at h
