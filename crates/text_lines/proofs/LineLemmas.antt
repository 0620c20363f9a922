-- The first line of a text, and those behind it.
use Rattle.std.proofs.Common.{ℕ, ◌≡◌, ◌<◌, ◌≤◌, ◌+◌, ◌-◌, Bool, true, false, nat_lt, List, [], ◌∷◌, length, take, drop, Some, None, refl, sym, ◌∙◌, ap, cond, arith}
use Rattle.std.specs.Prelude.{position, slice_index_or}
use Rattle.text_lines.specs.Text.{Text, is_line_end, without_last_end, lines}
use Rattle.std.specs.List.{slice_split, position_or_len}
use Rattle.std.proofs.lemmas.List.Splits.{slice_split_first, slice_split_none, length-slice_split}
use Rattle.std.proofs.lemmas.List.Sums.{fails_before_first, count_by-le-length}
use Rattle.std.proofs.lemmas.List.{length-drop, length-take}
use Rattle.std.proofs.Math.Seq.{take-length}
use Rattle.std.proofs.lemmas.Bool.{ltb-true, ltb-false}

place_found : (n m end : ℕ) (b : Bool) → nat_lt n m ≡ b → Some end ≡ cond b (Some n) None → (n ≡ end) × (n < m)
place_found n m end true e h = (let same : end ≡ n = cc in sym same, ltb-true n m e)
place_found n m end false e h = cc

no_place : (n m : ℕ) (b : Bool) → nat_lt n m ≡ b → None ≡ cond b (Some n) None → m ≤ n
no_place n m true e h = cc
no_place n m false e h = ltb-false n m e

take_rest : {X : Type 0} (xs : List X) (k : ℕ) → take (length xs - k) (drop k xs) ≡ drop k xs
take_rest xs k = ap (λ n. take n (drop k xs)) (sym (length-drop k xs)) ∙ take-length (drop k xs)

-- where an element passes, the list is cut at the first one
pub cut_at_first : {X : Type 0} (p : X → Bool) (xs : List X) (end : ℕ) (d : X) → Some end ≡ position p xs → slice_split p xs ≡ take end xs ∷ slice_split p (take (length xs - (end + 1)) (drop (end + 1) xs))
cut_at_first p xs end d h =
    let found = place_found (position_or_len p xs) (length xs) end _ refl h in
    slice_split_first p xs d found.1
    ∙ ap (λ n. take n xs ∷ slice_split p (drop (n + 1) xs)) found.0
    ∙ ap (λ ys. take end xs ∷ slice_split p ys) (sym (take_rest xs (end + 1)))

-- and where none does, it is one part
pub uncut : {X : Type 0} (p : X → Bool) (xs : List X) → None ≡ position p xs → slice_split p xs ≡ xs ∷ []
uncut p xs h =
    let past = no_place (position_or_len p xs) (length xs) _ refl h in
    slice_split_none p xs (λ k d within. fails_before_first p xs k d (omega arith))

-- a text has at most one line more than bytes
pub few_parts : {X : Type 0} (p : X → Bool) (xs : List X) → length (slice_split p xs) ≤ length xs + 1
few_parts p xs = let count = length-slice_split p xs in let few = count_by-le-length p xs in omega arith

shorter : (b : Bool) (text : Text) → length (cond b (take (length text - 1) text) text) ≤ length text
shorter true text = simp length-take (omega arith)
shorter false text = omega arith

pub few_lines : (text : Text) → length (lines text) ≤ length text + 1
few_lines text = let parts = few_parts is_line_end (without_last_end text) in let short = shorter (is_line_end (slice_index_or text (length text - 1) 0)) text in omega arith
