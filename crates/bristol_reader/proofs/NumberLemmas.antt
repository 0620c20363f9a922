-- The numbers that words spell, one after another.
use Rattle.std.proofs.Common.{ℕ, ◌≡◌, ◌<◌, ◌≤◌, ◌+◌, List, [], ◌∷◌, ◌++◌, Option, Some, None, Bor, map, drop, length, refl, sym, ◌∙◌, ap}
use Rattle.std.specs.Prelude.{option_map, option_and_then, get_or}
use Rattle.std.proofs.lemmas.List.{at_drop_more, append_assoc, append-nil}
use Rattle.std.proofs.Math.ListN.{drop_of_length-le}
use Rattle.bristol_reader.specs.Line.{decimal_of, numbers_of}
use Rattle.bristol_reader.specs.Stored.{capped}
use Rattle.text_lines.specs.Text.{Text}

-- some first numbers, and those of the words that are left
abbrev pub behind_first : List ℕ → Option (List ℕ) → Option (List ℕ)
behind_first front o = option_map (λ more. front ++ map capped more) o

-- the numbers of the words from a place on
abbrev pub from_place : List (Bor Text) → ℕ → Option (List ℕ)
from_place words k = numbers_of (map (λ (word : Bor Text). word.now) (drop k words))

pub behind_none : (o : Option (List ℕ)) → behind_first [] o ≡ option_map (map capped) o
behind_none None = refl
behind_none (Some ns) = refl

pushed_by : (front : List ℕ) (n : ℕ) (o : Option ℕ) (rest : Option (List ℕ)) → Some n ≡ option_map capped o → behind_first (front ++ n ∷ []) rest ≡ behind_first front (option_and_then (λ m. option_map (λ ms. m ∷ ms) rest) o)
pushed_by front n None rest h = cc
pushed_by front n (Some m) None h = refl
pushed_by front n (Some m) (Some ms) h =
    let e : n ≡ capped m = cc in
    ap (λ (xs : List ℕ). Some xs) (append_assoc front (n ∷ []) (map capped ms) ∙ ap (λ (x : ℕ). front ++ x ∷ map capped ms) e)

-- a word spells a number, which is put behind those before it
pub pushed : (words : List (Bor Text)) (k : ℕ) (d : Bor Text) (front : List ℕ) (n : ℕ) → k < length words → Some n ≡ option_map capped (decimal_of (get_or words k d).now) → behind_first (front ++ n ∷ []) (from_place words (k + 1)) ≡ behind_first front (from_place words k)
pushed words k d front n inside h =
    pushed_by front n (decimal_of (get_or words k d).now) (from_place words (k + 1)) h
    ∙ sym (at_drop_more (λ (left : List (Bor Text)). behind_first front (numbers_of (map (λ (word : Bor Text). word.now) left))) words k d inside)

stopped_by : (front : List ℕ) (o : Option ℕ) (rest : Option (List ℕ)) → None ≡ option_map capped o → behind_first front (option_and_then (λ m. option_map (λ ms. m ∷ ms) rest) o) ≡ None
stopped_by front None rest h = refl
stopped_by front (Some m) rest h = cc

-- a word spells none, so that there are no numbers
pub stopped : (words : List (Bor Text)) (k : ℕ) (d : Bor Text) (front : List ℕ) → k < length words → None ≡ option_map capped (decimal_of (get_or words k d).now) → behind_first front (from_place words k) ≡ None
stopped words k d front inside h =
    at_drop_more (λ (left : List (Bor Text)). behind_first front (numbers_of (map (λ (word : Bor Text). word.now) left))) words k d inside
    ∙ stopped_by front (decimal_of (get_or words k d).now) (from_place words (k + 1)) h

-- no word is left
pub all_pushed : (words : List (Bor Text)) (k : ℕ) (front : List ℕ) → length words ≤ k → behind_first front (from_place words k) ≡ Some front
all_pushed words k front past =
    ap (λ (left : List (Bor Text)). behind_first front (numbers_of (map (λ (word : Bor Text). word.now) left))) (drop_of_length-le words past)
    ∙ ap (λ (xs : List ℕ). Some xs) (append-nil front)
