-- The rule of the words of a pool: one for each item, with the number of its incoming edges that are
-- not given or the word of a taken item, and one for the edges that end at no item.
use Rattle.std.specs.Prelude.{◌≡◌, ℕ, ◌+◌, ◌-◌, ◌<◌, ◌≤◌, ◌==◌}
use Rattle.std.specs.Prelude.{min, cond, List, [], ◌∷◌, ◌++◌, length, slice_index_or}
use mathlib.Core.Option.{some}
use lib.ListN.{get_elem?}
use Rattle.turn_core.specs.declared.edge.Edge.{Edge}
use Rattle.pool_workers.specs.declared.view.View.{View}
use Rattle.pool_workers.specs.Sums.{once, times, source_at, missing, IsTarget, incoming_of}

-- the word of an item that is taken
abbrev pub taken_word : ℕ
taken_word = 18446744073709551615

-- how many parts there are of the right to know the whole
abbrev pub all_parts : ℕ
all_parts = 1024

abbrev pub view : ℕ → List ℕ → List ℕ → View
view parts took gave = record { parts = parts; took = took; gave = gave }

-- f of each view, added up
abbrev pub total : (View → ℕ) → List View → ℕ
total f [] = 0
total f (v ∷ vs) = f v + total f vs

-- how many views list an item as taken, and an edge as given
abbrev pub takers : List View → ℕ → ℕ
takers views x = total (λ v. times x v.took) views

abbrev pub givers : List View → ℕ → ℕ
givers views e = total (λ v. times e v.gave) views

-- what is missing where a word is this
abbrev pub left : ℕ → ℕ
left w = cond (w == taken_word) 0 w

abbrev pub word_at : List ℕ → ℕ → ℕ
word_at words i = slice_index_or words i 0

-- what holds of one view: it took items alone, and gave an edge only where it took the source
pub record Fair (items : ℕ) (edges : List Edge) (v : View) : Type 0 where
  pub known : (x : ℕ) → items ≤ x → times x v.took ≡ 0
  pub gave : (e : ℕ) → times e v.gave ≤ times (source_at edges e) v.took
  pub idle : v.parts ≡ 0 → (v.took ≡ []) × (v.gave ≡ [])

-- the rule
pub record Words (items : ℕ) (edges : List Edge) (words : List ℕ) (views : List View) : Type 0 where
  pub wide : length words ≡ items + 1
  pub parts : total (λ v. v.parts) views ≡ all_parts
  pub each : (id : ℕ) (v : View) → get_elem? views id ≡ some v → Fair items edges v
  pub taken : (x : ℕ) → x < items → takers views x ≡ once (word_at words x == taken_word)
  pub waits : (t : ℕ) → IsTarget items t →
      left (word_at words (min items t)) ≡ missing t 0 edges (givers views)

-- views after a step: an item is taken, an edge is given, a part is cut off, two are joined
abbrev pub with_item : View → ℕ → View
with_item v x = view v.parts (v.took ++ x ∷ []) v.gave

abbrev pub with_edge : View → ℕ → View
with_edge v e = view v.parts v.took (v.gave ++ e ∷ [])

abbrev pub less_one_part : View → View
less_one_part v = view (v.parts - 1) v.took v.gave

abbrev pub one_part : View → View
one_part v = view 1 [] []

abbrev pub together : View → View → View
together v w = view (v.parts + w.parts) (v.took ++ w.took) (v.gave ++ w.gave)

abbrev pub spent : View
spent = view 0 [] []

-- the words at the start: how many edges end at each item, and how many end at none
pub record AreAtStart (items : ℕ) (edges : List Edge) (words : List ℕ) : Type 0 where
  pub wide : length words ≡ items + 1
  pub waits : (t : ℕ) → IsTarget items t →
      word_at words (min items t) ≡ length (incoming_of t edges)
