-- The canonical text of a circuit, word by word and line by line.
use Rattle.std.proofs.Common.{ℕ, ◌≡◌, ◌<◌, ◌≤◌, ◌+◌, ◌-◌, false, List, [], ◌∷◌, ◌++◌, length, take, drop, get_or, Some, Option, Result, Ok, Err, zero, suc, refl, sym, ◌∙◌, ap, subst, arith, append_assoc}
use Rattle.std.specs.Prelude.{◌==◌, OnOk, slice_get, IfSome}
use Rattle.std.specs.List.{join_with_byte, flat_map}
use Rattle.std.specs.Fmt.{decimal}
use Rattle.std.proofs.lemmas.List.{take_all, flat_map_more}
use Rattle.mixed_language.specs.declared.language.Slot.{Slot}
use Rattle.mixed_language.specs.Circuit.{Circuit, Statement, Shape}
use Rattle.mixed_circuit.specs.Written.{slot_word, slot_words, places_behind, statement_words, line_of, headers, canonical}
use Rattle.mot_base.proofs.Lists.{take_next}
use Rattle.text_lines.specs.Text.{Text}

pub on_ok : {E : Type 0} {A B : Type 0} (r : Result (Unit {0}) E) → (A → B) → OnOk r A → OnOk r B
on_ok (Ok u) f h = f h
on_ok (Err e) f h = tt

pub headers_are : (parties : ℕ) (old : Text) → ((old ++ (109 ∷ 105 ∷ 120 ∷ 101 ∷ 100 ∷ 32 ∷ 49 ∷ 10 ∷ 112 ∷ 97 ∷ 114 ∷ 116 ∷ 105 ∷ 101 ∷ 115 ∷ 32 ∷ [])) ++ decimal parties) ++ 10 ∷ [] ≡ old ++ headers parties
unfolding headers
headers_are parties old = append_assoc (old ++ (109 ∷ 105 ∷ 120 ∷ 101 ∷ 100 ∷ 32 ∷ 49 ∷ 10 ∷ 112 ∷ 97 ∷ 114 ∷ 116 ∷ 105 ∷ 101 ∷ 115 ∷ 32 ∷ [])) (decimal parties) (10 ∷ []) ∙ append_assoc old (109 ∷ 105 ∷ 120 ∷ 101 ∷ 100 ∷ 32 ∷ 49 ∷ 10 ∷ 112 ∷ 97 ∷ 114 ∷ 116 ∷ 105 ∷ 101 ∷ 115 ∷ 32 ∷ []) (decimal parties ++ 10 ∷ [])

pub slots_cons : (slots : List Slot) (d : Slot) → 1 ≤ length slots → slots ≡ get_or slots 0 d ∷ take (length slots - 1) (drop 1 slots)
slots_cons [] d h = absurd (omega arith)
slots_cons (s ∷ slots) d h = ap (λ (rest : List Slot). s ∷ rest) (sym (take_all (length (s ∷ slots) - 1) slots (omega arith)))

joined_more : (word : Text) (all : List Statement) (name : Text) (shape : Shape) (places : List ℕ) (slots : List Slot) → (length slots == 0) ≡ false → join_with_byte 32 (word ∷ slot_words all name shape places slots) ≡ word ++ 32 ∷ join_with_byte 32 (slot_words all name shape places slots)
joined_more word all name shape places [] h = cc
joined_more word all name shape places (s ∷ slots) h = refl

-- a word, a space, and the words of the other slots
pub slots_more : (all : List Statement) (name : Text) (shape : Shape) (places behind : List ℕ) (slots : List Slot) (s : Slot) (rest : List Slot) (old first spaced new : Text) → slots ≡ s ∷ rest → (length rest == 0) ≡ false → behind ≡ places_behind s places → first ≡ old ++ slot_word all name shape places s → spaced ≡ first ++ 32 ∷ [] → new ≡ spaced ++ join_with_byte 32 (slot_words all name shape behind rest) → new ≡ old ++ join_with_byte 32 (slot_words all name shape places slots)
slots_more all name shape places behind slots s rest old first spaced new cut some left one two three =
    let word = slot_word all name shape places s in
    let words = slot_words all name shape (places_behind s places) rest in
    three
    ∙ ap (λ (p : List ℕ). spaced ++ join_with_byte 32 (slot_words all name shape p rest)) left
    ∙ ap (λ (t : Text). t ++ join_with_byte 32 words) (two ∙ ap (λ (t : Text). t ++ 32 ∷ []) one)
    ∙ append_assoc (old ++ word) (32 ∷ []) (join_with_byte 32 words)
    ∙ append_assoc old word (32 ∷ join_with_byte 32 words)
    ∙ ap (λ (t : Text). old ++ t) (sym (joined_more word all name shape (places_behind s places) rest some))
    ∙ ap (λ (ss : List Slot). old ++ join_with_byte 32 (slot_words all name shape places ss)) (sym cut)

-- the text of some first statements
abbrev pub WrittenTo : Circuit → Text → ℕ → Type 0
WrittenTo c text at = text ≡ headers c.parties ++ flat_map (λ s. line_of (statement_words c.statements s)) (take at c.statements)

some_at : (ss : List Statement) (i : ℕ) → i < length ss → (s : Statement) × (slice_get ss i ≡ Some s)
some_at [] i h = absurd (omega arith)
some_at (s ∷ ss) zero h = (s, refl)
some_at (s ∷ ss) (suc i) h = some_at ss i (omega arith)

pub written_more : (c : Circuit) (text next : Text) (at : ℕ) → at < length c.statements → WrittenTo c text at → IfSome (slice_get c.statements at) (λ s. next ≡ text ++ line_of (statement_words c.statements s)) → WrittenTo c next (at + 1)
written_more c text next at within to line =
    let there = some_at c.statements at within in
    let line_is = subst (λ (o : Option Statement). IfSome o (λ s. next ≡ text ++ line_of (statement_words c.statements s))) there.1 line in
    line_is
    ∙ ap (λ (t : Text). t ++ line_of (statement_words c.statements there.0)) to
    ∙ flat_map_more (λ s. line_of (statement_words c.statements s)) (headers c.parties) (take at c.statements) there.0
    ∙ ap (λ (ss : List Statement). headers c.parties ++ flat_map (λ s. line_of (statement_words c.statements s)) ss) (sym (take_next c.statements at there.0 there.1))

pub written_all : (c : Circuit) (text : Text) (at : ℕ) → length c.statements ≤ at → WrittenTo c text at → text ≡ canonical c
unfolding canonical
written_all c text at past to = to ∙ ap (λ (ss : List Statement). headers c.parties ++ flat_map (λ s. line_of (statement_words c.statements s)) ss) (take_all at c.statements past)
