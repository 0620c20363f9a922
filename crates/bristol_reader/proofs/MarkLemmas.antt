-- Marks of wires, one wire after another.
use Rattle.std.proofs.Common.{ℕ, ◌≡◌, ◌<◌, ◌≤◌, ◌+◌, Bool, true, false, not, ◌&&◌, ◌||◌, List, [], ◌∷◌, ◌++◌, length, take, drop, get_or, set, refl, sym, ◌∙◌, ap, subst, arith, inl, inr}
use Rattle.std.specs.Prelude.{◌==◌}
use Rattle.std.specs.List.{list_all}
use Rattle.std.proofs.lemmas.Bool.{and_from, and_parts, and_left, and_right, or_cases, or_parts, or_left, or_right, cases_eq, eq-eqb, ne_eqb, eqb-true, not_from_true, not_from_false}
use Rattle.std.proofs.lemmas.List.{take_more, length-set, get_or-set_same, get_or-set_other, take-append-drop, drop_more, take_all}
use Rattle.std.proofs.lemmas.List.Folds.{list_all-append, list_any-append, list_all_at}
use Rattle.bristol_reader.specs.Circuit.{is_among, are_apart}
use Rattle.bristol_reader.specs.Marks.{is_marked, are_new_to, IsMarked}
use Rattle.mot_base.proofs.Lists.{or_false, equal_turned as same_sym}

apart_bits : (a b p q : Bool) → (not (a || (p || false)) && (b && not q)) ≡ ((not a && b) && not (p || q))
apart_bits true b p q = refl
apart_bits false b true true = grind arith
apart_bits false true true false = refl
apart_bits false false true false = refl
apart_bits false true false q = refl
apart_bits false false false q = refl

-- wires are apart with one more, if that is not among them
pub apart_more : (ws : List ℕ) (w : ℕ) → are_apart (ws ++ w ∷ []) ≡ (are_apart ws && not (is_among ws w))
apart_more [] w = refl
apart_more (x ∷ ws) w =
    ap (λ (b : Bool). not b && are_apart (ws ++ w ∷ [])) (list_any-append (λ y. y == x) ws (w ∷ []))
    ∙ ap (λ (b : Bool). not (is_among ws x || (w == x || false)) && b) (apart_more ws w)
    ∙ ap (λ (b : Bool). not (is_among ws x || (b || false)) && (are_apart ws && not (is_among ws w))) (same_sym w x)
    ∙ apart_bits (is_among ws x) (are_apart ws) (x == w) (is_among ws w)

-- and they are not, if it is
pub not_apart : (ws : List ℕ) (w : ℕ) (more : List ℕ) → is_among ws w ≡ true → are_apart (ws ++ w ∷ more) ≡ false
not_apart [] w more h = cc
not_apart (x ∷ ws) w more h = elim (or_cases (x == w) (is_among ws w) h) [
  | inl here ↦ (let e = eqb-true x w here in
      and_left (not (is_among (ws ++ w ∷ more) x)) _
      (not_from_true _ (list_any-append (λ y. y == x) ws (w ∷ more)
      ∙ or_right (is_among ws x) _ (or_left (w == x) _ (eq-eqb w x (sym e))))))
  | inr later ↦ and_right (not (is_among (ws ++ w ∷ more) x)) _ (not_apart ws w more later)
]

-- how far wires are marked: none of the first was marked or stands twice
pub record MarkedTo (before : List Bool) (ws : List ℕ) (k : ℕ) (now : List Bool) : Type 0 where
  pub new : are_new_to before (take k ws) ≡ true
  pub marked : IsMarked before (take k ws) now

pub none_marked : (before : List Bool) (ws : List ℕ) → MarkedTo before ws 0 before
none_marked before ws = record {
  new = refl;
  marked = record { count = refl; each = λ w h. sym (or_false (is_marked before w)) };
}

new_more : (before : List Bool) (ws : List ℕ) (w : ℕ) → are_new_to before ws ≡ true → is_marked before w ≡ false → is_among ws w ≡ false → are_new_to before (ws ++ w ∷ []) ≡ true
new_more before ws w new unmarked apart =
    let parts = and_parts (list_all (λ v. not (is_marked before v)) ws) (are_apart ws) new in
    and_from _ _
    (list_all-append (λ v. not (is_marked before v)) ws (w ∷ [])
    ∙ and_from _ _ parts.0 (and_from _ true (not_from_false _ unmarked) refl))
    (apart_more ws w ∙ and_from _ _ parts.1 (not_from_false _ apart))

pub among_more : (ws : List ℕ) (v w : ℕ) → is_among (ws ++ v ∷ []) w ≡ (is_among ws w || (v == w))
among_more ws v w = list_any-append (λ y. y == w) ws (v ∷ []) ∙ ap (λ (b : Bool). is_among ws w || b) (or_false (v == w))

mark_each : (before now : List Bool) (ws : List ℕ) (v : ℕ) → v < length before → IsMarked before ws now → (w : ℕ) → w < length before → is_marked (set now v true) w ≡ (is_marked before w || is_among (ws ++ v ∷ []) w)
mark_each before now ws v within m w h =
    let count = m.count in
    elim (cases_eq v w) [
      | inl e ↦ (ap (is_marked (set now v true)) (sym e)
          ∙ get_or-set_same now v true false (omega arith)
          ∙ sym (or_right (is_marked before w) _ (among_more ws v w ∙ or_right (is_among ws w) _ (eq-eqb v w e))))
      | inr ne ↦ (get_or-set_other now v w true false (λ e. ne (sym e))
          ∙ m.each w h
          ∙ ap (λ (b : Bool). is_marked before w || b) (sym (among_more ws v w ∙ ap (λ (b : Bool). is_among ws w || b) (ne_eqb v w ne) ∙ or_false (is_among ws w))))
    ]

pub mark_more : (before now : List Bool) (ws : List ℕ) (k w : ℕ) → k < length ws → get_or ws k 0 ≡ w → w < length before → MarkedTo before ws k now → is_marked now w ≡ false → MarkedTo before ws (k + 1) (set now w true)
mark_more before now ws k w within here bound to free =
    let front = take k ws in
    let more : take (k + 1) ws ≡ front ++ w ∷ [] = take_more ws k 0 within ∙ ap (λ (x : ℕ). front ++ x ∷ []) here in
    let both = or_parts (is_marked before w) (is_among front w) (sym (to.marked.each w bound) ∙ free) in
    record {
      new = ap (are_new_to before) more ∙ new_more before front w to.new both.0 both.1;
      marked = record {
        count = length-set now w true ∙ to.marked.count;
        each = λ v h. mark_each before now front w bound to.marked v h ∙ ap (λ (xs : List ℕ). is_marked before v || is_among xs v) (sym more);
      };
    }

pub cut_at : (ws : List ℕ) (k : ℕ) → k < length ws → ws ≡ take k ws ++ get_or ws k 0 ∷ drop (k + 1) ws
cut_at ws k h = sym (take-append-drop k ws) ∙ ap (λ (r : List ℕ). take k ws ++ r) (drop_more ws k 0 h)

pub mark_fails : (before now : List Bool) (ws : List ℕ) (k w : ℕ) → k < length ws → get_or ws k 0 ≡ w → w < length before → MarkedTo before ws k now → is_marked now w ≡ true → are_new_to before ws ≡ false
mark_fails before now ws k w within here bound to marked =
    elim (or_cases (is_marked before w) (is_among (take k ws) w) (sym (to.marked.each w bound) ∙ marked)) [
      | inl old ↦ and_left _ (are_apart ws) (list_all_at (λ v. not (is_marked before v)) ws k 0 within (not_from_true _ (ap (is_marked before) here ∙ old)))
      | inr twice ↦ and_right (list_all (λ v. not (is_marked before v)) ws) _ (ap are_apart (cut_at ws k within ∙ ap (λ (x : ℕ). take k ws ++ x ∷ drop (k + 1) ws) here) ∙ not_apart (take k ws) w (drop (k + 1) ws) twice)
    ]

pub mark_whole : (before now : List Bool) (ws : List ℕ) (k : ℕ) → length ws ≤ k → MarkedTo before ws k now → (are_new_to before ws ≡ true) × IsMarked before ws now
mark_whole before now ws k past to =
    let all : take k ws ≡ ws = take_all k ws past in
    (ap (are_new_to before) (sym all) ∙ to.new, subst (λ (xs : List ℕ). IsMarked before xs now) all to.marked)
