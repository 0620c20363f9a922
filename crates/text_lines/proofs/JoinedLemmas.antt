-- Words that are joined are the words of their line, and lines that are ended are the lines of their text.
use Rattle.std.proofs.Common.{ℕ, ◌≡◌, ◌-◌, Bool, true, false, not, ◌&&◌, ◌||◌, List, [], ◌∷◌, ◌++◌, length, take, refl, sym, ◌∙◌, ap, cond, arith, append_assoc, append-nil}
use Rattle.std.specs.Prelude.{◌==◌, nat_le, All, filter, slice_index_or}
use Rattle.std.specs.List.{list_all, join_with_byte, flat_map, slice_split, position_or_len}
use Rattle.std.proofs.lemmas.Bool.Decides.{nat_tests}
use Rattle.std.proofs.lemmas.List.{take_all, length-append}
use Rattle.std.proofs.lemmas.List.Folds.{list_all-append}
use Rattle.std.proofs.lemmas.List.Splits.{slice_split_at, slice_split_none}
use Rattle.std.proofs.lemmas.List.Sums.{AllPass-from_list_all, position_or_len_is}
use Rattle.std.proofs.Math.Seq.{get_or-append_seam, take-append_seam}
use Rattle.text_lines.specs.Text.{Text, is_empty, is_line_end, is_blank, is_allowed, without_last_end, lines, without_comment, words, line_words}
use Rattle.mot_base.proofs.Lists.{all_pass as implied_all, true_both as both, both_true}

-- ---- bytes

-- a byte of a canonical word: a printable one that is no space and begins no comment
abbrev pub is_plain : ℕ → Bool
is_plain b = (nat_le 33 b && nat_le b 126) && not (b == 35)

-- a canonical word: one such byte or more
abbrev pub is_plain_word : Text → Bool
is_plain_word word = not (is_empty word) && list_all is_plain word

-- a byte of a canonical line
abbrev pub is_inner : ℕ → Bool
is_inner b = is_plain b || b == 32

plain_not_blank : (b : ℕ) → is_plain b ≡ true → is_blank b ≡ false
plain_not_blank b h = grind (arith, nat_tests)

plain_inner : (b : ℕ) → is_plain b ≡ true → is_inner b ≡ true
plain_inner b h = grind (arith, nat_tests)

inner_no_hash : (b : ℕ) → is_inner b ≡ true → (b == 35) ≡ false
inner_no_hash b h = grind (arith, nat_tests)

inner_no_end : (b : ℕ) → is_inner b ≡ true → is_line_end b ≡ false
inner_no_end b h = grind (arith, nat_tests)

inner_allowed : (b : ℕ) → is_inner b ≡ true → is_allowed b ≡ true
inner_allowed b h = grind (arith, nat_tests)

none_pass : (p q : ℕ → Bool) → ((b : ℕ) → q b ≡ true → p b ≡ false) → (text : Text) → list_all q text ≡ true →
    All (λ b. p b ≡ false) text
none_pass p q h text e = λ k d within. h (slice_index_or text k d) (AllPass-from_list_all q text e k d within)

-- ---- parts that are joined by a byte at which they are cut

split_joined : (p q : ℕ → Bool) (c : ℕ) → p c ≡ true → ((b : ℕ) → q b ≡ true → p b ≡ false) →
    (part : Text) (parts : List Text) → list_all (list_all q) (part ∷ parts) ≡ true →
    slice_split p (join_with_byte c (part ∷ parts)) ≡ part ∷ parts
split_joined p q c cut h part [] good =
    slice_split_none p part (none_pass p q h part (both_true (list_all q part) true good).0)
split_joined p q c cut h part (next ∷ parts) good =
    let tests = both_true (list_all q part) (list_all (list_all q) (next ∷ parts)) good in
    slice_split_at p part c (join_with_byte c (next ∷ parts)) (none_pass p q h part tests.0) cut
    ∙ ap (λ (more : List Text). part ∷ more) (split_joined p q c cut h next parts tests.1)

-- ---- the words of a line

plain_parts : (ws : List Text) → list_all is_plain_word ws ≡ true → list_all (list_all is_plain) ws ≡ true
plain_parts ws h =
    implied_all (list_all is_plain) is_plain_word
    (λ w e. (both_true (not (is_empty w)) (list_all is_plain w) e).1) ws h

keep_some : (ws : List Text) → list_all is_plain_word ws ≡ true → filter (λ part. not (is_empty part)) ws ≡ ws
keep_some [] h = refl
keep_some (w ∷ ws) h =
    let tests = both_true (is_plain_word w) (list_all is_plain_word ws) h in
    let some = both_true (not (is_empty w)) (list_all is_plain w) tests.0 in
    ap
    (λ (b : Bool). cond b (w ∷ filter (λ part. not (is_empty part)) ws)
    (filter (λ part. not (is_empty part)) ws)) some.0
    ∙ ap (λ (more : List Text). w ∷ more) (keep_some ws tests.1)

pub words_joined : (w : Text) (ws : List Text) → list_all is_plain_word (w ∷ ws) ≡ true →
    words (join_with_byte 32 (w ∷ ws)) ≡ w ∷ ws
words_joined w ws h =
    ap (filter (λ part. not (is_empty part)))
    (split_joined is_blank is_plain 32 refl plain_not_blank w ws (plain_parts (w ∷ ws) h))
    ∙ keep_some (w ∷ ws) h

pub joined_inner : (ws : List Text) → list_all is_plain_word ws ≡ true →
    list_all is_inner (join_with_byte 32 ws) ≡ true
joined_inner [] h = refl
joined_inner (w ∷ []) h =
    implied_all is_inner is_plain plain_inner w
    (both_true (not (is_empty w)) (list_all is_plain w) (both_true (is_plain_word w) true h).0).1
joined_inner (w ∷ v ∷ ws) h =
    let tests = both_true (is_plain_word w) (list_all is_plain_word (v ∷ ws)) h in
    let first =
    implied_all is_inner is_plain plain_inner w
    (both_true (not (is_empty w)) (list_all is_plain w) tests.0).1 in
    list_all-append is_inner w (32 ∷ join_with_byte 32 (v ∷ ws))
    ∙ both _ _ first (joined_inner (v ∷ ws) tests.1)

no_comment : (line : Text) → list_all is_inner line ≡ true → without_comment line ≡ line
no_comment line h =
    let free = none_pass (λ b. b == 35) is_inner inner_no_hash line h in
    let past : position_or_len (λ b. b == 35) line ≡ length line =
    position_or_len_is (λ b. b == 35) line (length line) 0 (omega arith) (λ k within. free k 0 within)
    (λ within. absurd (omega arith)) in
    ap (λ (n : ℕ). take n line) past ∙ take_all (length line) line (omega arith)

pub line_words_joined : (w : Text) (ws : List Text) → list_all is_plain_word (w ∷ ws) ≡ true →
    line_words (join_with_byte 32 (w ∷ ws)) ≡ w ∷ ws
line_words_joined w ws h = ap words (no_comment (join_with_byte 32 (w ∷ ws)) (joined_inner (w ∷ ws) h))
    ∙ words_joined w ws h

pub joined_allowed : (ws : List Text) → list_all is_plain_word ws ≡ true →
    list_all is_allowed (join_with_byte 32 ws) ≡ true
joined_allowed ws h = implied_all is_allowed is_inner inner_allowed (join_with_byte 32 ws) (joined_inner ws h)

-- ---- the lines of a text

-- lines as a text, with a line end behind each
abbrev pub ended : List Text → Text
ended ls = flat_map (λ line. line ++ 10 ∷ []) ls

ended_joined : (line : Text) (ls : List Text) → ended (line ∷ ls) ≡ join_with_byte 10 (line ∷ ls) ++ 10 ∷ []
ended_joined line [] = append-nil (line ++ 10 ∷ [])
ended_joined line (next ∷ ls) =
    ap (λ (rest : Text). (line ++ 10 ∷ []) ++ rest) (ended_joined next ls)
    ∙ append_assoc line (10 ∷ []) (join_with_byte 10 (next ∷ ls) ++ 10 ∷ [])
    ∙ sym (append_assoc line (10 ∷ join_with_byte 10 (next ∷ ls)) (10 ∷ []))

last_end_off : (text : Text) → without_last_end (text ++ 10 ∷ []) ≡ text
last_end_off text =
    let count : length (text ++ 10 ∷ []) - 1 ≡ length text = simp length-append (omega arith) in
    ap (λ (n : ℕ). cond (is_line_end (slice_index_or (text ++ 10 ∷ []) n 0)) (take n (text ++ 10 ∷ []))
    (text ++ 10 ∷ [])) count
    ∙ ap (λ (b : ℕ). cond (is_line_end b) (take (length text) (text ++ 10 ∷ [])) (text ++ 10 ∷ []))
    (get_or-append_seam text 10 [] 0)
    ∙ take-append_seam text (10 ∷ [])

pub lines_ended : (line : Text) (ls : List Text) → list_all (list_all is_inner) (line ∷ ls) ≡ true →
    lines (ended (line ∷ ls)) ≡ line ∷ ls
lines_ended line ls h =
    ap lines (ended_joined line ls)
    ∙ ap (slice_split is_line_end) (last_end_off (join_with_byte 10 (line ∷ ls)))
    ∙ split_joined is_line_end is_inner 10 refl inner_no_end line ls h
