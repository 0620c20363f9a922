-- What the steps of the code are to the functions that they compute.
use Rattle.std.proofs.Common.{◌≡◌, ◌≢◌, ℕ, ◌<◌, ◌≤◌, ◌+◌, ◌==◌, Bool, true, false, List, [], ◌∷◌, ◌++◌, length, drop, take, get_or, Some, None, Option, option_map, option_and_then, refl, sym, ◌∙◌, ap, ap₂, subst, inl, inr, arith, Bor, String, string_bytes}
use Rattle.std.specs.Prelude.{if◌then◌else◌, ◌⊎◌, bytes_eq, codes}
use Rattle.std.specs.Option.{option_copied, MatchOption}
use Rattle.std.specs.Str.Pattern.{FindsTextPrefix, StripsPrefix}
use Rattle.std.proofs.lemmas.List.{append_assoc, append-nil, map-append, drop_more, take_more, drop_all}
use Rattle.std.proofs.lemmas.Bool.Decides.{nat_tests}
use Rattle.text_lines.specs.Text.{Text, is_empty}
use Rattle.cli_words.specs.Table.{options}
use Rattle.cli_words.specs.Grammar.{Piece, option, word, words_of, texts}
use Rattle.cli_words.specs.Pass.{rest_after, rest_spelling, is_plain, options_step, first_step, is_allowed, Next, step, begun, at_end, cut, referents, piece_of, pieces_of}
use Rattle.cli_words.specs.declared.pass.Piece as declared
use Rattle.cli_words.specs.declared.pass.State.{State}
use Rattle.cli_words.proofs.Spelling.{after_is}
use Rattle.cli_words.specs.declared.table.OptionName.{OptionName}
use Rattle.cli_words.specs.declared.pass.State.TheVariants.{Between, Awaiting, Behind}
use Rattle.cli_words.proofs.Cutting.{cut_end, cut_step}

-- a value, where one was found
abbrev pub shown : Bool → List Text
shown true = [] ∷ []
shown false = []

-- what was found so far, and the values to come: whether all are allowed hangs on these alone
pub record IsAllowedSoFar (takes : Bool) (all : List Text) (found : Bool) (more : List Text) : Type 0 where
  pub is : is_allowed takes all ≡ is_allowed takes (shown found ++ more)
  pub taken : found ≡ true → takes ≡ true

-- What is stripped of a word.

after_to : (p r : Text) → rest_after p (p ++ r) ≡ Some r
after_to [] r = refl
after_to (c ∷ cs) r = rw (same c) (after_to cs r)
  where
    same : (c : ℕ) → c == c ≡ true
    same c = grind (arith, nat_tests)

none_after : (p w : Text) → ((rest : Text) → w ≢ p ++ rest) → rest_after p w ≡ None
none_after p w h = go (rest_after p w) (λ r. after_is p w r)
  where
    go : (o : Option Text) → ((r : Text) → o ≡ Some r → w ≡ p ++ r) → o ≡ None
    go None k = refl
    go (Some r) k = absurd (h r (k r refl))

pub stripped : (p w : Text) (r : Option (Bor Text))
    → MatchOption r ((rest : Text) → w ≢ p ++ rest) (λ x. StripsPrefix (FindsTextPrefix p) w x.now)
    → option_copied r ≡ rest_after p w
stripped p w None h = sym (none_after p w h)
stripped p w (Some x) (n, found, is, size) =
    let whole : w ≡ p ++ x.now = found.1 ∙ ap (λ (t : Text). p ++ t) (sym is) in
    let P : Text → Type 0 = λ t. Some x.now ≡ rest_after p t in
    subst P (sym whole) (sym (after_to p x.now))

pub no_value : (rest : Text) → is_empty rest ≡ false → ((r : Text) → rest ≢ 61 ∷ r) → None ≡ rest_spelling rest
no_value [] e h = cc
no_value (c ∷ []) e h = refl
no_value (c ∷ v ∷ vs) e h = go (c == 61) (λ k. grind (arith, nat_tests))
  where
    go : (b : Bool) → (b ≡ true → c ≡ 61) → None ≡ (if b then Some (Some (v ∷ vs)) else None)
    go false k = refl
    go true k = absurd (h (v ∷ vs) (ap (λ (d : ℕ). d ∷ v ∷ vs) (k refl)))

pub unstripped : (w : Text) (r : Option (Bor Text))
    → MatchOption r ((rest : Text) → w ≢ 61 ∷ rest) (λ x. w ≡ 61 ∷ x.now) → r ≡ None → is_empty w ≡ false
    → None ≡ rest_spelling w
unstripped w None h n e = no_value w e h
unstripped w (Some x) h n e = cc

pub other_word : (w : Text) (r : Option Next) → is_plain w ≡ false → bytes_eq w (codes "--") ≡ false
    → r ≡ options_step options w → r ≡ first_step w
other_word w r e k h = rw (e, k) h

-- The pass.

pub record IsCutTo (whole : Option (List Piece)) (so_far : List Piece) (state : State) (rest : List Text) : Type 0 where
  pub is : whole ≡ option_map (λ (more : List Piece). so_far ++ more) (cut state rest)

added : (so_far : List Piece) (p : Option Piece) (o : Option (List Piece))
    → option_map (λ (more : List Piece). so_far ++ more) (option_map (begun p) o)
    ≡ option_map (λ (more : List Piece). (so_far ++ begun p []) ++ more) o
added so_far p None = refl
added so_far None (Some more) = ap (λ (x : List Piece). Some (x ++ more)) (sym (append-nil so_far))
added so_far (Some p) (Some more) = ap (λ (x : List Piece). Some x) (sym (append_assoc so_far (p ∷ []) more))

pub cut_next : {whole : Option (List Piece)} {so_far : List Piece} {s : State} {w : Text} {rest : List Text} (n : Next)
    → IsCutTo whole so_far s (w ∷ rest) → step s w ≡ Some n
    → IsCutTo whole (so_far ++ begun n.piece []) n.state rest
cut_next {whole} {so_far} {s} {w} {rest} n h e =
    let one : cut s (w ∷ rest) ≡ option_map (begun n.piece) (cut n.state rest) =
    cut_step s w rest ∙ ap (option_and_then (λ (m : Next). option_map (begun m.piece) (cut m.state rest))) e in
    record { is = h.is ∙ ap (option_map (λ (more : List Piece). so_far ++ more)) one ∙ added so_far n.piece (cut n.state rest) }

pub cut_stops : {whole : Option (List Piece)} {so_far : List Piece} {s : State} {w : Text} {rest : List Text}
    → IsCutTo whole so_far s (w ∷ rest) → step s w ≡ None → whole ≡ None
cut_stops {whole} {so_far} {s} {w} {rest} h e =
    let one : cut s (w ∷ rest) ≡ None =
    cut_step s w rest ∙ ap (option_and_then (λ (m : Next). option_map (begun m.piece) (cut m.state rest))) e in
    h.is ∙ ap (option_map (λ (more : List Piece). so_far ++ more)) one

pub cut_done : {whole : Option (List Piece)} {so_far : List Piece} {s : State} {rest : List Text}
    → IsCutTo whole so_far s rest → rest ≡ [] → (s ≡ Between) ⊎ (s ≡ Behind) → whole ≡ Some so_far
cut_done {whole} {so_far} {s} {rest} h e k =
    let one : cut s rest ≡ at_end s = ap (λ (x : List Text). cut s x) e ∙ cut_end s in
    h.is ∙ ap (option_map (λ (more : List Piece). so_far ++ more)) (one ∙ ended s k) ∙ ap (λ (x : List Piece). Some x) (append-nil so_far)
  where
    ended : (s : State) → (s ≡ Between) ⊎ (s ≡ Behind) → at_end s ≡ Some []
    ended s (inl b) = ap at_end b
    ended s (inr b) = ap at_end b

pub cut_waits : {whole : Option (List Piece)} {so_far : List Piece} {s : State} {rest : List Text} (o : OptionName)
    → IsCutTo whole so_far s rest → rest ≡ [] → s ≡ Awaiting o → whole ≡ None
cut_waits {whole} {so_far} {s} {rest} o h e k =
    let one : cut s rest ≡ None = ap (λ (x : List Text). cut s x) e ∙ cut_end s ∙ ap at_end k in
    h.is ∙ ap (option_map (λ (more : List Piece). so_far ++ more)) one

pub texts_left : {A : Type 0} (words : List (String A)) (at : ℕ) (d : String A) → at < length words
    → texts (drop at words) ≡ string_bytes (get_or words at d) ∷ texts (drop (at + 1) words)
texts_left words at d h = ap (λ (x : List (String _)). texts x) (drop_more words at d h)

pub none_left : {A : Type 0} (words : List (String A)) (at : ℕ) → length words ≤ at → texts (drop at words) ≡ []
none_left words at h = ap (λ (x : List (String _)). texts x) (drop_all at words h)

-- The positional words.

one_word : (p : Piece) (rest : List Piece) → words_of (p ∷ rest) ≡ words_of (p ∷ []) ++ words_of rest
one_word (option o v) rest = refl
one_word (word w) rest = refl

pub words_next : (ps : List declared.Piece) (at : ℕ) (d : declared.Piece) (so_far new : List Text) → at < length ps
    → words_of (pieces_of ps) ≡ so_far ++ words_of (pieces_of (drop at ps))
    → new ≡ so_far ++ words_of (piece_of (get_or ps at d) ∷ [])
    → words_of (pieces_of ps) ≡ new ++ words_of (pieces_of (drop (at + 1) ps))
words_next ps at d so_far new within h e =
    let left : words_of (pieces_of (drop at ps)) ≡ words_of (piece_of (get_or ps at d) ∷ []) ++ words_of (pieces_of (drop (at + 1) ps)) =
    ap (λ (x : List declared.Piece). words_of (pieces_of x)) (drop_more ps at d within) ∙ one_word (piece_of (get_or ps at d)) (pieces_of (drop (at + 1) ps)) in
    h ∙ ap (λ (x : List Text). so_far ++ x) left ∙ sym (append_assoc so_far _ _)
    ∙ ap (λ (x : List Text). x ++ words_of (pieces_of (drop (at + 1) ps))) (sym e)

-- The canonical words.

pub pushed_word : {A : Type 0} (first : List Text) (old new : List (String A)) (s : String A) (more : List (Bor Text)) (at : ℕ) (d : Bor Text)
    → at < length more → texts old ≡ first ++ referents (take at more) → new ≡ old ++ s ∷ []
    → string_bytes s ≡ (get_or more at d).now → texts new ≡ first ++ referents (take (at + 1) more)
pushed_word first old new s more at d within h e k =
    let one : texts new ≡ texts old ++ (string_bytes s ∷ []) = ap (λ (x : List (String _)). texts x) e ∙ map-append string_bytes old (s ∷ []) in
    let two : referents (take (at + 1) more) ≡ referents (take at more) ++ ((get_or more at d).now ∷ []) =
    ap referents (take_more more at d within) ∙ map-append (λ (x : Bor Text). x.now) (take at more) (get_or more at d ∷ []) in
    one ∙ ap₂ (λ (x y : List Text). x ++ y) h (ap (λ (x : Text). x ∷ []) k) ∙ append_assoc first _ _
    ∙ ap (λ (x : List Text). first ++ x) (sym two)
