-- What the pass makes of one word, and what the word then spells.
use Rattle.std.proofs.Common.{◌≡◌, ◌≢◌, ℕ, ◌<◌, ◌==◌, Bool, true, false, not, List, [], ◌∷◌, ◌++◌, length, codes, Some, None, Option, option_map, option_and_then, refl, ◌∙◌, ap, arith, inl, inr, append-nil}
use Rattle.std.specs.Prelude.{◌⊎◌, if◌then◌else◌, bytes_eq}
use Rattle.std.specs.Str.{byte}
use Rattle.std.specs.Option.{option_or}
use Rattle.std.proofs.lemmas.Bool.Decides.{nat_tests}
use Rattle.std.proofs.lemmas.Slice.Eq.{bytes_eq-Decides}
use Rattle.text_lines.specs.Text.{Text, is_empty}
use Rattle.cli_words.specs.Table.{flag, options}
use Rattle.cli_words.specs.Grammar.{IsPlain, option, word}
use Rattle.cli_words.specs.Pass.{is_plain, rest_after, rest_spelling, Next, after_spelling, option_step, options_step, first_step}
use Rattle.cli_words.specs.declared.table.OptionName.{OptionName}
use Rattle.cli_words.specs.declared.table.OptionName.TheVariants.{As, Parties, Dealer, Workers}
use Rattle.cli_words.specs.declared.pass.State.TheVariants.{Between, Awaiting, Behind}

pub plain_from : (w : Text) → is_plain w ≡ true → IsPlain w
plain_from [] h = cc
plain_from (x ∷ []) h = (λ e. cc, λ d. let more : 1 < length (x ∷ []) = d.0 in absurd (omega arith))
plain_from (x ∷ y ∷ rest) h = (λ e. cc, λ d. let same : Some x ≡ Some (byte "-") = d.1 in let e : x ≡ 45 = cc in grind (arith, nat_tests))

pub plain_to : (w : Text) → IsPlain w → is_plain w ≡ true
plain_to [] h = absurd (h.0 refl)
plain_to (x ∷ []) h = refl
plain_to (x ∷ y ∷ rest) h = differs x (λ e. h.1 (let more : 1 < length (x ∷ y ∷ rest) = omega arith in more, ap (λ c. Some c) e))
  where
    differs : (x : ℕ) → x ≢ 45 → not (x == 45) ≡ true
    differs x d = grind (arith, nat_tests, d)

pub after_is : (p w r : Text) → rest_after p w ≡ Some r → w ≡ p ++ r
after_is [] w r h = cc
after_is (c ∷ cs) [] r h = cc
after_is (c ∷ cs) (d ∷ ds) r h = next (d == c) (same d c) (after_is cs ds r) h
  where
    same : (d c : ℕ) → d == c ≡ true → d ≡ c
    same d c e = grind (arith, nat_tests)

    next : (b : Bool) → (b ≡ true → d ≡ c) → (rest_after cs ds ≡ Some r → ds ≡ cs ++ r)
        → (if b then rest_after cs ds else None) ≡ Some r → d ∷ ds ≡ (c ∷ cs) ++ r
    next true e after h = let tail : ds ≡ cs ++ r = after h in let head : d ≡ c = e refl in cc
    next false e after h = cc

-- whether a text is empty, by its length
pub empty_by_length : (text : Text) → (length text == 0) ≡ is_empty text
empty_by_length [] = refl
empty_by_length (c ∷ cs) = grind (arith, nat_tests)

-- what a word that begins a piece comes to
pub data First (w : Text) (next : Next) : Type 0 where
  lone : IsPlain w → next ≡ record { piece = Some (word w); state = Between } → First w next
  divider : w ≡ codes "--" → next ≡ record { piece = None; state = Behind } → First w next
  flagged : (o : OptionName) → w ≡ flag o → next ≡ record { piece = None; state = Awaiting o } → First w next
  joined : (o : OptionName) (v : Text) → v ≢ [] → w ≡ flag o ++ (codes "=" ++ v)
      → next ≡ record { piece = Some (option o v); state = Between } → First w next

rest_is : (o : OptionName) (rest : Text) (next : Next) (w : Text) → w ≡ flag o ++ rest
    → option_map (after_spelling o) (rest_spelling rest) ≡ Some next → First w next
rest_is o [] next w e h = flagged o (e ∙ append-nil (flag o)) (cc)
rest_is o (c ∷ []) next w e h = cc
rest_is o (c ∷ v ∷ vs) next w e h = go (c == 61) (same c) h
  where
    same : (c : ℕ) → c == 61 ≡ true → c ≡ 61
    same c e = grind (arith, nat_tests)

    go : (b : Bool) → (b ≡ true → c ≡ 61)
        → option_map (after_spelling o) (if b then Some (Some (v ∷ vs)) else None) ≡ Some next → First w next
    go true q h = joined o (v ∷ vs) (λ bad. cc) (e ∙ ap (λ (d : ℕ). flag o ++ (d ∷ v ∷ vs)) (q refl)) (cc)
    go false q h = cc

option_is : (o : OptionName) (w : Text) (next : Next) → option_step o w ≡ Some next → First w next
option_is o w next h = go (rest_after (flag o) w) refl h
  where
    go : (r : Option Text) → rest_after (flag o) w ≡ r
        → option_map (after_spelling o) (option_and_then rest_spelling r) ≡ Some next → First w next
    go None e h = cc
    go (Some rest) e h = rest_is o rest next w (after_is (flag o) w rest e) h

or_is : {X : Type 0} (a b : Option X) (x : X) → option_or a b ≡ Some x → (a ≡ Some x) ⊎ (b ≡ Some x)
or_is (Some y) b x h = inl h
or_is None b x h = inr h

options_is : (os : List OptionName) (w : Text) (next : Next) → options_step os w ≡ Some next → First w next
options_is [] w next h = cc
options_is (o ∷ os) w next h = elim (or_is (option_step o w) (options_step os w) next h) [
  | inl a ↦ option_is o w next a
  | inr b ↦ options_is os w next b
]

dashed_is : (w : Text) (next : Next) (b : Bool) → (b ≡ true → w ≡ codes "--")
    → (if b then Some (record { piece = None; state = Behind }) else options_step options w) ≡ Some next → First w next
dashed_is w next true e h = divider (e refl) (cc)
dashed_is w next false e h = options_is options w next h

pub first_is : (w : Text) (next : Next) → first_step w ≡ Some next → First w next
first_is w next h = go (is_plain w) refl h
  where
    go : (b : Bool) → is_plain w ≡ b
        → (if b then Some (record { piece = Some (word w); state = Between })
        else if bytes_eq w (codes "--") then Some (record { piece = None; state = Behind }) else options_step options w) ≡ Some next
        → First w next
    go true e h = lone (plain_from w e) (cc)
    go false e h = dashed_is w next (bytes_eq w (codes "--")) (bytes_eq-Decides w (codes "--")).0 h

pub step_plain : (w : Text) → IsPlain w → first_step w ≡ Some (record { piece = Some (word w); state = Between })
step_plain w h = rw (plain_to w h) refl

pub step_divider : first_step (codes "--") ≡ Some (record { piece = None; state = Behind })
step_divider = refl

pub step_flag : (o : OptionName) → first_step (flag o) ≡ Some (record { piece = None; state = Awaiting o })
step_flag As = refl
step_flag Parties = refl
step_flag Dealer = refl
step_flag Workers = refl

pub step_joined : (o : OptionName) (v : Text) → v ≢ []
    → first_step (flag o ++ (codes "=" ++ v)) ≡ Some (record { piece = Some (option o v); state = Between })
step_joined o [] h = absurd (h refl)
step_joined As (v ∷ vs) h = refl
step_joined Parties (v ∷ vs) h = refl
step_joined Dealer (v ∷ vs) h = refl
step_joined Workers (v ∷ vs) h = refl
