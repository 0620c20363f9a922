-- The pass cuts words into exactly the pieces that they spell.
use Rattle.std.proofs.Common.{◌≡◌, ℕ, Bool, true, false, List, [], ◌∷◌, ◌++◌, map, codes, Some, None, option_map, option_and_then, refl, sym, ◌∙◌, ap, inl, inr, subst}
use Rattle.std.specs.Prelude.{if◌then◌else◌}
use Rattle.std.proofs.lemmas.List.{append_assoc, append-nil}
use Rattle.text_lines.specs.Text.{Text}
use Rattle.cli_words.specs.Table.{flag}
use Rattle.cli_words.specs.Grammar.{IsPlain, Piece, option, word, Spells, SpellAll, NoneEmpty, IsSpelt, whole, divided}
use Rattle.cli_words.specs.Pass.{is_plain, Next, step, begun, at_end, cut}
use Rattle.cli_words.specs.declared.table.OptionName.{OptionName}
use Rattle.cli_words.specs.declared.pass.State.{State}
use Rattle.cli_words.specs.declared.pass.State.TheVariants.{Between, Awaiting, Behind}
use Rattle.cli_words.proofs.Steps.{mapped, chained}
use Rattle.cli_words.proofs.Spelling.{First, lone, divider, flagged, joined, first_is, plain_from, plain_to, step_plain, step_divider, step_flag, step_joined}

pub cut_end : (s : State) → cut s [] ≡ at_end s
unfolding cut
cut_end s = refl

pub cut_step : (s : State) (w : Text) (words : List Text)
    → cut s (w ∷ words) ≡ option_and_then (λ (n : Next). option_map (begun n.piece) (cut n.state words)) (step s w)
unfolding cut
cut_step s w words = refl

-- One word more.

after : (s : State) (w : Text) (words : List Text) (n : Next) (ps : List Piece)
    → step s w ≡ Some n → cut n.state words ≡ Some ps → cut s (w ∷ words) ≡ Some (begun n.piece ps)
after s w words n ps e h = cut_step s w words ∙ rw (e, h) refl

-- What pieces are to the words from where the pass stands.
Meant : State → List Text → List Piece → Type 0
Meant Between words pieces = IsSpelt words pieces
Meant (Awaiting o) words pieces =
    (v : Text) × (rest : List Text) × (ps : List Piece)
    × ((words ≡ v ∷ rest) × (IsPlain v × ((pieces ≡ option o v ∷ ps) × IsSpelt rest ps)))
Meant Behind words pieces = NoneEmpty words × (pieces ≡ map word words)

with_piece : (p : Piece) (front rest : List Text) (ps : List Piece)
    → Spells p front → IsSpelt rest ps → IsSpelt (front ++ rest) (p ∷ ps)
with_piece p front rest ps s (whole all) = whole (front, rest, (s, (refl, all)))
with_piece p front rest ps s (divided f before behind all none e q) =
    divided (p ∷ f) (front ++ before) behind (front, before, (s, (refl, all))) none
    (ap (λ (x : List Text). front ++ x) e ∙ sym (append_assoc front before _)) (ap (λ (x : List Piece). p ∷ x) q)

moved_first : (w : Text) (words : List Text) (n : Next) (ps : List Piece) → First w n
    → Meant n.state words ps → IsSpelt (w ∷ words) (begun n.piece ps)
unfolding Meant
moved_first w words n ps (lone p e) h =
    let P : Next → Type 0 = λ m. Meant m.state words ps → IsSpelt (w ∷ words) (begun m.piece ps) in
    subst P (sym e) (λ k. with_piece (word w) (w ∷ []) words ps (p, refl) k) h
moved_first w words n ps (divider d e) h =
    let P : Next → Type 0 = λ m. Meant m.state words ps → IsSpelt (w ∷ words) (begun m.piece ps) in
    subst P (sym e) (λ k. divided [] [] words refl k.0 (ap (λ (x : Text). x ∷ words) d) k.1) h
moved_first w words n ps (flagged o d e) h =
    let P : Next → Type 0 = λ m. Meant m.state words ps → IsSpelt (w ∷ words) (begun m.piece ps) in
    subst P (sym e) (λ k. flagged_words o w words ps d k) h
  where
    flagged_words : (o : OptionName) (w : Text) (words : List Text) (ps : List Piece) → w ≡ flag o
        → Meant (Awaiting o) words ps → IsSpelt (w ∷ words) ps
    flagged_words o w words ps d (v, rest, qs, (a, (p, (b, k)))) =
        let made : IsSpelt (flag o ∷ v ∷ rest) (option o v ∷ qs) =
        with_piece (option o v) (flag o ∷ v ∷ []) rest qs (inr (p, refl)) k in
        let words_are : w ∷ words ≡ flag o ∷ v ∷ rest = cc in
        let Q : List Text → Type 0 = λ x. IsSpelt x ps in
        let R : List Piece → Type 0 = λ x. IsSpelt (flag o ∷ v ∷ rest) x in
        subst Q (sym words_are) (subst R (sym b) made)
moved_first w words n ps (joined o v some d e) h =
    let P : Next → Type 0 = λ m. Meant m.state words ps → IsSpelt (w ∷ words) (begun m.piece ps) in
    subst P (sym e) (λ k. with_piece (option o v) (w ∷ []) words ps (inl (some, ap (λ (x : Text). x ∷ []) d)) k) h

behind_step : (c : ℕ) (cs : Text)
    → step Behind (c ∷ cs) ≡ Some (record { piece = Some (word (c ∷ cs)); state = Behind })
behind_step c cs = refl

moved : (s : State) (w : Text) (words : List Text) (n : Next) (ps : List Piece) → step s w ≡ Some n
    → Meant n.state words ps → Meant s (w ∷ words) (begun n.piece ps)
unfolding Meant
moved Between w words n ps e h = moved_first w words n ps (first_is w n e) h
moved (Awaiting o) w words n ps e h = go (is_plain w) refl e
  where
    go : (b : Bool) → is_plain w ≡ b
        → (if b then Some (record { piece = Some (option o w); state = Between }) else None) ≡ Some n
        → Meant (Awaiting o) (w ∷ words) (begun n.piece ps)
    go true p e =
        let same : record { piece = Some (option o w); state = Between } ≡ n = cc in
        let P : Next → Type 0 = λ m. Meant m.state words ps → Meant (Awaiting o) (w ∷ words) (begun m.piece ps) in
        subst P same (λ k. (w, words, ps, (refl, (plain_from w p, (refl, k))))) h
    go false p e = cc
moved Behind [] words n ps e h = cc
moved Behind (c ∷ cs) words n ps e h =
    let kept : step Behind (c ∷ cs) ≡ Some (record { piece = Some (word (c ∷ cs)); state = Behind }) = behind_step c cs in
    let same : record { piece = Some (word (c ∷ cs)); state = Behind } ≡ n = cc in
    let P : Next → Type 0 = λ m. Meant m.state words ps → Meant Behind ((c ∷ cs) ∷ words) (begun m.piece ps) in
    subst P same (λ k. (((λ bad. cc), k.0), ap (λ (x : List Piece). word (c ∷ cs) ∷ x) k.1)) h

sound : (words : List Text) (s : State) (pieces : List Piece) → cut s words ≡ Some pieces → Meant s words pieces
unfolding Meant
sound [] Between pieces h =
    let e : Some [] ≡ Some pieces = sym (cut_end Between) ∙ h in
    let none : [] ≡ pieces = cc in
    let P : List Piece → Type 0 = λ x. IsSpelt [] x in subst P none (whole refl)
sound [] (Awaiting o) pieces h = let e : None ≡ Some pieces = sym (cut_end (Awaiting o)) ∙ h in cc
sound [] Behind pieces h = let e : Some [] ≡ Some pieces = sym (cut_end Behind) ∙ h in (tt, cc)
sound (w ∷ words) s pieces h =
    let (n, (e, rest)) = chained _ (step s w) pieces (sym (cut_step s w words) ∙ h) in
    let (ps, (k, q)) = mapped (begun n.piece) (cut n.state words) pieces rest in
    let P : List Piece → Type 0 = λ x. Meant s (w ∷ words) x in
    subst P (sym q) (moved s w words n ps e (sound words n.state ps k))

pub spelt_from : (words : List Text) (pieces : List Piece) → cut Between words ≡ Some pieces → IsSpelt words pieces
unfolding Meant
spelt_from words pieces h = sound words Between pieces h

-- The other way.

piece_cut : (p : Piece) (front tail : List Text) (more : List Piece) → Spells p front
    → cut Between tail ≡ Some more → cut Between (front ++ tail) ≡ Some (p ∷ more)
piece_cut (option o v) front tail more (inl (some, e)) h =
    let P : List Text → Type 0 = λ x. cut Between (x ++ tail) ≡ Some (option o v ∷ more) in
    subst P (sym e) (after Between _ tail _ more (step_joined o v some) h)
piece_cut (option o v) front tail more (inr (plain, e)) h =
    let P : List Text → Type 0 = λ x. cut Between (x ++ tail) ≡ Some (option o v ∷ more) in
    let value : step (Awaiting o) v ≡ Some (record { piece = Some (option o v); state = Between }) = rw (plain_to v plain) refl in
    subst P (sym e) (after Between (flag o) (v ∷ tail) _ _ (step_flag o) (after (Awaiting o) v tail _ more value h))
piece_cut (word w) front tail more (plain, e) h =
    let P : List Text → Type 0 = λ x. cut Between (x ++ tail) ≡ Some (word w ∷ more) in
    subst P (sym e) (after Between w tail _ more (step_plain w plain) h)

all_cut : (ps : List Piece) (words tail : List Text) (more : List Piece) → SpellAll ps words
    → cut Between tail ≡ Some more → cut Between (words ++ tail) ≡ Some (ps ++ more)
all_cut [] words tail more e h =
    let P : List Text → Type 0 = λ x. cut Between (x ++ tail) ≡ Some more in subst P (sym e) h
all_cut (p ∷ ps) words tail more (front, rest, (s, (e, all))) h =
    let ih = all_cut ps rest tail more all h in
    let P : List Text → Type 0 = λ x. cut Between x ≡ Some (p ∷ (ps ++ more)) in
    let same : words ++ tail ≡ front ++ (rest ++ tail) =
    ap (λ (x : List Text). x ++ tail) e ∙ append_assoc front rest tail in
    subst P (sym same) (piece_cut p front (rest ++ tail) (ps ++ more) s ih)

behind_cut : (words : List Text) → NoneEmpty words → cut Behind words ≡ Some (map word words)
behind_cut [] h = cut_end Behind
behind_cut ([] ∷ words) h = absurd (h.0 refl)
behind_cut ((c ∷ cs) ∷ words) h = after Behind (c ∷ cs) words _ _ (behind_step c cs) (behind_cut words h.1)

pub spelt_to : (words : List Text) (pieces : List Piece) → IsSpelt words pieces → cut Between words ≡ Some pieces
spelt_to words pieces (whole all) =
    let k = all_cut pieces words [] [] all (cut_end Between) in
    ap (λ (x : List Text). cut Between x) (sym (append-nil words)) ∙ k ∙ ap (λ (x : List Piece). Some x) (append-nil pieces)
spelt_to words pieces (divided front before behind all none e q) =
    let tail : cut Between (codes "--" ∷ behind) ≡ Some (map word behind) =
    after Between (codes "--") behind _ _ step_divider (behind_cut behind none) in
    ap (λ (x : List Text). cut Between x) e ∙ all_cut front before _ _ all tail ∙ ap (λ (x : List Piece). Some x) (sym q)
