-- The canonical text of a circuit, word by word and line by line.
use Rattle.std.proofs.Common.{ℕ, ◌≡◌, ◌<◌, ◌≤◌, ◌+◌, List, [], ◌∷◌, ◌++◌, length, map, take, Some, None, Option, Result, Ok, Err, refl, sym, ◌∙◌, ap, subst, append_assoc, append-nil}
use Rattle.std.specs.Prelude.{OnOk, slice_get, option_map, IfSome}
use Rattle.std.specs.List.{join_with_byte, flat_map}
use Rattle.std.specs.Fmt.{decimal}
use Rattle.std.proofs.lemmas.List.{flat_map_more, take_all}
use Rattle.std.proofs.lemmas.List.Folds.{flat_map-map}
use Rattle.std.proofs.lemmas.Option.{slice_get-get_or, none-some}
use Rattle.bristol_reader.specs.declared.kind.BristolKind.{BristolKind}
use Rattle.bristol_reader.specs.declared.kind.BristolKind.TheVariants.{Xor}
use Rattle.bristol_reader.specs.Kinds.{name_of}
use Rattle.bristol_reader.specs.Circuit.{Gate, Circuit}
use Rattle.bristol_reader.specs.Stored.{a_gate}
use Rattle.bristol_reader.specs.Written.{line_of, sizes_words, widths_words, gate_words, canonical, spaced}
use Rattle.bristol_reader.proofs.EvalLemmas.{gate_parts}
use Rattle.text_lines.specs.Text.{Text}
use Rattle.mot_base.proofs.Lists.{take_next}

pub on_ok : {E : Type 0} {A B : Type 0} (r : Result (Unit {0}) E) → (A → B) → OnOk r A → OnOk r B
on_ok (Ok u) f h = f h
on_ok (Err e) f h = tt

abbrev behind_space : Text → Text
behind_space w = 32 ∷ w

-- words that are joined are the first word, and each other behind a space
joined_spaced : (w : Text) (ws : List Text) → join_with_byte 32 (w ∷ ws) ≡ w ++ flat_map behind_space ws
joined_spaced w [] = sym (append-nil w)
joined_spaced w (v ∷ ws) = ap (λ (rest : Text). w ++ 32 ∷ rest) (joined_spaced v ws)

numbers_spaced : (ns : List ℕ) → flat_map behind_space (map decimal ns) ≡ spaced ns
numbers_spaced ns = flat_map-map behind_space decimal ns

one_more : (ws : List Text) (w : Text) → flat_map behind_space (ws ++ w ∷ []) ≡ flat_map behind_space ws ++ 32 ∷ w
one_more ws w = sym (flat_map_more behind_space [] ws w)

spaced_both : (ns ms : List ℕ) → spaced (ns ++ ms) ≡ spaced ns ++ spaced ms
spaced_both [] ms = refl
spaced_both (n ∷ ns) ms =
    ap (λ (rest : Text). (32 ∷ decimal n) ++ rest) (spaced_both ns ms)
    ∙ sym (append_assoc (32 ∷ decimal n) (spaced ns) (spaced ms))

pub widths_line : (widths : List ℕ) (old one two three : Text) (n : ℕ) → n ≡ length widths → one ≡ old ++ decimal n → two ≡ one ++ spaced widths → three ≡ two ++ 10 ∷ [] → three ≡ old ++ line_of (widths_words widths)
widths_line widths old one two three n count a b d =
    let first = decimal (length widths) in
    d
    ∙ ap (λ (t : Text). t ++ 10 ∷ []) (b ∙ ap (λ (t : Text). t ++ spaced widths) (a ∙ ap (λ (m : ℕ). old ++ decimal m) count))
    ∙ append_assoc (old ++ first) (spaced widths) (10 ∷ [])
    ∙ append_assoc old first (spaced widths ++ 10 ∷ [])
    ∙ ap (λ (t : Text). old ++ t) (sym (append_assoc first (spaced widths) (10 ∷ [])))
    ∙ ap (λ (t : Text). old ++ ((first ++ t) ++ 10 ∷ [])) (sym (numbers_spaced widths))
    ∙ ap (λ (t : Text). old ++ (t ++ 10 ∷ [])) (sym (joined_spaced first (map decimal widths)))

gate_text : (g : Gate) → line_of (gate_words g) ≡ (decimal (length g.ins) ++ ((32 ∷ decimal (length g.outs)) ++ ((spaced g.ins ++ spaced g.outs) ++ 32 ∷ name_of g.kind))) ++ 10 ∷ []
gate_text g =
    let numbers = map decimal (g.ins ++ g.outs) in
    let name = name_of g.kind in
    ap (λ (t : Text). t ++ 10 ∷ []) (joined_spaced (decimal (length g.ins)) (decimal (length g.outs) ∷ (numbers ++ name ∷ [])))
    ∙ ap (λ (t : Text). (decimal (length g.ins) ++ ((32 ∷ decimal (length g.outs)) ++ t)) ++ 10 ∷ []) (one_more numbers name ∙ ap (λ (t : Text). t ++ 32 ∷ name) (numbers_spaced (g.ins ++ g.outs) ∙ spaced_both g.ins g.outs))

flattened : (old x y ins outs name space end : Text) → (((((((old ++ x) ++ space) ++ y) ++ ins) ++ outs) ++ space) ++ name) ++ end ≡ old ++ ((x ++ ((space ++ y) ++ ((ins ++ outs) ++ (space ++ name)))) ++ end)
flattened old x y ins outs name space end = simp append_assoc

pub gate_line : (g : Gate) (old a b d e f h i j : Text) → a ≡ old ++ decimal (length g.ins) → b ≡ a ++ 32 ∷ [] → d ≡ b ++ decimal (length g.outs) → e ≡ d ++ spaced g.ins → f ≡ e ++ spaced g.outs → h ≡ f ++ 32 ∷ [] → i ≡ h ++ name_of g.kind → j ≡ i ++ 10 ∷ [] → j ≡ old ++ line_of (gate_words g)
gate_line g old a b d e f h i j pa pb pd pe pf ph pi pj =
    let ins = spaced g.ins in
    let outs = spaced g.outs in
    let x = decimal (length g.ins) in
    let y = decimal (length g.outs) in
    let name = name_of g.kind in
    let all : j ≡ (((((((old ++ x) ++ 32 ∷ []) ++ y) ++ ins) ++ outs) ++ 32 ∷ []) ++ name) ++ 10 ∷ [] =
    pj ∙ ap (λ (t : Text). t ++ 10 ∷ []) (pi ∙ ap (λ (t : Text). t ++ name) (ph ∙ ap (λ (t : Text). t ++ 32 ∷ []) (pf ∙ ap (λ (t : Text). t ++ outs) (pe ∙ ap (λ (t : Text). t ++ ins) (pd ∙ ap (λ (t : Text). t ++ y) (pb ∙ ap (λ (t : Text). t ++ 32 ∷ []) pa)))))) in
    all ∙ flattened old x y ins outs name (32 ∷ []) (10 ∷ []) ∙ ap (λ (t : Text). old ++ t) (sym (gate_text g))

pub gate_there : (gates : List Gate) (at : ℕ) (kind : BristolKind) (ins outs old new : Text) → option_map (λ g. g.kind) (slice_get gates at) ≡ Some kind → option_map (λ g. g.ins) (slice_get gates at) ≡ Some ins → option_map (λ g. g.outs) (slice_get gates at) ≡ Some outs → new ≡ old ++ line_of (gate_words (a_gate kind ins outs)) → IfSome (slice_get gates at) (λ g. new ≡ old ++ line_of (gate_words g))
gate_there gates at kind ins outs old new k i o written =
    subst (λ (found : Option Gate). IfSome found (λ g. new ≡ old ++ line_of (gate_words g))) (sym (gate_parts gates at kind ins outs k i o)) written

-- ---- the whole text

abbrev pub headers : Circuit → Text
headers c = line_of (sizes_words c) ++ line_of (widths_words c.inputs) ++ line_of (widths_words c.outputs)

-- how far a text is written
abbrev pub WrittenTo : Circuit → Text → ℕ → Type 0
WrittenTo c text at = text ≡ headers c ++ flat_map (λ g. line_of (gate_words g)) (take at c.gates)

written_some : (c : Circuit) (text after : Text) (at : ℕ) (o : Option Gate) → slice_get c.gates at ≡ o → at < length c.gates → WrittenTo c text at → IfSome o (λ g. after ≡ text ++ line_of (gate_words g)) → WrittenTo c after (at + 1)
written_some c text after at None there within to added =
    let some = slice_get-get_or c.gates at (a_gate Xor [] []) within in absurd (none-some _ (sym there ∙ some))
written_some c text after at (Some g) there within to added =
    added
    ∙ ap (λ (t : Text). t ++ line_of (gate_words g)) to
    ∙ flat_map_more (λ (k : Gate). line_of (gate_words k)) (headers c) (take at c.gates) g
    ∙ ap (λ (gs : List Gate). headers c ++ flat_map (λ k. line_of (gate_words k)) gs) (sym (take_next c.gates at g there))

pub written_more : (c : Circuit) (text after : Text) (at : ℕ) → at < length c.gates → WrittenTo c text at → IfSome (slice_get c.gates at) (λ g. after ≡ text ++ line_of (gate_words g)) → WrittenTo c after (at + 1)
written_more c text after at within to added = written_some c text after at (slice_get c.gates at) refl within to added

pub written_all : (c : Circuit) (text : Text) (at : ℕ) → length c.gates ≤ at → WrittenTo c text at → text ≡ canonical c
unfolding canonical
written_all c text at past to =
    let one = line_of (sizes_words c) in
    let two = line_of (widths_words c.inputs) in
    let three = line_of (widths_words c.outputs) in
    let rest = flat_map (λ g. line_of (gate_words g)) c.gates in
    to
    ∙ ap (λ (gs : List Gate). headers c ++ flat_map (λ g. line_of (gate_words g)) gs) (take_all at c.gates past)
    ∙ append_assoc (one ++ two) three rest
    ∙ append_assoc one two (three ++ rest)
    ∙ ap (λ (t : Text). one ++ (two ++ (three ++ t))) (sym (flat_map-map line_of gate_words c.gates))

pub headers_written : (c : Circuit) (start one two three : Text) (ins outs : List ℕ) → start ≡ [] → one ≡ start ++ line_of (sizes_words c) → ins ≡ c.inputs → two ≡ one ++ line_of (widths_words ins) → outs ≡ c.outputs → three ≡ two ++ line_of (widths_words outs) → WrittenTo c three 0
headers_written c start one two three ins outs none a i b o d =
    d
    ∙ ap (λ (ws : List ℕ). two ++ line_of (widths_words ws)) o
    ∙ ap (λ (t : Text). t ++ line_of (widths_words c.outputs))
    (b
    ∙ ap (λ (ws : List ℕ). one ++ line_of (widths_words ws)) i
    ∙ ap (λ (t : Text). t ++ line_of (widths_words c.inputs)) (a ∙ ap (λ (t : Text). t ++ line_of (sizes_words c)) none))
    ∙ sym (append-nil (headers c))
