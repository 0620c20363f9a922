-- What is read behind the last line is whole.
use Rattle.std.proofs.Common.{ℕ, ◌≡◌, true, false, List, [], ◌∷◌, Ok, refl, subst}
use Rattle.std.specs.Prelude.{nat_le, nat_lt, length, ◌+◌}
use Rattle.std.specs.List.{list_all}
use Rattle.bristol_reader.specs.declared.stage.Stage.{Stage}
use Rattle.bristol_reader.specs.declared.stage.Stage.TheVariants.{Start, Sized, Entered, Body}
use Rattle.bristol_reader.specs.declared.cause.BristolCause.TheVariants.{NotText, Header, Counts, Leftover, OutputUnset}
use Rattle.bristol_reader.specs.Circuit.{Sizes, Circuit, Progress, are_outputs_set, no_gates}
use Rattle.bristol_reader.specs.Line.{numbers_of, adds}
use Rattle.bristol_reader.specs.Grammar.{sizes_of, sizes_in, sizes_said, widths_of, widths_in, widths_said, ended, behind_blank, behind_words, behind_content, behind_line, circuit_of, IsDone}
use Rattle.text_lines.specs.Text.{Text, is_allowed, words}
use Rattle.text_lines.specs.Chain.{or_cause, unless}
use Rattle.text_lines.proofs.ChainLemmas.{ok_then, unless_true}

ended_done : (p : Progress) (s : Stage) → ended true p ≡ Ok s → IsDone s
unfolding ended
ended_done p s h =
    let one = ok_then (unless Counts (nat_le p.stated (length p.circuit.gates))) _ s h in
    let two = ok_then (unless OutputUnset (are_outputs_set p.circuit)) _ s one.2 in
    let set : are_outputs_set p.circuit ≡ true = unless_true OutputUnset _ two.0 two.1 in
    let same : Body p ≡ s = (let e = two.2 in cc) in
    subst IsDone same set

blank_done : (stage s : Stage) → behind_blank true stage ≡ Ok s → IsDone s
blank_done Start s h = absurd cc
blank_done (Sized x) s h = absurd cc
blank_done (Entered x) s h = absurd cc
blank_done (Body p) s h = ended_done p s h

no_sizes : (ws : List Text) (x : Sizes) → sizes_said true ws ≡ Ok x → ⊥
unfolding sizes_said sizes_in
no_sizes ws x h =
    let one = ok_then (or_cause Header (numbers_of ws)) _ x h in
    let two = ok_then (or_cause Header (sizes_of one.0)) _ x one.2 in
    let e = two.2 in
    cc

no_widths : (wires : ℕ) (ws : List Text) (x : List ℕ) → widths_said true wires ws ≡ Ok x → ⊥
unfolding widths_said widths_in
no_widths wires ws x h =
    let one = ok_then (or_cause Header (numbers_of ws)) _ x h in
    let two = ok_then (or_cause Header (widths_of one.0)) _ x one.2 in
    let e = two.2 in
    cc

words_done : (stage s : Stage) (ws : List Text) → behind_words true stage ws ≡ Ok s → IsDone s
unfolding behind_words
words_done Start s ws h = let one = ok_then (sizes_said true ws) _ s h in absurd (no_sizes ws one.0 one.1)
words_done (Sized x) s ws h = let one = ok_then (widths_said true x.wires ws) _ s h in absurd (no_widths x.wires ws one.0 one.1)
words_done (Entered x) s ws h = let one = ok_then (widths_said false x.sizes.wires ws) _ s h in ended_done (no_gates x one.0) s one.2
words_done (Body p) s ws h =
    let one = ok_then (unless Counts (nat_le p.stated (length p.circuit.gates + 1))) _ s h in
    let two = ok_then (unless Leftover (nat_lt (length p.circuit.gates) p.stated)) _ s one.2 in
    let three = ok_then (adds p ws) _ s two.2 in
    ended_done three.0 s three.2

content_done : (stage s : Stage) (ws : List Text) → behind_content true stage ws ≡ Ok s → IsDone s
content_done stage s [] h = blank_done stage s h
content_done stage s (w ∷ ws) h = words_done stage s (w ∷ ws) h

pub line_done : (stage s : Stage) (line : Text) → behind_line true stage line ≡ Ok s → IsDone s
unfolding behind_line
line_done stage s line h =
    let one = ok_then (unless NotText (list_all is_allowed line)) _ s h in
    content_done stage s (words line) one.2

done_whole : (s : Stage) → IsDone s → (c : Circuit) × (circuit_of s ≡ Ok c)
done_whole Start h = absurd h
done_whole (Sized x) h = absurd h
done_whole (Entered x) h = absurd h
done_whole (Body p) h = (p.circuit, refl)

-- so a circuit stands behind the last line
pub line_whole : (stage s : Stage) (line : Text) → behind_line true stage line ≡ Ok s → (c : Circuit) × (circuit_of s ≡ Ok c)
line_whole stage s line h = done_whole s (line_done stage s line h)
