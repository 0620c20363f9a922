-- The canonical text of a circuit reads as that circuit.
use Rattle.std.proofs.lemmas.Option.{slice_get_within}
use Rattle.std.proofs.lemmas.List.{length-append, take-append-le}
use Rattle.std.proofs.Common.{ℕ, ◌≡◌, ◌≤◌, Bool, true, ◌&&◌, List, [], ◌∷◌, ◌++◌, length, map, Some, Ok, refl, sym, ◌∙◌, ap, subst, arith, append_assoc, append-nil, ◌<◌}
use Rattle.std.specs.Prelude.{slice_get, codes}
use Rattle.std.specs.List.{list_all, join_with_byte, flat_map}
use Rattle.std.specs.Fmt.{decimal}
use Rattle.std.proofs.lemmas.List.Folds.{flat_map-map}
use Rattle.std.proofs.Math.Seq.{take-append_seam}
use Rattle.mot_base.specs.Limits.{least_parties, most_parties, most_statements}
use Rattle.mixed_circuit.specs.declared.read.Stage.{Stage}
use Rattle.mixed_circuit.specs.declared.read.Stage.TheVariants.{Start, Titled, Body}
use Rattle.mixed_language.specs.Circuit.{Circuit, Statement, with_statement, no_statements}
use Rattle.mixed_circuit.specs.Line.{operation_of, parts_of, said}
use Rattle.mixed_language.specs.Valid.{IsStatement, IsCircuit}
use Rattle.mixed_circuit.specs.Grammar.{circuits, adds, behind, behind_words, parties_of, Reads}
use Rattle.mixed_circuit.specs.Written.{statement_words, line_of, headers, canonical}
use Rattle.mixed_language.proofs.CircuitLemmas.{fields}
use Rattle.text_lines.proofs.JoinedLemmas.{is_plain_word, is_inner, ended, joined_inner, joined_allowed, line_words_joined, lines_ended}
use Rattle.mixed_circuit.proofs.SlotLemmas.{decimal_within}
use Rattle.text_lines.proofs.DecimalLemmas.{decimal_plain}
use Rattle.mixed_circuit.proofs.SaidAgainLemmas.{SaysAgain, says_again, there_in_front}
use Rattle.text_lines.specs.LineReader.{Lead}
use Rattle.text_lines.specs.Text.{Text, lines}
use Rattle.mot_base.proofs.Lists.{true_both as both}

-- ---- one line

-- behind a canonical line is what stands behind its words
behind_joined : (stage : Stage) (w : Text) (ws : List Text) → list_all is_plain_word (w ∷ ws) ≡ true →
    behind stage (join_with_byte 32 (w ∷ ws)) ≡ behind_words stage (w ∷ ws)
unfolding behind
behind_joined stage w ws plain = rw (joined_allowed (w ∷ ws) plain, line_words_joined w ws plain) refl

no_words : (c : Circuit) (s : Statement) → said c [] ≡ Ok s → ⊥
unfolding said parts_of operation_of
no_words c s h = cc

with_said : (c : Circuit) (ws : List Text) (s : Statement) → said c ws ≡ Ok s →
    behind_words (Body c) ws ≡ Ok (Body (with_statement c s))
unfolding behind_words adds
with_said c ws s h = rw h refl

behind_statement : (c : Circuit) (ws : List Text) (s : Statement) → list_all is_plain_word ws ≡ true →
    said c ws ≡ Ok s → behind (Body c) (join_with_byte 32 ws) ≡ Ok (Body (with_statement c s))
behind_statement c [] s plain says = absurd (no_words c s says)
behind_statement c (w ∷ ws) s plain says = behind_joined (Body c) w ws plain ∙ with_said c (w ∷ ws) s says

-- ---- the header lines

abbrev title_words : List Text
title_words = codes "mixed" ∷ codes "1" ∷ []

abbrev parties_words : ℕ → List Text
parties_words parties = codes "parties" ∷ decimal parties ∷ []

titled : behind_words Start title_words ≡ Ok Titled
unfolding behind_words
titled = refl

with_parties : (parties : ℕ) → parties_of (parties_words parties) ≡ Some parties →
    behind_words Titled (parties_words parties) ≡ Ok (Body (no_statements parties))
unfolding behind_words
with_parties parties h = rw h refl

parties_plain : (parties : ℕ) → parties ≤ 8 → list_all is_plain_word (parties_words parties) ≡ true
parties_plain parties few = ap (λ (b : Bool). b && true) (decimal_plain parties (omega arith))

behind_title : behind Start (join_with_byte 32 title_words) ≡ Ok Titled
behind_title = behind_joined Start (codes "mixed") (codes "1" ∷ []) refl ∙ titled

behind_parties : (parties : ℕ) → least_parties ≤ parties → parties ≤ most_parties →
    behind Titled (join_with_byte 32 (parties_words parties)) ≡ Ok (Body (no_statements parties))
behind_parties parties some few =
    behind_joined Titled (codes "parties") (decimal parties ∷ []) (parties_plain parties few)
    ∙ with_parties parties (decimal_within 2 8 parties some few (omega arith))

-- ---- the lines of the statements

abbrev line_in : List Statement → Statement → Text
line_in all s = join_with_byte 32 (statement_words all s)

-- the lines of some last statements lead on to the circuit of all, and have no line end in them
record IsWritten (parties : ℕ) (all before after : List Statement) : Type 0 where
  lead : Lead circuits (Body (fields parties before)) (map (line_in all) after) (Body (fields parties all))
  inner : list_all (list_all is_inner) (map (line_in all) after) ≡ true

last_there : (before : List Statement) (s : Statement) (after : List Statement) →
    slice_get (before ++ s ∷ after) (length before) ≡ Some s
last_there [] s after = refl
last_there (t ∷ before) s after = last_there before s after

-- the first statements of a circuit are a circuit
front_circuit : (parties : ℕ) (before after : List Statement) → IsCircuit (fields parties (before ++ after)) →
    IsCircuit (fields parties before)
front_circuit parties before after circuit = record {
  some_parties = circuit.some_parties;
  most_parties = circuit.most_parties;
  few = let all = circuit.few in let long = length-append before after in omega (arith, all, long);
  each = λ at t there.
      let within = slice_get_within before at t there in
      subst (λ (front : List Statement). IsStatement parties front t) (take-append-le at before after (omega (arith, within)))
      (circuit.each at t (there_in_front before after at t there));
}

said_there : (parties : ℕ) (before : List Statement) (s : Statement) (after : List Statement) →
    IsCircuit (fields parties (before ++ s ∷ after)) → IsStatement parties before s
said_there parties before s after circuit =
    subst (λ (front : List Statement). IsStatement parties front s) (take-append_seam before (s ∷ after))
    (circuit.each (length before) s (last_there before s after))

written_behind : (parties : ℕ) (all before after : List Statement) → IsCircuit (fields parties all) →
    before ++ after ≡ all → IsWritten parties all before after
written_behind parties all before [] circuit cut = record {
  lead = ap (λ (ss : List Statement). Body (fields parties ss)) (sym (append-nil before) ∙ cut);
  inner = refl;
}
written_behind parties all before (s ∷ after) circuit cut =
    let whole = subst (λ (ss : List Statement). IsCircuit (fields parties ss)) (sym cut) circuit in
    let said = said_there parties before s after whole in
    let room : length before < most_statements =
    (let all = whole.few in let long = length-append before (s ∷ after) in omega (arith, all, long)) in
    let again =
    says_again parties before (s ∷ after) s circuit.most_parties (front_circuit parties before (s ∷ after) whole) room said in
    let P : List Statement → Type 0 = λ ss. SaysAgain (fields parties before) s (statement_words ss s) in
    let words = subst P cut again in
    let next = append_assoc before (s ∷ []) after ∙ cut in
    let rest = written_behind parties all (before ++ s ∷ []) after circuit next in
    record {
      lead = (
        Body (fields parties (before ++ s ∷ [])),
        behind_statement (fields parties before) (statement_words all s) s words.plain words.says,
        rest.lead,
      );
      inner =
          both (list_all is_inner (line_in all s)) (list_all (list_all is_inner) (map (line_in all) after))
          (joined_inner (statement_words all s) words.plain) rest.inner;
    }

-- ---- the whole text

abbrev lines_of : Circuit → List Text
lines_of c =
    join_with_byte 32 title_words
    ∷ join_with_byte 32 (parties_words c.parties)
    ∷ map (line_in c.statements) c.statements

canonical_lines : (c : Circuit) → ended (lines_of c) ≡ canonical c
unfolding canonical headers
canonical_lines c =
    let title = line_of title_words in
    let second = line_of (parties_words c.parties) in
    ap (λ (rest : Text). title ++ (second ++ rest))
    (flat_map-map (λ (line : Text). line ++ 10 ∷ []) (line_in c.statements) c.statements)
    ∙ sym (append_assoc title second (flat_map (λ s. line_of (statement_words c.statements s)) c.statements))

pub reads_back : (c : Circuit) → IsCircuit c → Reads (canonical c) c
reads_back c circuit =
    let rest = written_behind c.parties c.statements [] c.statements circuit refl in
    let lead : Lead circuits Start (lines_of c) (Body c) = (
      Titled,
      behind_title,
      (
        Body (no_statements c.parties),
        behind_parties c.parties circuit.some_parties circuit.most_parties,
        rest.lead,
      ),
    ) in
    let inner : list_all (list_all is_inner) (lines_of c) ≡ true =
    both (list_all is_inner (join_with_byte 32 (parties_words c.parties))) _
    (joined_inner (parties_words c.parties) (parties_plain c.parties circuit.most_parties)) rest.inner in
    let read =
    lines_ended (join_with_byte 32 title_words)
    (join_with_byte 32 (parties_words c.parties) ∷ map (line_in c.statements) c.statements) inner in
    record {
      end = Body c;
      lead =
          subst (λ (ls : List Text). Lead circuits Start ls (Body c))
          (sym (ap lines (sym (canonical_lines c)) ∙ read)) lead;
      whole = refl;
    }

-- a text that is the canonical one of a circuit reads as it
pub text_reads_back : (c : Circuit) (text : Text) → IsCircuit c → text ≡ canonical c → Reads text c
text_reads_back c text circuit is = subst (λ (t : Text). Reads t c) (sym is) (reads_back c circuit)
