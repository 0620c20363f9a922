-- What the reader answers at a line, and at the last one.
use Rattle.std.proofs.Common.{ℕ, ◌≡◌, ◌+◌, ◌-◌, Bool, true, false, List, [], ◌∷◌, length, Result, Ok, Err, refl, sym, ◌∙◌, ap, subst, arith}
use Rattle.std.specs.Prelude.{IfOk, IfErr, ◌==◌}
use Rattle.std.proofs.lemmas.Bool.{eq-eqb, ne_eqb}
use Rattle.bristol_reader.specs.declared.stage.Stage.{Stage}
use Rattle.bristol_reader.specs.declared.stage.Stage.TheVariants.{Start}
use Rattle.bristol_reader.specs.declared.cause.BristolCause.{BristolCause}
use Rattle.text_lines.specs.declared.cause.TextError.{TextError}
use Rattle.text_lines.specs.declared.cause.TextError.TheVariants as text_error
use Rattle.bristol_reader.specs.Circuit.{Circuit}
use Rattle.bristol_reader.specs.Grammar.{Known, circuits, behind_line, behind, circuit_of, read_last, Reads, FirstFault, IsFirstFault}
use Rattle.text_lines.specs.Gives.{FailsAt, GivesAt}
use Rattle.text_lines.specs.Text.{Text, lines}
use Rattle.text_lines.specs.Chain.{◌>>=◌}
use Rattle.bristol_reader.proofs.LastLemmas.{line_whole}
use Rattle.text_lines.proofs.ChainLemmas.{ok_then}
use Rattle.text_lines.proofs.ReaderLemmas.{IsReadTo, read_none, read_more, read_fault, read_whole}

abbrev pub known : ℕ → Stage → Known
known left stage = record { left = left; stage = stage }

abbrev pub reader : Text → ℕ
reader text = length (lines text)

-- how far a text is read: the line that is next, and those behind it
abbrev pub ReadTo : Text → Stage → ℕ → Text → List Text → Type 0
ReadTo text stage number here left = IsReadTo Known Circuit BristolCause (circuits (reader text)) text (known (length left + 1) stage) number (here ∷ left)

pub read_start : (text here : Text) (left : List Text) → lines text ≡ here ∷ left → ReadTo text Start 0 here left
read_start text here left cut =
    let count : length (lines text) ≡ length left + 1 = ap length cut ∙ omega arith in
    let all = read_none Known Circuit BristolCause (circuits (reader text)) text in
    let some = subst (λ (ls : List Text). IsReadTo Known Circuit BristolCause (circuits (reader text)) text (known (reader text) Start) 0 ls) cut all in
    subst (λ (n : ℕ). IsReadTo Known Circuit BristolCause (circuits (reader text)) text (known n Start) 0 (here ∷ left)) count some

-- what is known behind a line, by whether it is the last
pub behind_known : (n : ℕ) (stage : Stage) (line : Text) (last : Bool) (r : Result Stage BristolCause) → (n == 1) ≡ last → behind_line last stage line ≡ r → behind (known n stage) line ≡ (r >>= (λ s. Ok (known (n - 1) s)))
unfolding behind
behind_known n stage line last r e h = ap (λ (b : Bool). behind_line b stage line >>= (λ s. Ok (known (n - 1) s))) e ∙ ap (λ (x : Result Stage BristolCause). x >>= (λ s. Ok (known (n - 1) s))) h

not_last : (left : List Text) (next : Text) → (length (next ∷ left) + 1 == 1) ≡ false
not_last left next = ne_eqb _ _ (λ e. omega arith)

pub one_more : (text : Text) (stage then : Stage) (number : ℕ) (here next : Text) (left behind_here : List Text) → ReadTo text stage number here behind_here → behind_here ≡ next ∷ left → behind_line false stage here ≡ Ok then → ReadTo text then (number + 1) next left
one_more text stage then number here next left behind_here to cut h =
    let from : ReadTo text stage number here (next ∷ left) = subst (λ (ls : List Text). ReadTo text stage number here ls) cut to in
    let step = read_more Known Circuit BristolCause (circuits (reader text)) text (known (length (next ∷ left) + 1) stage) (known (length (next ∷ left) + 1 - 1) then) number here (next ∷ left) from
    (behind_known (length (next ∷ left) + 1) stage here false _ (not_last left next) h) in
    let count : length (next ∷ left) + 1 - 1 ≡ length left + 1 = omega arith in
    subst (λ (n : ℕ). IsReadTo Known Circuit BristolCause (circuits (reader text)) text (known n then) (number + 1) (next ∷ left)) count step

fault_at : (text : Text) (stage : Stage) (number : ℕ) (here : Text) (left : List Text) (last : Bool) (cause : BristolCause) → ReadTo text stage number here left → (length left + 1 == 1) ≡ last → behind_line last stage here ≡ Err cause → FirstFault text (number + 1) cause
fault_at text stage number here left last cause to e h =
    read_fault Known Circuit BristolCause (circuits (reader text)) text (known (length left + 1) stage) number here left cause to
    (behind_known (length left + 1) stage here last _ e h)

pub fault_here : (text : Text) (stage : Stage) (number : ℕ) (here next : Text) (left behind_here : List Text) (e : TextError BristolCause) → ReadTo text stage number here behind_here → behind_here ≡ next ∷ left → FailsAt (number + 1) e (behind_line false stage here) → IsFirstFault text e
fault_here text stage number here next left behind_here text_error.NoMemory to cut fails = tt
fault_here text stage number here next left behind_here (text_error.At line cause) to cut fails =
    let from : ReadTo text stage number here (next ∷ left) = subst (λ (ls : List Text). ReadTo text stage number here ls) cut to in
    subst (λ (n : ℕ). FirstFault text n cause) (sym fails.0) (fault_at text stage number here (next ∷ left) false cause from (not_last left next) fails.1)

is_last : (left : List Text) → left ≡ [] → (length left + 1 == 1) ≡ true
is_last left none = let n = ap length none in eq-eqb _ _ (omega arith)

last_ok : (text : Text) (stage s : Stage) (number : ℕ) (here : Text) (left : List Text) (c : Circuit) → ReadTo text stage number here left → left ≡ [] → behind_line true stage here ≡ Ok s → circuit_of s ≡ Ok c → Reads text c
last_ok text stage s number here left c to none h e =
    let step = read_more Known Circuit BristolCause (circuits (reader text)) text (known (length left + 1) stage) (known (length left + 1 - 1) s) number here left to
    (behind_known (length left + 1) stage here true _ (is_last left none) h) in
    let end = subst (λ (ls : List Text). IsReadTo Known Circuit BristolCause (circuits (reader text)) text (known (length left + 1 - 1) s) (number + 1) ls) none step in
    read_whole Known Circuit BristolCause (circuits (reader text)) text (known (length left + 1 - 1) s) (number + 1) c end e

pub read_ok : (text : Text) (stage : Stage) (number : ℕ) (here : Text) (left : List Text) (r : Result Circuit (TextError BristolCause)) → ReadTo text stage number here left → left ≡ [] → GivesAt (λ c. c) (number + 1) r (read_last stage here) → IfOk r (λ c. Reads text c)
read_ok text stage number here left (Err e) to none gives = tt
read_ok text stage number here left (Ok c) to none gives =
    let parts = ok_then (behind_line true stage here) circuit_of c gives in
    last_ok text stage parts.0 number here left c to none parts.1 parts.2

-- the last line shows each cause itself
last_err : (r : Result Stage BristolCause) (cause : BristolCause) → ((s : Stage) → r ≡ Ok s → (c : Circuit) × (circuit_of s ≡ Ok c)) → (r >>= circuit_of) ≡ Err cause → r ≡ Err cause
last_err (Ok s) cause done h = let d = done s refl in let e = d.1 in absurd cc
last_err (Err e) cause done h = let same : e ≡ cause = cc in ap Err same

pub read_at : (text : Text) (stage : Stage) (number : ℕ) (here : Text) (left : List Text) (r : Result Circuit (TextError BristolCause)) → ReadTo text stage number here left → left ≡ [] → GivesAt (λ c. c) (number + 1) r (read_last stage here) → IfErr r (λ e. IsFirstFault text e)
read_at text stage number here left (Ok c) to none gives = tt
read_at text stage number here left (Err text_error.NoMemory) to none gives = tt
read_at text stage number here left (Err (text_error.At line cause)) to none gives =
    let shows = last_err (behind_line true stage here) cause (λ s h. line_whole stage s here h) gives.1 in
    subst (λ (n : ℕ). FirstFault text n cause) (sym gives.0) (fault_at text stage number here left true cause to (is_last left none) shows)
