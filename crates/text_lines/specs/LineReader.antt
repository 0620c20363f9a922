-- Languages that are read line by line: which texts read, and which line of any other text shows the first
-- fault.
use Rattle.std.specs.Prelude.{ℕ, ◌≡◌, ◌+◌, List, [], ◌∷◌, ◌++◌, length, Result, Ok, Err, ◌⊎◌}
use Rattle.text_lines.specs.Text.{Text, lines}

-- A language: what is known before the first line; what is known behind a line, or the first cause that the
-- line shows; and what is read behind all lines, or the cause that stands at the last one
pub record LineReader (S X C : Type 0) : Type 0 where
  pub start : S
  pub behind : S → Text → Result S C
  pub whole : S → Result X C

-- lines that show no cause lead from what was known before them to what is known behind them
abbrev pub Lead : {S X C : Type 0} → LineReader S X C → S → List Text → S → Type 0
Lead r from [] to = from ≡ to
Lead {S} r from (line ∷ more) to = (next : S) × (r.behind from line ≡ Ok next) × Lead r next more to

-- a text reads as x: no line shows a cause, and x is read behind all of them
pub record ReadsAs (S X C : Type 0) (r : LineReader S X C) (text : Text) (x : X) : Type 0 where
  pub end : S
  pub lead : Lead r r.start (lines text) end
  pub whole : r.whole end ≡ Ok x

-- a line shows a cause, and no line before it shows any
pub record ShowsFirst (S X C : Type 0) (r : LineReader S X C) (ls : List Text) (line : ℕ) (cause : C)
    : Type 0 where
  pub before : List Text
  pub here : Text
  pub after : List Text
  pub parts : ls ≡ before ++ here ∷ after
  pub number : line ≡ length before + 1
  pub known : S
  pub lead : Lead r r.start before known
  pub shows : r.behind known here ≡ Err cause

-- no line shows a cause, and one stands at the last line
pub record EndsWith (S X C : Type 0) (r : LineReader S X C) (ls : List Text) (line : ℕ) (cause : C)
    : Type 0 where
  pub known : S
  pub lead : Lead r r.start ls known
  pub last : line ≡ length ls
  pub shows : r.whole known ≡ Err cause

-- the first line of a text that shows a cause, and the first cause of that line
abbrev pub FirstFaultOf : {S X C : Type 0} → LineReader S X C → Text → ℕ → C → Type 0
FirstFaultOf {S} {X} {C} r text line cause =
    ShowsFirst S X C r (lines text) line cause ⊎ EndsWith S X C r (lines text) line cause

-- of a text exactly one is the case: it reads as one value, or one line and cause are its first fault
pub record ReadsOrFaults (S X C : Type 0) (r : LineReader S X C) (text : Text) : Type 0 where
  pub some : ((x : X) × ReadsAs S X C r text x) ⊎ ((line : ℕ) × (cause : C) × FirstFaultOf r text line cause)
  pub not_both : (x : X) (line : ℕ) (cause : C) → ReadsAs S X C r text x → FirstFaultOf r text line cause → ⊥
  pub one_value : (x y : X) → ReadsAs S X C r text x → ReadsAs S X C r text y → x ≡ y
  pub one_fault : (line other : ℕ) (cause another : C) →
      FirstFaultOf r text line cause → FirstFaultOf r text other another → (line ≡ other) × (cause ≡ another)
