-- The lines of a text and the words of a line.
use Rattle.std.specs.Prelude.{ℕ, Bool, false, true, not, ◌==◌, ◌||◌, ◌&&◌, ◌-◌, nat_le, length, take, slice_index_or, List, [], ◌∷◌, if◌then◌else◌, filter, Option, Some, None}
use Rattle.std.specs.List.{slice_split, before_first}

-- a list of bytes
abbrev pub Text : Type 0
Text = List ℕ

abbrev pub is_empty : Text → Bool
is_empty [] = true
is_empty (b ∷ bs) = false

-- LF, the byte that ends a line
abbrev pub is_line_end : ℕ → Bool
is_line_end b = b == 10

-- a byte that separates words: a tab, a CR or a space
abbrev pub is_blank : ℕ → Bool
is_blank b = b == 9 || b == 13 || b == 32

-- a byte that a text may have: a tab, a line end, a CR, a space or a printable character of ASCII
abbrev pub is_allowed : ℕ → Bool
is_allowed b = is_blank b || is_line_end b || (nat_le 32 b && nat_le b 126)

-- a text without the line end that stands at its end, if one does
abbrev pub without_last_end : Text → Text
without_last_end text =
    if is_line_end (slice_index_or text (length text - 1) 0) then take (length text - 1) text else text

-- the lines of a text: the parts between its line ends, of which one at the end of the text begins no
-- further line. So an empty text has one empty line
abbrev pub lines : Text → List Text
lines text = slice_split is_line_end (without_last_end text)

-- the lines that are left where a text is left, and none where none is
abbrev pub lines_left : Option Text → List Text
lines_left None = []
lines_left (Some text) = slice_split is_line_end text

-- a line without its comment, which begins at `#`
abbrev pub without_comment : Text → Text
without_comment line = before_first (λ b. b == 35) line

-- the words of a line: the parts between its blanks that are not empty
abbrev pub words : Text → List Text
words line = filter (λ part. not (is_empty part)) (slice_split is_blank line)

-- the words of a line behind which a comment may stand
abbrev pub line_words : Text → List Text
line_words line = words (without_comment line)
