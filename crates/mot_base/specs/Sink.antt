-- What was appended to a sink.
use Rattle.std.specs.Prelude.{ℕ, List, ◌++◌, Option, Some, None}

-- what was appended so far, where that is told, and then more
abbrev pub with_more : Option (List ℕ) → List ℕ → Option (List ℕ)
with_more (Some appended) more = Some (appended ++ more)
with_more None more = None
