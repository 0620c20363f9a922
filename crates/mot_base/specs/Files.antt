-- What files hold, and what an answer of a call on them says of it.
use Rattle.std.specs.Prelude.{◌≡◌, ◌≢◌, ℕ, ◌<◌, ◌≤◌, List, length, Option, Some, None, Result, Ok, Err, IfSome, IsSomeAnd}
use Rattle.std.specs.declared.vec.Vec.{Vec}
use Rattle.std.specs.declared.alloc.Global.{Global}
use Rattle.mot_base.specs.Limits.{most_file_bytes}
use Rattle.mot_base.specs.declared.files.FileError.{FileError}
use Rattle.mot_base.specs.declared.files.FileError.TheVariants.{Failed, Missing, TooLong, NoMemory}

-- what each name holds: a list of bytes, or nothing
abbrev pub Holding : Type 0
Holding = List ℕ → Option (List ℕ)

-- a content that may be loaded
abbrev pub IsWithinLimit : List ℕ → Type 0
IsWithinLimit content = length content ≤ most_file_bytes

-- a content that is too long to be loaded
abbrev pub IsTooLong : List ℕ → Type 0
IsTooLong content = most_file_bytes < length content

-- What an answer of `load` says of what the name holds. Each answer but the last two says which of
-- the three it is: so `Missing` comes exactly where the name holds nothing and the call does not
-- fail, and `TooLong` exactly where the content is too long.
abbrev pub IsAnswerFor : Option (List ℕ) → Result (Vec ℕ Global) FileError → Type 0
IsAnswerFor held (Ok bytes) = held ≡ Some bytes.items
IsAnswerFor held (Err Missing) = held ≡ None
IsAnswerFor held (Err TooLong) = IsSomeAnd held IsTooLong
IsAnswerFor held (Err Failed) = IfSome held IsWithinLimit
IsAnswerFor held (Err NoMemory) = Unit {0}

-- where it is told what names hold, this name holds this content
abbrev pub HoldsUnder : Option Holding → List ℕ → List ℕ → Type 0
HoldsUnder told name content = IfSome told (λ held. held name ≡ Some content)

-- where it is told what names hold, it is still told, and all other names hold what they held
abbrev pub OthersStay : Option Holding → Option Holding → List ℕ → Type 0
OthersStay (Some before) (Some after) name = (other : List ℕ) → other ≢ name → after other ≡ before other
OthersStay (Some before) None name = ⊥
OthersStay None after name = Unit {0}
