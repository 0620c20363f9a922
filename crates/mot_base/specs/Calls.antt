-- The calls that files were asked for.
use Rattle.std.specs.Prelude.{ℕ, List, Bool, true, false, Result, Ok, Err}
use Rattle.mot_base.specs.declared.files.FileAction.{FileAction}
use Rattle.mot_base.specs.declared.files.FileAction.TheVariants.{Load, Store}
use Rattle.mot_base.specs.declared.files.FileError.{FileError}
use Rattle.mot_base.specs.declared.files.FileError.TheVariants.{Failed, Missing, TooLong, NoMemory}

-- one call: what it asked for, of which name, and whether it failed
pub record FileCall : Type 0 where
  pub action : FileAction
  pub name : List ℕ
  pub failed : Bool

-- whether an answer is a failure: the system failed, and no other cause kept the call from its end
abbrev pub has_failed : {T : Type 0} → Result T FileError → Bool
has_failed (Ok value) = false
has_failed (Err Failed) = true
has_failed (Err Missing) = false
has_failed (Err TooLong) = false
has_failed (Err NoMemory) = false

-- a load of the name, with its answer
abbrev pub load_call : {T : Type 0} → List ℕ → Result T FileError → FileCall
load_call name answer = record { action = Load; name = name; failed = has_failed answer }

-- a store under the name, with its answer
abbrev pub store_call : {T : Type 0} → List ℕ → Result T FileError → FileCall
store_call name answer = record { action = Store; name = name; failed = has_failed answer }
