-- The steps of which commands are composed. Each says how it ends a command, or what comes after it. `rose`
-- says that the files' count of faults rose.
use Rattle.std.specs.Prelude.{ℕ, ◌≡◌, ◌≤◌, ◌⊎◌, length, codes, List, take, slice_get, Option, Some, None, IfSome, IsSomeAnd}
use Rattle.mot_base.specs.Limits.{most_file_bytes}
use Rattle.mot_base.specs.Files.{Holding, IsTooLong}
use Rattle.text_lines.specs.Text.{Text}
use Rattle.command_ends.specs.Outcome.{Outcome, file_refused}

-- What files are told to hold, where anything is told.

abbrev pub IsMissing : Option Holding → Text → Type 0
IsMissing told name = IfSome told (λ held. held name ≡ None)

abbrev pub IsOverlong : Option Holding → Text → Type 0
IsOverlong told name = IfSome told (λ held. IsSomeAnd (held name) IsTooLong)

abbrev pub IsContent : Option Holding → Text → Text → Type 0
IsContent told name content =
    (length content ≤ most_file_bytes) × IfSome told (λ held. held name ≡ Some content)

-- a file is not loaded: it is missing, or too long, or the files failed
abbrev pub IsUnloaded : Option Holding → Type 0 → Text → Outcome → Type 0
IsUnloaded told rose name end =
    (IsMissing told name × (end ≡ file_refused name (codes "missing")))
    ⊎ ((IsOverlong told name × (end ≡ file_refused name (codes "too long")))
    ⊎ (rose × (end ≡ file_refused name (codes "fault"))))

-- a file is loaded, and leads on with its content
abbrev pub Loads : Option Holding → Type 0 → Text → (Text → Outcome → Type 0) → Outcome → Type 0
Loads told rose name next end =
    IsUnloaded told rose name end ⊎ ((content : Text) × IsContent told name content × next content end)

-- two files are loaded, that of a circuit first
abbrev pub LoadsBoth : Option Holding → Type 0 → Text → Text → (Text → Text → Outcome → Type 0) → Outcome →
    Type 0
LoadsBoth told rose circuit values next =
    Loads told rose circuit (λ c. Loads told rose values (λ v. next c v))

-- one of the two is not loaded
abbrev pub AreUnloaded : Option Holding → Type 0 → Text → Text → Outcome → Type 0
AreUnloaded told rose circuit values = LoadsBoth told rose circuit values (λ c v end. ⊥)

-- files are loaded, one for each name in order
pub record AreContents (told : Option Holding) (names contents : List Text) : Type 0 where
  pub count : length contents ≡ length names
  pub each : (at : ℕ) (name content : Text) →
      slice_get names at ≡ Some name → slice_get contents at ≡ Some content →
      IsContent told name content

-- the first file that is not loaded: those before it are
pub record IsFirstUnloaded (told : Option Holding) (rose : Type 0) (names : List Text)
    (end : Outcome) : Type 0 where
  pub at : ℕ
  pub name : Text
  pub there : slice_get names at ≡ Some name
  pub before : List Text
  pub loaded : AreContents told (take at names) before
  pub unloaded : IsUnloaded told rose name end

-- files are loaded, one after another, and lead on with their contents
abbrev pub LoadsAll : Option Holding → Type 0 → List Text → (List Text → Outcome → Type 0) → Outcome → Type 0
LoadsAll told rose names next end =
    IsFirstUnloaded told rose names end
    ⊎ ((contents : List Text) × AreContents told names contents × next contents end)

-- something is read: it shows its first fault, or it reads as this and leads on
abbrev pub ReadsAs : {F C : Type 0} →
    (F → Type 0) → (F → Outcome) → (C → Type 0) → (C → Outcome → Type 0) → Outcome → Type 0
ReadsAs {F} {C} faulty refusal_of reads next end =
    ((fault : F) × faulty fault × (end ≡ refusal_of fault))
    ⊎ ((read : C) × reads read × next read end)

-- a cause is judged: it is there and answered, or it is not and the command goes on
abbrev pub Unless : Type 0 → Outcome → (Outcome → Type 0) → Outcome → Type 0
Unless cause answer next end = (cause × (end ≡ answer)) ⊎ (¬ cause × next end)

-- files are stored, one after another: all of them, and the command ends with this; or the files failed at
-- one of them, of whose name nothing is known any more, and those before it are stored
abbrev pub StoresAll : Type 0 → List (Text × Text) → Outcome → Outcome → Type 0
StoresAll rose files done end =
    (end ≡ record done { stored = files })
    ⊎ (rose × (at : ℕ) × (file : Text × Text) × (slice_get files at ≡ Some file)
    × (end ≡ record (file_refused file.0 (codes "fault")) { stored = take at files; torn = Some file.0 }))

-- a line of a text, and the cause that it shows
pub record Fault (C : Type 0) : Type 0 where
  pub line : ℕ
  pub cause : C
