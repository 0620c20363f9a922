-- How a call ends: what it comes to, what is written of it, and what it leaves.
use Rattle.std.specs.Prelude.{ℕ, ◌≡◌, ◌≢◌, ◌⊎◌, List, [], ◌∷◌, ◌++◌, take, slice_get, option_map, Option, Some, None, if◌then◌else◌, bytes_eq}
use Rattle.mot_base.specs.Faults.{Rose}
use Rattle.mot_base.specs.Files.{Holding}
use Rattle.mot_base.specs.Sink.{with_more}
use Rattle.text_lines.specs.Text.{Text}
use Rattle.command_ends.specs.declared.status.Status.{Status}
use Rattle.command_ends.specs.declared.status.Status.TheVariants.{Usage, Write}
use Rattle.command_ends.specs.Outcome.{Kind, Outcome, code_of, usage, memory}
use Rattle.command_ends.specs.Outcome.Kind.{report, refusal}

-- the files and the output, as a call finds or leaves them: what files are told to hold, and what is told to
-- have been appended, each with its count of faults
pub record Outside : Type 0 where
  pub held : Option Holding
  pub file_faults : ℕ
  pub appended : Option Text
  pub out_faults : ℕ

abbrev pub outside : Option Holding → ℕ → Option Text → ℕ → Outside
outside held file_faults appended out_faults =
    record { held = held; file_faults = file_faults; appended = appended; out_faults = out_faults }

-- the status where a text could not be written whole
abbrev pub cut_status : Kind → Status → Status
cut_status report given = Write
cut_status refusal given = given

-- a proper first part of an outcome's text was appended
pub record IsCut (before after : Option Text) (end : Outcome) : Type 0 where
  pub part : Text
  pub rest : Text
  pub some : rest ≢ []
  pub whole : part ++ rest ≡ end.text
  pub appended : after ≡ with_more before part

-- of an outcome this was written: the whole text, or a proper first part of it where the output's count of
-- faults rose
abbrev pub Writes : Option Text → Option Text → Type 0 → Outcome → ℕ → Type 0
Writes was is rose end status =
    ((is ≡ with_more was end.text) × (status ≡ code_of end.status))
    ⊎ (rose × IsCut was is end × (status ≡ code_of (cut_status end.kind end.status)))

-- an outcome was written, or, where it is not the usage, want of memory in its place
abbrev pub IsWritten : Option Text → Option Text → Type 0 → Outcome → ℕ → Type 0
IsWritten was is rose end status =
    Writes was is rose end status ⊎ ((end.status ≢ Usage) × Writes was is rose memory status)

-- what names hold once some files were stored, one after another
abbrev pub after_stores : Holding → List (Text × Text) → Holding
after_stores held [] name = held name
after_stores held (s ∷ more) name =
    after_stores (λ n. if bytes_eq n s.0 then Some s.1 else held n) more name

-- files hold what these stores left, but for the name of which nothing is known any more
abbrev pub AreLeft : Option Holding → Option Holding → List (Text × Text) → Option Text → Type 0
AreLeft None after stored torn = Unit {0}
AreLeft (Some held) (Some now) stored torn =
    (name : Text) → Some name ≢ torn → now name ≡ after_stores held stored name
AreLeft (Some held) None stored torn = ⊥

-- of these files none is stored; or some first ones are, and of the name of the next, if there is one, nothing
-- is known any more
abbrev pub AreFirst : List (Text × Text) → List (Text × Text) → Option Text → Type 0
AreFirst files stored torn =
    ((stored ≡ []) × (torn ≡ None))
    ⊎ ((at : ℕ) × (stored ≡ take at files) × (torn ≡ option_map (λ file. file.0) (slice_get files at)))

-- a call ended with an outcome to which these causes lead; that was written of it, and it left the files so
pub record Ended (ends : Outcome → Type 0) (before after : Outside) (status : ℕ) : Type 0 where
  pub outcome : Outcome
  pub cause : ends outcome
  pub written :
      Writes before.appended after.appended (Rose before.out_faults after.out_faults) outcome status
  pub left : AreLeft before.held after.held outcome.stored outcome.torn

-- memory ran out, where some first ones of these files may have been stored
abbrev pub Wants : List (Text × Text) → Outcome → Type 0
Wants files end =
    (stored : List (Text × Text)) × (torn : Option Text) × AreFirst files stored torn
    × (end ≡ record memory { stored = stored; torn = torn })

-- memory runs out; or words that ask for nothing end with the usage, and words that ask for something end as
-- that ends, or with want of memory while its files are stored
abbrev pub Asked : {R : Type 0} →
    (R → Type 0) → (R → Outcome → Type 0) → (R → List (Text × Text)) → Outcome → Type 0
Asked {R} asks ends files end =
    (end ≡ memory)
    ⊎ ((((request : R) → ¬ (asks request)) × (end ≡ usage))
    ⊎ ((request : R) × asks request × (ends request end ⊎ Wants (files request) end)))

-- What a request leads to: from what files are told to hold, and from whether their count of faults rose, to
-- an outcome.
abbrev pub Leading : Type 0 → Type 1
Leading R = Option Holding → Type 0 → R → Outcome → Type 0

-- a call ended as its words lead to, by what files were told to hold, by whether their count of faults rose,
-- and by the files that a request stores
abbrev pub EndsAs : {R : Type 0} →
    (R → Type 0) → Leading R → (R → List (Text × Text)) → Outside → Outside → ℕ → Type 0
EndsAs asks leads files before after status =
    Ended (Asked asks (leads before.held (Rose before.file_faults after.file_faults)) files)
    before after status

-- a command that stores nothing
abbrev pub no_files : {R : Type 0} → R → List (Text × Text)
no_files request = []
