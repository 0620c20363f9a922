-- How words and files settle the way in which a call ends.
use Rattle.std.specs.Prelude.{ℕ, ◌≡◌, ◌≤◌, ◌⊎◌, List, [], Option, None, Some}
use Rattle.mot_base.specs.Faults.{Rose}
use Rattle.mot_base.specs.Files.{Holding}
use Rattle.mot_base.specs.Sink.{with_more}
use Rattle.text_lines.specs.Text.{Text}
use Rattle.command_ends.specs.Ending.{Outside, Leading, EndsAs, AreLeft, AreFirst}
use Rattle.command_ends.specs.Outcome.{Outcome, code_of}
use Rattle.command_ends.specs.Outcome.Kind.{report}

-- a call ends with status 1 exactly where its words ask for nothing, want of memory aside
abbrev pub IsUsage : {R : Type 0} → (R → Type 0) → ℕ → Type 0
IsUsage {R} asks status =
    (status ≡ 1 → (request : R) → ¬ (asks request))
    × (((request : R) → ¬ (asks request)) → (status ≡ 1) ⊎ (status ≡ 11))

-- at status 0 the report was appended to which the words lead without any fault, and nothing else
abbrev pub IsDone : {R : Type 0} → (R → Type 0) → Leading R → Outside → Outside → ℕ → Type 0
IsDone {R} asks ends before after status =
    status ≡ 0 → (request : R) × asks request
    × (end : Outcome) × (end.kind ≡ report) × ends before.held ⊥ request end
    × (after.appended ≡ with_more before.appended end.text)

-- where files tell what they hold, and no count of faults rose, a call ends with what its words lead to
-- without any fault, and the whole text was appended; or memory ran out
abbrev pub IsComplete : {R : Type 0} → (R → Type 0) → Leading R → Outside → Outside → ℕ → Type 0
IsComplete {R} asks ends before after status =
    (held : Holding) → before.held ≡ Some held →
    ¬ (Rose before.file_faults after.file_faults) → ¬ (Rose before.out_faults after.out_faults) →
    (request : R) → asks request → (end : Outcome) → ends (Some held) ⊥ request end →
    ((status ≡ code_of end.status) × (after.appended ≡ with_more before.appended end.text))
    ⊎ (status ≡ 11)

-- What the files hold after a call, by its status: some first ones of the files that its words ask to be
-- stored are stored, of the name of the next nothing is known, and all other names hold what they held. At
-- status 0 and 9 all of them are stored, and at status 1 none is.
pub record IsStored {R : Type 0} (asks : R → Type 0) (files : R → List (Text × Text))
    (before after : Option Holding) (status : ℕ) : Type 0 where
  pub stored : List (Text × Text)
  pub torn : Option Text
  pub left : AreLeft before after stored torn
  pub some : ((stored ≡ []) × (torn ≡ None))
      ⊎ ((request : R) × asks request × AreFirst (files request) stored torn)
  pub all : (status ≡ 0) ⊎ (status ≡ 9) →
      (request : R) × asks request × (stored ≡ files request) × (torn ≡ None)
  pub none : status ≡ 1 → (stored ≡ []) × (torn ≡ None)

-- All that a call of the program meets: it ended as its words lead to, and what follows from that of its status
-- and its files. No count of faults falls.
pub record EndsWell {R : Type 0} (asks : R → Type 0) (leads : Leading R) (files : R → List (Text × Text))
    (before after : Outside) (status : ℕ) : Type 0 where
  pub ended : EndsAs asks leads files before after status
  pub usage : IsUsage asks status
  pub done : IsDone asks leads before after status
  pub complete : IsComplete asks leads before after status
  pub stored : IsStored asks files before.held after.held status
  pub files_never_fall : before.file_faults ≤ after.file_faults
  pub out_never_falls : before.out_faults ≤ after.out_faults
