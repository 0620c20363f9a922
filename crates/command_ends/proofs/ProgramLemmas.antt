-- How a call of the program ends.
use Rattle.std.proofs.Common.{ℕ, ◌≡◌, ◌⊎◌, inl, inr, List, [], ◌++◌, Option, None, Result, Ok, Err, String, Global, refl, sym, ap, subst}
use Rattle.std.specs.Prelude.{IfOk, IsErrOf}
use Rattle.mot_base.specs.Faults.{Rose}
use Rattle.mot_base.specs.Files.{Holding}
use Rattle.cli_words.specs.declared.read.WordsError.{WordsError}
use Rattle.cli_words.specs.declared.read.WordsError.TheVariants.{Usage, NoMemory}
use Rattle.text_lines.specs.Text.{Text}
use Rattle.command_ends.specs.declared.refusal.Refusal.{Refusal}
use Rattle.command_ends.specs.Coming.{Came, ReadCame}
use Rattle.command_ends.specs.Ending.{Outside, Writes, IsCut, IsWritten, AreFirst, Ended, Asked}
use Rattle.command_ends.specs.Outcome.{Outcome, memory, usage}
use Rattle.command_ends.specs.Refusal.{came_to}
use Rattle.command_ends.proofs.StoreLemmas.{left_same}

-- What is written of an outcome hangs on its kind, its status and its text alone.

cut_as : (was is : Option Text) (end other : Outcome) → end.text ≡ other.text → IsCut was is end → IsCut was is other
cut_as was is end other text cut = record {
  part = cut.part;
  rest = cut.rest;
  some = cut.some;
  whole = subst (λ (t : Text). cut.part ++ cut.rest ≡ t) text cut.whole;
  appended = cut.appended;
}

written_as : (was is : Option Text) (rose : Type 0) (said : Outcome) (stored : List (Text × Text)) (torn : Option Text) (status : ℕ) →
    Writes was is rose said status → Writes was is rose (record said { stored = stored; torn = torn }) status
written_as was is rose said stored torn status (inl w) = inl w
written_as was is rose said stored torn status (inr w) = inr (w.0, cut_as was is said (record said { stored = stored; torn = torn }) refl w.1, w.2)

pub usage_written : (was is : Option Text) (rose : Type 0) (status : ℕ) → Writes was is rose usage status → status ≡ 1
usage_written was is rose status (inl w) = w.1
usage_written was is rose status (inr w) = w.2

-- a command that stores nothing leaves all names
pub came_unstored : (ends : Outcome → Type 0) (before after : Option Holding) (r : Result (String Global) Refusal) → after ≡ before →
    ends (came_to r) ⊎ (came_to r ≡ memory) → Came ends [] before after (came_to r)
came_unstored ends before after r same cause = record {
  stored = [];
  torn = None;
  cause = unstored r cause;
  some = inl (refl, refl);
  left = left_same before after None same;
}
  where
    unstored : (r : Result (String Global) Refusal) → ends (came_to r) ⊎ (came_to r ≡ memory) →
        ends (record (came_to r) { stored = []; torn = None }) ⊎ (came_to r ≡ memory)
    unstored (Ok text) cause = cause
    unstored (Err given) cause = cause

-- A command ended with what it said, and wrote that or want of memory.

wanting : {R : Type 0} (asks : R → Type 0) (ends : R → Outcome → Type 0) (files : R → List (Text × Text)) (request : R) → asks request →
    (stored : List (Text × Text)) (torn : Option Text) → AreFirst (files request) stored torn →
    Asked asks ends files (record memory { stored = stored; torn = torn })
wanting asks ends files request asked stored torn some = inr (inr (request, asked, inr (stored, torn, some, refl)))

cause_of : {R : Type 0} (asks : R → Type 0) (ends : R → Outcome → Type 0) (files : R → List (Text × Text)) (request : R) → asks request →
    (said : Outcome) (stored : List (Text × Text)) (torn : Option Text) → AreFirst (files request) stored torn →
    ends request (record said { stored = stored; torn = torn }) ⊎ (said ≡ memory) →
    Asked asks ends files (record said { stored = stored; torn = torn })
cause_of asks ends files request asked said stored torn some (inl end) = inr (inr (request, asked, inl end))
cause_of asks ends files request asked said stored torn some (inr ran_out) =
    subst (λ (o : Outcome). Asked asks ends files (record o { stored = stored; torn = torn })) (sym ran_out)
    (wanting asks ends files request asked stored torn some)

came_ended : {R : Type 0} (asks : R → Type 0) (ends : R → Outcome → Type 0) (files : R → List (Text × Text)) (before after : Outside)
    (request : R) (said : Outcome) (status : ℕ) → asks request → Came (ends request) (files request) before.held after.held said →
    IsWritten before.appended after.appended (Rose before.out_faults after.out_faults) said status →
    Ended (Asked asks ends files) before after status
came_ended asks ends files before after request said status asked came (inl written) = record {
  outcome = record said { stored = came.stored; torn = came.torn };
  cause = cause_of asks ends files request asked said came.stored came.torn came.some came.cause;
  written = written_as before.appended after.appended (Rose before.out_faults after.out_faults) said came.stored came.torn status written;
  left = came.left;
}
came_ended asks ends files before after request said status asked came (inr ran_out) = record {
  outcome = record memory { stored = came.stored; torn = came.torn };
  cause = wanting asks ends files request asked came.stored came.torn came.some;
  written = written_as before.appended after.appended (Rose before.out_faults after.out_faults) memory came.stored came.torn status ran_out.1;
  left = came.left;
}

nothing_ended : {R : Type 0} (asks : R → Type 0) (ends : R → Outcome → Type 0) (files : R → List (Text × Text)) (before after : Outside)
    (said : Outcome) (status : ℕ) → ((r : R) → ¬ (asks r)) → after.held ≡ before.held → said ≡ usage →
    IsWritten before.appended after.appended (Rose before.out_faults after.out_faults) said status →
    Ended (Asked asks ends files) before after status
nothing_ended asks ends files before after said status none same e (inl written) = record {
  outcome = usage;
  cause = inr (inl (none, refl));
  written = subst (λ o. Writes before.appended after.appended (Rose before.out_faults after.out_faults) o status) e written;
  left = left_same before.held after.held None same;
}
nothing_ended asks ends files before after said status none same e (inr ran_out) =
    absurd (ran_out.0 (ap (λ (o : Outcome). o.status) e))

memory_ended : {R : Type 0} (asks : R → Type 0) (ends : R → Outcome → Type 0) (files : R → List (Text × Text)) (before after : Outside)
    (said : Outcome) (status : ℕ) → after.held ≡ before.held → said ≡ memory →
    IsWritten before.appended after.appended (Rose before.out_faults after.out_faults) said status →
    Ended (Asked asks ends files) before after status
memory_ended asks ends files before after said status same e (inl written) = record {
  outcome = memory;
  cause = inl refl;
  written = subst (λ o. Writes before.appended after.appended (Rose before.out_faults after.out_faults) o status) e written;
  left = left_same before.held after.held None same;
}
memory_ended asks ends files before after said status same e (inr ran_out) = record {
  outcome = memory;
  cause = inl refl;
  written = ran_out.1;
  left = left_same before.held after.held None same;
}

-- what was read of words says how they end
pub ended_with : {W R : Type 0} (request_of : W → R) (asks : R → Type 0) (ends : R → Outcome → Type 0) (files : R → List (Text × Text))
    (before after : Outside) (read : Result W WordsError) (said : Outcome) (status : ℕ) →
    IfOk read (λ words. asks (request_of words)) → (IsErrOf read Usage → (r : R) → ¬ (asks r)) →
    ReadCame request_of ends files before.held after.held read said →
    IsWritten before.appended after.appended (Rose before.out_faults after.out_faults) said status →
    Ended (Asked asks ends files) before after status
ended_with request_of asks ends files before after (Ok words) said status asked none came written =
    came_ended asks ends files before after (request_of words) said status asked came written
ended_with request_of asks ends files before after (Err Usage) said status asked none came written =
    nothing_ended asks ends files before after said status (none refl) came.0 came.1 written
ended_with request_of asks ends files before after (Err NoMemory) said status asked none came written =
    memory_ended asks ends files before after said status came.0 came.1 written

-- words that name no command are refused, whatever memory there is
pub unnamed_is_usage : {W R : Type 0} (request_of : W → R) (ends : R → Outcome → Type 0) (files : R → List (Text × Text))
    (held now : Option Holding) (read : Result W WordsError) (named : Type 0) (was is : Option Text) (rose : Type 0) (said : Outcome)
    (status : ℕ) → IfOk read (λ words. named) → (IsErrOf read NoMemory → named) → ReadCame request_of ends files held now read said →
    IsWritten was is rose said status → ¬ named → status ≡ 1
unnamed_is_usage request_of ends files held now (Ok words) named was is rose said status ok wanting came written none = absurd (none ok)
unnamed_is_usage request_of ends files held now (Err NoMemory) named was is rose said status ok wanting came written none =
    absurd (none (wanting refl))
unnamed_is_usage request_of ends files held now (Err Usage) named was is rose said status ok wanting came (inl written) none =
    usage_written was is rose status (subst (λ o. Writes was is rose o status) came.1 written)
unnamed_is_usage request_of ends files held now (Err Usage) named was is rose said status ok wanting came (inr ran_out) none =
    absurd (ran_out.0 (ap (λ (o : Outcome). o.status) came.1))
