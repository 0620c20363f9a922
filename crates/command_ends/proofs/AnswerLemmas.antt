-- What the answer of a call says of its words and its files.
use Rattle.std.proofs.Common.{ℕ, ◌≡◌, ◌≢◌, ◌≤◌, ◌⊎◌, inl, inr, List, [], Option, Some, None, refl, sym, ap, subst, ◌∙◌, arith}
use Rattle.mot_base.specs.Faults.{Rose}
use Rattle.mot_base.specs.Files.{Holding}
use Rattle.mot_base.specs.Sink.{with_more}
use Rattle.text_lines.specs.Text.{Text}
use Rattle.command_ends.specs.declared.status.Status.{Status}
use Rattle.command_ends.specs.declared.status.Status.TheVariants.{Done, Usage, Write, Memory}
use Rattle.command_ends.specs.declared.status.Status.TheVariants as status
use Rattle.command_ends.specs.Ending.{Outside, Writes, AreLeft, AreFirst, Ended, Wants, Asked, cut_status}
use Rattle.command_ends.specs.Outcome.{Outcome, code_of, memory, usage}
use Rattle.command_ends.specs.Outcome.Kind.{report, refusal}
use Rattle.command_ends.specs.Settled.{IsUsage, IsDone, IsComplete, IsStored, EndsWell}
use Rattle.command_ends.proofs.StoreLemmas.{all_first}
use Rattle.command_ends.proofs.ProgramLemmas.{usage_written}
use Rattle.command_ends.proofs.StepLemmas.{Agree, Fair, Refuses, Gives}

-- What a command has to show: words ask for one request at most, outcomes agree, and each is a refusal or a report.
pub record IsSettled {R : Type 0} (asks : R → Type 0) (ends : Option Holding → Type 0 → R → Outcome → Type 0)
    (files : R → List (Text × Text)) : Type 1 where
  pub one : (r s : R) → asks r → asks s → r ≡ s
  pub agree : (held : Holding) (rose : Type 0) (r : R) → ¬ rose → Agree (ends (Some held) rose r) (ends (Some held) ⊥ r)
  pub fair : (told : Option Holding) (rose : Type 0) (r : R) → Fair (files r) (ends told rose r) (ends told ⊥ r)

-- The numbers of statuses.

code_one : (s : Status) → code_of s ≡ 1 → s ≡ Usage
code_one status.Done e = absurd (omega (arith, e))
code_one status.Usage e = refl
code_one status.Circuit e = absurd (omega (arith, e))
code_one status.Values e = absurd (omega (arith, e))
code_one status.Dealer e = absurd (omega (arith, e))
code_one status.TooFew e = absurd (omega (arith, e))
code_one status.File e = absurd (omega (arith, e))
code_one status.Write e = absurd (omega (arith, e))
code_one status.Memory e = absurd (omega (arith, e))

code_zero : (s : Status) → code_of s ≡ 0 → s ≡ Done
code_zero status.Done e = refl
code_zero status.Usage e = absurd (omega (arith, e))
code_zero status.Circuit e = absurd (omega (arith, e))
code_zero status.Values e = absurd (omega (arith, e))
code_zero status.Dealer e = absurd (omega (arith, e))
code_zero status.TooFew e = absurd (omega (arith, e))
code_zero status.File e = absurd (omega (arith, e))
code_zero status.Write e = absurd (omega (arith, e))
code_zero status.Memory e = absurd (omega (arith, e))

code_nine : (s : Status) → code_of s ≡ 9 → s ≡ Write
code_nine status.Done e = absurd (omega (arith, e))
code_nine status.Usage e = absurd (omega (arith, e))
code_nine status.Circuit e = absurd (omega (arith, e))
code_nine status.Values e = absurd (omega (arith, e))
code_nine status.Dealer e = absurd (omega (arith, e))
code_nine status.TooFew e = absurd (omega (arith, e))
code_nine status.File e = absurd (omega (arith, e))
code_nine status.Write e = refl
code_nine status.Memory e = absurd (omega (arith, e))

-- What was written of an outcome, by its kind.

refusal_status : (was is : Option Text) (rose : Type 0) (o : Outcome) (status : ℕ) → o.kind ≡ refusal → Writes was is rose o status →
    status ≡ code_of o.status
refusal_status was is rose o status kind (inl w) = w.1
refusal_status was is rose o status kind (inr w) = w.2 ∙ ap (λ k. code_of (cut_status k o.status)) kind

report_status : (was is : Option Text) (rose : Type 0) (o : Outcome) (status : ℕ) → o.kind ≡ report → o.status ≡ Done →
    Writes was is rose o status → ((status ≡ 0) × (is ≡ with_more was o.text)) ⊎ (status ≡ 9)
report_status was is rose o status kind done (inl w) = inl (w.1 ∙ ap code_of done, w.0)
report_status was is rose o status kind done (inr w) = inr (w.2 ∙ ap (λ k. code_of (cut_status k o.status)) kind)

nothing_written : (was is : Option Text) (rose : Type 0) (o : Outcome) (status : ℕ) → o ≡ usage → Writes was is rose o status → status ≡ 1
nothing_written was is rose o status e written = usage_written was is rose status (subst (λ o. Writes was is rose o status) e written)

ran_out_written : (was is : Option Text) (rose : Type 0) (o : Outcome) (status : ℕ) → o ≡ memory → Writes was is rose o status → status ≡ 11
ran_out_written was is rose o status e written =
    refusal_status was is rose o status (ap (λ (o : Outcome). o.kind) e) written ∙ ap (λ (o : Outcome). code_of o.status) e

wants_written : (was is : Option Text) (rose : Type 0) (files : List (Text × Text)) (o : Outcome) (status : ℕ) → Wants files o →
    Writes was is rose o status → status ≡ 11
wants_written was is rose files o status wants written =
    refusal_status was is rose o status (ap (λ (o : Outcome). o.kind) wants.3) written ∙ ap (λ (o : Outcome). code_of o.status) wants.3

refused_status : (was is : Option Text) (rose : Type 0) (files : List (Text × Text)) (o : Outcome) (status : ℕ) → Refuses files o →
    Writes was is rose o status → (status ≢ 0) × (status ≢ 1) × (status ≢ 9)
refused_status was is rose files o status refuses written =
    let code = refusal_status was is rose o status refuses.kind written in (
      (λ e. refuses.done (code_zero o.status (sym code ∙ e))),
      (λ e. refuses.usage (code_one o.status (sym code ∙ e))),
      (λ e. refuses.write (code_nine o.status (sym code ∙ e))),
    )

-- The usage.

none_asked : {R : Type 0} (asks : R → Type 0) (ends : Option Holding → Type 0 → R → Outcome → Type 0) (files : R → List (Text × Text)) →
    IsSettled asks ends files → (told : Option Holding) (rose fell : Type 0) (was is : Option Text) (o : Outcome) (status : ℕ) →
    Asked asks (ends told rose) files o → Writes was is fell o status → status ≡ 1 → (request : R) → ¬ (asks request)
none_asked asks ends files settled told rose fell was is o status (inl ran_out) written one =
    absurd (let eleven = ran_out_written was is fell o status ran_out written in omega (arith, eleven, one))
none_asked asks ends files settled told rose fell was is o status (inr (inl nothing)) written one = nothing.0
none_asked asks ends files settled told rose fell was is o status (inr (inr (r, asked, inr wants))) written one =
    absurd (let eleven = wants_written was is fell (files r) o status wants written in omega (arith, eleven, one))
none_asked asks ends files settled told rose fell was is o status (inr (inr (r, asked, inl end))) written one =
    absurd (by_kind (settled.fair told rose r o end))
  where
    by_kind : Refuses (files r) o ⊎ Gives (files r) (ends told ⊥ r) o → ⊥
    by_kind (inl refuses) = (refused_status was is fell (files r) o status refuses written).1 one
    by_kind (inr gives) = by_status (report_status was is fell o status gives.kind gives.status written)
      where
        by_status : ((status ≡ 0) × (is ≡ with_more was o.text)) ⊎ (status ≡ 9) → ⊥
        by_status (inl zero) = (let e = zero.0 in omega (arith, e, one))
        by_status (inr nine) = omega (arith, nine, one)

one_answered : {R : Type 0} (asks : R → Type 0) (ends : R → Outcome → Type 0) (files : R → List (Text × Text)) (fell : Type 0)
    (was is : Option Text) (o : Outcome) (status : ℕ) → Asked asks ends files o → Writes was is fell o status →
    ((request : R) → ¬ (asks request)) → (status ≡ 1) ⊎ (status ≡ 11)
one_answered asks ends files fell was is o status (inl ran_out) written none = inr (ran_out_written was is fell o status ran_out written)
one_answered asks ends files fell was is o status (inr (inl nothing)) written none = inl (nothing_written was is fell o status nothing.1 written)
one_answered asks ends files fell was is o status (inr (inr (r, asked, end))) written none = absurd (none r asked)

usage_exactly : {R : Type 0} (asks : R → Type 0) (ends : Option Holding → Type 0 → R → Outcome → Type 0)
    (files : R → List (Text × Text)) → IsSettled asks ends files → (before after : Outside) (status : ℕ) →
    Ended (Asked asks (ends before.held (Rose before.file_faults after.file_faults)) files) before after status → IsUsage asks status
usage_exactly asks ends files settled before after status ended =
    let rose = Rose before.file_faults after.file_faults in
    let fell = Rose before.out_faults after.out_faults in (
      none_asked asks ends files settled before.held rose fell before.appended after.appended ended.outcome status ended.cause ended.written,
      one_answered asks (ends before.held rose) files fell before.appended after.appended ended.outcome status ended.cause ended.written,
    )

-- Status 0.

-- the words ask for something, and the report to which they lead was appended
abbrev IsWhole : {R : Type 0} → (R → Type 0) → (R → Outcome → Type 0) → Option Text → Option Text → Type 0
IsWhole {R} asks ends was is =
    (request : R) × asks request × (end : Outcome) × (end.kind ≡ report) × ends request end × (is ≡ with_more was end.text)

zero_answered : {R : Type 0} (asks : R → Type 0) (ends : Option Holding → Type 0 → R → Outcome → Type 0) (files : R → List (Text × Text)) →
    IsSettled asks ends files → (told : Option Holding) (rose fell : Type 0) (was is : Option Text) (o : Outcome) (status : ℕ) →
    Asked asks (ends told rose) files o → Writes was is fell o status → status ≡ 0 →
    IsWhole asks (ends told ⊥) was is
zero_answered asks ends files settled told rose fell was is o status (inl ran_out) written zero =
    absurd (let eleven = ran_out_written was is fell o status ran_out written in omega (arith, eleven, zero))
zero_answered asks ends files settled told rose fell was is o status (inr (inl nothing)) written zero =
    absurd (let one = nothing_written was is fell o status nothing.1 written in omega (arith, one, zero))
zero_answered asks ends files settled told rose fell was is o status (inr (inr (r, asked, inr wants))) written zero =
    absurd (let eleven = wants_written was is fell (files r) o status wants written in omega (arith, eleven, zero))
zero_answered {R} asks ends files settled told rose fell was is o status (inr (inr (r, asked, inl end))) written zero =
    by_kind (settled.fair told rose r o end)
  where
    by_kind : Refuses (files r) o ⊎ Gives (files r) (ends told ⊥ r) o → IsWhole asks (ends told ⊥) was is
    by_kind (inl refuses) = absurd ((refused_status was is fell (files r) o status refuses written).0 zero)
    by_kind (inr gives) = by_status (report_status was is fell o status gives.kind gives.status written)
      where
        by_status : ((status ≡ 0) × (is ≡ with_more was o.text)) ⊎ (status ≡ 9) → IsWhole asks (ends told ⊥) was is
        by_status (inl whole) = (r, asked, o, gives.kind, gives.fair, whole.1)
        by_status (inr nine) = absurd (omega (arith, nine, zero))

done_exactly : {R : Type 0} (asks : R → Type 0) (ends : Option Holding → Type 0 → R → Outcome → Type 0)
    (files : R → List (Text × Text)) → IsSettled asks ends files → (before after : Outside) (status : ℕ) →
    Ended (Asked asks (ends before.held (Rose before.file_faults after.file_faults)) files) before after status →
    IsDone asks ends before after status
done_exactly asks ends files settled before after status ended =
    zero_answered asks ends files settled before.held (Rose before.file_faults after.file_faults) (Rose before.out_faults after.out_faults)
    before.appended after.appended ended.outcome status ended.cause ended.written

-- Completeness.

whole_or_cut : (was is : Option Text) (fell : Type 0) (o : Outcome) (status : ℕ) → ¬ fell → Writes was is fell o status →
    (status ≡ code_of o.status) × (is ≡ with_more was o.text)
whole_or_cut was is fell o status quiet (inl w) = (w.1, w.0)
whole_or_cut was is fell o status quiet (inr w) = absurd (quiet w.0)

led : {R : Type 0} (asks : R → Type 0) (ends : Option Holding → Type 0 → R → Outcome → Type 0) (files : R → List (Text × Text)) →
    IsSettled asks ends files → (held : Holding) (rose fell : Type 0) (was is : Option Text) (o : Outcome) (status : ℕ) →
    Asked asks (ends (Some held) rose) files o → Writes was is fell o status → ¬ rose → ¬ fell →
    (request : R) → asks request → (end : Outcome) → ends (Some held) ⊥ request end →
    ((status ≡ code_of end.status) × (is ≡ with_more was end.text)) ⊎ (status ≡ 11)
led asks ends files settled held rose fell was is o status (inl ran_out) written quiet still request asked end leads =
    inr (ran_out_written was is fell o status ran_out written)
led asks ends files settled held rose fell was is o status (inr (inl nothing)) written quiet still request asked end leads =
    absurd (nothing.0 request asked)
led asks ends files settled held rose fell was is o status (inr (inr (r, asks_r, inr wants))) written quiet still request asked end leads =
    inr (wants_written was is fell (files r) o status wants written)
led asks ends files settled held rose fell was is o status (inr (inr (r, asks_r, inl came))) written quiet still request asked end leads =
    let same = settled.one r request asks_r asked in
    let came_too = subst (λ r. ends (Some held) rose r o) same came in
    let agree = settled.agree held rose request quiet o end came_too leads in
    inl (whole_or_cut was is fell end status still (subst (λ o. Writes was is fell o status) agree written))

complete_exactly : {R : Type 0} (asks : R → Type 0) (ends : Option Holding → Type 0 → R → Outcome → Type 0)
    (files : R → List (Text × Text)) → IsSettled asks ends files → (before after : Outside) (status : ℕ) →
    Ended (Asked asks (ends before.held (Rose before.file_faults after.file_faults)) files) before after status →
    IsComplete asks ends before after status
complete_exactly asks ends files settled before after status ended = λ held told quiet still.
    let rose = Rose before.file_faults after.file_faults in
    led asks ends files settled held rose (Rose before.out_faults after.out_faults) before.appended after.appended ended.outcome status
    (subst (λ told. Asked asks (ends told rose) files ended.outcome) told ended.cause) ended.written quiet still

-- What files hold.

nothing_stored : {R : Type 0} (asks : R → Type 0) (files : R → List (Text × Text)) (before after : Option Holding) (o : Outcome)
    (status : ℕ) → o.stored ≡ [] → o.torn ≡ None → AreLeft before after o.stored o.torn → status ≢ 0 → status ≢ 9 →
    IsStored asks files before after status
nothing_stored {R} asks files before after o status stored torn left zero nine = record {
  stored = o.stored;
  torn = o.torn;
  left = left;
  some = inl (stored, torn);
  all = all;
  none = λ one. (stored, torn);
}
  where
    all : (status ≡ 0) ⊎ (status ≡ 9) → (request : R) × asks request × (o.stored ≡ files request) × (o.torn ≡ None)
    all (inl e) = absurd (zero e)
    all (inr e) = absurd (nine e)

some_stored : {R : Type 0} (asks : R → Type 0) (files : R → List (Text × Text)) (before after : Option Holding) (o : Outcome)
    (status : ℕ) (r : R) → asks r → AreFirst (files r) o.stored o.torn → AreLeft before after o.stored o.torn →
    status ≢ 0 → status ≢ 1 → status ≢ 9 → IsStored asks files before after status
some_stored {R} asks files before after o status r asked first left zero one nine = record {
  stored = o.stored;
  torn = o.torn;
  left = left;
  some = inr (r, asked, first);
  all = all;
  none = λ e. absurd (one e);
}
  where
    all : (status ≡ 0) ⊎ (status ≡ 9) → (request : R) × asks request × (o.stored ≡ files request) × (o.torn ≡ None)
    all (inl e) = absurd (zero e)
    all (inr e) = absurd (nine e)

all_stored : {R : Type 0} (asks : R → Type 0) (files : R → List (Text × Text)) (before after : Option Holding) (o : Outcome)
    (status : ℕ) (r : R) → asks r → o.stored ≡ files r → o.torn ≡ None → AreLeft before after o.stored o.torn →
    status ≢ 1 → IsStored asks files before after status
all_stored asks files before after o status r asked stored torn left one = record {
  stored = o.stored;
  torn = o.torn;
  left = left;
  some = inr (r, asked, first);
  all = λ e. (r, asked, stored, torn);
  none = λ e. absurd (one e);
}
  where
    first : AreFirst (files r) o.stored o.torn
    first = subst (λ fs. AreFirst (files r) fs o.torn) (sym stored) (subst (λ t. AreFirst (files r) (files r) t) (sym torn) (all_first (files r)))

wants_first : (files : List (Text × Text)) (o : Outcome) → Wants files o → AreFirst files o.stored o.torn
wants_first files o wants =
    subst (λ fs. AreFirst files fs o.torn) (sym (ap (λ (o : Outcome). o.stored) wants.3))
    (subst (λ t. AreFirst files wants.0 t) (sym (ap (λ (o : Outcome). o.torn) wants.3)) wants.2)

left_by : {R : Type 0} (asks : R → Type 0) (ends : Option Holding → Type 0 → R → Outcome → Type 0) (files : R → List (Text × Text)) →
    IsSettled asks ends files → (told : Option Holding) (rose fell : Type 0) (was is : Option Text) (before after : Option Holding)
    (o : Outcome) (status : ℕ) → Asked asks (ends told rose) files o → Writes was is fell o status →
    AreLeft before after o.stored o.torn → IsStored asks files before after status
left_by asks ends files settled told rose fell was is before after o status (inl ran_out) written left =
    let eleven = ran_out_written was is fell o status ran_out written in
    nothing_stored asks files before after o status (ap (λ (o : Outcome). o.stored) ran_out) (ap (λ (o : Outcome). o.torn) ran_out) left
    (λ e. omega (arith, eleven, e)) (λ e. omega (arith, eleven, e))
left_by asks ends files settled told rose fell was is before after o status (inr (inl nothing)) written left =
    let one = nothing_written was is fell o status nothing.1 written in
    nothing_stored asks files before after o status (ap (λ (o : Outcome). o.stored) nothing.1) (ap (λ (o : Outcome). o.torn) nothing.1) left
    (λ e. omega (arith, one, e)) (λ e. omega (arith, one, e))
left_by asks ends files settled told rose fell was is before after o status (inr (inr (r, asked, inr wants))) written left =
    let eleven = wants_written was is fell (files r) o status wants written in
    some_stored asks files before after o status r asked (wants_first (files r) o wants) left
    (λ e. omega (arith, eleven, e)) (λ e. omega (arith, eleven, e)) (λ e. omega (arith, eleven, e))
left_by asks ends files settled told rose fell was is before after o status (inr (inr (r, asked, inl end))) written left =
    by_kind (settled.fair told rose r o end)
  where
    by_kind : Refuses (files r) o ⊎ Gives (files r) (ends told ⊥ r) o → IsStored asks files before after status
    by_kind (inl refuses) =
        let other = refused_status was is fell (files r) o status refuses written in
        some_stored asks files before after o status r asked refuses.some left other.0 other.1 other.2
    by_kind (inr gives) =
        all_stored asks files before after o status r asked gives.stored gives.torn left
        (by_status (report_status was is fell o status gives.kind gives.status written))
      where
        by_status : ((status ≡ 0) × (is ≡ with_more was o.text)) ⊎ (status ≡ 9) → status ≢ 1
        by_status (inl zero) = λ one. (let e = zero.0 in omega (arith, e, one))
        by_status (inr nine) = λ one. omega (arith, nine, one)

stored_exactly : {R : Type 0} (asks : R → Type 0) (ends : Option Holding → Type 0 → R → Outcome → Type 0)
    (files : R → List (Text × Text)) → IsSettled asks ends files → (before after : Outside) (status : ℕ) →
    Ended (Asked asks (ends before.held (Rose before.file_faults after.file_faults)) files) before after status →
    IsStored asks files before.held after.held status
stored_exactly asks ends files settled before after status ended =
    left_by asks ends files settled before.held (Rose before.file_faults after.file_faults) (Rose before.out_faults after.out_faults)
    before.appended after.appended before.held after.held ended.outcome status ended.cause ended.written ended.left

-- all that a call meets follows from how it ended
pub ends_well : {R : Type 0} (asks : R → Type 0) (ends : Option Holding → Type 0 → R → Outcome → Type 0)
    (files : R → List (Text × Text)) → IsSettled asks ends files → (before after : Outside) (status : ℕ) →
    Ended (Asked asks (ends before.held (Rose before.file_faults after.file_faults)) files) before after status →
    before.file_faults ≤ after.file_faults → before.out_faults ≤ after.out_faults →
    EndsWell asks ends files before after status
ends_well asks ends files settled before after status ended files_rise out_rises = record {
  ended = ended;
  usage = usage_exactly asks ends files settled before after status ended;
  done = done_exactly asks ends files settled before after status ended;
  complete = complete_exactly asks ends files settled before after status ended;
  stored = stored_exactly asks ends files settled before after status ended;
  files_never_fall = files_rise;
  out_never_falls = out_rises;
}
