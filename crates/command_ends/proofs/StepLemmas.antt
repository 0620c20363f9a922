-- Steps of commands: two ways through them lead to one outcome, and each outcome is a refusal or a report.
use Rattle.std.proofs.Common.{ℕ, ◌≡◌, ◌≢◌, ◌⊎◌, inl, inr, List, take, Option, Some, None, refl, sym, ap, subst, ◌∙◌, arith}
use Rattle.std.specs.Prelude.{codes, IsSomeAnd, slice_get, option_map}
use Rattle.mot_base.specs.Files.{Holding, IsTooLong}
use Rattle.text_lines.specs.Text.{Text}
use Rattle.text_lines.specs.LineReader.{LineReader, FirstFaultOf}
use Rattle.text_lines.specs.LineReader as lines
use Rattle.text_lines.proofs.ReaderLemmas.{reads_or_faults}
use Rattle.command_ends.specs.declared.status.Status.TheVariants.{Done, Usage, File, Write}
use Rattle.command_ends.specs.declared.status.Status.TheVariants as status
use Rattle.command_ends.specs.Ending.{AreFirst}
use Rattle.command_ends.specs.Outcome.{Outcome, file_refused, circuit_refused, values_refused, reported}
use Rattle.command_ends.specs.Outcome.Kind.{report, refusal}
use Rattle.command_ends.specs.Steps.{Fault, IsContent, IsUnloaded, Loads, ReadsAs, Unless, StoresAll}

-- Two ways to an outcome lead to the same one.

abbrev pub Agree : (Outcome → Type 0) → (Outcome → Type 0) → Type 0
Agree P Q = (x y : Outcome) → P x → Q y → x ≡ y

pub content_once : (held : Holding) (name c d : Text) → IsContent (Some held) name c → IsContent (Some held) name d → c ≡ d
content_once held name c d first second = (let same : Some c ≡ Some d = sym first.1 ∙ second.1 in cc)

pub not_both : (o : Option Text) → o ≡ None → IsSomeAnd o IsTooLong → ⊥
not_both None e long = long
not_both (Some x) e long = (let no : Some x ≡ None = e in cc)

pub too_long : (o : Option Text) (c : Text) → o ≡ Some c → IsSomeAnd o IsTooLong → IsTooLong c
too_long o c e long = subst (λ o. IsSomeAnd o IsTooLong) e long

pub unloaded_once : (held : Holding) (rose other : Type 0) (name : Text) → ¬ rose → ¬ other →
    Agree (IsUnloaded (Some held) rose name) (IsUnloaded (Some held) other name)
unloaded_once held rose other name quiet still x y (inl m) (inl n) = m.1 ∙ sym n.1
unloaded_once held rose other name quiet still x y (inl m) (inr (inl n)) = absurd (not_both (held name) m.0 n.0)
unloaded_once held rose other name quiet still x y (inl m) (inr (inr n)) = absurd (still n.0)
unloaded_once held rose other name quiet still x y (inr (inl m)) (inl n) = absurd (not_both (held name) n.0 m.0)
unloaded_once held rose other name quiet still x y (inr (inl m)) (inr (inl n)) = m.1 ∙ sym n.1
unloaded_once held rose other name quiet still x y (inr (inl m)) (inr (inr n)) = absurd (still n.0)
unloaded_once held rose other name quiet still x y (inr (inr m)) second = absurd (quiet m.0)

pub not_loaded : (held : Holding) (rose : Type 0) (name c : Text) (x : Outcome) → ¬ rose → IsUnloaded (Some held) rose name x →
    IsContent (Some held) name c → ⊥
not_loaded held rose name c x quiet (inl m) content = (let is : Some c ≡ None = sym content.1 ∙ m.0 in cc)
not_loaded held rose name c x quiet (inr (inl m)) content =
    (let long = too_long (held name) c content.1 m.0 in let fits = content.0 in omega (arith, long, fits))
not_loaded held rose name c x quiet (inr (inr m)) content = quiet m.0

pub loads_agree : (held : Holding) (rose other : Type 0) (name : Text) (P Q : Text → Outcome → Type 0) → ¬ rose → ¬ other →
    ((c : Text) → Agree (P c) (Q c)) → Agree (Loads (Some held) rose name P) (Loads (Some held) other name Q)
loads_agree held rose other name P Q quiet still next x y (inl m) (inl n) = unloaded_once held rose other name quiet still x y m n
loads_agree held rose other name P Q quiet still next x y (inl m) (inr n) = absurd (not_loaded held rose name n.0 x quiet m n.1)
loads_agree held rose other name P Q quiet still next x y (inr m) (inl n) = absurd (not_loaded held other name m.0 y still n m.1)
loads_agree held rose other name P Q quiet still next x y (inr m) (inr n) =
    let same = content_once held name m.0 n.0 m.1 n.1 in
    next n.0 x y (subst (λ c. P c x) same m.2) n.2

pub one_fault : {C : Type 0} (f g : Fault C) → f.line ≡ g.line → f.cause ≡ g.cause → f ≡ g
one_fault {C} f g line cause =
    ap (λ (l : ℕ). record { line = l; cause = f.cause }) line ∙ ap (λ (k : C). record { line = g.line; cause = k }) cause

pub reads_agree : (S X C : Type 0) (r : LineReader S X C) (text : Text) (refusal_of : Fault C → Outcome) (P Q : X → Outcome → Type 0) →
    ((x : X) → Agree (P x) (Q x)) →
    Agree (ReadsAs {F = Fault C} {C = X} (λ f. FirstFaultOf r text f.line f.cause) refusal_of (lines.ReadsAs S X C r text) P)
    (ReadsAs {F = Fault C} {C = X} (λ f. FirstFaultOf r text f.line f.cause) refusal_of (lines.ReadsAs S X C r text) Q)
reads_agree S X C r text refusal_of P Q next x y (inl m) (inl n) =
    let both = (reads_or_faults S X C r text).one_fault m.0.line n.0.line m.0.cause n.0.cause m.1 n.1 in
    m.2 ∙ (ap refusal_of (one_fault m.0 n.0 both.0 both.1) ∙ sym n.2)
reads_agree S X C r text refusal_of P Q next x y (inl m) (inr n) =
    absurd ((reads_or_faults S X C r text).not_both n.0 m.0.line m.0.cause n.1 m.1)
reads_agree S X C r text refusal_of P Q next x y (inr m) (inl n) =
    absurd ((reads_or_faults S X C r text).not_both m.0 n.0.line n.0.cause m.1 n.1)
reads_agree S X C r text refusal_of P Q next x y (inr m) (inr n) =
    let same = (reads_or_faults S X C r text).one_value m.0 n.0 m.1 n.1 in
    next n.0 x y (subst (λ c. P c x) same m.2) n.2

pub unless_agree : (cause : Type 0) (answer : Outcome) (P Q : Outcome → Type 0) → Agree P Q → Agree (Unless cause answer P) (Unless cause answer Q)
unless_agree cause answer P Q next x y (inl m) (inl n) = m.1 ∙ sym n.1
unless_agree cause answer P Q next x y (inl m) (inr n) = absurd (n.0 m.0)
unless_agree cause answer P Q next x y (inr m) (inl n) = absurd (m.0 n.0)
unless_agree cause answer P Q next x y (inr m) (inr n) = next x y m.1 n.1

-- Each outcome of a command is a refusal, where some first ones of its files are stored; or it is a report, where all
-- are, and which hangs on no fault.

pub record Refuses (files : List (Text × Text)) (x : Outcome) : Type 0 where
  pub kind : x.kind ≡ refusal
  pub usage : x.status ≢ Usage
  pub done : x.status ≢ Done
  pub write : x.status ≢ Write
  pub some : AreFirst files x.stored x.torn

pub record Gives (files : List (Text × Text)) (Q : Outcome → Type 0) (x : Outcome) : Type 0 where
  pub kind : x.kind ≡ report
  pub status : x.status ≡ Done
  pub stored : x.stored ≡ files
  pub torn : x.torn ≡ None
  pub fair : Q x

abbrev pub Fair : List (Text × Text) → (Outcome → Type 0) → (Outcome → Type 0) → Type 0
Fair files P Q = (x : Outcome) → P x → Refuses files x ⊎ Gives files Q x

pub carried : (files : List (Text × Text)) (Q R : Outcome → Type 0) (x : Outcome) → (Q x → R x) →
    Refuses files x ⊎ Gives files Q x → Refuses files x ⊎ Gives files R x
carried files Q R x f (inl refuses) = inl refuses
carried files Q R x f (inr gives) = inr (record {
  kind = gives.kind;
  status = gives.status;
  stored = gives.stored;
  torn = gives.torn;
  fair = f gives.fair;
})

pub refuses_so : (files : List (Text × Text)) (Q : Outcome → Type 0) (x y : Outcome) → x ≡ y → Refuses files y →
    Refuses files x ⊎ Gives files Q x
refuses_so files Q x y e refuses = inl (subst (λ o. Refuses files o) (sym e) refuses)

pub file_refuses : (files : List (Text × Text)) (name text : Text) → Refuses files (file_refused name text)
file_refuses files name text = record {
  kind = refl;
  usage = λ e. let is : File ≡ Usage = e in cc;
  done = λ e. let is : File ≡ Done = e in cc;
  write = λ e. let is : File ≡ Write = e in cc;
  some = inl (refl, refl);
}

pub circuit_refuses : (files : List (Text × Text)) (name rest : Text) → Refuses files (circuit_refused name rest)
circuit_refuses files name rest = record {
  kind = refl;
  usage = λ e. let is : status.Circuit ≡ Usage = e in cc;
  done = λ e. let is : status.Circuit ≡ Done = e in cc;
  write = λ e. let is : status.Circuit ≡ Write = e in cc;
  some = inl (refl, refl);
}

pub values_refuses : (files : List (Text × Text)) (name rest : Text) → Refuses files (values_refused name rest)
values_refuses files name rest = record {
  kind = refl;
  usage = λ e. let is : status.Values ≡ Usage = e in cc;
  done = λ e. let is : status.Values ≡ Done = e in cc;
  write = λ e. let is : status.Values ≡ Write = e in cc;
  some = inl (refl, refl);
}

pub loads_fair : (files : List (Text × Text)) (told : Option Holding) (rose : Type 0) (name : Text) (P Q : Text → Outcome → Type 0) →
    ((c : Text) → Fair files (P c) (Q c)) → Fair files (Loads told rose name P) (Loads told ⊥ name Q)
loads_fair files told rose name P Q next x (inl (inl m)) =
    refuses_so files (Loads told ⊥ name Q) x (file_refused name (codes "missing")) m.1 (file_refuses files name (codes "missing"))
loads_fair files told rose name P Q next x (inl (inr (inl m))) =
    refuses_so files (Loads told ⊥ name Q) x (file_refused name (codes "too long")) m.1 (file_refuses files name (codes "too long"))
loads_fair files told rose name P Q next x (inl (inr (inr m))) =
    refuses_so files (Loads told ⊥ name Q) x (file_refused name (codes "fault")) m.1 (file_refuses files name (codes "fault"))
loads_fair files told rose name P Q next x (inr m) =
    carried files (Q m.0) (Loads told ⊥ name Q) x (λ q. inr (m.0, m.1, q)) (next m.0 x m.2)

pub reads_fair : {F C : Type 0} (files : List (Text × Text)) (faulty : F → Type 0) (refusal_of : F → Outcome) (reads : C → Type 0)
    (P Q : C → Outcome → Type 0) → ((f : F) → Refuses files (refusal_of f)) → ((c : C) → Fair files (P c) (Q c)) →
    Fair files (ReadsAs faulty refusal_of reads P) (ReadsAs faulty refusal_of reads Q)
reads_fair files faulty refusal_of reads P Q refusing next x (inl m) =
    refuses_so files (ReadsAs faulty refusal_of reads Q) x (refusal_of m.0) m.2 (refusing m.0)
reads_fair files faulty refusal_of reads P Q refusing next x (inr m) =
    carried files (Q m.0) (ReadsAs faulty refusal_of reads Q) x (λ q. inr (m.0, m.1, q)) (next m.0 x m.2)

pub unless_fair : (files : List (Text × Text)) (cause : Type 0) (answer : Outcome) (P Q : Outcome → Type 0) → Refuses files answer →
    Fair files P Q → Fair files (Unless cause answer P) (Unless cause answer Q)
unless_fair files cause answer P Q refusing next x (inl m) = refuses_so files (Unless cause answer Q) x answer m.1 refusing
unless_fair files cause answer P Q refusing next x (inr m) =
    carried files Q (Unless cause answer Q) x (λ q. inr (m.0, q)) (next x m.1)

pub stores_agree : (files : List (Text × Text)) (done : Outcome) (rose other : Type 0) → ¬ rose → ¬ other →
    Agree (StoresAll rose files done) (StoresAll other files done)
stores_agree files done rose other quiet still x y (inl m) (inl n) = m ∙ sym n
stores_agree files done rose other quiet still x y (inl m) (inr n) = absurd (still n.0)
stores_agree files done rose other quiet still x y (inr m) second = absurd (quiet m.0)

pub stopped_refuses : (files : List (Text × Text)) (at : ℕ) (file : Text × Text) → slice_get files at ≡ Some file →
    Refuses files (record (file_refused file.0 (codes "fault")) { stored = take at files; torn = Some file.0 })
stopped_refuses files at file there = record {
  kind = refl;
  usage = λ e. let is : File ≡ Usage = e in cc;
  done = λ e. let is : File ≡ Done = e in cc;
  write = λ e. let is : File ≡ Write = e in cc;
  some = inr (at, refl, sym (ap (option_map (λ (f : Text × Text). f.0)) there));
}

pub stores_fair : (files : List (Text × Text)) (text : Text) (rose : Type 0) →
    Fair files (StoresAll rose files (reported text)) (StoresAll ⊥ files (reported text))
stores_fair files text rose x (inl m) = inr (record {
  kind = ap (λ (o : Outcome). o.kind) m;
  status = ap (λ (o : Outcome). o.status) m;
  stored = ap (λ (o : Outcome). o.stored) m;
  torn = ap (λ (o : Outcome). o.torn) m;
  fair = inl m;
})
stores_fair files text rose x (inr m) =
    refuses_so files (StoresAll ⊥ files (reported text)) x
    (record (file_refused m.2.0 (codes "fault")) { stored = take m.1 files; torn = Some m.2.0 }) m.4 (stopped_refuses files m.1 m.2 m.3)
