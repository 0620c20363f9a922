-- What a refusal says, and how its line is written.
use Rattle.std.proofs.Common.{ℕ, append_assoc, ◌≡◌, ◌≢◌, ◌++◌, Result, Ok, Err, String, Global, refl, sym, ap, subst}
use Rattle.std.specs.Prelude.{codes, IfErr}
use Rattle.std.specs.Result.{IsErrAnd}
use Rattle.dealer_files.specs.declared.fault.DealerError.{DealerError}
use Rattle.dealer_files.specs.declared.fault.DealerError.TheVariants as dealer
use Rattle.text_lines.specs.Text.{Text}
use Rattle.command_ends.specs.declared.refusal.Refusal.{Refusal}
use Rattle.command_ends.specs.declared.refusal.Refusal.TheVariants.{Memory}
use Rattle.command_ends.specs.Outcome.{memory}
use Rattle.command_ends.specs.Refusal.{came_to, outcome_of, dealer_word, dealer_cause}

-- What the exit of a `?` said.

pub memory_said : (r : Result (String Global) Refusal) → IsErrAnd r (λ given. given ≡ Memory) → came_to r ≡ memory
memory_said (Ok text) void = absurd void
memory_said (Err given) e = ap outcome_of e

pub refusal_said : (r : Result (String Global) Refusal) (refusal : Refusal) → IsErrAnd r (λ given. given ≡ refusal) → came_to r ≡ outcome_of refusal
refusal_said (Ok text) refusal void = absurd void
refusal_said (Err given) refusal e = ap outcome_of e

pub refused_as : {T : Type 0} (r : Result T Refusal) (refusal : Refusal) (P : Refusal → Type 0) → IsErrAnd r (λ given. given ≡ refusal) →
    P refusal → IfErr r P
refused_as (Ok x) refusal P void p = tt
refused_as (Err given) refusal P e p = subst P (sym e) p

pub part_text : (prefix number rest : Text) → prefix ++ (codes "." ++ (number ++ rest)) ≡ (prefix ++ (codes "." ++ number)) ++ rest
part_text prefix number rest = sym (append_assoc prefix (codes "." ++ number) rest)

-- of a fault that is no wrong record the cause alone is told
pub told_by_cause : (cause : DealerError) → ((place : ℕ) → cause ≢ dealer.RecordBits place) → dealer_cause cause ≡ dealer_word cause
told_by_cause dealer.Magic other = refl
told_by_cause dealer.Version other = refl
told_by_cause dealer.Party other = refl
told_by_cause dealer.OffsetEven other = refl
told_by_cause dealer.Counts other = refl
told_by_cause (dealer.RecordBits place) other = absurd (other place refl)
told_by_cause dealer.Short other = refl
told_by_cause dealer.Long other = refl
told_by_cause dealer.NoMemory other = refl
