-- What a stage gives, edge by edge.
use Rattle.std.proofs.Common.{◌≡◌, ℕ, ◌+◌, ◌<◌, ◌≤◌, List, [], ◌∷◌, ◌++◌, length, take, get_or, replicate, Option, Some, None, sym, subst, ⊎_elim}
use Rattle.std.specs.Prelude.{slice_get, IsSome}
use Rattle.std.specs.List.{AllByRecursion}
use Rattle.std.proofs.lemmas.Bool.{false≢true, cases_lt}
use Rattle.std.proofs.lemmas.List.{take_more}
use Rattle.std.proofs.lemmas.Option.{none-some, slice_get_past}
use Rattle.task_pool.specs.Meanings.{AreMeanings}
use Rattle.gate_tasks.specs.declared.stage.StageOut.{StageOut}
use Rattle.gate_tasks.specs.declared.value.Value.{Value}
use Rattle.gate_tasks.specs.declared.outgoing.Out.{Out}
use Rattle.mot_base.specs.declared.Party.{Party}
use Rattle.joint_run.specs.Party.{Payload}
use Rattle.joint_run.proofs.Grown.{there_is}
use Rattle.local_run.specs.declared.item.Load.{Load}
use Rattle.local_run.specs.declared.item.Load.TheVariants.{Wire, Kept, Message}
use Rattle.local_run.specs.declared.cargo.Cargo.{Cargo}
use Rattle.local_run.specs.declared.cargo.Cargo.TheVariants as cargo
use Rattle.local_run.specs.Meaning.{Sends, HasCargo, HasCargoAt, IsCargo, IsCargoAt}
use Rattle.mot_base.proofs.Lists.{all_at}

means_push : {E : Type 0} (means : ℕ → E → Type 0) (es : List ℕ) (vs : List E) (e : ℕ) (v : E) → AreMeanings means es vs → means e v → AreMeanings means (es ++ e ∷ []) (vs ++ v ∷ [])
means_push means [] [] e v are is = (is, tt)
means_push means [] (w ∷ vs) e v are is = absurd are
means_push means (d ∷ es) [] e v are is = absurd are
means_push means (d ∷ es) (w ∷ vs) e v are is = (are.0, means_push means es vs e v are.1 is)

in_loads : (given : StageOut) (loads : List Load) (e : ℕ) → HasCargoAt given (slice_get loads e) → e < length loads
in_loads given loads e has =
    ⊎_elim
    (λ (less : e < length loads). less)
    (λ (more : length loads ≤ e). absurd (subst (λ o. HasCargoAt given o) (slice_get_past loads e more) has))
    (cases_lt e (length loads))

-- one edge more
pub outputs_more : (given : StageOut) (loads : List Load) (edges : List ℕ) (k : ℕ) (old new : List Cargo) (d : Load) (c : Cargo) → AllByRecursion (λ e. HasCargoAt given (slice_get loads e)) edges → k < length edges → AreMeanings (λ e v. IsCargoAt given (slice_get loads e) v) (take k edges) old → IsCargo given (get_or loads (get_or edges k 0) d) c → new ≡ old ++ c ∷ [] → AreMeanings (λ e v. IsCargoAt given (slice_get loads e) v) (take (k + 1) edges) new
outputs_more given loads edges k old new d c all within are is more =
    let means : ℕ → Cargo → Type 0 = λ e v. IsCargoAt given (slice_get loads e) v in
    let e = get_or edges k 0 in
    let has = all_at (λ e. HasCargoAt given (slice_get loads e)) edges k e all (there_is edges k 0 within) in
    let there = there_is loads e d (in_loads given loads e has) in
    let here : means e c = subst (λ o. IsCargoAt given o c) (sym there) is in
    let one = means_push means (take k edges) old e c are here in
    let two = subst (λ (es : List ℕ). AreMeanings means es (old ++ c ∷ [])) (sym (take_more edges k 0 within)) one in
    subst (λ (vs : List Cargo). AreMeanings means (take (k + 1) edges) vs) (sym more) two

sends-none : (round : ℕ) (to : Party) (payload : Payload) → Sends [] round to payload → ⊥
sends-none round to payload (i, o, is, same) = none-some o is.there

-- where a stage gave its value alone, an edge carries that
alone : (given : StageOut) (v : Value) (load : Option Load) → given.value ≡ Some v → given.carried ≡ None → given.out ≡ [] → HasCargoAt given load → IsCargoAt given load (cargo.Value v)
alone given v None value carried out has = absurd has
alone given v (Some (Wire g p)) value carried out has = value
alone given v (Some (Kept g round p)) value carried out has = absurd (false≢true (subst (λ o. IsSome o) carried has))
alone given v (Some (Message g round from to)) value carried out has =
    let to_none : Sends [] round to has.0 = subst (λ (os : List Out). Sends os round to has.0) out has.1 in
    absurd (sends-none round to has.0 to_none)

-- and all edges carry it
pub all_alone : (given : StageOut) (v : Value) (loads : List Load) (edges : List ℕ) → given.value ≡ Some v → given.carried ≡ None → given.out ≡ [] → AllByRecursion (λ e. HasCargoAt given (slice_get loads e)) edges → AreMeanings (λ e c. IsCargoAt given (slice_get loads e) c) edges (replicate (length edges) (cargo.Value v))
all_alone given v loads [] value carried out all = tt
all_alone given v loads (e ∷ es) value carried out all =
    (alone given v (slice_get loads e) value carried out all.0, all_alone given v loads es value carried out all.1)

-- what holds of the last one and of those before it
pub all_but_last : (P : ℕ → Type 0) (before : List ℕ) (last : ℕ) → AllByRecursion P (before ++ last ∷ []) → AllByRecursion P before × P last
all_but_last P [] last all = (tt, all.0)
all_but_last P (e ∷ before) last all = let rest = all_but_last P before last all.1 in ((all.0, rest.0), rest.1)

pub all_of_last : (given : StageOut) (loads : List Load) (edges before : List ℕ) (last : ℕ) → edges ≡ before ++ last ∷ [] → AllByRecursion (λ e. HasCargoAt given (slice_get loads e)) edges → AllByRecursion (λ e. HasCargoAt given (slice_get loads e)) before × HasCargoAt given (slice_get loads last)
all_of_last given loads edges before last are all =
    all_but_last (λ e. HasCargoAt given (slice_get loads e)) before last (subst (λ (es : List ℕ). AllByRecursion (λ e. HasCargoAt given (slice_get loads e)) es) are all)

pub last_inside : (given : StageOut) (loads : List Load) (edges before : List ℕ) (last : ℕ) → edges ≡ before ++ last ∷ [] → AllByRecursion (λ e. HasCargoAt given (slice_get loads e)) edges → last < length loads
last_inside given loads edges before last are all = in_loads given loads last (all_of_last given loads edges before last are all).1

pub last_has : (given : StageOut) (loads : List Load) (edges before : List ℕ) (last : ℕ) (d : Load) → edges ≡ before ++ last ∷ [] → AllByRecursion (λ e. HasCargoAt given (slice_get loads e)) edges → HasCargo given (get_or loads last d)
last_has given loads edges before last d are all =
    subst (λ o. HasCargoAt given o) (there_is loads last d (last_inside given loads edges before last are all)) (all_of_last given loads edges before last are all).1

-- the last edge behind the others
pub outputs_with_last : (given : StageOut) (loads : List Load) (edges before : List ℕ) (last : ℕ) (old new : List Cargo) (d : Load) (c : Cargo) → edges ≡ before ++ last ∷ [] → AllByRecursion (λ e. HasCargoAt given (slice_get loads e)) edges → AreMeanings (λ e v. IsCargoAt given (slice_get loads e) v) before old → IsCargo given (get_or loads last d) c → new ≡ old ++ c ∷ [] → AreMeanings (λ e v. IsCargoAt given (slice_get loads e) v) edges new
outputs_with_last given loads edges before last old new d c are all means is more =
    let meaning : ℕ → Cargo → Type 0 = λ e v. IsCargoAt given (slice_get loads e) v in
    let there = there_is loads last d (last_inside given loads edges before last are all) in
    let here : meaning last c = subst (λ o. IsCargoAt given o c) (sym there) is in
    let one = means_push meaning before old last c means here in
    let two = subst (λ (es : List ℕ). AreMeanings meaning es (old ++ c ∷ [])) (sym are) one in
    subst (λ (vs : List Cargo). AreMeanings meaning edges vs) (sym more) two
