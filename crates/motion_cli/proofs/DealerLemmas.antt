-- The parts that files hold, and the first fault that they show.
use Rattle.std.proofs.Common.{ℕ, zero, suc, ◌≡◌, ◌≢◌, ◌<◌, ◌≤◌, ◌+◌, ◌⊎◌, inl, inr, Bool, true, false, cond, List, [], ◌∷◌, ◌++◌, length, take, get_or, Option, Some, None, refl, sym, ap, ap₂, subst, ◌∙◌, arith}
use Rattle.std.specs.Prelude.{slice_get, nat_lt}
use Rattle.std.proofs.lemmas.Bool.{cases_lt}
use Rattle.std.proofs.lemmas.List.{length-append}
use Rattle.std.proofs.lemmas.Option.{slice_get_within}
use Rattle.mot_base.specs.Faults.{Rose}
use Rattle.mot_base.specs.Files.{Holding}
use Rattle.mot_base.proofs.Lists.{take_next, some_at}
use Rattle.dealer_files.specs.declared.fault.DealerError.{DealerError}
use Rattle.dealer_files.specs.declared.fault.DealerError.TheVariants.{Short, Long, RecordBits}
use Rattle.dealer_files.specs.declared.fault.DealerError.TheVariants as cause
use Rattle.dealer_files.specs.Part.{Part}
use Rattle.dealer_files.specs.Checks.{checked, first_of, magic_fault, version_fault, party_fault, offset_fault, counts_fault, head_fault, IsWrongByte, IsFirst, IsRecordsFault, IsFirstFault}
use Rattle.dealer_files.proofs.Parted.{one-part}
use Rattle.dealer_files.proofs.Whole.{no-fault}
use Rattle.text_lines.specs.Text.{Text}
use Rattle.command_ends.specs.declared.fault.PartFault.{PartFault}
use Rattle.command_ends.specs.declared.fault.PartFault.TheVariants.{Unread, Differs}
use Rattle.motion_cli.specs.Dealer.{difference, Holds, AreRead, Shows, IsFaulty, IsDealerFault}
use Rattle.command_ends.specs.Outcome.{Outcome, memory, part_name}
use Rattle.command_ends.proofs.StoreLemmas.{rose_since}
use Rattle.command_ends.specs.Refusal.{dealer_refused}
use Rattle.command_ends.specs.Steps.{IsContent, IsUnloaded, AreContents, IsFirstUnloaded}

-- ---- lists by their places

pub take_there : {X : Type 0} (xs : List X) (n at : ℕ) (x : X) → at < n → slice_get xs at ≡ Some x → slice_get (take n xs) at ≡ Some x
take_there [] n at x h e = cc
take_there (y ∷ xs) zero at x h e = absurd (omega (arith, h))
take_there (y ∷ xs) (suc n) zero x h e = e
take_there (y ∷ xs) (suc n) (suc at) x h e = take_there xs n at x (omega (arith, h)) e

pub there_taken : {X : Type 0} (xs : List X) (n at : ℕ) (x : X) → slice_get (take n xs) at ≡ Some x → slice_get xs at ≡ Some x
there_taken [] zero at x e = e
there_taken [] (suc n) at x e = e
there_taken (y ∷ xs) zero at x e = cc
there_taken (y ∷ xs) (suc n) zero x e = e
there_taken (y ∷ xs) (suc n) (suc at) x e = there_taken xs n at x e

pub one_item : {X : Type 0} (o : Option X) (x y : X) → o ≡ Some x → o ≡ Some y → x ≡ y
one_item o x y e f = (let same : Some x ≡ Some y = sym e ∙ f in cc)

-- lists with the same item at each place are the same
pub same_list : {X : Type 0} (xs ys : List X) → length xs ≡ length ys →
    ((at : ℕ) (x y : X) → slice_get xs at ≡ Some x → slice_get ys at ≡ Some y → x ≡ y) → xs ≡ ys
same_list [] [] count same = refl
same_list [] (y ∷ ys) count same = absurd (omega (arith, count))
same_list (x ∷ xs) [] count same = absurd (omega (arith, count))
same_list (x ∷ xs) (y ∷ ys) count same =
    ap₂ ◌∷◌ (same 0 x y refl refl) (same_list xs ys (omega (arith, count)) (λ at v w e f. same (suc at) v w e f))

-- two places are the same, or one is before the other
pub which_first : (a b : ℕ) → (a < b) ⊎ ((b < a) ⊎ (a ≡ b))
which_first a b = elim (cases_lt a b) as (λ _. (a < b) ⊎ ((b < a) ⊎ (a ≡ b))) [
  | inl less ↦ inl less
  | inr more ↦ elim (cases_lt b a) as (λ _. (a < b) ⊎ ((b < a) ⊎ (a ≡ b))) [
    | inl less ↦ inr (inl less)
    | inr other ↦ inr (inr (omega (arith, more, other)))
  ]
]

-- ---- a file shows one fault

-- a check of a field finds no want of memory
abbrev IsNotMemory : Option DealerError → Type 0
IsNotMemory None = Unit {0}
IsNotMemory (Some cause.NoMemory) = ⊥
IsNotMemory (Some _) = Unit {0}

checked_not : (bytes : Text) (ends : ℕ) (passes : Bool) (c : DealerError) → IsNotMemory (Some c) → IsNotMemory (checked bytes ends passes c)
checked_not bytes ends passes c ok = either (nat_lt (length bytes) ends)
  where
    passing : (b : Bool) → IsNotMemory (cond b None (Some c))
    passing true = tt
    passing false = ok

    either : (b : Bool) → IsNotMemory (cond b (Some Short) (cond passes None (Some c)))
    either true = tt
    either false = passing passes

first_not : (a : Option DealerError) (rest : List (Option DealerError)) → IsNotMemory a → IsNotMemory (first_of rest) →
    IsNotMemory (first_of (a ∷ rest))
first_not None rest m n = n
first_not (Some c) rest m n = m

never_memory : (bytes : Text) → head_fault bytes ≡ Some cause.NoMemory → ⊥
unfolding magic_fault version_fault party_fault offset_fault counts_fault
never_memory bytes h =
    let all : IsNotMemory (head_fault bytes) =
    first_not (magic_fault bytes) _ (checked_not bytes 4 _ cause.Magic tt)
    (first_not (version_fault bytes) _ (checked_not bytes 5 _ cause.Version tt)
    (first_not (party_fault bytes) _ (checked_not bytes 7 _ cause.Party tt)
    (first_not (offset_fault bytes) _ (checked_not bytes 31 _ cause.OffsetEven tt)
    (first_not (counts_fault bytes) _ (checked_not bytes 47 _ cause.Counts tt) tt)))) in
    subst IsNotMemory h all

one_place : (P : ℕ → Type 0) (a b : ℕ) → IsFirst P a → IsFirst P b → a ≡ b
one_place P a b m n = elim (which_first a b) as (λ _. a ≡ b) [
  | inl less ↦ absurd (n.before a less m.here)
  | inr (inl more) ↦ absurd (m.before b more n.here)
  | inr (inr same) ↦ same
]

one_records_fault : (bytes : Text) (a b : DealerError) → IsRecordsFault bytes a → IsRecordsFault bytes b → a ≡ b
one_records_fault bytes Short Short m n = refl
one_records_fault bytes Short Long m n = absurd (omega (arith, m, n))
one_records_fault bytes Short (RecordBits place) m n = (let e = n.0 in absurd (omega (arith, m, e)))
one_records_fault bytes Long Short m n = absurd (omega (arith, m, n))
one_records_fault bytes Long Long m n = refl
one_records_fault bytes Long (RecordBits place) m n = (let e = n.0 in absurd (omega (arith, m, e)))
one_records_fault bytes (RecordBits place) Short m n = (let e = m.0 in absurd (omega (arith, n, e)))
one_records_fault bytes (RecordBits place) Long m n = (let e = m.0 in absurd (omega (arith, n, e)))
one_records_fault bytes (RecordBits place) (RecordBits other) m n = ap RecordBits (one_place (IsWrongByte bytes) place other m.1 n.1)
one_records_fault bytes cause.Magic b m n = absurd m
one_records_fault bytes cause.Version b m n = absurd m
one_records_fault bytes cause.Party b m n = absurd m
one_records_fault bytes cause.OffsetEven b m n = absurd m
one_records_fault bytes cause.Counts b m n = absurd m
one_records_fault bytes cause.NoMemory b m n = absurd m
one_records_fault bytes Short cause.Magic m n = absurd n
one_records_fault bytes Short cause.Version m n = absurd n
one_records_fault bytes Short cause.Party m n = absurd n
one_records_fault bytes Short cause.OffsetEven m n = absurd n
one_records_fault bytes Short cause.Counts m n = absurd n
one_records_fault bytes Short cause.NoMemory m n = absurd n
one_records_fault bytes Long cause.Magic m n = absurd n
one_records_fault bytes Long cause.Version m n = absurd n
one_records_fault bytes Long cause.Party m n = absurd n
one_records_fault bytes Long cause.OffsetEven m n = absurd n
one_records_fault bytes Long cause.Counts m n = absurd n
one_records_fault bytes Long cause.NoMemory m n = absurd n
one_records_fault bytes (RecordBits place) cause.Magic m n = absurd n
one_records_fault bytes (RecordBits place) cause.Version m n = absurd n
one_records_fault bytes (RecordBits place) cause.Party m n = absurd n
one_records_fault bytes (RecordBits place) cause.OffsetEven m n = absurd n
one_records_fault bytes (RecordBits place) cause.Counts m n = absurd n
one_records_fault bytes (RecordBits place) cause.NoMemory m n = absurd n

one_cause : (bytes : Text) (a b : DealerError) → IsFirstFault bytes a → IsFirstFault bytes b → a ≡ b
one_cause bytes a b (inl m) (inl n) = one_item (head_fault bytes) a b m n
one_cause bytes a b (inl m) (inr n) = (let same : Some a ≡ None = sym m ∙ n.0 in cc)
one_cause bytes a b (inr m) (inl n) = (let same : Some b ≡ None = sym n ∙ m.0 in cc)
one_cause bytes a b (inr m) (inr n) = one_records_fault bytes a b m.1 n.1

-- want of memory is no fault of a file
pub no_memory_fault : (bytes : Text) (a : DealerError) → IsFirstFault bytes a → a ≢ cause.NoMemory
no_memory_fault bytes a (inl m) = λ e. absurd (not_found (subst (λ f. head_fault bytes ≡ Some f) e m))
  where
    not_found : head_fault bytes ≡ Some cause.NoMemory → ⊥
    not_found h = never_memory bytes h
no_memory_fault bytes a (inr m) = λ e. subst (λ f. IsRecordsFault bytes f) e m.1

-- a file holds one part
one_held : (file : Text) (p q : Part) → Holds file p → Holds file q → p ≡ q
one_held file p q m n = one-part file p q m.1 n.1 m.0 n.0

pub one_shown : (parties : ℕ) (before : List Part) (file : Text) (a b : PartFault) → Shows parties before file a → Shows parties before file b →
    a ≡ b
one_shown parties before file (Unread a) (Unread b) m n = ap Unread (one_cause file a b m n)
one_shown parties before file (Unread a) (Differs d) m n = absurd (no-fault file n.0 a n.1.0 m)
one_shown parties before file (Differs d) (Unread b) m n = absurd (no-fault file m.0 b m.1.0 n)
one_shown parties before file (Differs d) (Differs e) m n =
    let same = one_held file m.0 n.0 m.1 n.1 in
    let found : difference parties (length before) (get_or before 0 n.0) n.0 ≡ Some d =
    subst (λ (p : Part). difference parties (length before) (get_or before 0 p) p ≡ Some d) same m.2 in
    ap Differs (one_item (difference parties (length before) (get_or before 0 n.0) n.0) d e found n.2)

-- ---- files hold one list of parts

pub one_reading : (parties : ℕ) (files : List Text) (ps qs : List Part) → AreRead parties files ps → AreRead parties files qs → ps ≡ qs
one_reading parties files ps qs m n = same_list ps qs (m.count ∙ sym n.count) same
  where
    same : (at : ℕ) (p q : Part) → slice_get ps at ≡ Some p → slice_get qs at ≡ Some q → p ≡ q
    same at p q e f =
        let within : at < length files = (let h = slice_get_within ps at p e in let c = m.count in omega (arith, h, c)) in
        let file = some_at files at within in
        one_held file.0 p q (m.each at file.0 p file.1 e).0 (n.each at file.0 q file.1 f).0

-- the first files hold the first parts
first_read : (parties n : ℕ) (files : List Text) (ps : List Part) → AreRead parties files ps → AreRead parties (take n files) (take n ps)
first_read parties n files ps read = record {
  count = taken_lengths n ps files read.count;
  each = λ at file part e f.
      let here = read.each at file part (there_taken files n at file e) (there_taken ps n at part f) in
      (here.0, ap (λ (first : Part). difference parties at first part) (first_taken n at ps part f) ∙ here.1);
}
  where
    taken_lengths : {X Y : Type 0} (n : ℕ) (xs : List X) (ys : List Y) → length xs ≡ length ys → length (take n xs) ≡ length (take n ys)
    taken_lengths zero xs ys e = refl
    taken_lengths (suc n) [] [] e = refl
    taken_lengths (suc n) [] (y ∷ ys) e = absurd (omega (arith, e))
    taken_lengths (suc n) (x ∷ xs) [] e = absurd (omega (arith, e))
    taken_lengths (suc n) (x ∷ xs) (y ∷ ys) e = (let rest = taken_lengths n xs ys (omega (arith, e)) in omega (arith, rest))

    first_taken : (n at : ℕ) (xs : List Part) (x : Part) → slice_get (take n xs) at ≡ Some x → get_or (take n xs) 0 x ≡ get_or xs 0 x
    first_taken zero at xs x e = cc
    first_taken (suc n) at [] x e = refl
    first_taken (suc n) at (y ∷ xs) x e = refl

-- what was read before a place is as it was
first_part : (n : ℕ) (xs : List Part) (x : Part) → slice_get xs n ≡ Some x → get_or (take n xs) 0 x ≡ get_or xs 0 x
first_part zero [] x e = refl
first_part zero (y ∷ xs) x e = (let same : Some x ≡ Some y = sym e in cc)
first_part (suc n) [] x e = refl
first_part (suc n) (y ∷ xs) x e = refl

pub length_taken : {X : Type 0} (n : ℕ) (xs : List X) → n ≤ length xs → length (take n xs) ≡ n
length_taken zero xs h = refl
length_taken (suc n) [] h = absurd (omega (arith, h))
length_taken (suc n) (x ∷ xs) h = (let rest = length_taken n xs (omega (arith, h)) in omega (arith, rest))

-- where files are read to one behind a place, the file there shows no fault
no_fault_read : (parties at : ℕ) (files : List Text) (ps : List Part) (file : Text) (fault : PartFault) → AreRead parties files ps →
    slice_get files at ≡ Some file → Shows parties (take at ps) file fault → ⊥
no_fault_read parties at files ps file fault read there shows = by fault shows
  where
    within : at < length ps
    within = (let h = slice_get_within files at file there in let c = read.count in omega (arith, h, c))

    part : (p : Part) × (slice_get ps at ≡ Some p)
    part = some_at ps at within

    held : Holds file part.0 × (difference parties at (get_or ps 0 part.0) part.0 ≡ None)
    held = read.each at file part.0 there part.1

    by : (fault : PartFault) → Shows parties (take at ps) file fault → ⊥
    by (Unread cause) shows = no-fault file part.0 cause held.0.0 shows
    by (Differs d) shows =
        let same = one_held file shows.0 part.0 shows.1 held.0 in
        let count = length_taken at ps (omega (arith, within)) in
        let found : difference parties (length (take at ps)) (get_or (take at ps) 0 part.0) part.0 ≡ Some d =
        subst (λ (p : Part). difference parties (length (take at ps)) (get_or (take at ps) 0 p) p ≡ Some d) same shows.2 in
        let here : difference parties (length (take at ps)) (get_or (take at ps) 0 part.0) part.0 ≡ difference parties at (get_or ps 0 part.0) part.0 =
        ap₂ (λ (k : ℕ) (first : Part). difference parties k first part.0) count (first_part at ps part.0 part.1) in
        (let none : Some d ≡ None = sym found ∙ (here ∙ held.1) in cc)

-- so no file that is read shows a fault
pub not_faulty : (parties : ℕ) (files : List Text) (ps : List Part) (at : ℕ) (fault : PartFault) → AreRead parties files ps →
    IsFaulty parties files at fault → ⊥
not_faulty parties files ps at fault read faulty =
    let same = one_reading parties (take at files) faulty.before (take at ps) faulty.read (first_read parties at files ps read) in
    no_fault_read parties at files ps faulty.file fault read faulty.there
    (subst (λ (before : List Part). Shows parties before faulty.file fault) same faulty.shows)

-- and none before the first one does
not_before : (parties : ℕ) (files : List Text) (a b : ℕ) (fault other : PartFault) → a < b → IsFaulty parties files a fault →
    IsFaulty parties files b other → ⊥
not_before parties files a b fault other less m n =
    let P : List Text → Type 0 = λ fs. AreRead parties fs m.before in
    not_faulty parties (take b files) n.before a fault n.read (record {
      before = m.before;
      read = subst P (sym (taken_twice a b files less)) m.read;
      file = m.file;
      there = take_there files b a m.file less m.there;
      shows = m.shows;
    })
  where
    taken_twice : {X : Type 0} (a b : ℕ) (xs : List X) → a < b → take a (take b xs) ≡ take a xs
    taken_twice zero b xs h = refl
    taken_twice (suc a) zero xs h = absurd (omega (arith, h))
    taken_twice (suc a) (suc b) [] h = refl
    taken_twice (suc a) (suc b) (x ∷ xs) h = ap (λ ys. x ∷ ys) (taken_twice a b xs (omega (arith, h)))

-- so files show one first fault, at one place
pub one_faulty : (parties : ℕ) (files : List Text) (a b : ℕ) (fault other : PartFault) → IsFaulty parties files a fault →
    IsFaulty parties files b other → (a ≡ b) × (fault ≡ other)
one_faulty parties files a b fault other m n = elim (which_first a b) as (λ _. (a ≡ b) × (fault ≡ other)) [
  | inl less ↦ absurd (not_before parties files a b fault other less m n)
  | inr (inl more) ↦ absurd (not_before parties files b a other fault more n m)
  | inr (inr same) ↦
      (let P : ℕ → Type 0 = λ k. AreRead parties (take k files) m.before in
      let befores = one_reading parties (take b files) m.before n.before (subst P same m.read) n.read in
      let texts = one_item (slice_get files b) m.file n.file (ap (slice_get files) (sym same) ∙ m.there) n.there in
      let Q : List Part → Type 0 = λ before. Shows parties before m.file fault in
      let R : Text → Type 0 = λ file. Shows parties n.before file fault in
      (same, one_shown parties n.before n.file fault other (subst R texts (subst Q befores m.shows)) n.shows))
]

-- ---- files and parts, one after another

pub none_read : (parties : ℕ) (files : List Text) → AreRead parties (take 0 files) []
none_read parties files = record { count = refl; each = λ at file part e f. cc }

-- an item of a list with one more is an item of the list, or the last
pub either_item : {X : Type 0} (xs : List X) (x y : X) (at : ℕ) → slice_get (xs ++ x ∷ []) at ≡ Some y →
    ((at < length xs) × (slice_get xs at ≡ Some y)) ⊎ ((at ≡ length xs) × (x ≡ y))
either_item [] x y zero e = inr (refl, one_item (Some x) x y refl e)
either_item [] x y (suc at) e = cc
either_item (z ∷ xs) x y zero e = inl (omega arith, e)
either_item (z ∷ xs) x y (suc at) e = elim (either_item xs x y at e) as (λ _. ((suc at < length (z ∷ xs)) × (slice_get (z ∷ xs) (suc at) ≡ Some y)) ⊎ ((suc at ≡ length (z ∷ xs)) × (x ≡ y))) [
  | inl front ↦ inl ((let h = front.0 in omega (arith, h)), front.1)
  | inr last ↦ inr ((let h = last.0 in omega (arith, h)), last.1)
]

-- what holds of two lists place by place holds with one more in each
pub next_places : {X Y : Type 0} (P : ℕ → X → Y → Type 0) (xs : List X) (ys : List Y) (x : X) (y : Y) → length ys ≡ length xs →
    ((at : ℕ) (u : X) (w : Y) → slice_get xs at ≡ Some u → slice_get ys at ≡ Some w → P at u w) → P (length xs) x y →
    (at : ℕ) (u : X) (w : Y) → slice_get (xs ++ x ∷ []) at ≡ Some u → slice_get (ys ++ y ∷ []) at ≡ Some w → P at u w
next_places {X} {Y} P xs ys x y count before here at u w e f = by (either_item xs x u at e) (either_item ys y w at f)
  where
    by : ((at < length xs) × (slice_get xs at ≡ Some u)) ⊎ ((at ≡ length xs) × (x ≡ u)) →
        ((at < length ys) × (slice_get ys at ≡ Some w)) ⊎ ((at ≡ length ys) × (y ≡ w)) → P at u w
    by (inl m) (inl n) = before at u w m.1 n.1
    by (inl m) (inr n) = absurd (let h = m.0 in let k = n.0 in omega (arith, h, k, count))
    by (inr m) (inl n) = absurd (let h = n.0 in let k = m.0 in omega (arith, h, k, count))
    by (inr m) (inr n) =
        let Q : X → Type 0 = λ v. P at v w in
        let R : Y → Type 0 = λ v. P at x v in
        let S : ℕ → Type 0 = λ k. P k x y in
        subst Q m.1 (subst R n.1 (subst S (sym m.0) here))

-- one file more is read
pub read_next : (parties : ℕ) (files : List Text) (parts : List Part) (at : ℕ) (file : Text) (part : Part) → slice_get files at ≡ Some file →
    AreRead parties (take at files) parts → Holds file part → difference parties (length parts) (get_or parts 0 part) part ≡ None →
    AreRead parties (take (at + 1) files) (parts ++ part ∷ [])
read_next parties files parts at file part there read holds same =
    let next = take_next files at file there in
    subst (λ (fs : List Text). AreRead parties fs (parts ++ part ∷ [])) (sym next) (record {
      count = length-append parts (part ∷ []) ∙ (ap (λ (n : ℕ). n + 1) read.count ∙ sym (length-append (take at files) (file ∷ [])));
      each = next_places
          (λ (k : ℕ) (f : Text) (p : Part). Holds f p × (difference parties k (get_or (parts ++ part ∷ []) 0 p) p ≡ None))
          (take at files) parts file part read.count
          (λ k f p e g.
          let before = read.each k f p e g in
          (before.0, ap (λ (first : Part). difference parties k first p) (first_more parts p (slice_get_within parts k p g)) ∙ before.1))
          (holds, last);
    })
  where
    first_more : (ps : List Part) (p : Part) {k : ℕ} → k < length ps → get_or (ps ++ part ∷ []) 0 p ≡ get_or ps 0 p
    first_more [] p h = absurd (omega (arith, h))
    first_more (q ∷ ps) p h = refl

    first_last : (ps : List Part) → get_or (ps ++ part ∷ []) 0 part ≡ get_or ps 0 part
    first_last [] = refl
    first_last (q ∷ ps) = refl

    last : difference parties (length (take at files)) (get_or (parts ++ part ∷ []) 0 part) part ≡ None
    last = ap₂ (λ (k : ℕ) (first : Part). difference parties k first part) (sym read.count) (first_last parts) ∙ same

-- the next file shows a fault
pub faulty_at : (prefix : Text) (parties : ℕ) (files : List Text) (parts : List Part) (at : ℕ) (file : Text) (end : Outcome) →
    slice_get files at ≡ Some file → AreRead parties (take at files) parts →
    ((fault : PartFault) × Shows parties parts file fault × (end ≡ dealer_refused (part_name prefix (length parts)) fault)) ⊎ (end ≡ memory) →
    IsDealerFault prefix parties files end ⊎ (end ≡ memory)
faulty_at prefix parties files parts at file end there read (inl shown) =
    let within = slice_get_within files at file there in
    let count : length parts ≡ at = read.count ∙ length_taken at files (omega (arith, within)) in
    inl (record {
      at = at;
      fault = shown.0;
      faulty = record { before = parts; read = read; file = file; there = there; shows = shown.1 };
      told = shown.2 ∙ ap (λ (n : ℕ). dealer_refused (part_name prefix n) shown.0) count;
    })
faulty_at prefix parties files parts at file end there read (inr e) = inr e

-- one file more is loaded
pub contents_next : (told : Option Holding) (names contents : List Text) (at : ℕ) (name content : Text) → slice_get names at ≡ Some name →
    AreContents told (take at names) contents → IsContent told name content →
    AreContents told (take (at + 1) names) (contents ++ content ∷ [])
contents_next told names contents at name content there are is =
    subst (λ (ns : List Text). AreContents told ns (contents ++ content ∷ [])) (sym (take_next names at name there)) (record {
      count = length-append contents (content ∷ []) ∙ (ap (λ (n : ℕ). n + 1) are.count ∙ sym (length-append (take at names) (name ∷ [])));
      each = next_places (λ (k : ℕ) (n c : Text). IsContent told n c) (take at names) contents name content are.count are.each is;
    })

pub none_loaded : (told : Option Holding) (names : List Text) → AreContents told (take 0 names) []
none_loaded told names = record { count = refl; each = λ at name content e f. cc }

-- the next file is not loaded
pub first_unloaded : (told since : Option Holding) (early late now : ℕ) (names contents : List Text) (at : ℕ) (name : Text) (end : Outcome) →
    slice_get names at ≡ Some name → AreContents told (take at names) contents → since ≡ told → early ≤ late →
    IsUnloaded since (Rose late now) name end ⊎ (end ≡ memory) → IsFirstUnloaded told (Rose early now) names end ⊎ (end ≡ memory)
first_unloaded told since early late now names contents at name end there are same h (inl unloaded) =
    inl (record { at = at; name = name; there = there; before = contents; loaded = are; unloaded = by (subst (λ o. IsUnloaded o (Rose late now) name end) same unloaded) })
  where
    by : IsUnloaded told (Rose late now) name end → IsUnloaded told (Rose early now) name end
    by (inl m) = inl m
    by (inr (inl m)) = inr (inl m)
    by (inr (inr m)) = inr (inr (rose_since early late now h m.0, m.1))
first_unloaded told since early late now names contents at name end there are same h (inr e) = inr e
