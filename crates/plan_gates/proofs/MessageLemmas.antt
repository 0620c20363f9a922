-- The messages of gates: which rounds there are, who hears, and how long payloads are.
use Rattle.std.proofs.Common.{ℕ, zero, suc, ◌≡◌, ◌<◌, ◌≤◌, ◌+◌, ◌*◌, Bool, true, false, cond, ◌||◌, List, [], ◌∷◌, ◌++◌, length, take, filter, Option, Some, None, inl, inr, refl, sym, ◌∙◌, ap, ap₂, subst, arith, suc-mul}
use Rattle.std.specs.Prelude.{slice_get, option_map, nat_lt, IfSome}
use Rattle.std.specs.List.{list_any}
use Rattle.std.specs.Option.{unwrap_or}
use Rattle.std.proofs.lemmas.List.{length-append}
use Rattle.std.proofs.lemmas.List.Folds.{list_any-append}
use Rattle.std.proofs.lemmas.List.Elements.{filter-append}
use Rattle.std.proofs.lemmas.Bool.{cases_lt, ltb-true}
use Rattle.mot_base.specs.Limits.{most_parties, most_width, most_payload_bytes}
use Rattle.share_types.specs.Sums.{each}
use Rattle.message_demux.specs.Slots.{IsShapeOf, vector_bytes}
use Rattle.mot_base.proofs.Lists.{same_some, take_next, inside_of, before_at, last_at}
use Rattle.plan_gates.specs.declared.message.Message.{Message}
use Rattle.plan_gates.specs.Gate.{Kind, Gate, InA, MulA, OutA, InB, AndB, OutB, InOnline, ShareAOnline, ShareBOnline, Garble, BToA, operands, low_width}
use Rattle.plan_gates.specs.declared.draft.Sizes.{Sizes}
use Rattle.plan_gates.specs.Plan.{Gates, sizes_of}
use Rattle.plan_gates.specs.Messages.{words, vectors, messages_of, messages_at, message, are_two, hears, rounds, awaits, sent_in}

-- ---- all parties, one after another

any_next : (p : ℕ → Bool) (n : ℕ) → list_any p (each (suc n) (λ k. k)) ≡ (list_any p (each n (λ k. k)) || p n)
any_next p n = list_any-append p (each n (λ k. k)) (n ∷ []) ∙ ap (λ b. list_any p (each n (λ k. k)) || b) (or_false (p n))
  where
    or_false : (b : Bool) → (b || false) ≡ b
    or_false true = refl
    or_false false = refl

pub any_more : (p : ℕ → Bool) (n : ℕ) → list_any p (each n (λ k. k)) ≡ false → p n ≡ false →
    list_any p (each (n + 1) (λ k. k)) ≡ false
any_more p n before here =
    let next : n + 1 ≡ suc n = omega arith in
    ap (λ k. list_any p (each k (λ k. k))) next ∙ any_next p n ∙ ap₂ (λ a b. a || b) before here

pub any_here : (p : ℕ → Bool) (n at : ℕ) → at < n → p at ≡ true → list_any p (each n (λ k. k)) ≡ true
any_here p zero at h e = absurd (omega arith)
any_here p (suc n) at h e = any_next p n ∙ elim (cases_lt at n) as (λ _. (list_any p (each n (λ k. k)) || p n) ≡ true) [
  | inl small ↦ ap (λ b. b || p n) (any_here p n at small e)
  | inr large ↦
      (let same : at ≡ n = omega arith in
      ap (λ b. list_any p (each n (λ k. k)) || b) (ap p (sym same) ∙ e) ∙ or_true (list_any p (each n (λ k. k))))
]
  where
    or_true : (b : Bool) → (b || true) ≡ true
    or_true true = refl
    or_true false = refl

-- ---- rounds

-- a kind has as many rounds for all parties, and at most three
same_rounds : (kind : Kind) (sizes : Sizes) (f t : ℕ) → length (messages_of kind sizes f t) ≡ length (messages_of kind sizes 0 0)
same_rounds (InA party k) sizes f t = refl
same_rounds (MulA x y) sizes f t = refl
same_rounds (OutA x to) sizes f t = refl
same_rounds (InB party k at) sizes f t = refl
same_rounds (AndB x y) sizes f t = refl
same_rounds (OutB x to) sizes f t = refl
same_rounds (InOnline party k at m) sizes f t = refl
same_rounds (ShareAOnline party x m) sizes f t = refl
same_rounds (ShareBOnline party x m) sizes f t = refl
same_rounds (Garble u v m) sizes f t = refl
same_rounds (BToA x) sizes f t = refl
same_rounds _ sizes f t = refl

few_rounds : (kind : Kind) (sizes : Sizes) → length (messages_of kind sizes 0 0) ≤ 3
few_rounds (InA party k) sizes = omega arith
few_rounds (MulA x y) sizes = omega arith
few_rounds (OutA x to) sizes = omega arith
few_rounds (InB party k at) sizes = omega arith
few_rounds (AndB x y) sizes = omega arith
few_rounds (OutB x to) sizes = omega arith
few_rounds (InOnline party k at m) sizes = omega arith
few_rounds (ShareAOnline party x m) sizes = omega arith
few_rounds (ShareBOnline party x m) sizes = omega arith
few_rounds (Garble u v m) sizes = omega arith
few_rounds (BToA x) sizes = omega arith
few_rounds _ sizes = omega arith

pub rounds_are_few : (plan : Gates) (g : ℕ) → rounds plan g ≤ 3
rounds_are_few plan g = by (slice_get plan.gates g)
  where
    by : (o : Option Gate) → length (messages_at plan o 0 0) ≤ 3
    by None = omega arith
    by (Some gate) = few_rounds gate.kind (sizes_of plan gate)

-- behind the last round there is no message
pub in_rounds : (plan : Gates) (g from to round : ℕ) (m : Message) →
    unwrap_or (slice_get (messages_at plan (slice_get plan.gates g) from to) round) None ≡ Some m → round < rounds plan g
in_rounds plan g from to round m e = by (slice_get plan.gates g) e
  where
    inside : (xs : List (Option Message)) (k : ℕ) → unwrap_or (slice_get xs k) None ≡ Some m → k < length xs
    inside [] k e = cc
    inside (x ∷ xs) zero e = omega arith
    inside (x ∷ xs) (suc k) e = let rest = inside xs k e in omega arith

    by : (o : Option Gate) → unwrap_or (slice_get (messages_at plan o from to) round) None ≡ Some m →
        round < length (messages_at plan o 0 0)
    by None e = cc
    by (Some gate) e =
        let same = same_rounds gate.kind (sizes_of plan gate) from to in
        let within = inside (messages_of gate.kind (sizes_of plan gate) from to) round e in
        omega arith

-- ---- the rounds in which a party hears, one after another

-- those below a number that pass a test
abbrev pub passing : (ℕ → Bool) → ℕ → List ℕ
passing test n = filter test (each n (λ k. k))

passing_next : (test : ℕ → Bool) (n : ℕ) → passing test (suc n) ≡ passing test n ++ filter test (n ∷ [])
passing_next test n = filter-append test (each n (λ k. k)) (n ∷ [])

count_one : (test : ℕ → Bool) (n : ℕ) (b : Bool) → test n ≡ b → length (filter test (n ∷ [])) ≡ cond b 1 0
count_one test n true e = rw e refl
count_one test n false e = rw e refl

pub passing_more : (test : ℕ → Bool) (n : ℕ) (b : Bool) → test n ≡ b →
    length (passing test (n + 1)) ≡ length (passing test n) + cond b 1 0
passing_more test n b e =
    let next : n + 1 ≡ suc n = omega arith in
    ap (λ k. length (passing test k)) next
    ∙ (ap (λ (xs : List ℕ). length xs) (passing_next test n)
    ∙ (length-append (passing test n) (filter test (n ∷ [])) ∙ ap (λ k. length (passing test n) + k) (count_one test n b e)))

-- one that passes stands behind as many as pass below it
pub passing_at : (test : ℕ → Bool) (n at : ℕ) → at < n → test at ≡ true →
    slice_get (passing test n) (length (passing test at)) ≡ Some at
passing_at test zero at h e = absurd (omega arith)
passing_at test (suc n) at h e =
    ap (λ (xs : List ℕ). slice_get xs (length (passing test at))) (passing_next test n)
    ∙ elim (cases_lt at n) as (λ _. slice_get (passing test n ++ filter test (n ∷ [])) (length (passing test at)) ≡ Some at) [
      | inl small ↦
          (let there = passing_at test n at small e in
          before_at (passing test n) (filter test (n ∷ [])) (length (passing test at)) (inside_of (passing test n) (length (passing test at)) at there)
          ∙ there)
      | inr large ↦
          (let same : at ≡ n = omega arith in
          let P : ℕ → Type 0 = λ k. slice_get (passing test n ++ filter test (n ∷ [])) (length (passing test k)) ≡ Some k in
          let one : filter test (n ∷ []) ≡ n ∷ [] = here (test n) refl (ap test (sym same) ∙ e) in
          subst P (sym same) (ap (λ xs. slice_get (passing test n ++ xs) (length (passing test n))) one ∙ last_at (passing test n) n))
    ]
  where
    here : (b : Bool) → test n ≡ b → test n ≡ true → filter test (n ∷ []) ≡ n ∷ []
    here true f t = rw f refl
    here false f t = let contrary = sym f ∙ t in cc

pub past : {X : Type 0} (xs : List X) (k : ℕ) → length xs ≤ k → slice_get xs k ≡ None
past [] k h = refl
past (x ∷ xs) zero h = absurd (omega arith)
past (x ∷ xs) (suc k) h = past xs k (omega arith)

-- ---- what there is of a message

pub sent_parts : (parties from to : ℕ) (o : Option Message) (m : Message) → cond (are_two parties from to) o None ≡ Some m →
    (from < parties) × (o ≡ Some m)
sent_parts parties from to o m e = first (nat_lt from parties) refl e
  where
    second : (b : Bool) → cond b o None ≡ Some m → o ≡ Some m
    second true e = e
    second false e = cc

    first : (b : Bool) → nat_lt from parties ≡ b → cond (are_two parties from to) o None ≡ Some m → (from < parties) × (o ≡ Some m)
    first true t e = (ltb-true _ _ t, second (are_two parties from to) e)
    first false t e = let none : are_two parties from to ≡ false = rw t refl in let contrary = rw none at e in cc

pub record IsSent (plan : Gates) (from g r : ℕ) : Type 0 where
  pub round : r < rounds plan g
  pub sender : from < plan.parties
  pub gate : g < length plan.gates

pub is_sent : (plan : Gates) (from to g round : ℕ) (m : Message) → message plan from to g round ≡ Some m → IsSent plan from g round
is_sent plan from to g round m e =
    let parts = sent_parts plan.parties from to (unwrap_or (slice_get (messages_at plan (slice_get plan.gates g) from to) round) None) m e in
    record { round = in_rounds plan g from to round m parts.1; sender = parts.0; gate = within (slice_get plan.gates g) refl parts.1 }
  where
    within : (o : Option Gate) → slice_get plan.gates g ≡ o → unwrap_or (slice_get (messages_at plan o from to) round) None ≡ Some m → g < length plan.gates
    within None there e = cc
    within (Some gate) there e = inside_of plan.gates g gate there

-- ---- what a stage waits for

-- a stage that waits for a round is the one behind that in which the party sends it, and the party receives in it
pub record Waits (plan : Gates) (p g stage round : ℕ) : Type 0 where
  pub behind : stage ≡ sent_in plan p g round + 1
  pub inside : round < rounds plan g
  pub heard : hears plan p g round ≡ true

record IsPlace (test : ℕ → Bool) (n k at : ℕ) : Type 0 where
  below : at < n
  passes : test at ≡ true
  count : k ≡ length (passing test at)

-- what stands at a place of those that pass
place : (test : ℕ → Bool) (n k at : ℕ) → slice_get (passing test n) k ≡ Some at → IsPlace test n k at
place test zero k at e = cc
place test (suc n) k at e = elim (cases_lt k (length (passing test n))) as (λ _. IsPlace test (suc n) k at) [
  | inl small ↦
      (let there = sym (before_at (passing test n) (filter test (n ∷ [])) k small) ∙ (ap (λ (xs : List ℕ). slice_get xs k) (sym (passing_next test n)) ∙ e) in
      let rest = place test n k at there in
      let less = rest.below in
      record { below = omega arith; passes = rest.passes; count = rest.count })
  | inr large ↦ last (test n) refl large
]
  where
    last : (b : Bool) → test n ≡ b → length (passing test n) ≤ k → IsPlace test (suc n) k at
    last true f large =
        let one : filter test (n ∷ []) ≡ n ∷ [] = rw f refl in
        let all : passing test (suc n) ≡ passing test n ++ n ∷ [] = passing_next test n ∙ ap (λ xs. passing test n ++ xs) one in
        let inside = inside_of (passing test (suc n)) k at e in
        let long = ap (λ (xs : List ℕ). length xs) all ∙ length-append (passing test n) (n ∷ []) in
        let here : k ≡ length (passing test n) = omega arith in
        let is : n ≡ at = same_some n at (sym (ap (slice_get (passing test n ++ n ∷ [])) here ∙ last_at (passing test n) n) ∙ (ap (λ (xs : List ℕ). slice_get xs k) (sym all) ∙ e)) in
        let P : ℕ → Type 0 = λ q. IsPlace test (suc n) k q in
        subst P is (record { below = omega arith; passes = f; count = here })
    last false f large =
        let one : filter test (n ∷ []) ≡ [] = rw f refl in
        let all : passing test (suc n) ≡ passing test n ++ [] = passing_next test n ∙ ap (λ xs. passing test n ++ xs) one in
        let none : List ℕ = [] in
        let inside = inside_of (passing test (suc n)) k at e in
        let long = ap (λ (xs : List ℕ). length xs) all ∙ length-append (passing test n) none in
        absurd (omega arith)

pub waits : (plan : Gates) (p g stage round : ℕ) → awaits plan p g stage ≡ Some round → Waits plan p g stage round
waits plan p g zero round e = cc
waits plan p g (suc stage) round e =
    let is = place (hears plan p g) (rounds plan g) stage round e in
    let count = is.count in
    record { behind = omega arith; inside = is.below; heard = is.passes }

-- and each round in which it receives has such a stage
pub awaits_heard : (plan : Gates) (p g round : ℕ) → round < rounds plan g → hears plan p g round ≡ true →
    awaits plan p g (suc (sent_in plan p g round)) ≡ Some round
awaits_heard plan p g round h e = passing_at (hears plan p g) (rounds plan g) round h e

-- fewer pass below a smaller number
pub passing_fewer : (test : ℕ → Bool) (m n : ℕ) → m ≤ n → length (passing test m) ≤ length (passing test n)
passing_fewer test m zero h = let none : m ≡ 0 = omega arith in subst (λ k. length (passing test k) ≤ length (passing test 0)) (sym none) (omega arith)
passing_fewer test m (suc n) h = elim (cases_lt m (suc n)) as (λ _. length (passing test m) ≤ length (passing test (suc n))) [
  | inl small ↦
      (let before = passing_fewer test m n (omega arith) in
      let next = ap (λ (xs : List ℕ). length xs) (passing_next test n) ∙ length-append (passing test n) (filter test (n ∷ [])) in
      omega arith)
  | inr large ↦
      (let same : suc n ≡ m = omega arith in
      subst (λ k. length (passing test m) ≤ length (passing test k)) (sym same) (omega arith))
]

-- ---- how long payloads are

pub record Fits (m : Message) : Type 0 where
  pub some : 1 ≤ m.len
  pub most : m.len ≤ most_payload_bytes
  pub shape : IsShapeOf m.shape m.len

few_words : (count : ℕ) → 1 ≤ count → count ≤ 8192 → Fits (words count)
few_words count some few = record { some = omega arith; most = omega arith; shape = tt }

times_least : (a b : ℕ) → 1 ≤ a → 1 ≤ b → 1 ≤ a * b
times_least (suc a) b h k = omega (arith, h, k)
times_least zero b h k = absurd (omega (arith, h))

times_most : (a b c : ℕ) → b ≤ c → a * b ≤ a * c
times_most zero b c h = omega arith
times_most (suc a) b c h =
    let rest = times_most a b c h in let first = suc-mul a b in let second = suc-mul a c in omega arith

few_vectors : (count width : ℕ) → 1 ≤ count → count ≤ 8192 → 1 ≤ width → width ≤ most_width → Fits (vectors count width)
few_vectors count width some few wide narrow =
    let least : 1 ≤ vector_bytes width = omega arith in
    let most : vector_bytes width ≤ 8 = omega arith in
    record {
      some = times_least count (vector_bytes width) some least;
      most = let top = times_most count (vector_bytes width) 8 most in omega arith;
      shape = (wide, narrow, refl);
    }

one_entry : (b : Bool) (given m : Message) (round : ℕ) → Fits given →
    unwrap_or (slice_get (cond b (Some given) None ∷ []) round) None ≡ Some m → Fits m
one_entry true given m zero fits e = subst Fits (same_some given m e) fits
one_entry false given m zero fits e = cc
one_entry b given m (suc round) fits e = cc

-- one of three
three_entries : (a b : Bool) (first second third m : Message) (round : ℕ) → Fits first → Fits second → Fits third →
    unwrap_or (slice_get (cond a (Some first) None ∷ cond b (Some second) None ∷ Some third ∷ []) round) None ≡ Some m → Fits m
three_entries true b first second third m zero f g h e = subst Fits (same_some first m e) f
three_entries false b first second third m zero f g h e = cc
three_entries a true first second third m (suc zero) f g h e = subst Fits (same_some second m e) g
three_entries a false first second third m (suc zero) f g h e = cc
three_entries a b first second third m (suc (suc zero)) f g h e = subst Fits (same_some third m e) h
three_entries a b first second third m (suc (suc (suc round))) f g h e = cc

-- a table has at most 4,096 words
few_keys : (parties width : ℕ) → 1 ≤ parties → parties ≤ most_parties → 1 ≤ width → width ≤ most_width →
    Fits (words (8 * parties * width))
few_keys parties width some_parties few some most =
    few_words (8 * parties * width) (times_least (8 * parties) width (omega arith) some)
    (let top = times_most (8 * parties) width most_width most in omega arith)

abbrev no_messages : List (Option Message)
no_messages = []

nothing_there : (m : Message) (round : ℕ) → unwrap_or (slice_get no_messages round) None ≡ Some m → Fits m
nothing_there m zero e = cc
nothing_there m (suc round) e = cc

-- what an entry sends
entry_fits : (a b : Bool) (width round : ℕ) (m : Message) → 1 ≤ width → width ≤ most_width →
    unwrap_or (slice_get (cond a (Some (vectors 1 width)) None ∷ cond b (Some (vectors 1 width)) None ∷ Some (words (2 * width)) ∷ []) round) None ≡ Some m →
    Fits m
entry_fits a b width round m some most e =
    three_entries a b (vectors 1 width) (vectors 1 width) (words (2 * width)) m round
    (few_vectors 1 width (omega arith) (omega arith) some most)
    (few_vectors 1 width (omega arith) (omega arith) some most)
    (few_words (2 * width) (omega arith) (omega arith)) e

kind_fits : (kind : Kind) (sizes : Sizes) (f t r : ℕ) (m : Message) → 1 ≤ sizes.parties → sizes.parties ≤ most_parties →
    1 ≤ sizes.width → sizes.width ≤ most_width → IfSome (slice_get (operands kind) 0) (λ x. 1 ≤ sizes.low) → sizes.low ≤ most_width →
    unwrap_or (slice_get (messages_of kind sizes f t) r) None ≡ Some m → Fits m
kind_fits (InA party k) sizes f t r m parties few some most wide low e = one_entry _ (words 1) m r (few_words 1 (omega arith) (omega arith)) e
kind_fits (MulA x y) sizes f t r m parties few some most wide low e = one_entry true (words 2) m r (few_words 2 (omega arith) (omega arith)) e
kind_fits (OutA x to) sizes f t r m parties few some most wide low e = one_entry _ (words 1) m r (few_words 1 (omega arith) (omega arith)) e
kind_fits (InB party k at) sizes f t r m parties few some most wide low e =
    one_entry _ (vectors 1 sizes.width) m r (few_vectors 1 sizes.width (omega arith) (omega arith) some most) e
kind_fits (AndB x y) sizes f t r m parties few some most wide low e =
    one_entry true (vectors 2 sizes.width) m r (few_vectors 2 sizes.width (omega arith) (omega arith) some most) e
kind_fits (OutB x to) sizes f t r m parties few some most wide low e =
    one_entry _ (vectors 1 sizes.width) m r (few_vectors 1 sizes.width (omega arith) (omega arith) some most) e
kind_fits (InOnline party k at n) sizes f t r m parties few some most wide low e = entry_fits _ _ sizes.width r m some most e
kind_fits (ShareAOnline party x n) sizes f t r m parties few some most wide low e = entry_fits _ _ sizes.width r m some most e
kind_fits (ShareBOnline party x n) sizes f t r m parties few some most wide low e = entry_fits _ _ sizes.width r m some most e
kind_fits (Garble u v n) sizes f t r m parties few some most wide low e =
    three_entries true true (vectors 2 sizes.width) (vectors 1 sizes.width) (words (8 * sizes.parties * sizes.width)) m r
    (few_vectors 2 sizes.width (omega arith) (omega arith) some most)
    (few_vectors 1 sizes.width (omega arith) (omega arith) some most)
    (few_keys sizes.parties sizes.width parties few some most) e
kind_fits (BToA x) sizes f t r m parties few some most wide low e =
    one_entry true (vectors 1 sizes.low) m r (few_vectors 1 sizes.low (omega arith) (omega arith) wide low) e
kind_fits _ sizes f t r m parties few some most wide low e = nothing_there m r e

pub gate_fits : (plan : Gates) (gate : Gate) (f t r : ℕ) (m : Message) → 1 ≤ plan.parties → plan.parties ≤ most_parties →
    1 ≤ gate.width → gate.width ≤ most_width →
    IfSome (slice_get (operands gate.kind) 0) (λ x. 1 ≤ low_width plan.gates gate.kind) → low_width plan.gates gate.kind ≤ most_width →
    unwrap_or (slice_get (messages_at plan (Some gate) f t) r) None ≡ Some m → Fits m
gate_fits plan gate f t r m parties few some most wide low e =
    kind_fits gate.kind (sizes_of plan gate) f t r m parties few some most wide low e

-- ---- output gates, one after another

pub count_next : (test : Gate → Bool) (gates : List Gate) (g count : ℕ) (gate : Gate) (b : Bool) → slice_get gates g ≡ Some gate →
    test gate ≡ b → count ≡ length (filter test (take g gates)) →
    count + cond b 1 0 ≡ length (filter test (take (g + 1) gates))
count_next test gates g count gate b there e before =
    before_more ∙ sym (ap (λ xs. length (filter test xs)) (take_next gates g gate there)
    ∙ ap (λ (xs : List Gate). length xs) (filter-append test (take g gates) (gate ∷ []))
    ∙ length-append (filter test (take g gates)) (filter test (gate ∷ []))
    ∙ ap (λ n. length (filter test (take g gates)) + n) (one b e))
  where
    before_more : count + cond b 1 0 ≡ length (filter test (take g gates)) + cond b 1 0
    before_more = ap (λ n. n + cond b 1 0) before

    one : (b : Bool) → test gate ≡ b → length (filter test (gate ∷ [])) ≡ cond b 1 0
    one true e = rw e refl
    one false e = rw e refl

-- the gate of which a kind is told
pub gate_there : (gates : List Gate) (g : ℕ) (kind : Kind) → option_map (λ gate. gate.kind) (slice_get gates g) ≡ Some kind →
    (gate : Gate) × (slice_get gates g ≡ Some gate) × (gate.kind ≡ kind)
gate_there gates g kind e = there (slice_get gates g) refl e
  where
    there : (o : Option Gate) → slice_get gates g ≡ o → option_map (λ (gate : Gate). gate.kind) o ≡ Some kind →
        (gate : Gate) × (slice_get gates g ≡ Some gate) × (gate.kind ≡ kind)
    there None f e = cc
    there (Some gate) f e = (gate, f, same_some gate.kind kind e)
