-- What the owner of an input gives out, and what it keeps.
use Rattle.std.proofs.Common.{ℕ, zero, suc, ◌≡◌, ◌≢◌, ◌<◌, ◌≤◌, ◌+◌, ◌/◌, ◌%◌, ◌^◌, Bool, true, false, cond, not, ◌&&◌, List, [], ◌∷◌, ◌++◌, length, map, filter, get_or, remove, Option, Some, None, refl, sym, ◌∙◌, ap, ap₂, subst, arith}
use Rattle.std.specs.Prelude.{◌==◌, slice_get, slice_index, is_some, if◌then◌else◌, bit_xor}
use Rattle.std.proofs.lemmas.Bool.{ne_eqb, eq-eqb, eqb-true, eqb-false}
use Rattle.std.specs.List.{flat_map}
use Rattle.std.proofs.lemmas.Grind.{flat_map-append}
use Rattle.std.proofs.lemmas.List.{map-append, length-map}
use Rattle.std.proofs.lemmas.List.FromFn.{get_or-map-range_with_len}
use Rattle.mot_base.specs.Limits.{most_parties}
use Rattle.mot_base.specs.Tape.{share_of_tape, shares_of_tape}
use Rattle.share_types.specs.declared.bits.Bits.{Bits}
use Rattle.share_types.specs.Sums.{word_difference, total, sum_to, xor_to, each}
use Rattle.share_types.proofs.Parties.{sum_to_same, xor_to_same, length-each}
use Rattle.boolean_gmw.specs.Sharing.{share_given, own_word, low_word, given_word}
use Rattle.plan_gates.specs.declared.message.Message.{Message}
use Rattle.plan_gates.specs.Plan.{Gates}
use Rattle.plan_gates.specs.Messages.{message, are_two}
use Rattle.joint_run.specs.Party.{Payload}
use Rattle.gate_tasks.specs.Sending.{outs_by, out_by}
use Rattle.gate_tasks.specs.declared.own.StageEnv.{StageEnv}
use Rattle.joint_run.proofs.Grown.{got, total_is, grown-get}
use Rattle.arithmetic_gmw.proofs.Sums.{one_apart}
use Rattle.gate_tasks.proofs.Hearing.{filter_next}
use Rattle.mot_base.proofs.Lists.{same_some as some_is}

-- ---- what goes to each receiver

pub map_filtered : {Y : Type 0} (n : ℕ) (q : ℕ → Bool) (f g : ℕ → Y) → ((k : ℕ) → k < n → q k ≡ true → f k ≡ g k) →
    map f (filter q (each n (λ k. k))) ≡ map g (filter q (each n (λ k. k)))
map_filtered zero q f g same = refl
map_filtered (suc n) q f g same =
    let front = filter q (each n (λ k. k)) in
    ap (map f) (filter_next q n)
    ∙ (map-append f front (cond (q n) (n ∷ []) [])
    ∙ (ap₂ (λ xs ys. xs ++ ys) (map_filtered n q f g (λ k h. same k (omega (arith, h)))) (one (q n) refl)
    ∙ (sym (map-append g front (cond (q n) (n ∷ []) [])) ∙ sym (ap (map g) (filter_next q n)))))
  where
    one : (b : Bool) → q n ≡ b → map f (cond b (n ∷ []) []) ≡ map g (cond b (n ∷ []) [])
    one true e = ap (λ y. y ∷ []) (same n (omega arith) e)
    one false e = refl

-- what is made of the first numbers that pass a test, one after another
pub flat_filtered : {Y : Type 0} (n : ℕ) (q : ℕ → Bool) (f g : ℕ → List Y) → ((k : ℕ) → k < n → q k ≡ true → f k ≡ g k) →
    flat_map f (filter q (each n (λ k. k))) ≡ flat_map g (filter q (each n (λ k. k)))
flat_filtered zero q f g same = refl
flat_filtered (suc n) q f g same =
    let front = filter q (each n (λ k. k)) in
    ap (flat_map f) (filter_next q n)
    ∙ (flat_map-append f front (cond (q n) (n ∷ []) [])
    ∙ (ap₂ (λ xs ys. xs ++ ys) (flat_filtered n q f g (λ k h. same k (omega (arith, h)))) (one (q n) refl)
    ∙ (sym (flat_map-append g front (cond (q n) (n ∷ []) [])) ∙ sym (ap (flat_map g) (filter_next q n)))))
  where
    one : (b : Bool) → q n ≡ b → flat_map f (cond b (n ∷ []) []) ≡ flat_map g (cond b (n ∷ []) [])
    one true e = ap (λ y. y ++ []) (same n (omega arith) e)
    one false e = refl

pub two_of : (b : Bool) (o : Option Message) → is_some (if b then o else None) ≡ true → b ≡ true
two_of true o e = refl
two_of false o e = cc

apart_of : (a : Bool) (b : Bool) → (a && not b) ≡ true → b ≡ false
apart_of true true e = cc
apart_of true false e = refl
apart_of false b e = cc

-- a party sends to others alone
pub is_other : (plan : Gates) (me to g round : ℕ) → is_some (message plan me to g round) ≡ true → to ≢ me
is_other plan me to g round e same =
    eqb-false me to (apart_of _ (me == to) (two_of (are_two plan.parties me to) _ e)) (sym same)

pub outs_same : (env : StageEnv) (round : ℕ) (f g : ℕ → Payload) →
    ((to : ℕ) → to < env.plan.now.parties → is_some (message env.plan.now env.own.now.me.0 to env.gate round) ≡ true → f to ≡ g to) →
    outs_by env round f ≡ outs_by env round g
outs_same env round f g same =
    map_filtered env.plan.now.parties (λ to. is_some (message env.plan.now env.own.now.me.0 to env.gate round)) (out_by env round f) (out_by env round g)
    (λ to h e. ap (λ (p : Payload). record { to = record { 0 = to }; gate = env.gate; round = round; payload = p }) (same to h e))

-- ---- words

removed : (xs : List ℕ) (i : ℕ) → i < length xs → total (remove xs i) + get_or xs i 0 ≡ total xs
removed [] i h = omega arith
removed (x ∷ xs) zero h = omega arith
removed (x ∷ xs) (suc i) h = let rest = removed xs i (omega arith) in omega arith

same_map : (xs : List ℕ) → map (λ x. x) xs ≡ xs
same_map [] = refl
same_map (x ∷ xs) = ap (λ ys. x ∷ ys) (same_map xs)

pub total_others : (n me : ℕ) (f : ℕ → ℕ) (xs : List ℕ) → length xs ≡ n → me < n →
    ((to : ℕ) → to < n → to ≢ me → slice_get xs to ≡ Some (f to)) →
    total (remove xs me) ≡ sum_to n (λ q. if q == me then 0 else f q)
total_others n me f xs long inside others =
    let whole = removed xs me (subst (λ k. me < k) (sym long) inside) in
    let by_number : total xs ≡ sum_to n (λ q. get_or xs q 0) =
    ap total (sym (same_map xs)) ∙ (total_is (λ x. x) xs 0 ∙ ap (λ k. sum_to k (λ q. get_or xs q 0)) long) in
    let apart : sum_to n (λ q. get_or xs q 0) ≡ sum_to n (λ q. if me == q then get_or xs me 0 else f q) =
    sum_to_same n (λ q. get_or xs q 0) (λ q. if me == q then get_or xs me 0 else f q) (λ q h. at q h (me == q) refl) in
    let cut = one_apart n me (get_or xs me 0) f inside in
    omega (arith, whole, by_number, apart, cut)
  where
    at : (q : ℕ) → q < n → (b : Bool) → (me == q) ≡ b → get_or xs q 0 ≡ cond b (get_or xs me 0) (f q)
    at q h true e = ap (λ k. get_or xs k 0) (sym (eqb-true me q e))
    at q h false e = got xs q (f q) 0 (others q h (λ same. eqb-false me q e (sym same)))

pub cut_word : (n t : ℕ) → word_difference (n / 2 ^ 0 % 2 ^ 64) t ≡ word_difference n t
cut_word n t = omega arith

-- ---- vectors

pub tape_at : (seed : List ℕ) (session gate to : ℕ) → to < most_parties →
    slice_index (shares_of_tape seed session gate) to ≡ share_of_tape seed session gate to
tape_at seed session gate to h = get_or-map-range_with_len (share_of_tape seed session gate) 0 most_parties to to 0 h (omega arith)

pub mapped_at : {X : Type 0} (f : X → ℕ) (xs : List X) (i : ℕ) (x : X) → slice_get xs i ≡ Some x → slice_get (map f xs) i ≡ Some (f x)
mapped_at f [] i x e = cc
mapped_at f (y ∷ ys) zero x e = ap (λ (z : _). Some (f z)) (some_is y x e)
mapped_at f (y ∷ ys) (suc i) x e = mapped_at f ys i x e

each_at : {X : Type 0} (n : ℕ) (f : ℕ → X) (i : ℕ) → i < n → slice_get (each n f) i ≡ Some (f i)
each_at n f i h = grown-get (λ k. each k f) f refl (λ k. refl) n i h

pub same_length : {X : Type 0} (g : X → ℕ) (xs : List X) (n : ℕ) (f : ℕ → ℕ) → map g xs ≡ each n f → length xs ≡ n
same_length g xs n f e = sym (length-map xs g) ∙ (ap (λ (ys : List ℕ). length ys) e ∙ length-each n f)

-- what stands at a place, where the list is that of what each party has
pub field_at : {X : Type 0} (g : X → ℕ) (xs : List X) (n : ℕ) (f : ℕ → ℕ) (i : ℕ) (x : X) → map g xs ≡ each n f → i < n →
    slice_get xs i ≡ Some x → g x ≡ f i
field_at g xs n f i x e h found =
    some_is (g x) (f i) (sym (mapped_at g xs i x found) ∙ (ap (λ ys. slice_get ys i) e ∙ each_at n f i h))

-- the low bits of a share word
pub low_at : (w : ℕ) (seed : List ℕ) (session gate to : ℕ) → to < most_parties →
    low_word w (shares_of_tape seed session gate) to ≡ share_of_tape seed session gate to % 2 ^ w
low_at w seed session gate to h = ap (λ n. n % 2 ^ w) (tape_at seed session gate to h)

-- the own share of a vector
pub own_share : (x : Bits) (seed : List ℕ) (session gate me n : ℕ) → n ≤ most_parties →
    share_given x (shares_of_tape seed session gate) me n me
    ≡ bit_xor x.word (xor_to n (λ q. if q == me then 0 else share_of_tape seed session gate q % 2 ^ x.width))
own_share x seed session gate me n few =
    let tape = shares_of_tape seed session gate in
    ap (λ b. cond b (own_word x tape me n) (low_word x.width tape me)) (eq-eqb me me refl)
    ∙ ap (bit_xor x.word) (xor_to_same n (given_word x.width tape me) (λ q. if q == me then 0 else share_of_tape seed session gate q % 2 ^ x.width)
    (λ q h. ap (λ v. cond (q == me) 0 v) (low_at x.width seed session gate q (omega (arith, h, few)))))

-- the share for another party
pub given_share : (x : Bits) (seed : List ℕ) (session gate me n to : ℕ) → to < most_parties → to ≢ me →
    share_given x (shares_of_tape seed session gate) me n to ≡ share_of_tape seed session gate to % 2 ^ x.width
given_share x seed session gate me n to h apart =
    ap (λ b. cond b (own_word x (shares_of_tape seed session gate) me n) (low_word x.width (shares_of_tape seed session gate) to)) (ne_eqb to me apart)
    ∙ low_at x.width seed session gate to h
