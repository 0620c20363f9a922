-- What is drawn is honest together.
use Rattle.std.proofs.Common.{◌≡◌, ℕ, zero, suc, ◌+◌, ◌-◌, ◌*◌, ◌%◌, ◌^◌, ◌<◌, ◌≤◌, Bool, true, false, List, [], ◌∷◌, ◌++◌, map, get_or, All, refl, sym, ap, ap₂, subst, ◌∙◌, arith}
use Rattle.std.specs.Prelude.{◌==◌, nat_eq, if◌then◌else◌, bit_and, bit_xor}
use Rattle.std.specs.Int.{bit_at}
use Rattle.std.specs.Int.Bits.{xor_assoc, xor_self, xor_zero_l}
use Rattle.std.specs.List.{range_with_len}
use Rattle.std.proofs.lemmas.Nat.{xor_comm, mul-mod}
use Rattle.std.proofs.lemmas.Nat.Bits.{bit_at_xor, bit_at-lt}
use Rattle.std.proofs.lemmas.Bool.Decides.{nat_tests}
use Rattle.std.proofs.lemmas.List.FromFn.{map-range_with_len_more, get_or-map-range_with_len, length-map-range_with_len}
use Rattle.mot_base.specs.Tape.{word_of_tape, long_word_of_tape, key_of_tape}
use Rattle.share_types.specs.Bits.{once, differ}
use Rattle.share_types.specs.Sums.{word_difference, word_product, total, xor_total, sum_to, xor_to, each}
use Rattle.share_types.specs.Keys.{times, key_at, parity_to, AreSharedBit, AreKeyBit}
use Rattle.share_types.proofs.Parties.{total-each, xor_total-each, map-each, sum_to_same, xor_to_same}
use Rattle.share_types.specs.declared.needs.Needs.{Needs}
use Rattle.share_types.specs.declared.records.MultTriple.{MultTriple}
use Rattle.dealer_files.specs.Part.{Part, counts_of}
use Rattle.dealer_files.specs.Honest.{IsMultTriple, IsBitTriple, HonestTogether}
use Rattle.dealer_files.proofs.Garbling.{shared_bit_same, key_bit_same}
use Rattle.dealer_maker.proofs.Drawing.{left_small}
use Rattle.dealer_maker.proofs.Records.{rows-length, odd}
use Rattle.dealer_maker.specs.Draws.{rows, word_total, word_xor, key_xor, bit_left, mult_drawn, bit_drawn, shared_drawn, share_drawn, key_drawn, offset_drawn, owner_begin, part_drawn, parts_drawn, mult_words, shared_words, key_words, mult_begin, bit_begin, shared_begin, key_begin}

pub row-map : {X : Type 0} (f : ℕ → X) (n : ℕ) → map f (range_with_len 0 n) ≡ each n f
row-map f zero = refl
row-map f (suc n) =
    let e : suc n ≡ n + 1 = omega arith in
    ap (λ k. map f (range_with_len 0 k)) e
    ∙ (map-range_with_len_more f 0 n n (omega arith) ∙ ap (λ ys. ys ++ f n ∷ []) (row-map f n))

pub each-same : {X : Type 0} (n : ℕ) (f g : ℕ → X) → ((i : ℕ) → f i ≡ g i) → each n f ≡ each n g
each-same zero f g e = refl
each-same (suc n) f g e = ap₂ (λ ys y. ys ++ y ∷ []) (each-same n f g e) (e n)

pub parts-each : {Y : Type 0} (g : Part → Y) (h : ℕ → Y) (seed : List ℕ) (n : ℕ) (counts : Needs) →
    ((party : ℕ) → g (part_drawn seed n counts party) ≡ h party) → map g (parts_drawn seed n counts) ≡ each n h
parts-each g h seed n counts e =
    ap (map g) (row-map (part_drawn seed n counts) n)
    ∙ (map-each g n (part_drawn seed n counts) ∙ each-same n (λ party. g (part_drawn seed n counts party)) h e)

pub row-at : {X : Type 0} (drawn : ℕ → X) (begin size count at : ℕ) (d : X) → at < count →
    get_or (rows drawn begin size count) at d ≡ drawn (begin + size * at)
row-at drawn begin size count at d h = get_or-map-range_with_len (λ k. drawn (begin + size * k)) 0 count at at d h (omega arith)

-- sums and XORs with party 0 in front
sum-front : (k : ℕ) (f : ℕ → ℕ) → sum_to (suc k) f ≡ f 0 + sum_to k (λ q. f (suc q))
sum-front zero f = omega arith
sum-front (suc k) f = let rest = sum-front k f in omega arith

xor_zero_r : (x : ℕ) → bit_xor x 0 ≡ x
xor_zero_r x = xor_comm x 0 ∙ xor_zero_l x

xor-front : (k : ℕ) (f : ℕ → ℕ) → xor_to (suc k) f ≡ bit_xor (f 0) (xor_to k (λ q. f (suc q)))
xor-front zero f = xor_comm 0 (f 0)
xor-front (suc k) f =
    ap (λ x. bit_xor x (f (suc k))) (xor-front k f) ∙ xor_assoc (f 0) (xor_to k (λ q. f (suc q))) (f (suc k))

xor-again : (x y : ℕ) → bit_xor (bit_xor x y) y ≡ x
xor-again x y = xor_assoc x y y ∙ (ap (bit_xor x) (xor_self y) ∙ xor_zero_r x)

xor-bits : (a b : ℕ) → a < 2 → b < 2 → bit_xor a b ≡ (a + b) % 2
xor-bits zero zero p q = refl
xor-bits zero (suc zero) p q = refl
xor-bits (suc zero) zero p q = refl
xor-bits (suc zero) (suc zero) p q = refl
xor-bits (suc (suc a)) b p q = absurd (omega arith)
xor-bits zero (suc (suc b)) p q = absurd (omega arith)
xor-bits (suc zero) (suc (suc b)) p q = absurd (omega arith)

zero-bit : (i : ℕ) → bit_at 0 i ≡ 0
zero-bit i =
    let e : bit_at 0 i ≡ (bit_at 0 i + bit_at 0 i) % 2 = bit_at_xor 0 0 i in
    let small = bit_at-lt 0 i in
    omega arith

bit-of-xor : (n i : ℕ) (f : ℕ → ℕ) → bit_at (xor_to n f) i ≡ xor_to n (λ q. bit_at (f q) i)
bit-of-xor zero i f = zero-bit i
bit-of-xor (suc n) i f =
    bit_at_xor (xor_to n f) (f n) i
    ∙ (sym (xor-bits (bit_at (xor_to n f) i) (bit_at (f n) i) (bit_at-lt (xor_to n f) i) (bit_at-lt (f n) i))
    ∙ ap (λ x. bit_xor x (bit_at (f n) i)) (bit-of-xor n i f))

pick-suc : {X : Type 0} (q : ℕ) (x y : X) → (if nat_eq (suc q) 0 then x else y) ≡ y
pick-suc q x y = let e : nat_eq (suc q) 0 ≡ false = grind (arith, nat_tests) in rw e refl

once-bit : (n : ℕ) → n < 2 → once (n == 1) ≡ n
once-bit n h = grind (arith, nat_tests)

mod-twice : (x : ℕ) → x % 2 ^ 64 % 2 ^ 64 ≡ x % 2 ^ 64
mod-twice x = omega arith

sum-each : {X : Type 0} (view : X → ℕ) (n : ℕ) (f : ℕ → X) → total (map view (each n f)) ≡ sum_to n (λ q. view (f q))
sum-each view n f = ap total (map-each view n f) ∙ total-each n (λ q. view (f q))

xor-each : {X : Type 0} (view : X → ℕ) (n : ℕ) (f : ℕ → X) → xor_total (map view (each n f)) ≡ xor_to n (λ q. view (f q))
xor-each view n f = ap xor_total (map-each view n f) ∙ xor_total-each n (λ q. view (f q))

-- what is left of x by y, and y, sum to x
left-sums : (x y : ℕ) → (word_difference x (y % 2 ^ 64) + y) % 2 ^ 64 ≡ x % 2 ^ 64
left-sums x y = omega arith

product-mod : (a b : ℕ) → word_product (a % 2 ^ 64) (b % 2 ^ 64) % 2 ^ 64 ≡ (a * b) % 2 ^ 64
product-mod a b = ap (λ x. x % 2 ^ 64) (sym (mul-mod a b (2 ^ 64))) ∙ mod-twice (a * b)

pub mult-honest : (seed : List ℕ) (k from : ℕ) → IsMultTriple (each (suc k) (λ party. mult_drawn seed (suc k) party from))
unfolding mult_drawn word_total
mult-honest seed k from =
    let n = suc k in
    let drawn = λ (party : ℕ). mult_drawn seed n party from in
    let a = sum-each (λ (t : MultTriple). t.a) n drawn in
    let b = sum-each (λ (t : MultTriple). t.b) n drawn in
    let c = sum-each (λ (t : MultTriple). t.c) n drawn in
    let other = sum_to_same n (λ q. long_word_of_tape seed (from + 4 * q + 2)) (λ q. long_word_of_tape seed (from + 2 + 4 * q))
    (λ q h. ap (long_word_of_tape seed) (omega arith)) in
    let less : suc k - 1 ≡ k = omega arith in
    let left = λ (q : ℕ). long_word_of_tape seed (from + 4 * n + 2 * q) in
    let others = sum_to_same k (λ q. (drawn (suc q)).c) left
    (λ q h. pick-suc q _ _ ∙ ap (λ m. long_word_of_tape seed (from + 4 * n + 2 * m)) (omega arith)) in
    let whole = c ∙ (sum-front k (λ q. (drawn q).c) ∙ ap (λ x. (drawn 0).c + x) (others ∙ ap (λ m. sum_to m left) (sym less))) in
    ap (λ x. x % 2 ^ 64) whole
    ∙ (left-sums (word_product (sum_to n (λ q. long_word_of_tape seed (from + 4 * q)) % 2 ^ 64) (sum_to n (λ q. long_word_of_tape seed (from + 2 + 4 * q)) % 2 ^ 64)) (sum_to (n - 1) left)
    ∙ (product-mod (sum_to n (λ q. long_word_of_tape seed (from + 4 * q))) (sum_to n (λ q. long_word_of_tape seed (from + 2 + 4 * q)))
    ∙ ap₂ (λ (x y : ℕ). (x * y) % 2 ^ 64) (sym a) (sym (b ∙ other))))

once-differ : (a b : Bool) → once (differ a b) ≡ bit_xor (once a) (once b)
once-differ true true = refl
once-differ true false = refl
once-differ false true = refl
once-differ false false = refl

parity-once : (n : ℕ) (f : ℕ → Bool) → once (parity_to n f) ≡ xor_to n (λ q. once (f q))
parity-once zero f = refl
parity-once (suc n) f = once-differ (parity_to n f) (f n) ∙ ap (λ x. bit_xor x (once (f n))) (parity-once n f)

-- the parties' bits, each the least of a word, differ as the XOR of the words says
parity-drawn : (n : ℕ) (bits : ℕ → Bool) (word : ℕ → ℕ) → ((q : ℕ) → once (bits q) ≡ bit_at (word q) 0) →
    once (parity_to n bits) ≡ bit_at (xor_to n word) 0
parity-drawn n bits word each-one =
    parity-once n bits
    ∙ (xor_to_same n (λ q. once (bits q)) (λ q. bit_at (word q) 0) (λ q h. each-one q) ∙ sym (bit-of-xor n 0 word))

small-word : (x : ℕ) → x < 2 → x % 2 ^ 64 ≡ x
small-word x h = omega arith

pub shared-honest : (seed : List ℕ) (k from : ℕ) → AreSharedBit (suc k) (λ party. shared_drawn seed (suc k) party from)
unfolding shared_drawn word_total word_xor
shared-honest seed k from =
    let n = suc k in
    let drawn = λ (party : ℕ). shared_drawn seed n party from in
    let word = λ (q : ℕ). word_of_tape seed (from + q) in
    let less : suc k - 1 ≡ k = omega arith in
    let left = λ (q : ℕ). long_word_of_tape seed (from + n + 2 * q) in
    let parity = parity-drawn n (λ q. (drawn q).bit) word
    (λ q. once-bit (bit_at (word_of_tape seed (from + q)) 0) (bit_at-lt (word_of_tape seed (from + q)) 0)) in
    let others = sum_to_same k (λ q. (drawn (suc q)).word) left
    (λ q h. pick-suc q _ _ ∙ ap (λ m. long_word_of_tape seed (from + n + 2 * m)) (omega arith)) in
    let whole = sum-front k (λ q. (drawn q).word) ∙ ap (λ y. (drawn 0).word + y) (others ∙ ap (λ m. sum_to m left) (sym less)) in
    ap (λ y. y % 2 ^ 64) whole
    ∙ (left-sums (bit_at (xor_to n word) 0) (sum_to (n - 1) left)
    ∙ (small-word (bit_at (xor_to n word) 0) (bit_at-lt (xor_to n word) 0) ∙ sym parity))

low-bit : (w c : ℕ) → bit_at (w % 4 + 4 * c) 0 ≡ bit_at w 0
low-bit w c = omega arith

next-bit : (w c : ℕ) → bit_at (w % 4 + 4 * c) 1 ≡ bit_at w 1
next-bit w c = omega arith

last-bit : (w c : ℕ) → c < 2 → bit_at (w % 4 + 4 * c) 2 ≡ c
last-bit w c h = omega arith

of-eight : (w : ℕ) → bit_at (w % 8) 0 ≡ bit_at w 0
of-eight w = omega arith

next-of-eight : (w : ℕ) → bit_at (w % 8) 1 ≡ bit_at w 1
next-of-eight w = omega arith

last-of-eight : (w : ℕ) → bit_at (w % 8) 2 ≡ bit_at w 2
last-of-eight w = omega arith

low-drawn : (seed : List ℕ) (n from party : ℕ) → bit_at (bit_drawn seed n party from) 0 ≡ bit_at (word_of_tape seed (from + party)) 0
unfolding bit_drawn
low-drawn seed n from zero =
    low-bit (word_of_tape seed from) (bit_left seed n from) ∙ ap (λ p. bit_at (word_of_tape seed p) 0) (omega arith)
low-drawn seed n from (suc q) = ap (λ x. bit_at x 0) (pick-suc q _ _) ∙ of-eight (word_of_tape seed (from + suc q))

next-drawn : (seed : List ℕ) (n from party : ℕ) → bit_at (bit_drawn seed n party from) 1 ≡ bit_at (word_of_tape seed (from + party)) 1
unfolding bit_drawn
next-drawn seed n from zero =
    next-bit (word_of_tape seed from) (bit_left seed n from) ∙ ap (λ p. bit_at (word_of_tape seed p) 1) (omega arith)
next-drawn seed n from (suc q) = ap (λ x. bit_at x 1) (pick-suc q _ _) ∙ next-of-eight (word_of_tape seed (from + suc q))

first-drawn : (seed : List ℕ) (n from : ℕ) → bit_at (bit_drawn seed n 0 from) 2 ≡ bit_left seed n from
unfolding bit_drawn
first-drawn seed n from =
    last-bit (word_of_tape seed from) (bit_left seed n from)
    (left_small (bit_at (word_xor seed from n) 0) (bit_at (word_xor seed from n) 1) (bit_at (word_xor seed (from + 1) (n - 1)) 2)
    (bit_at-lt (word_xor seed from n) 0) (bit_at-lt (word_xor seed from n) 1) (bit_at-lt (word_xor seed (from + 1) (n - 1)) 2))

last-drawn : (seed : List ℕ) (n from q : ℕ) → bit_at (bit_drawn seed n (suc q) from) 2 ≡ bit_at (word_of_tape seed (from + 1 + q)) 2
unfolding bit_drawn
last-drawn seed n from q =
    ap (λ x. bit_at x 2) (pick-suc q _ _)
    ∙ (last-of-eight (word_of_tape seed (from + suc q)) ∙ ap (λ p. bit_at (word_of_tape seed p) 2) (omega arith))

pub bit-honest : (seed : List ℕ) (k from : ℕ) → IsBitTriple (each (suc k) (λ party. bit_drawn seed (suc k) party from))
unfolding word_xor
bit-honest seed k from =
    let n = suc k in
    let drawn = λ (party : ℕ). bit_drawn seed n party from in
    let word = λ (q : ℕ). word_of_tape seed (from + q) in
    let next = λ (q : ℕ). word_of_tape seed (from + 1 + q) in
    let less : suc k - 1 ≡ k = omega arith in
    let a = xor-each (λ r. bit_at r 0) n drawn
    ∙ (xor_to_same n (λ q. bit_at (drawn q) 0) (λ q. bit_at (word q) 0) (λ q h. low-drawn seed n from q) ∙ sym (bit-of-xor n 0 word)) in
    let b = xor-each (λ r. bit_at r 1) n drawn
    ∙ (xor_to_same n (λ q. bit_at (drawn q) 1) (λ q. bit_at (word q) 1) (λ q h. next-drawn seed n from q) ∙ sym (bit-of-xor n 1 word)) in
    let others = xor_to_same k (λ q. bit_at (drawn (suc q)) 2) (λ q. bit_at (next q) 2) (λ q h. last-drawn seed n from q)
    ∙ (sym (bit-of-xor k 2 next) ∙ ap (λ m. bit_at (xor_to m next) 2) (sym less)) in
    xor-each (λ r. bit_at r 2) n drawn
    ∙ (xor-front k (λ q. bit_at (drawn q) 2)
    ∙ (ap₂ bit_xor (first-drawn seed n from) others
    ∙ (xor-again (bit_and (bit_at (xor_to n word) 0) (bit_at (xor_to n word) 1)) (bit_at (xor_to (n - 1) next) 2)
    ∙ ap₂ bit_and (sym a) (sym b))))

-- what an offset is where a bit is 1, and 0 where it is 0
abbrev times_bit : ℕ → ℕ → ℕ
times_bit bit offset = if nat_eq bit 0 then 0 else offset

times-once : (b : Bool) (offset : ℕ) → times_bit (once b) offset ≡ times b offset
times-once true offset = refl
times-once false offset = refl

share-first : (seed : List ℕ) (n from owner : ℕ) → (share_drawn seed n 0 from owner).0
    ≡ bit_xor (times_bit (bit_at (word_xor seed from n) 0) (offset_drawn seed owner)) (key_xor seed (owner_begin n from owner) (n - 1))
unfolding share_drawn
share-first seed n from owner = refl

share-next : (seed : List ℕ) (n from owner q : ℕ) → (share_drawn seed n (suc q) from owner).0
    ≡ key_of_tape seed (owner_begin n from owner + 4 * q)
unfolding share_drawn
share-next seed n from owner q =
    pick-suc q _ _ ∙ ap (λ m. key_of_tape seed (owner_begin n from owner + 4 * m)) (omega arith)

owner-share : (seed : List ℕ) (n from owner party : ℕ) → owner < n →
    key_at (key_drawn seed n party from).times owner ≡ (share_drawn seed n party from owner).0
unfolding key_drawn
owner-share seed n from owner party h =
    ap (λ key. key.0) (get_or-map-range_with_len (share_drawn seed n party from) 0 n owner owner _ h (omega arith))

key-bit : (seed : List ℕ) (n from party : ℕ) → once (key_drawn seed n party from).bit ≡ bit_at (word_of_tape seed (from + party)) 0
unfolding key_drawn
key-bit seed n from party =
    once-bit (bit_at (word_of_tape seed (from + party)) 0) (bit_at-lt (word_of_tape seed (from + party)) 0)

pub key-honest : (seed : List ℕ) (k from : ℕ) → AreKeyBit (suc k) (offset_drawn seed) (λ party. key_drawn seed (suc k) party from)
unfolding word_xor key_xor
key-honest seed k from owner among =
    let n = suc k in
    let drawn = λ (party : ℕ). key_drawn seed n party from in
    let place = owner_begin n from owner in
    let key = λ (q : ℕ). key_of_tape seed (place + 4 * q) in
    let word = λ (q : ℕ). word_of_tape seed (from + q) in
    let less : suc k - 1 ≡ k = omega arith in
    let parity = parity-drawn n (λ q. (drawn q).bit) word (λ q. key-bit seed n from q) in
    let others = xor_to_same k (λ q. (share_drawn seed n (suc q) from owner).0) key (λ q i. share-next seed n from owner q)
    ∙ ap (λ m. xor_to m key) (sym less) in
    xor_to_same n (λ q. key_at (drawn q).times owner) (λ q. (share_drawn seed n q from owner).0) (λ q i. owner-share seed n from owner q among)
    ∙ (xor-front k (λ q. (share_drawn seed n q from owner).0)
    ∙ (ap₂ bit_xor (share-first seed n from owner) others
    ∙ (xor-again (times_bit (bit_at (xor_to n word) 0) (offset_drawn seed owner)) (xor_to (n - 1) key)
    ∙ (ap (λ b. times_bit b (offset_drawn seed owner)) (sym parity)
    ∙ times-once (parity_to n (λ q. (drawn q).bit)) (offset_drawn seed owner)))))

counts-same : (c : Needs) (m b s k : ℕ) → m ≡ c.mult → b ≡ c.bit → s ≡ c.shared → k ≡ c.key →
    ◌≡◌ {A = Needs} (record { mult = m; bit = b; shared = s; key = k }) c
counts-same c m b s k p q r t = λ i. record { mult = p i; bit = q i; shared = r i; key = t i }

drawn-counts : (seed : List ℕ) (n : ℕ) (counts : Needs) (party : ℕ) → counts_of (part_drawn seed n counts party) ≡ counts
unfolding part_drawn
drawn-counts seed n counts party =
    counts-same counts _ _ _ _
    (rows-length (mult_drawn seed n party) (mult_begin n) (mult_words n) counts.mult)
    (rows-length (bit_drawn seed n party) (bit_begin n counts) n counts.bit)
    (rows-length (shared_drawn seed n party) (shared_begin n counts) (shared_words n) counts.shared)
    (rows-length (key_drawn seed n party) (key_begin n counts) (key_words n) counts.key)

all-drawn : (P : Part → Type 0) (seed : List ℕ) (n : ℕ) (counts : Needs) → ((party : ℕ) → P (part_drawn seed n counts party)) →
    All P (parts_drawn seed n counts)
all-drawn P seed n counts each-one i d h =
    let count = length-map-range_with_len (part_drawn seed n counts) 0 n in
    subst P (sym (get_or-map-range_with_len (part_drawn seed n counts) 0 n i i d (omega arith) (omega arith))) (each-one i)

part-there : (seed : List ℕ) (n : ℕ) (counts : Needs) (party : ℕ) (d : Part) → party < n →
    get_or (parts_drawn seed n counts) party d ≡ part_drawn seed n counts party
part-there seed n counts party d h =
    get_or-map-range_with_len (part_drawn seed n counts) 0 n party party d h (omega arith)

odd-bit : (n : ℕ) → n % 2 ≡ 1 → bit_at n 0 ≡ 1
odd-bit n e = omega arith

pub honest : (seed : List ℕ) (n : ℕ) (counts : Needs) → 1 ≤ n →
    HonestTogether (parts_drawn seed n counts) n (long_word_of_tape seed 0) counts
unfolding part_drawn
honest seed zero counts some = absurd (omega arith)
honest seed (suc k) counts some =
    let n = suc k in
    record {
      count = length-map-range_with_len (part_drawn seed n counts) 0 n;
      order = λ party d h. ap (λ p. p.party) (part-there seed n counts party d h);
      one_deal = all-drawn (λ p. (p.parties ≡ n) × (p.id ≡ long_word_of_tape seed 0) × (counts_of p ≡ counts)) seed n counts
          (λ party. (refl, refl, drawn-counts seed n counts party));
      odd = all-drawn (λ p. bit_at p.offset 0 ≡ 1) seed n counts (λ party. odd-bit (offset_drawn seed party) (odd seed party));
      mult = λ at d h. subst IsMultTriple
          (sym (parts-each (λ p. get_or p.mult at d) (λ party. mult_drawn seed n party (mult_begin n + mult_words n * at)) seed n counts
          (λ party. row-at (mult_drawn seed n party) (mult_begin n) (mult_words n) counts.mult at d h)))
          (mult-honest seed k (mult_begin n + mult_words n * at));
      bit = λ at h. subst IsBitTriple
          (sym (parts-each (λ p. get_or p.bits at 0) (λ party. bit_drawn seed n party (bit_begin n counts + n * at)) seed n counts
          (λ party. row-at (bit_drawn seed n party) (bit_begin n counts) n counts.bit at 0 h)))
          (bit-honest seed k (bit_begin n counts + n * at));
      shared = λ at d s h. shared_bit_same n (λ party. shared_drawn seed n party (shared_begin n counts + shared_words n * at))
          (λ party. get_or (get_or (parts_drawn seed n counts) party d).shared at s)
          (λ party small. sym (ap (λ p. get_or p.shared at s) (part-there seed n counts party d small)
          ∙ row-at (shared_drawn seed n party) (shared_begin n counts) (shared_words n) counts.shared at s h))
          (shared-honest seed k (shared_begin n counts + shared_words n * at));
      key = λ at d e h. key_bit_same n (offset_drawn seed) (λ party. (get_or (parts_drawn seed n counts) party d).offset)
          (λ party. key_drawn seed n party (key_begin n counts + key_words n * at))
          (λ party. get_or (get_or (parts_drawn seed n counts) party d).keys at e)
          (λ party small. sym (ap (λ p. p.offset) (part-there seed n counts party d small)))
          (λ party small. sym (ap (λ p. get_or p.keys at e) (part-there seed n counts party d small)
          ∙ row-at (key_drawn seed n party) (key_begin n counts) (key_words n) counts.key at e h))
          (key-honest seed k (key_begin n counts + key_words n * at));
    }
