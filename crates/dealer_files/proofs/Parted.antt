-- Bytes are the file of one part at most.
use Rattle.std.proofs.Common.{◌≡◌, ℕ, ◌*◌, ◌^◌, ◌<◌, Bool, true, false, List, [], ◌∷◌, ◌++◌, length, take, drop, get_or, All, refl, sym, ap, ap₂, ◌∙◌, arith}
use Rattle.std.specs.List.{flat_map}
use Rattle.std.proofs.lemmas.List.{take_at, drop_at}
use Rattle.std.proofs.lemmas.List.Elements.{All-tail}
use Rattle.byteorder.specs.Endian.{big_number}
use Rattle.byteorder.specs.Numbers.{big_number-reads_back}
use Rattle.share_types.specs.Bits.{once}
use Rattle.share_types.specs.declared.keys.Key.{Key}
use Rattle.share_types.specs.declared.records.MultTriple.{MultTriple}
use Rattle.share_types.specs.declared.records.SharedBit.{SharedBit}
use Rattle.share_types.specs.declared.records.KeyBit.{KeyBit}
use Rattle.dealer_files.specs.Part.{Part, counts_of}
use Rattle.dealer_files.specs.File.{word_bytes, number_bytes, key_bytes, mult_bytes, shared_bytes, key_bit_bytes, record_bytes, file_of, key_bit_size}
use Rattle.dealer_files.specs.Checks.{stated_counts}
use Rattle.dealer_files.specs.Laws.{MultFits, SharedFits, KeyBitFits, FileIsOfOnePart}
use Rattle.dealer_files.proofs.Whole.{length-records, mult-size, shared-size, key-size, key_bit-size, counts-stated, head-drop}

word-same : (x y : ℕ) → x < 2 ^ 64 → y < 2 ^ 64 → word_bytes x ≡ word_bytes y → x ≡ y
unfolding word_bytes
word-same x y p q e =
    sym (big_number-reads_back 8 x [] (omega arith)) ∙ (ap (big_number 8) e ∙ big_number-reads_back 8 y [] (omega arith))

number-same : (x y : ℕ) → x < 2 ^ 128 → y < 2 ^ 128 → number_bytes x ≡ number_bytes y → x ≡ y
unfolding number_bytes
number-same x y p q e =
    sym (big_number-reads_back 16 x [] (omega arith)) ∙ (ap (big_number 16) e ∙ big_number-reads_back 16 y [] (omega arith))

once-same : (a b : Bool) → once a ≡ once b → a ≡ b
once-same true true e = refl
once-same false false e = refl
once-same true false e = absurd (omega arith)
once-same false true e = absurd (omega arith)

-- lists that begin with pieces of one length
fronts : (n : ℕ) (a b x y : List ℕ) → length a ≡ n → length b ≡ n → a ++ x ≡ b ++ y → (a ≡ b) × (x ≡ y)
fronts n a b x y p q e = (
  sym (take_at a x n p) ∙ (ap (take n) e ∙ take_at b y n q),
  sym (drop_at a x n p) ∙ (ap (drop n) e ∙ drop_at b y n q),
)

-- lists of records of one size are told by their bytes, where each record is
records-same : {X : Type 0} (f : X → List ℕ) (size : ℕ) (P : X → Type 0) (xs ys : List X) →
    ((x y : X) → P x → P y → f x ≡ f y → x ≡ y) → length xs ≡ length ys →
    All (λ x. length (f x) ≡ size) xs → All (λ x. length (f x) ≡ size) ys → All P xs → All P ys →
    flat_map f xs ≡ flat_map f ys → xs ≡ ys
records-same f size P [] [] one n p q g h e = refl
records-same f size P [] (y ∷ ys) one n p q g h e = absurd (omega arith)
records-same f size P (x ∷ xs) [] one n p q g h e = absurd (omega arith)
records-same f size P (x ∷ xs) (y ∷ ys) one n p q g h e =
    let both = fronts size (f x) (f y) (flat_map f xs) (flat_map f ys) (p 0 x (omega arith)) (q 0 y (omega arith)) e in
    ap₂ (λ z zs. z ∷ zs) (one x y (g 0 x (omega arith)) (h 0 y (omega arith)) both.0)
    (records-same f size P xs ys one (omega arith)
    (All-tail (λ z. length (f z) ≡ size) x xs p) (All-tail (λ z. length (f z) ≡ size) y ys q)
    (All-tail P x xs g) (All-tail P y ys h) both.1)

word-size : (n : ℕ) → length (word_bytes n) ≡ 8
unfolding word_bytes
word-size n = refl

mult-same : (t u : MultTriple) → MultFits t → MultFits u → mult_bytes t ≡ mult_bytes u → t ≡ u
mult-same t u p q e =
    let first = fronts 8 (word_bytes t.a) (word_bytes u.a) _ _ (word-size t.a) (word-size u.a) e in
    let second = fronts 8 (word_bytes t.b) (word_bytes u.b) _ _ (word-size t.b) (word-size u.b) first.1 in
    let a = word-same t.a u.a p.0 q.0 first.0 in
    let b = word-same t.b u.b p.1 q.1 second.0 in
    let d = word-same t.c u.c p.2 q.2 second.1 in
    λ i. record { a = a i; b = b i; c = d i }

shared-same : (s u : SharedBit) → SharedFits s → SharedFits u → shared_bytes s ≡ shared_bytes u → s ≡ u
shared-same s u p q e =
    let both = fronts 1 (once s.bit ∷ []) (once u.bit ∷ []) (word_bytes s.word) (word_bytes u.word) refl refl e in
    let bit = once-same s.bit u.bit (ap (λ ys. get_or ys 0 0) both.0) in
    let word = word-same s.word u.word p q both.1 in
    λ i. record { bit = bit i; word = word i }

key-same : (k l : Key) → k.0 < 2 ^ 128 → l.0 < 2 ^ 128 → key_bytes k ≡ key_bytes l → k ≡ l
key-same k l p q e = let n = number-same k.0 l.0 p q e in λ i. record { 0 = n i }

-- as many keys as parties, of 128 bits each
abbrev pub KeysFit : ℕ → KeyBit → Type 0
KeysFit parties k = (length k.times ≡ parties) × KeyBitFits k

key_bit-same : (parties : ℕ) (k l : KeyBit) → KeysFit parties k → KeysFit parties l →
    key_bit_bytes k ≡ key_bit_bytes l → k ≡ l
key_bit-same parties k l p q e =
    let both = fronts 1 (once k.bit ∷ []) (once l.bit ∷ []) (flat_map key_bytes k.times) (flat_map key_bytes l.times) refl refl e in
    let bit = once-same k.bit l.bit (ap (λ ys. get_or ys 0 0) both.0) in
    let times = records-same key_bytes 16 (λ key. key.0 < 2 ^ 128) k.times l.times key-same (p.0 ∙ sym q.0)
    (key-size k.times) (key-size l.times) p.1 q.1 both.1 in
    λ i. record { bit = bit i; times = times i }

parties-same : (p q : Part) → file_of p ≡ file_of q → (p.parties ≡ q.parties) × (p.party ≡ q.party)
unfolding file_of
parties-same p q e = (ap (λ bs. get_or bs 5 0) e, ap (λ bs. get_or bs 6 0) e)

ids-same : (p q : Part) → file_of p ≡ file_of q → (word_bytes p.id ≡ word_bytes q.id) × (number_bytes p.offset ≡ number_bytes q.offset)
unfolding file_of word_bytes number_bytes
ids-same p q e = (ap (λ bs. take 8 (drop 7 bs)) e, ap (λ bs. take 16 (drop 15 bs)) e)

records-are : (p q : Part) → file_of p ≡ file_of q → record_bytes p ≡ record_bytes q
records-are p q e = sym (head-drop p) ∙ (ap (drop 47) e ∙ head-drop q)

part-same : (p q : Part) → p.parties ≡ q.parties → p.party ≡ q.party → p.id ≡ q.id → p.offset ≡ q.offset →
    p.mult ≡ q.mult → p.bits ≡ q.bits → p.shared ≡ q.shared → p.keys ≡ q.keys → p ≡ q
part-same p q a b d e f g h j =
    λ i. record { parties = a i; party = b i; id = d i; offset = e i; mult = f i; bits = g i; shared = h i; keys = j i }

pub one-part : FileIsOfOnePart
one-part bytes p q of_p of_q is_p is_q =
    let e : file_of p ≡ file_of q = sym is_p.spelled ∙ is_q.spelled in
    let parties = parties-same p q e in
    let ids = ids-same p q e in
    let id = word-same p.id q.id of_p.id of_q.id ids.0 in
    let offset = number-same p.offset q.offset of_p.offset of_q.offset ids.1 in
    let counts : counts_of p ≡ counts_of q =
    sym (counts-stated p is_p.part) ∙ (ap stated_counts e ∙ counts-stated q is_q.part) in
    let mults : length p.mult ≡ length q.mult = ap (λ n. n.mult) counts in
    let bit_counts : length p.bits ≡ length q.bits = ap (λ n. n.bit) counts in
    let shareds : length p.shared ≡ length q.shared = ap (λ n. n.shared) counts in
    let key_counts : length p.keys ≡ length q.keys = ap (λ n. n.key) counts in
    let m = length-records mult_bytes 24 p.mult (mult-size p.mult) in
    let m-2 = length-records mult_bytes 24 q.mult (mult-size q.mult) in
    let s = length-records shared_bytes 9 p.shared (shared-size p.shared) in
    let s-2 = length-records shared_bytes 9 q.shared (shared-size q.shared) in
    let first = fronts (24 * length p.mult) (flat_map mult_bytes p.mult) (flat_map mult_bytes q.mult) _ _ m (omega arith) (records-are p q e) in
    let second = fronts (length p.bits) p.bits q.bits _ _ refl (sym bit_counts) first.1 in
    let third = fronts (9 * length p.shared) (flat_map shared_bytes p.shared) (flat_map shared_bytes q.shared) _ _ s (omega arith) second.1 in
    let mult = records-same mult_bytes 24 MultFits p.mult q.mult mult-same mults (mult-size p.mult) (mult-size q.mult)
    of_p.mult of_q.mult first.0 in
    let shared = records-same shared_bytes 9 SharedFits p.shared q.shared shared-same shareds
    (shared-size p.shared) (shared-size q.shared) of_p.shared of_q.shared third.0 in
    let owners-2 : All (λ k. length k.times ≡ p.parties) q.keys = λ i d h. is_q.part.each_owner i d h ∙ sym parties.0 in
    let keys = records-same key_bit_bytes (key_bit_size p.parties) (KeysFit p.parties) p.keys q.keys (key_bit-same p.parties) key_counts
    (key_bit-size p.parties p.keys is_p.part.each_owner) (key_bit-size p.parties q.keys owners-2)
    (λ i d h. (is_p.part.each_owner i d h, of_p.keys i d h)) (λ i d h. (owners-2 i d h, of_q.keys i d h)) third.1 in
    part-same p q parties.0 parties.1 id offset mult second.0 shared keys
