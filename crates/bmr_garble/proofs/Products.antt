-- Shares of the product of two masks.
use Rattle.std.proofs.Common.{◌≡◌, ℕ, zero, suc, ◌*◌, ◌<◌, ◌&&◌, Bool, true, false, List, length, refl, sym, ap, ap₂, ◌∙◌, arith}
use Rattle.std.specs.Prelude.{bit_and, All}
use Rattle.std.specs.List.{flat_map}
use Rattle.std.proofs.lemmas.Nat.{xor_comm}
use Rattle.share_types.specs.Bits.{differ, number}
use Rattle.share_types.specs.Sums.{xor_to, part_of_public, each}
use Rattle.share_types.specs.Keys.{◌⊕◌, bit, times, parity_to, key_at, key_of}
use Rattle.share_types.specs.declared.keys.Key.{Key}
use Rattle.share_types.specs.declared.records.KeyBit.{KeyBit}
use Rattle.bmr_keys.specs.Mask.{own_times}
use Rattle.bmr_keys.proofs.KeyLists.{records-length, records-at}
use Rattle.bmr_keys.proofs.Labels.{bit-xor, bit-and, bit-zero, same-bits, undone, cut-inside}
use Rattle.bmr_keys.proofs.Sums.{xor-both, xor-public}
use Rattle.bmr_keys.proofs.Masks.{xor-numbers, fresh-mask, flip-recombines}
use Rattle.bmr_garble.specs.Product.{no_key_bit, key_bit_at, product_times, AreShares}
use Rattle.bmr_garble.specs.Laws.{ProductRecombines, ProductTimesRecombine}
use Rattle.mot_base.proofs.Lists.{and_false as none}

-- AND with a number goes over XOR
over : (d x y : Bool) → (d && differ x y) ≡ differ (d && x) (d && y)
over true x y = refl
over false x y = refl

and-xor : (d x y : ℕ) → bit_and d (x ⊕ y) ≡ bit_and d x ⊕ bit_and d y
and-xor d x y = same-bits _ _ (λ i.
    bit-and d (x ⊕ y) i ∙ (ap (λ b. bit d i && b) (bit-xor x y i) ∙ (over (bit d i) (bit x i) (bit y i)
    ∙ (ap₂ differ (sym (bit-and d x i)) (sym (bit-and d y i)) ∙ sym (bit-xor (bit_and d x) (bit_and d y) i)))))

and-zero : (d : ℕ) → bit_and d 0 ≡ 0
and-zero d = same-bits _ _ (λ i.
    bit-and d 0 i ∙ (ap (λ b. bit d i && b) (bit-zero i) ∙ (none (bit d i) ∙ sym (bit-zero i))))

xor-and : (n d : ℕ) (f : ℕ → ℕ) → xor_to n (λ p. bit_and d (f p)) ≡ bit_and d (xor_to n f)
xor-and zero d f = sym (and-zero d)
xor-and (suc n) d f = ap (λ m. m ⊕ bit_and d (f n)) (xor-and n d f) ∙ sym (and-xor d (xor_to n f) (f n))

-- what was opened, the triples and their product, in one bit
closes : (a b u v : Bool) →
    differ (differ (differ (a && b) (differ u a && b)) (differ v b && a)) (differ u a && differ v b) ≡ (u && v)
closes true true true true = refl
closes true true true false = refl
closes true true false true = refl
closes true true false false = refl
closes true false true true = refl
closes true false true false = refl
closes true false false true = refl
closes true false false false = refl
closes false true true true = refl
closes false true true false = refl
closes false true false true = refl
closes false true false false = refl
closes false false true true = refl
closes false false true false = refl
closes false false false true = refl
closes false false false false = refl

closed : (a b u v : ℕ) →
    ((bit_and a b ⊕ bit_and (u ⊕ a) b) ⊕ bit_and (v ⊕ b) a) ⊕ bit_and (u ⊕ a) (v ⊕ b) ≡ bit_and u v
closed a b u v = same-bits _ _ (λ i. simp (bit-xor, bit-and) (closes (bit a i) (bit b i) (bit u i) (bit v i)))

pub product-recombines : ProductRecombines
product-recombines n u v t d e some triples as_d as_e =
    let a = xor_to n (λ p. (t p).a.word) in
    let b = xor_to n (λ p. (t p).b.word) in
    let c = xor_to n (λ p. (t p).c.word) in
    let left : d ≡ xor_to n u ⊕ a = as_d ∙ xor-both n u (λ p. (t p).a.word) in
    let right : e ≡ xor_to n v ⊕ b = as_e ∙ xor-both n v (λ p. (t p).b.word) in
    xor-both n (λ p. ((t p).c.word ⊕ bit_and d (t p).b.word) ⊕ bit_and e (t p).a.word) (λ p. part_of_public p (bit_and d e))
    ∙ (ap₂ (λ (x y : ℕ). x ⊕ y)
    (xor-both n (λ p. (t p).c.word ⊕ bit_and d (t p).b.word) (λ p. bit_and e (t p).a.word)
    ∙ ap₂ (λ (x y : ℕ). x ⊕ y)
    (xor-both n (λ p. (t p).c.word) (λ p. bit_and d (t p).b.word)
    ∙ ap₂ (λ (x y : ℕ). x ⊕ y) triples (xor-and n d (λ p. (t p).b.word)))
    (xor-and n e (λ p. (t p).a.word)))
    (xor-public n (bit_and d e) some)
    ∙ (ap₂ (λ (x y : ℕ). ((bit_and a b ⊕ bit_and x b) ⊕ bit_and y a) ⊕ bit_and x y) left right
    ∙ closed a b (xor_to n u) (xor_to n v)))

pub product_times-recombine : ProductTimesRecombine
product_times-recombine n w offset stock product x f some honest as_x as_f i j small =
    let bits = number (each w (λ k. parity_to n (λ p. (stock p k).bit))) in
    let fresh = fresh-mask n w offset stock (λ p k. 0) honest (λ p k less. bit-zero 0) in
    let opened : f ≡ x ⊕ bits =
    as_f ∙ (xor-both n product (λ p. number (each w (λ k. (stock p k).bit)))
    ∙ ap₂ (λ (a b : ℕ). a ⊕ b) as_x (xor-numbers n w (λ p k. (stock p k).bit))) in
    let value : bits ⊕ f ≡ x = ap (λ m. bits ⊕ m) opened ∙ (xor_comm bits (x ⊕ bits) ∙ undone x bits) in
    (flip-recombines n offset _ bits f some fresh).shares i j small ∙ ap (λ m. times (bit m i) (offset j)) value

-- the records' keys, with the own offset added, are the shares of the product
pub shares-are : (n w me offset f : ℕ) (stock : List KeyBit) (times made : List Key) →
    All (λ key_bit. length key_bit.times ≡ n) stock → length stock ≡ w → times ≡ flat_map (λ key_bit. key_bit.times) stock →
    length made ≡ length times →
    ((i j : ℕ) → i < w → j < n → key_of n made i j ≡ key_of n times i j ⊕ own_times me offset f i j) →
    AreShares n w (product_times w me offset (key_bit_at stock) f) made
shares-are n w me offset f stock times made all wide listed count told = record {
  count = count ∙ (ap length listed ∙ (records-length n stock all ∙ ap (λ k. k * n) wide));
  each = λ i j p q.
      told i j p q ∙ ap (λ m. m ⊕ own_times me offset f i j)
      (ap (λ keys. key_of n keys i j) listed
      ∙ (records-at n stock no_key_bit i j all (inside i p) q ∙ sym (cut-inside w (λ k. key_at (key_bit_at stock k).times j) i p)));
}
  where
    inside : (i : ℕ) → i < w → i < length stock
    inside i p = omega arith
