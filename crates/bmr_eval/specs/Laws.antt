-- What all parties see of wires recombines after each call, for any number of parties.
use Rattle.std.specs.Prelude.{◌≡◌, ℕ, ◌<◌, ◌%◌, ◌^◌, bit_and}
use Rattle.share_types.specs.Keys.{◌⊕◌}
use Rattle.bmr_keys.specs.Mask.{Mask, slice, join, constant_mask, xor_mask, flip_mask, slice_mask, join_mask}
use Rattle.bmr_keys.specs.Wires.{Active, whole, AreZeroKeys, AreTimes, HasWidth, IsActive, AreOdd}
use Rattle.bmr_garble.specs.Table.{Entries, IsGarbled}
use Rattle.bmr_eval.specs.Active.{own_active, zero_active, xor_active, slice_active, join_active, and_active}

-- the owner's masked bits, and each party's active keys by them
abbrev pub EntryRecombines : Type 0
EntryRecombines =
    (n : ℕ) (offset : ℕ → ℕ) (u : ℕ → Mask) (x masked : ℕ) → masked ≡ x ⊕ whole n u →
    IsActive n offset u x (record { masked = masked; keys = λ i j. own_active (u j) (offset j) masked i })

abbrev pub ZeroRecombines : Type 0
ZeroRecombines =
    (n : ℕ) (offset : ℕ → ℕ) (c : ℕ) → 0 < n →
    IsActive n offset (λ p. constant_mask p (offset p) c) c zero_active

-- a wire that is flipped keeps what all parties see
abbrev pub FlipRecombines : Type 0
FlipRecombines =
    (n : ℕ) (offset : ℕ → ℕ) (u : ℕ → Mask) (x c : ℕ) (a : Active) → 0 < n → IsActive n offset u x a →
    IsActive n offset (λ p. flip_mask p (offset p) (u p) c) (x ⊕ c) a

abbrev pub XorRecombines : Type 0
XorRecombines =
    (n : ℕ) (offset : ℕ → ℕ) (u v : ℕ → Mask) (x y : ℕ) (a b : Active) →
    IsActive n offset u x a → IsActive n offset v y b →
    IsActive n offset (λ p. xor_mask (u p) (v p)) (x ⊕ y) (xor_active a b)

abbrev pub SliceRecombines : Type 0
SliceRecombines =
    (n : ℕ) (offset : ℕ → ℕ) (u : ℕ → Mask) (x at width : ℕ) (a : Active) → IsActive n offset u x a →
    IsActive n offset (λ p. slice_mask at width (u p)) (slice at width x) (slice_active at width a)

abbrev pub JoinRecombines : Type 0
JoinRecombines =
    (n : ℕ) (offset : ℕ → ℕ) (u v : ℕ → Mask) (x y width : ℕ) (a b : Active) →
    IsActive n offset u x a → IsActive n offset v y b →
    IsActive n offset (λ p. join_mask width (u p) (v p)) (join width x y) (join_active width a b)

-- a garbled table, evaluated on wires of x and y, gives a wire of the lowest bits of x AND y, where all offsets are odd
-- and the result's mask has even zero keys and its width
abbrev pub AndRecombines : Type 0
AndRecombines =
    (n width : ℕ) (offset : ℕ → ℕ) (gate : ℕ) (u v w : ℕ → Mask) (entries : Entries) (x y : ℕ) (a b : Active) →
    IsGarbled n width offset gate u v w (whole n u) (whole n v) (whole n w) entries →
    IsActive n offset u x a → IsActive n offset v y b →
    0 < n → AreOdd n offset → AreZeroKeys n w → HasWidth n width w →
    IsActive n offset w (bit_and x y % 2 ^ width) (and_active n width entries gate a b)

-- the parties' parts and what all see are a wire that recombines to x: the zero keys are even, the masked bits and the
-- active keys are those of x, and the shares XOR to each mask bit times each offset
pub record IsWire (n : ℕ) (offset : ℕ → ℕ) (u : ℕ → Mask) (x : ℕ) (a : Active) : Type 0 where
  pub zeros : AreZeroKeys n u
  pub active : IsActive n offset u x a
  pub shares : AreTimes n offset (λ p. (u p).shares) (whole n u)

-- on vectors of a width, a garbled table gives a wire of x AND y under three premises: all offsets are odd, the zero keys
-- of the result's mask are even, and its shares XOR to its bits times each offset
abbrev pub WiresEvaluate : Type 0
WiresEvaluate =
    (n width : ℕ) (offset : ℕ → ℕ) (gate : ℕ) (u v w : ℕ → Mask) (entries : Entries) (x y : ℕ) (a b : Active) →
    0 < n → x < 2 ^ width → HasWidth n width w →
    IsGarbled n width offset gate u v w (whole n u) (whole n v) (whole n w) entries →
    IsWire n offset u x a → IsWire n offset v y b →
    AreOdd n offset → AreZeroKeys n w → AreTimes n offset (λ p. (w p).shares) (whole n w) →
    IsWire n offset w (bit_and x y) (and_active n width entries gate a b)
