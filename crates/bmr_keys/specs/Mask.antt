-- One party's part of a mask of a wire, and what each call makes of it.
use Rattle.std.specs.Prelude.{◌≡◌, ℕ, ◌+◌, ◌-◌, ◌*◌, ◌/◌, ◌%◌, ◌^◌, ◌<◌, ◌==◌, nat_lt, if◌then◌else◌, length}
use Rattle.share_types.specs.Bits.{number}
use Rattle.share_types.specs.Sums.{each, part_of_public}
use Rattle.share_types.specs.Keys.{◌⊕◌, bit, times, key_at, key_of}
use Rattle.share_types.specs.declared.records.KeyBit.{KeyBit}
use Rattle.bmr_keys.specs.declared.part.MaskPart.{MaskPart}

-- a party's part of a mask: its share of the mask's bits, its own zero key of each bit, and its share of each mask
-- bit times each owner's offset. What stands behind the last bit is 0
pub record Mask : Type 0 where
  pub mask : ℕ
  pub keys : ℕ → ℕ
  pub shares : ℕ → ℕ → ℕ

-- the part in memory has a width, n owners and these bits, keys and shares
pub record IsPart (n w : ℕ) (u : Mask) (part : MaskPart) : Type 0 where
  pub width : part.mask.width ≡ w
  pub mask : part.mask.word ≡ u.mask
  pub key_count : length part.keys ≡ w
  pub keys : (i : ℕ) → i < w → key_at part.keys i ≡ u.keys i
  pub share_count : length part.times ≡ w * n
  pub shares : (i j : ℕ) → i < w → j < n → key_of n part.times i j ≡ u.shares i j

-- a part in memory with n owners as a party's part
abbrev pub seen : ℕ → MaskPart → Mask
seen n part = record { mask = part.mask.word; keys = key_at part.keys; shares = key_of n part.times }

-- how many owners a part in memory has shares for
abbrev pub owners_of : MaskPart → ℕ
owners_of part = length part.times / part.mask.width

-- a part in memory has a key for each bit, and a share for each bit and owner
pub record HasShape (part : MaskPart) : Type 0 where
  pub keys : length part.keys ≡ part.mask.width
  pub shares : length part.times ≡ part.mask.width * owners_of part

-- the first of what a function gives, and 0 behind them
abbrev pub cut : ℕ → (ℕ → ℕ) → ℕ → ℕ
cut width f i = if nat_lt i width then f i else 0

-- the first of what one function gives, and what another gives behind them
abbrev pub behind : ℕ → (ℕ → ℕ) → (ℕ → ℕ) → ℕ → ℕ
behind width f g i = if nat_lt i width then f i else g (i - width)

-- bits of a vector from a place on
abbrev pub slice : ℕ → ℕ → ℕ → ℕ
slice at width x = x / 2 ^ at % 2 ^ width

-- the first bits of a vector, and behind them the bits of another
abbrev pub join : ℕ → ℕ → ℕ → ℕ
join width x y = x % 2 ^ width + 2 ^ width * y

-- a party's share of a public bit times an owner's offset: the owner has all of it
abbrev pub own_times : ℕ → ℕ → ℕ → ℕ → ℕ → ℕ
own_times me offset c i j = if j == me then times (bit c i) offset else 0

-- a fresh mask, by key records and zero keys from a first one on
abbrev pub fresh_mask : ℕ → (ℕ → KeyBit) → (ℕ → ℕ) → Mask
fresh_mask width records zero_keys = record {
  mask = number (each width (λ i. (records i).bit));
  keys = cut width zero_keys;
  shares = λ i j. cut width (λ k. key_at (records k).times j) i;
}

-- the mask of a public vector: party 0 has it whole
abbrev pub constant_mask : ℕ → ℕ → ℕ → Mask
constant_mask me offset c = record { mask = part_of_public me c; keys = λ i. 0; shares = own_times me offset c }

abbrev pub xor_mask : Mask → Mask → Mask
xor_mask u v = record {
  mask = u.mask ⊕ v.mask;
  keys = λ i. u.keys i ⊕ v.keys i;
  shares = λ i j. u.shares i j ⊕ v.shares i j;
}

-- the mask with the bits of a public vector flipped
abbrev pub flip_mask : ℕ → ℕ → Mask → ℕ → Mask
flip_mask me offset u c = record {
  mask = u.mask ⊕ part_of_public me c;
  keys = u.keys;
  shares = λ i j. u.shares i j ⊕ own_times me offset c i j;
}

abbrev pub slice_mask : ℕ → ℕ → Mask → Mask
slice_mask at width u = record {
  mask = slice at width u.mask;
  keys = cut width (λ i. u.keys (at + i));
  shares = λ i j. cut width (λ k. u.shares (at + k) j) i;
}

-- the first bits of one mask, and behind them another
abbrev pub join_mask : ℕ → Mask → Mask → Mask
join_mask width u v = record {
  mask = join width u.mask v.mask;
  keys = behind width u.keys v.keys;
  shares = λ i j. behind width (λ k. u.shares k j) (λ k. v.shares k j) i;
}
