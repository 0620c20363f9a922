-- The dealer's draws: which words of its tape make which part of which record. Words are drawn one after another
-- from place 0 on. Of a record's last component only the parties from 1 on draw their shares; party 0's is what
-- these leave.
use Rattle.std.specs.Prelude.{ℕ, ◌+◌, ◌-◌, ◌*◌, ◌%◌, ◌^◌, ◌==◌, List, map, nat_eq, if◌then◌else◌, bit_and, bit_xor}
use Rattle.std.specs.Int.{bit_at}
use Rattle.std.specs.List.{range_with_len}
use Rattle.mot_base.specs.Tape.{word_of_tape, long_word_of_tape, key_of_tape}
use Rattle.share_types.specs.Sums.{word_difference, word_product, sum_to, xor_to}
use Rattle.share_types.specs.declared.needs.Needs.{Needs}
use Rattle.share_types.specs.declared.keys.Key.{Key}
use Rattle.share_types.specs.declared.records.MultTriple.{MultTriple}
use Rattle.share_types.specs.declared.records.SharedBit.{SharedBit}
use Rattle.share_types.specs.declared.records.KeyBit.{KeyBit}
use Rattle.dealer_files.specs.Part.{Part}

-- the words that a record of each kind takes among so many parties
abbrev pub mult_words : ℕ → ℕ
mult_words n = 4 * n + 2 * (n - 1)

abbrev pub shared_words : ℕ → ℕ
shared_words n = n + 2 * (n - 1)

abbrev pub key_words : ℕ → ℕ
key_words n = n + 4 * (n - 1) * n

-- where the draws of each kind begin, behind the deal's number and the parties' offsets, and where they end
abbrev pub mult_begin : ℕ → ℕ
mult_begin n = 2 + 4 * n

abbrev pub bit_begin : ℕ → Needs → ℕ
bit_begin n counts = mult_begin n + mult_words n * counts.mult

abbrev pub shared_begin : ℕ → Needs → ℕ
shared_begin n counts = bit_begin n counts + n * counts.bit

abbrev pub key_begin : ℕ → Needs → ℕ
key_begin n counts = shared_begin n counts + shared_words n * counts.shared

abbrev pub draws_end : ℕ → Needs → ℕ
draws_end n counts = key_begin n counts + key_words n * counts.key

-- the sum modulo 2^64 of so many words of 64 bits that stand at every `step` words from a place on
unfoldable pub word_total : List ℕ → ℕ → ℕ → ℕ → ℕ
word_total seed from step n = sum_to n (λ q. long_word_of_tape seed (from + step * q)) % 2 ^ 64

-- the XOR of so many words, and of so many keys, that stand one after another
unfoldable pub word_xor : List ℕ → ℕ → ℕ → ℕ
word_xor seed from n = xor_to n (λ q. word_of_tape seed (from + q))

unfoldable pub key_xor : List ℕ → ℕ → ℕ → ℕ
key_xor seed from n = xor_to n (λ q. key_of_tape seed (from + 4 * q))

-- a party's offset: a key with the least bit set
unfoldable pub offset_drawn : List ℕ → ℕ → ℕ
offset_drawn seed party = key_of_tape seed (2 + 4 * party) - key_of_tape seed (2 + 4 * party) % 2 + 1

-- a party's part of the multiplication triple that is drawn from a place on: for each party a and b, and then for
-- each party from 1 on c
abbrev pub c_left : List ℕ → ℕ → ℕ → ℕ
c_left seed n from =
    word_difference (word_product (word_total seed from 4 n) (word_total seed (from + 2) 4 n))
    (word_total seed (from + 4 * n) 2 (n - 1))

unfoldable pub mult_drawn : List ℕ → ℕ → ℕ → ℕ → MultTriple
mult_drawn seed n party from = record {
  a = long_word_of_tape seed (from + 4 * party);
  b = long_word_of_tape seed (from + 4 * party + 2);
  c = if nat_eq party 0 then c_left seed n from else long_word_of_tape seed (from + 4 * n + 2 * (party - 1));
}

-- a party's bit record: for each party one word, of which bits 0, 1 and 2 are a, b and c
abbrev pub bit_left : List ℕ → ℕ → ℕ → ℕ
bit_left seed n from =
    bit_xor (bit_and (bit_at (word_xor seed from n) 0) (bit_at (word_xor seed from n) 1))
    (bit_at (word_xor seed (from + 1) (n - 1)) 2)

unfoldable pub bit_drawn : List ℕ → ℕ → ℕ → ℕ → ℕ
bit_drawn seed n party from =
    if nat_eq party 0
    then word_of_tape seed from % 4 + 4 * bit_left seed n from
    else word_of_tape seed (from + party) % 8

-- a party's part of a shared bit: for each party one word, of which bit 0 is its share by XOR, and then for each
-- party from 1 on its share by sum
unfoldable pub shared_drawn : List ℕ → ℕ → ℕ → ℕ → SharedBit
shared_drawn seed n party from = record {
  bit = bit_at (word_of_tape seed (from + party)) 0 == 1;
  word = if nat_eq party 0
      then word_difference (bit_at (word_xor seed from n) 0) (word_total seed (from + n) 2 (n - 1))
      else long_word_of_tape seed (from + n + 2 * (party - 1));
}

-- where the shares for an owner begin
abbrev pub owner_begin : ℕ → ℕ → ℕ → ℕ
owner_begin n from owner = from + n + 4 * (n - 1) * owner

-- a party's share of an owner's offset times the bit
unfoldable pub share_drawn : List ℕ → ℕ → ℕ → ℕ → ℕ → Key
share_drawn seed n party from owner = record {
  0 = if nat_eq party 0
      then bit_xor (if nat_eq (bit_at (word_xor seed from n) 0) 0 then 0 else offset_drawn seed owner)
      (key_xor seed (owner_begin n from owner) (n - 1))
      else key_of_tape seed (owner_begin n from owner + 4 * (party - 1));
}

-- a party's part of a key bit: for each party one word, of which bit 0 is its share by XOR, and then for each owner
-- and each party from 1 on a key
unfoldable pub key_drawn : List ℕ → ℕ → ℕ → ℕ → KeyBit
key_drawn seed n party from = record {
  bit = bit_at (word_of_tape seed (from + party)) 0 == 1;
  times = map (share_drawn seed n party from) (range_with_len 0 n);
}

-- so many records of one kind, which stand one after another from a place on
abbrev pub rows : {X : Type 0} → (ℕ → X) → ℕ → ℕ → ℕ → List X
rows drawn begin size count = map (λ at. drawn (begin + size * at)) (range_with_len 0 count)

-- a party's part
unfoldable pub part_drawn : List ℕ → ℕ → Needs → ℕ → Part
part_drawn seed n counts party = record {
  parties = n;
  party = party;
  id = long_word_of_tape seed 0;
  offset = offset_drawn seed party;
  mult = rows (mult_drawn seed n party) (mult_begin n) (mult_words n) counts.mult;
  bits = rows (bit_drawn seed n party) (bit_begin n counts) n counts.bit;
  shared = rows (shared_drawn seed n party) (shared_begin n counts) (shared_words n) counts.shared;
  keys = rows (key_drawn seed n party) (key_begin n counts) (key_words n) counts.key;
}

-- all parties' parts, in their order
abbrev pub parts_drawn : List ℕ → ℕ → Needs → List Part
parts_drawn seed n counts = map (part_drawn seed n counts) (range_with_len 0 n)

-- words of a tape that were drawn, from place 0 on
pub record Drawn : Type 0 where
  pub seed : List ℕ
  pub count : ℕ
