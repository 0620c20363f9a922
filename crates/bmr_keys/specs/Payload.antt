-- Keys as the bytes of messages, each as a number of 16 bytes with the high byte first.
use Rattle.std.specs.Prelude.{◌≡◌, ℕ, ◌*◌, ◌<◌, ◌^◌, List, length, drop}
use Rattle.std.specs.List.{flat_map}
use Rattle.byteorder.specs.Endian.{big_bytes}
use Rattle.share_types.specs.Keys.{key_at}
use Rattle.share_types.specs.declared.keys.Key.{Key}
use Rattle.bmr_keys.specs.Hiding.{first_key}

-- the bytes of a key
unfoldable pub bytes_of_key : ℕ → List ℕ
bytes_of_key key = big_bytes 16 key

-- the bytes of keys, one after another
abbrev pub key_bytes : List Key → List ℕ
key_bytes keys = flat_map (λ key. bytes_of_key key.0) keys

-- the key at a place of a payload of keys
abbrev pub key_in : List ℕ → ℕ → ℕ
key_in bytes place = first_key (drop (16 * place) bytes)

-- keys that were written are as many keys of 16 bytes
abbrev pub KeysHaveBytes : Type 0
KeysHaveBytes = (keys : List Key) → length (key_bytes keys) ≡ 16 * length keys

-- and they are read back
abbrev pub KeysReadBack : Type 0
KeysReadBack =
    (keys : List Key) (place : ℕ) → ((i : ℕ) → key_at keys i < 2 ^ 128) → place < length keys →
    key_in (key_bytes keys) place ≡ key_at keys place
