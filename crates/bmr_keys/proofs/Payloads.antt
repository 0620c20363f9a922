-- Keys that were written are read back.
use Rattle.std.proofs.Common.{◌≡◌, ℕ, zero, suc, ◌+◌, ◌*◌, ◌^◌, ◌<◌, List, [], ◌∷◌, ◌++◌, length, drop, refl, sym, ap, ◌∙◌, arith, length-append}
use Rattle.std.proofs.lemmas.List.{drop_at, drop-drop}
use Rattle.byteorder.specs.Numbers.{big_number-reads_back}
use Rattle.bmr_keys.specs.Hiding.{first_key}
use Rattle.bmr_keys.specs.Payload.{bytes_of_key, key_bytes, KeysHaveBytes, KeysReadBack}

length-key : (key : ℕ) → length (bytes_of_key key) ≡ 16
unfolding bytes_of_key
length-key key = refl

first-key : (key : ℕ) (rest : List ℕ) → key < 2 ^ 128 → first_key (bytes_of_key key ++ rest) ≡ key
unfolding bytes_of_key first_key
first-key key rest small = big_number-reads_back 16 key rest small

pub keys-length : KeysHaveBytes
keys-length [] = refl
keys-length (key ∷ keys) =
    let first = length-key key.0 in
    let rest = keys-length keys in
    length-append (bytes_of_key key.0) (key_bytes keys) ∙ omega arith

pub keys-back : KeysReadBack
keys-back [] place small inside = absurd (omega arith)
keys-back (key ∷ keys) zero small inside = first-key key.0 (key_bytes keys) (small 0)
keys-back (key ∷ keys) (suc place) small inside =
    let step : 16 * suc place ≡ 16 + 16 * place = omega arith in
    ap (λ k. first_key (drop k (bytes_of_key key.0 ++ key_bytes keys))) step
    ∙ (ap first_key (sym (drop-drop (16 * place) 16 (bytes_of_key key.0 ++ key_bytes keys))
    ∙ ap (drop (16 * place)) (drop_at (bytes_of_key key.0) (key_bytes keys) 16 (length-key key.0)))
    ∙ keys-back keys place (λ i. small (suc i)) (omega arith))
