-- What is opened of payloads, one after another.
use Rattle.std.proofs.Common.{ℕ, ◌≡◌, ◌<◌, ◌+◌, ◌%◌, ◌^◌, List, [], ◌∷◌, ◌++◌, length, map, take, get_or, sym, ◌∙◌, ap, ap₂, arith}
use Rattle.std.specs.Prelude.{bit_xor}
use Rattle.std.specs.Int.Bits.{xor_assoc, xor_zero_l}
use Rattle.std.proofs.lemmas.Nat.{xor_comm}
use Rattle.std.proofs.lemmas.List.{map-append, take_more}
use Rattle.share_types.specs.Sums.{total, xor_total}
use Rattle.share_types.proofs.Parties.{total-append, xor_total-append}
use Rattle.joint_run.specs.Payload.{word_in, vector_in}
use Rattle.joint_run.specs.Party.{Payload}
use Rattle.gate_tasks.specs.ByValue.{opened_words, opened_vectors}

mapped_more : (f : Payload → ℕ) (xs : List Payload) (i : ℕ) (x : Payload) → i < length xs → x ≡ get_or xs i x →
    map f (take (i + 1) xs) ≡ map f (take i xs) ++ f x ∷ []
mapped_more f xs i x h is =
    ap (map f) (take_more xs i x h ∙ ap (λ (y : Payload). take i xs ++ y ∷ []) (sym is)) ∙ map-append f (take i xs) (x ∷ [])

pub words_more : (part opened at i : ℕ) (xs : List Payload) (x : Payload) (v : ℕ) → i < length xs → x ≡ get_or xs i x →
    opened ≡ opened_words part at (take i xs) → v ≡ word_in x at →
    (opened + v) % 2 ^ 64 ≡ opened_words part at (take (i + 1) xs)
words_more part opened at i xs x v h is before word =
    let f : Payload → ℕ = λ payload. word_in payload at in
    let more : total (map f (take (i + 1) xs)) ≡ total (map f (take i xs)) + (f x + 0) =
    ap total (mapped_more f xs i x h is) ∙ total-append (map f (take i xs)) (f x ∷ []) in
    omega (arith, before, word, more)

pub vectors_more : (width part opened at i : ℕ) (xs : List Payload) (x : Payload) (v : ℕ) → i < length xs → x ≡ get_or xs i x →
    opened ≡ opened_vectors width part at (take i xs) → v ≡ vector_in width x at →
    bit_xor opened v ≡ opened_vectors width part at (take (i + 1) xs)
vectors_more width part opened at i xs x v h is before vector =
    let f : Payload → ℕ = λ payload. vector_in width payload at in
    let rest = xor_total (map f (take i xs)) in
    let one : bit_xor (f x) 0 ≡ f x = xor_comm (f x) 0 ∙ xor_zero_l (f x) in
    let more : xor_total (map f (take (i + 1) xs)) ≡ bit_xor rest (f x) =
    ap xor_total (mapped_more f xs i x h is) ∙ (xor_total-append (map f (take i xs)) (f x ∷ []) ∙ ap (bit_xor rest) one) in
    ap₂ bit_xor before vector ∙ (xor_assoc part rest (f x) ∙ ap (bit_xor part) (sym more))
