-- The bytes of a whole frame are those of what is read from them.
use Rattle.std.proofs.Common.{◌≡◌, ℕ, zero, suc, ◌-◌, ◌<◌, ◌≤◌, List, [], ◌∷◌, length, take, drop, get_or, refl, sym, ◌∙◌, None, arith}
use Rattle.std.proofs.lemmas.List.{length-take-le, take_all, length-drop, take-append-drop}
use Rattle.std.proofs.lemmas.Nat.{be_bytes_4, be_bytes_8}
use Rattle.std.proofs.lemmas.Bool.Decides.{nat_tests}
use Rattle.byteorder.specs.Endian.{big_number}
use Rattle.byteorder.specs.Numbers.{big_from-take, big_from-lt}
use Rattle.frames.specs.declared.frame.Frame.TheVariants.{Hello, Message, End}
use Rattle.frames.specs.Bytes.{u32_bytes, u64_bytes, body}
use Rattle.frames.specs.Reading.{fault_of_kind}
use Rattle.frames.specs.Steps.{IsBodyOf}

abbrev pub IsBytes : List ℕ → Type 0
IsBytes bytes = (i : ℕ) → get_or bytes i 0 < 256

front_bytes : (n : ℕ) (bytes : List ℕ) → IsBytes bytes → IsBytes (take n bytes)
front_bytes zero bytes fits i = omega arith
front_bytes (suc n) [] fits i = omega arith
front_bytes (suc n) (x ∷ bytes) fits zero = fits zero
front_bytes (suc n) (x ∷ bytes) fits (suc i) = front_bytes n bytes (λ j. fits (suc j)) i

-- the bytes from a place on, as a range
pub from_place : (n : ℕ) (bytes : List ℕ) → take (length bytes - n) (drop n bytes) ≡ drop n bytes
from_place n bytes = take_all (length bytes - n) (drop n bytes) (omega (arith, length-drop n bytes))

-- the bytes of the number that four bytes are, and eight
pub u32_again : (n : ℕ) (bytes : List ℕ) → 4 ≤ length bytes → IsBytes bytes → n ≡ big_number 4 bytes → u32_bytes n ≡ take 4 bytes
unfolding u32_bytes
u32_again n bytes h fits is =
    be_bytes_4 (take 4 bytes) n (length-take-le 4 bytes h) (front_bytes 4 bytes fits) (is ∙ sym (big_from-take 0 4 4 bytes (omega arith)) ∙ omega arith)

pub u64_again : (n : ℕ) (bytes : List ℕ) → 8 ≤ length bytes → IsBytes bytes → n ≡ big_number 8 bytes → u64_bytes n ≡ take 8 bytes
unfolding u64_bytes
u64_again n bytes h fits is =
    be_bytes_8 (take 8 bytes) n (length-take-le 8 bytes h) (front_bytes 8 bytes fits) (is ∙ sym (big_from-take 0 8 8 bytes (omega arith)) ∙ omega arith)

pub hello_again : (bytes : List ℕ) (id : ℕ) (circuit : List ℕ) → length bytes ≡ 45 → IsBytes bytes → get_or bytes 0 0 ≡ 1 → id ≡ big_number 8 (drop 5 bytes) → circuit ≡ drop 13 bytes → IsBodyOf (Hello (record { version = get_or bytes 1 0; parties = get_or bytes 2 0; from = record { 0 = get_or bytes 3 0 }; to = record { 0 = get_or bytes 4 0 }; id = id; circuit = circuit })) bytes
unfolding body
hello_again (a ∷ b ∷ c ∷ d ∷ e ∷ bytes) id circuit h fits kind is rest =
    let behind : IsBytes bytes = λ i. fits (suc (suc (suc (suc (suc i))))) in
    let front : u64_bytes id ≡ take 8 bytes = u64_again id bytes (omega arith) behind is in
    record {
      is = rw (front, rest, kind, take-append-drop 8 bytes) refl;
      width = (rw is (big_from-lt 0 8 bytes behind), rw rest (omega (arith, length-drop 8 bytes)));
      payload = tt;
    }
hello_again bytes id circuit h fits kind is rest = absurd (omega arith)

pub message_again : (bytes : List ℕ) (gate : ℕ) (payload : List ℕ) → 7 ≤ length bytes → length bytes ≤ 65542 → IsBytes bytes → get_or bytes 0 0 ≡ 2 → gate ≡ big_number 4 (drop 1 bytes) → payload ≡ drop 6 bytes → IsBodyOf (Message gate (get_or bytes 5 0) payload) bytes
unfolding body
message_again (a ∷ b ∷ c ∷ d ∷ e ∷ f ∷ bytes) gate payload least most fits kind is rest =
    let behind : IsBytes (b ∷ c ∷ d ∷ e ∷ f ∷ bytes) = λ i. fits (suc i) in
    let front : u32_bytes gate ≡ b ∷ c ∷ d ∷ e ∷ [] = u32_again gate (b ∷ c ∷ d ∷ e ∷ f ∷ bytes) (omega arith) behind is in
    record {
      is = rw (front, rest, kind) refl;
      width = rw is (big_from-lt 0 4 (b ∷ c ∷ d ∷ e ∷ f ∷ bytes) behind);
      payload = (rw rest (omega arith), rw rest (omega arith));
    }
message_again bytes gate payload least most fits kind is rest = absurd (omega arith)

only_end : (kind length : ℕ) → fault_of_kind kind length ≡ None → (kind ≡ 1 → ⊥) → (kind ≡ 2 → ⊥) → (kind ≡ 3) × (length ≡ 1)
only_end kind length none other another = grind (arith, nat_tests)

pub end_again : (bytes : List ℕ) → 0 < length bytes → fault_of_kind (get_or bytes 0 0) (length bytes) ≡ None → (get_or bytes 0 0 ≡ 1 → ⊥) → (get_or bytes 0 0 ≡ 2 → ⊥) → IsBodyOf End bytes
unfolding body
end_again [] some none other another = absurd (omega arith)
end_again (a ∷ []) some none other another =
    let kind = (only_end a 1 none other another).0 in
    record { is = rw kind refl; width = tt; payload = tt }
end_again (a ∷ b ∷ bytes) some none other another =
    let length : suc (suc (length bytes)) ≡ 1 = (only_end a (suc (suc (length bytes))) none other another).1 in
    absurd (omega arith)
