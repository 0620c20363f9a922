-- The lengths of frames and of their numbers.
use Rattle.std.proofs.Common.{◌≡◌, ℕ, ◌+◌, List, length, refl, arith}
use Rattle.std.proofs.lemmas.List.{length-append}
use Rattle.byteorder.specs.Numbers.{length-bytes_high_first}
use Rattle.frames.specs.declared.frame.Hello as hello
use Rattle.frames.specs.declared.frame.Frame.TheVariants.{Hello, Message, End}
use Rattle.frames.specs.Bytes.{u32_bytes, u64_bytes, body}

pub u32_length : (n : ℕ) → length (u32_bytes n) ≡ 4
unfolding u32_bytes
u32_length n = length-bytes_high_first 4 n

pub u64_length : (n : ℕ) → length (u64_bytes n) ≡ 8
unfolding u64_bytes
u64_length n = length-bytes_high_first 8 n

pub hello_length : (h : hello.Hello) → length (body (Hello h)) ≡ 13 + length h.circuit
unfolding body
hello_length h = omega (arith, length-append (u64_bytes h.id) h.circuit, u64_length h.id)

pub message_length : (gate round : ℕ) (payload : List ℕ) → length (body (Message gate round payload)) ≡ 6 + length payload
unfolding body
message_length gate round payload =
    omega (arith, length-append (u32_bytes gate), u32_length gate)

pub end_length : length (body End) ≡ 1
unfolding body
end_length = refl
