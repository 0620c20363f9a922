-- The bytes of a frame on a link.
use Rattle.std.specs.Prelude.{◌≡◌, ℕ, ◌<◌, ◌≤◌, ◌^◌, List, [], ◌∷◌, ◌++◌, length}
use Rattle.std.specs.List.{flat_map}
use Rattle.byteorder.specs.Endian.{big_bytes}
use Rattle.frames.specs.declared.frame.Frame.{Frame}
use Rattle.frames.specs.declared.frame.Frame.TheVariants.{Hello, Message, End}
use Rattle.mot_base.specs.Limits.{most_payload_bytes}

-- a number in four bytes, and one in eight, the high byte first
unfoldable pub u32_bytes : ℕ → List ℕ
u32_bytes n = big_bytes 4 n

unfoldable pub u64_bytes : ℕ → List ℕ
u64_bytes n = big_bytes 8 n

-- what stands behind the length: a byte of kind, and then the fields
unfoldable pub body : Frame → List ℕ
body (Hello hello) =
    1 ∷ hello.version ∷ hello.parties ∷ hello.from.0 ∷ hello.to.0 ∷ (u64_bytes hello.id ++ hello.circuit)
body (Message gate round payload) = 2 ∷ (u32_bytes gate ++ round ∷ payload)
body End = 3 ∷ []

-- the canonical bytes of a frame: a length of four bytes, which counts the bytes behind it
unfoldable pub canonical : Frame → List ℕ
canonical frame = u32_bytes (length (body frame)) ++ body frame

-- the canonical bytes of frames, one after another
abbrev pub joined : List Frame → List ℕ
joined frames = flat_map canonical frames

-- a payload that a message may carry
abbrev pub IsPayload : List ℕ → Type 0
IsPayload payload = (1 ≤ length payload) × (length payload ≤ most_payload_bytes)

-- a frame that may be sent: where it is a message, its payload may be carried
abbrev pub IsSendable : Frame → Type 0
IsSendable (Hello hello) = Unit {0}
IsSendable (Message gate round payload) = IsPayload payload
IsSendable End = Unit {0}

-- a frame whose numbers and lists fit the fields of its bytes
abbrev pub IsInWidth : Frame → Type 0
IsInWidth (Hello hello) = (hello.id < 2 ^ 64) × (length hello.circuit ≡ 32)
IsInWidth (Message gate round payload) = gate < 2 ^ 32
IsInWidth End = Unit {0}
