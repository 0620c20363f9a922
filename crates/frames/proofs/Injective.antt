-- Different frames have different bytes, and no frame's bytes begin another's.
use Rattle.std.proofs.Common.{◌≡◌, ℕ, ◌+◌, ◌<◌, ◌≤◌, ◌^◌, List, [], ◌∷◌, ◌++◌, length, take, drop, refl, sym, ap, ◌∙◌, None, arith}
use Rattle.std.proofs.lemmas.List.{length-append}
use Rattle.std.proofs.lemmas.Bool.Decides.{nat_tests}
use Rattle.std.proofs.Math.Seq.{take-append_seam, drop-append_seam}
use Rattle.byteorder.specs.Endian.{big_number}
use Rattle.byteorder.specs.Numbers.{big_number-reads_back}
use Rattle.frames.specs.declared.frame.Frame.{Frame}
use Rattle.frames.specs.declared.frame.Frame.TheVariants.{Hello, Message, End}
use Rattle.frames.specs.Bytes.{u32_bytes, u64_bytes, body, canonical, IsSendable, IsInWidth}
use Rattle.frames.specs.Reading.{stated_length, stated_kind, fault_of_length, fault_of_kind, fault_at, frame_length}
use Rattle.frames.proofs.Canonical.{u32_length, u64_length, hello_length, message_length, end_length}
use Rattle.frames.proofs.Heads.{told_length}

-- lists that begin alike
pub split_alike : (a b x y : List ℕ) → length a ≡ length b → a ++ x ≡ b ++ y → (a ≡ b) × (x ≡ y)
split_alike a b x y same is = (
  sym (take-append_seam a x) ∙ ap (take (length a)) is ∙ ap (λ n. take n (b ++ y)) same ∙ take-append_seam b y,
  sym (drop-append_seam a x) ∙ ap (drop (length a)) is ∙ ap (λ n. drop n (b ++ y)) same ∙ drop-append_seam b y,
)

u32_alike : (m n : ℕ) → m < 2 ^ 32 → n < 2 ^ 32 → u32_bytes m ≡ u32_bytes n → m ≡ n
unfolding u32_bytes
u32_alike m n small less is =
    sym (big_number-reads_back 4 m [] small) ∙ ap (λ xs. big_number 4 (xs ++ [])) is ∙ big_number-reads_back 4 n [] less

u64_alike : (m n : ℕ) → m < 2 ^ 64 → n < 2 ^ 64 → u64_bytes m ≡ u64_bytes n → m ≡ n
unfolding u64_bytes
u64_alike m n small less is =
    sym (big_number-reads_back 8 m [] small) ∙ ap (λ xs. big_number 8 (xs ++ [])) is ∙ big_number-reads_back 8 n [] less

kind_alike : (a b : ℕ) (xs ys : List ℕ) → a ∷ xs ≡ b ∷ ys → a ≡ b
kind_alike a b xs ys is = cc

-- frames of the same body are the same
pub body_alike : (f g : Frame) → IsInWidth f → IsInWidth g → body f ≡ body g → f ≡ g
unfolding body
body_alike (Hello h) (Hello k) fits other is =
    let tail : u64_bytes h.id ++ h.circuit ≡ u64_bytes k.id ++ k.circuit = cc in
    let parts = split_alike (u64_bytes h.id) (u64_bytes k.id) h.circuit k.circuit (u64_length h.id ∙ sym (u64_length k.id)) tail in
    let id = u64_alike h.id k.id fits.0 other.0 parts.0 in
    let version : h.version ≡ k.version = cc in
    let parties : h.parties ≡ k.parties = cc in
    let from : h.from.0 ≡ k.from.0 = cc in
    let to : h.to.0 ≡ k.to.0 = cc in
    λ i. Hello (record { version = version i; parties = parties i; from = record { 0 = from i }; to = record { 0 = to i }; id = id i; circuit = parts.1 i })
body_alike (Message gate round payload) (Message other_gate other_round other_payload) fits other is =
    let tail : u32_bytes gate ++ round ∷ payload ≡ u32_bytes other_gate ++ other_round ∷ other_payload = cc in
    let parts = split_alike (u32_bytes gate) (u32_bytes other_gate) (round ∷ payload) (other_round ∷ other_payload) (u32_length gate ∙ sym (u32_length other_gate)) tail in
    let same = u32_alike gate other_gate fits other parts.0 in
    let behind = parts.1 in
    cc
body_alike End End fits other is = refl
body_alike (Hello h) (Message gate round payload) fits other is = absurd (let e = kind_alike _ _ _ _ is in omega arith)
body_alike (Hello h) End fits other is = absurd (let e = kind_alike _ _ _ _ is in omega arith)
body_alike (Message gate round payload) (Hello k) fits other is = absurd (let e = kind_alike _ _ _ _ is in omega arith)
body_alike (Message gate round payload) End fits other is = absurd (let e = kind_alike _ _ _ _ is in omega arith)
body_alike End (Hello k) fits other is = absurd (let e = kind_alike _ _ _ _ is in omega arith)
body_alike End (Message gate round payload) fits other is = absurd (let e = kind_alike _ _ _ _ is in omega arith)

-- how long a body is
pub body_small : (f : Frame) → IsInWidth f → IsSendable f → (1 ≤ length (body f)) × (length (body f) ≤ 65542)
body_small (Hello h) fits can = (omega (arith, hello_length h, fits.1), omega (arith, hello_length h, fits.1))
body_small (Message gate round payload) fits can =
    (omega (arith, message_length gate round payload, can.0, can.1), omega (arith, message_length gate round payload, can.0, can.1))
body_small End fits can = (omega (arith, end_length), omega (arith, end_length))

-- the length that stands before a body is read from it
pub stated_again : (f : Frame) (rest : List ℕ) → IsInWidth f → IsSendable f → stated_length (canonical f ++ rest) ≡ length (body f)
unfolding stated_length canonical u32_bytes
stated_again f rest fits can =
    let small = (body_small f fits can).1 in
    big_number-reads_back 4 (length (body f)) (body f ++ rest) (omega arith)

pub canonical_length : (f : Frame) → length (canonical f) ≡ 4 + length (body f)
unfolding canonical
canonical_length f = omega (arith, length-append (u32_bytes (length (body f))) (body f), u32_length (length (body f)))

-- frames that stand before bytes alike are the same
pub front_alike : (f g : Frame) (x y : List ℕ) → IsInWidth f → IsSendable f → IsInWidth g → IsSendable g → canonical f ++ x ≡ canonical g ++ y → (f ≡ g) × (x ≡ y)
unfolding canonical
front_alike f g x y fits can other may is =
    let lengths : length (body f) ≡ length (body g) = sym (stated_again f x fits can) ∙ ap stated_length is ∙ stated_again g y other may in
    let parts = split_alike (canonical f) (canonical g) x y (omega (arith, canonical_length f, canonical_length g)) is in
    let bodies = split_alike (u32_bytes (length (body f))) (u32_bytes (length (body g))) (body f) (body g) (u32_length _ ∙ sym (u32_length _)) parts.0 in
    (body_alike f g fits other bodies.1, parts.1)

faultless : (bytes : List ℕ) (n kind : ℕ) → 5 ≤ length bytes → stated_length bytes ≡ n → stated_kind bytes ≡ kind → fault_of_length n ≡ None → fault_of_kind kind n ≡ None → fault_at bytes ≡ None
unfolding fault_at
faultless bytes n kind there long is first second = grind (arith, nat_tests)

fine_length : (n : ℕ) → 1 ≤ n → n ≤ 65542 → fault_of_length n ≡ None
fine_length n some most = grind (arith, nat_tests)

fine_message : (n : ℕ) → 7 ≤ n → fault_of_kind 2 n ≡ None
fine_message n least = grind (arith, nat_tests)

kind_of : Frame → ℕ
kind_of (Hello h) = 1
kind_of (Message gate round payload) = 2
kind_of End = 3

kind_again : (f : Frame) (rest : List ℕ) → stated_kind (canonical f ++ rest) ≡ kind_of f
unfolding canonical u32_bytes body kind_of
kind_again (Hello h) rest = refl
kind_again (Message gate round payload) rest = refl
kind_again End rest = refl

fine_kind : (f : Frame) → IsInWidth f → IsSendable f → fault_of_kind (kind_of f) (length (body f)) ≡ None
unfolding kind_of
fine_kind (Hello h) fits can = let n : length (body (Hello h)) ≡ 45 = omega (arith, hello_length h, fits.1) in rw n refl
fine_kind (Message gate round payload) fits can = fine_message _ (omega (arith, message_length gate round payload, can.0))
fine_kind End fits can = rw end_length refl

-- a whole frame shows no fault, whatever follows it
pub whole_faultless : (f : Frame) (rest : List ℕ) → IsInWidth f → IsSendable f → fault_at (canonical f ++ rest) ≡ None
whole_faultless f rest fits can =
    let small = body_small f fits can in
    let long : 5 ≤ length (canonical f ++ rest) = omega (arith, length-append (canonical f) rest, canonical_length f, small.0) in
    faultless (canonical f ++ rest) (length (body f)) (kind_of f) long (stated_again f rest fits can) (kind_again f rest) (fine_length _ small.0 small.1) (fine_kind f fits can)

-- and it is as long as it says
pub whole_length : (f : Frame) (rest : List ℕ) → IsInWidth f → IsSendable f → frame_length (canonical f ++ rest) ≡ length (canonical f)
whole_length f rest fits can =
    let there : 4 ≤ length (canonical f ++ rest) = omega (arith, length-append (canonical f) rest, canonical_length f) in
    omega (arith, told_length (canonical f ++ rest) there, stated_again f rest fits can, canonical_length f)
