-- What a stage computes, from the values of its operands and the payloads for which it waits. This is internal to the crate:
-- it repeats the equations of a party (joint_run, Party), and the contract of run_stage speaks of these alone.
use Rattle.std.specs.Prelude.{ℕ, ◌≡◌, IfSome, Bool, true, false, not, ◌+◌, ◌*◌, ◌/◌, ◌%◌, ◌^◌, ◌==◌, List, [], ◌∷◌, map, get_or, slice_get, Option, Some, None, option_map, if◌then◌else◌, bit_xor}
use Rattle.share_types.specs.Sums.{word_sum, word_difference, word_product, part_of_public, total, xor_total}
use Rattle.arithmetic_gmw.specs.Shares as arithmetic
use Rattle.boolean_gmw.specs.Shares as boolean
use Rattle.plan_gates.specs.Gate.{Kind, Given, InA, ConstA, AddA, SubA, AddConstA, MulConstA, MulA, OutA, InB, ConstB, XorB, XorConstB, SliceB, JoinB, AndB, OutB, SliceMask, JoinMask, SliceOnline, JoinOnline, Word, Vector, uses, gives, is_of_keys, width_at, BToA}
use Rattle.plan_gates.specs.Gate as plan
use Rattle.share_types.specs.Wires.{includes}
use Rattle.joint_run.specs.Payload.{word_bytes, word_in, vectors_bytes, vector_in}
use Rattle.joint_run.specs.Party.{Value, WordShare, VectorShare, Told, Payload, Hand, word_share, vector_share, width, triple, bit_triple, given_word, given_vector, kept_word, kept_vector}
use Rattle.gate_tasks.specs.Stage.{value_of, kind_at, hand_in}
use Rattle.gate_tasks.specs.declared.own.StageEnv.{StageEnv}
use Rattle.gate_tasks.specs.declared.value.Value.{Value as ValueInMemory}
use Rattle.gate_tasks.specs.declared.value.Value.TheVariants as code

-- the party's share of the operand at a place, which is a word or a vector
abbrev pub word_at : List ValueInMemory → ℕ → ℕ
word_at wires i = word_share (value_of (get_or wires i (code.Told None)))

abbrev pub vector_at : List ValueInMemory → ℕ → ℕ
vector_at wires i = vector_share (value_of (get_or wires i (code.Told None)))

-- an opened word, and an opened vector: what the own part and number `at` of each payload recombine to
abbrev pub opened_words : ℕ → ℕ → List Payload → ℕ
opened_words part at heard = (part + total (map (λ payload. word_in payload at) heard)) % 2 ^ 64

abbrev pub opened_vectors : ℕ → ℕ → ℕ → List Payload → ℕ
opened_vectors width part at heard = bit_xor part (xor_total (map (λ payload. vector_in width payload at) heard))

-- the payload at a place
abbrev pub heard_at : List Payload → ℕ → Payload
heard_at heard i = get_or heard i []

-- ---- what is sent

abbrev pub opening : Hand → List ValueInMemory → Payload
opening h wires =
    word_bytes
    (arithmetic.opened_left (word_at wires 0) (triple h) ∷ arithmetic.opened_right (word_at wires 1) (triple h) ∷ [])

abbrev pub opening_of_bits : Hand → List ValueInMemory → Payload
opening_of_bits h wires =
    vectors_bytes (width h)
    (boolean.opened_left (vector_at wires 0) (bit_triple h) ∷ boolean.opened_right (vector_at wires 1) (bit_triple h) ∷ [])

-- the payloads that a party sends to all receivers, by round, where the gate is no input
abbrev pub formed : Kind → Hand → List ValueInMemory → List Payload
formed (MulA x y) h wires = opening h wires ∷ []
formed (OutA x receiver) h wires = word_bytes (word_at wires 0 ∷ []) ∷ []
formed (AndB x y) h wires = opening_of_bits h wires ∷ []
formed (OutB x receiver) h wires = vectors_bytes (width h) (vector_at wires 0 ∷ []) ∷ []
formed _ h wires = []

-- the payload of an input's owner to a party, in the first round
abbrev pub given_out : Kind → Hand → ℕ → Payload
given_out (InA party k) h to = word_bytes (given_word h to ∷ [])
given_out (InB party k at) h to = vectors_bytes (width h) (given_vector h to ∷ [])
given_out _ h to = []

-- ---- the value

abbrev pub product_of : Hand → List ValueInMemory → List Payload → ℕ
product_of h wires heard =
    arithmetic.closed_share h.me (triple h)
    (opened_words (arithmetic.opened_left (word_at wires 0) (triple h)) 0 heard)
    (opened_words (arithmetic.opened_right (word_at wires 1) (triple h)) 1 heard)

abbrev pub conjunction_of : Hand → List ValueInMemory → List Payload → ℕ
conjunction_of h wires heard =
    boolean.closed_share h.me (bit_triple h)
    (opened_vectors (width h) (boolean.opened_left (vector_at wires 0) (bit_triple h)) 0 heard)
    (opened_vectors (width h) (boolean.opened_right (vector_at wires 1) (bit_triple h)) 1 heard)

abbrev pub value_from : Kind → Hand → List ValueInMemory → List Payload → Value
value_from (InA party k) h wires heard = WordShare (if party == h.me then kept_word h k else word_in (heard_at heard 0) 0)
value_from (ConstA c) h wires heard = WordShare (part_of_public h.me c)
value_from (AddA x y) h wires heard = WordShare (word_sum (word_at wires 0) (word_at wires 1))
value_from (SubA x y) h wires heard = WordShare (word_difference (word_at wires 0) (word_at wires 1))
value_from (AddConstA x c) h wires heard = WordShare (arithmetic.raised_share h.me (word_at wires 0) c)
value_from (MulConstA x c) h wires heard = WordShare (word_product (word_at wires 0) c)
value_from (MulA x y) h wires heard = WordShare (product_of h wires heard)
value_from (OutA x to) h wires heard =
    Told (if includes to h.me then Some (opened_words (word_at wires 0) 0 heard) else None)
value_from (InB party k at) h wires heard =
    VectorShare (if party == h.me then kept_vector h k at else vector_in (width h) (heard_at heard 0) 0)
value_from (ConstB c) h wires heard = VectorShare (part_of_public h.me c)
value_from (XorB x y) h wires heard = VectorShare (bit_xor (vector_at wires 0) (vector_at wires 1))
value_from (XorConstB x c) h wires heard = VectorShare (boolean.flipped_share h.me (vector_at wires 0) c)
value_from (SliceB x at) h wires heard = VectorShare (vector_at wires 0 / 2 ^ at % 2 ^ width h)
value_from (JoinB x y) h wires heard =
    VectorShare (vector_at wires 0 + 2 ^ width_at h.plan.gates x * vector_at wires 1)
value_from (AndB x y) h wires heard = VectorShare (conjunction_of h wires heard)
value_from (OutB x to) h wires heard =
    Told (if includes to h.me then Some (opened_vectors (width h) (vector_at wires 0) 0 heard) else None)
value_from _ h wires heard = Told None

-- ---- the gate at which a party stands, if there is one

abbrev pub kind_in : StageEnv → Option Kind
kind_in env = kind_at env.plan.now.gates env.gate

-- the party's place there, before the values of other gates are known
abbrev pub stand : StageEnv → Hand
stand env = hand_in env []

abbrev pub formed_of : Option Kind → Hand → List ValueInMemory → ℕ → Payload
formed_of None h wires round = []
formed_of (Some kind) h wires round = get_or (formed kind h wires) round []

abbrev pub given_of : Option Kind → Hand → ℕ → Payload
given_of None h to = []
given_of (Some kind) h to = given_out kind h to

abbrev pub value_of_stage : Option Kind → Hand → List ValueInMemory → List Payload → Value
value_of_stage None h wires heard = Told None
value_of_stage (Some kind) h wires heard = value_from kind h wires heard

-- what its operand at a place is, if it has one there
abbrev pub taken_at : Option Kind → ℕ → Option Given
taken_at None at = None
taken_at (Some kind) at = option_map (λ used. used.given) (slice_get (uses kind) at)

-- what it gives
abbrev pub gives_of : Option Kind → Option Given
gives_of None = None
gives_of (Some kind) = Some (gives kind)

-- a value of what is given and of a width
abbrev pub IsGiven : Option Given → ℕ → ValueInMemory → Type 0
IsGiven given w (code.A word) = given ≡ Some Word
IsGiven given w (code.B vector) = (given ≡ Some Vector) × (vector.width ≡ w)
IsGiven given w (code.Told told) = (given ≡ Some plan.Told) × IfSome told (λ vector. vector.width ≡ w)

-- whether a party of that number owns the input that it takes
abbrev pub is_owned : Option Kind → ℕ → Bool
is_owned (Some (InA party k)) me = party == me
is_owned (Some (InB party k at)) me = party == me
is_owned _ me = false

-- whether it is one of keys
abbrev pub is_keyed : Option Kind → Bool
is_keyed None = false
is_keyed (Some kind) = is_of_keys kind

-- whether it is worked out without a message, and gives a word or a vector
abbrev pub is_own_word : Option Kind → Bool
is_own_word (Some (ConstA c)) = true
is_own_word (Some (AddA x y)) = true
is_own_word (Some (SubA x y)) = true
is_own_word (Some (AddConstA x c)) = true
is_own_word (Some (MulConstA x c)) = true
is_own_word _ = false

abbrev pub is_own_vector : Option Kind → Bool
is_own_vector (Some (ConstB c)) = true
is_own_vector (Some (XorB x y)) = true
is_own_vector (Some (XorConstB x c)) = true
is_own_vector (Some (SliceB x at)) = true
is_own_vector (Some (JoinB x y)) = true
is_own_vector _ = false

-- whether its operands are as wide as its value
abbrev pub keeps_width : Option Kind → Bool
keeps_width (Some (SliceB x at)) = false
keeps_width (Some (JoinB x y)) = false
keeps_width (Some (SliceMask u at)) = false
keeps_width (Some (JoinMask u v)) = false
keeps_width (Some (SliceOnline u at)) = false
keeps_width (Some (JoinOnline u v)) = false
keeps_width (Some (BToA x)) = false
keeps_width _ = true

abbrev pub is_product : Option Kind → Bool
is_product (Some (MulA x y)) = true
is_product _ = false

abbrev pub is_conjunction : Option Kind → Bool
is_conjunction (Some (AndB x y)) = true
is_conjunction _ = false

-- how many words, and how many vectors, each payload has for which a party waits there
abbrev pub words_heard : Option Kind → ℕ
words_heard (Some (InA party k)) = 1
words_heard (Some (MulA x y)) = 2
words_heard (Some (OutA x to)) = 1
words_heard _ = 0

abbrev pub vectors_heard : Option Kind → ℕ
vectors_heard (Some (InB party k at)) = 1
vectors_heard (Some (AndB x y)) = 2
vectors_heard (Some (OutB x to)) = 1
vectors_heard _ = 0

-- whether a party of that number hears something there
abbrev pub hears_at : Option Kind → ℕ → Bool
hears_at (Some (InA party k)) me = not (party == me)
hears_at (Some (MulA x y)) me = true
hears_at (Some (OutA x to)) me = includes to me
hears_at (Some (InB party k at)) me = not (party == me)
hears_at (Some (AndB x y)) me = true
hears_at (Some (OutB x to)) me = includes to me
hears_at _ me = false

-- the rounds in which it hears something there, in order
abbrev pub rounds_heard : Option Kind → ℕ → List ℕ
rounds_heard kind me = if hears_at kind me then 0 ∷ [] else []
