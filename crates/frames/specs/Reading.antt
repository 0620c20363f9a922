-- How the bytes of a link are cut into frames.
use Rattle.std.specs.Prelude.{◌≡◌, ℕ, ◌+◌, ◌<◌, Bool, true, false, ◌||◌, ◌==◌, List, [], ◌∷◌, ◌++◌, length, Option, Some, None, nat_lt, nat_le, slice_index, if◌then◌else◌}
use Rattle.std.specs.List.{AllByRecursion}
use Rattle.std.specs.Option.{option_or}
use Rattle.byteorder.specs.Endian.{big_number}
use Rattle.frames.specs.declared.frame.Frame.{Frame}
use Rattle.frames.specs.declared.frame.Frame.TheVariants.{Hello, Message, End}
use Rattle.frames.specs.declared.frame.FrameFault.{FrameFault}
use Rattle.frames.specs.declared.frame.FrameFault.TheVariants.{Length, Kind, Fields}
use Rattle.frames.specs.declared.frame.TheConstants.{HELLO_LENGTH, LEAST_MESSAGE_LENGTH, MAX_LENGTH, END_LENGTH}
use Rattle.frames.specs.Bytes.{canonical, joined, IsSendable, IsInWidth}

-- the length that the front of the bytes states, and the kind behind it
unfoldable pub stated_length : List ℕ → ℕ
stated_length bytes = big_number 4 bytes

abbrev pub stated_kind : List ℕ → ℕ
stated_kind bytes = slice_index bytes 4

-- whether a frame of the kind may have the length: 1 is Hello, 2 a message, 3 End
abbrev pub is_length_of : ℕ → ℕ → Bool
is_length_of kind length =
    if kind == 1 then length == HELLO_LENGTH
    else (if kind == 2 then nat_le LEAST_MESSAGE_LENGTH length else length == END_LENGTH)

-- what is wrong with a length
abbrev pub fault_of_length : ℕ → Option FrameFault
fault_of_length length = if length == 0 || nat_lt MAX_LENGTH length then Some Length else None

-- what is wrong with a kind, or with a length for it
abbrev pub fault_of_kind : ℕ → ℕ → Option FrameFault
fault_of_kind kind length =
    if kind == 0 || nat_lt 3 kind then Some Kind
    else (if is_length_of kind length then None else Some Fields)

-- The fault of the frame at the front of the bytes. It shows as soon as its length is there, and else
-- as soon as its kind is there.
unfoldable pub fault_at : List ℕ → Option FrameFault
fault_at bytes =
    if nat_lt (length bytes) 4 then None
    else option_or
    (fault_of_length (stated_length bytes))
    (if nat_lt (length bytes) 5 then None
    else fault_of_kind (stated_kind bytes) (stated_length bytes))

-- how many bytes the frame at the front has, as far as they tell
unfoldable pub frame_length : List ℕ → ℕ
frame_length bytes = if nat_lt (length bytes) 4 then 4 else 4 + stated_length bytes

-- the bytes of a frame of which some are lacking, and which shows no fault
pub record IsPartial (bytes : List ℕ) : Type 0 where
  pub faultless : fault_at bytes ≡ None
  pub lacking : length bytes < frame_length bytes

-- a frame that may stand before End
abbrev pub IsBeforeEnd : Frame → Type 0
IsBeforeEnd (Hello hello) = IsInWidth (Hello hello)
IsBeforeEnd (Message gate round payload) =
    IsInWidth (Message gate round payload) × IsSendable (Message gate round payload)
IsBeforeEnd End = ⊥

-- whole frames, none of them End, stand at the front of the bytes, and the rest behind them
pub record StandBefore (bytes : List ℕ) (frames : List Frame) (rest : List ℕ) : Type 0 where
  pub whole : bytes ≡ joined frames ++ rest
  pub each : AllByRecursion IsBeforeEnd frames

-- how far the bytes of a link were read: some bytes of a frame wait for its other bytes, a frame was
-- bad, or End was read
pub data Progress : Type 0 where
  Waiting : List ℕ → Progress
  Faulty : FrameFault → Progress
  Ended : Progress

-- The frames of the bytes: the whole frames at their front, up to the first fault or End.
abbrev pub Reads : List ℕ → List Frame → Progress → Type 0
Reads bytes frames (Waiting rest) = StandBefore bytes frames rest × IsPartial rest
Reads bytes frames (Faulty fault) =
    (rest : List ℕ) × StandBefore bytes frames rest × (fault_at rest ≡ Some fault)
Reads bytes frames Ended =
    (before : List Frame) × (rest : List ℕ)
    × (frames ≡ before ++ End ∷ []) × StandBefore bytes before (canonical End ++ rest)

-- the fault that was met
abbrev pub fault_of : Progress → Option FrameFault
fault_of (Waiting rest) = None
fault_of (Faulty fault) = Some fault
fault_of Ended = None

-- whether End was read
abbrev pub has_ended : Progress → Bool
has_ended (Waiting rest) = false
has_ended (Faulty fault) = false
has_ended Ended = true

-- no more frames come, whatever the bytes to come are
abbrev pub IsStopped : Progress → Type 0
IsStopped (Waiting rest) = ⊥
IsStopped (Faulty fault) = Unit {0}
IsStopped Ended = Unit {0}

-- how many bytes wait
abbrev pub waiting : Progress → ℕ
waiting (Waiting rest) = length rest
waiting (Faulty fault) = 0
waiting Ended = 0

-- however the bytes are read, their frames are the same
abbrev pub OneReading : Type 0
OneReading =
    (bytes : List ℕ) (frames others : List Frame) (here there : Progress)
    → Reads bytes frames here → Reads bytes others there → (frames ≡ others) × (here ≡ there)
