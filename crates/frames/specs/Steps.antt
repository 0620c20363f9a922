-- What the steps of a reader find and leave.
use Rattle.std.specs.Prelude.{◌≡◌, ℕ, ◌≤◌, List, [], ◌++◌, length, drop, Some}
use Rattle.frames.specs.declared.frame.Frame.{Frame}
use Rattle.frames.specs.declared.frame.Frame.TheVariants.{End as end}
use Rattle.frames.specs.declared.cut.Front.{Front}
use Rattle.frames.specs.declared.cut.Front.TheVariants as front
use Rattle.frames.specs.declared.cut.Left.{Left}
use Rattle.frames.specs.declared.cut.Left.TheVariants as left
use Rattle.frames.specs.declared.reader.Phase.{Phase}
use Rattle.frames.specs.declared.reader.Phase.TheVariants as phase
use Rattle.frames.specs.Bytes.{body, canonical, IsSendable, IsInWidth}
use Rattle.frames.specs.Reading.{fault_at, frame_length, IsPartial, IsBeforeEnd, StandBefore, Progress, Waiting, Faulty, Ended, Reads}

-- the bytes behind a length are those of the frame
pub record IsBodyOf (frame : Frame) (bytes : List ℕ) : Type 0 where
  pub is : body frame ≡ bytes
  pub width : IsInWidth frame
  pub payload : IsSendable frame

-- the frame stands whole at the front of the bytes
pub record StandsAtFront (frame : Frame) (bytes : List ℕ) : Type 0 where
  pub is : bytes ≡ canonical frame ++ drop (frame_length bytes) bytes
  pub whole : frame_length bytes ≤ length bytes

-- what is at the front of the bytes
abbrev pub IsFrontOf : List ℕ → Front → Type 0
IsFrontOf bytes front.Partial = IsPartial bytes
IsFrontOf bytes (front.Bad fault) = fault_at bytes ≡ Some fault
IsFrontOf bytes (front.Whole frame) = StandsAtFront frame bytes × IsBeforeEnd frame
IsFrontOf bytes front.End = StandsAtFront end bytes

-- how far bytes were read that left this
abbrev pub left_progress : Left → Progress
left_progress (left.Partial rest) = Waiting rest.now
left_progress (left.Bad fault) = Faulty fault
left_progress left.Ended = Ended

-- what may be left waits for its other bytes
abbrev pub IsLeft : Left → Type 0
IsLeft (left.Partial rest) = IsPartial rest.now
IsLeft (left.Bad fault) = Unit {0}
IsLeft left.Ended = Unit {0}

-- how far a reader is that holds these bytes
abbrev pub progress : Phase → List ℕ → Progress
progress phase.Reading held = Waiting held
progress (phase.Faulty fault) held = Faulty fault
progress phase.Ended held = Ended

-- what a reader may hold
abbrev pub IsHeld : Phase → List ℕ → Type 0
IsHeld phase.Reading held = IsPartial held
IsHeld (phase.Faulty fault) held = held ≡ []
IsHeld phase.Ended held = held ≡ []

-- more bytes, behind frames that stand whole, were read as far as this
abbrev pub GoesOn : List Frame → List ℕ → List Frame → Progress → Type 0
GoesOn frames bytes more progress =
    (before : List ℕ) → StandBefore before frames [] → Reads (before ++ bytes) more progress
