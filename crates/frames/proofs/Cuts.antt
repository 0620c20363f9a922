-- Frames that stand before other bytes.
use Rattle.std.proofs.Common.{◌≡◌, ℕ, ◌≤◌, List, [], ◌∷◌, ◌++◌, length, drop, refl, sym, ◌∙◌, append_assoc, Some}
use Rattle.std.proofs.lemmas.List.{append-nil, drop_all, nil_from_length}
use Rattle.std.proofs.lemmas.Grind.{flat_map-append}
use Rattle.std.specs.List.{AllByRecursion}
use Rattle.frames.specs.declared.frame.FrameFault.{FrameFault}
use Rattle.frames.specs.declared.frame.Frame.{Frame}
use Rattle.frames.specs.declared.frame.Frame.TheVariants.{End}
use Rattle.frames.specs.Bytes.{canonical, joined}
use Rattle.frames.specs.Reading.{fault_at, frame_length, IsPartial, IsBeforeEnd, StandBefore, Progress, Waiting, Faulty, Ended, Reads}
use Rattle.frames.specs.Steps.{StandsAtFront, GoesOn}
use Rattle.frames.proofs.Heads.{fault_stays}

each_more : (frames more : List Frame) → AllByRecursion IsBeforeEnd frames → AllByRecursion IsBeforeEnd more → AllByRecursion IsBeforeEnd (frames ++ more)
each_more [] more h k = k
each_more (f ∷ frames) more h k = (h.0, each_more frames more h.1 k)

-- frames before bytes are frames before more bytes
pub stand_on : (bytes : List ℕ) (frames : List Frame) (rest more : List ℕ) → StandBefore bytes frames rest → StandBefore (bytes ++ more) frames (rest ++ more)
stand_on bytes frames rest more before = record {
  whole = rw before.whole (append_assoc (joined frames) rest more);
  each = before.each;
}

-- frames before the bytes that other frames stand before
pub stand_then : (bytes : List ℕ) (frames : List Frame) (rest : List ℕ) (more : List Frame) (last : List ℕ) → StandBefore bytes frames rest → StandBefore rest more last → StandBefore bytes (frames ++ more) last
stand_then bytes frames rest more last first second = record {
  whole = rw (first.whole, second.whole, flat_map-append canonical frames more) (sym (append_assoc (joined frames) (joined more) last));
  each = each_more frames more first.each second.each;
}

-- no frames before bytes
pub stand_none : (bytes : List ℕ) → StandBefore bytes [] bytes
stand_none bytes = record { whole = refl; each = tt }

-- frames, and then End
pub stand_ended : (bytes : List ℕ) (frames : List Frame) (rest : List ℕ) → StandBefore bytes frames rest → StandsAtFront End rest → Reads bytes (frames ++ End ∷ []) Ended
stand_ended bytes frames rest before front =
    (frames, drop (frame_length rest) rest, refl, record { whole = rw (← front.is) before.whole; each = before.each })

-- a whole frame that is all there is
pub stand_alone : (frame : Frame) (bytes : List ℕ) → StandsAtFront frame bytes → IsBeforeEnd frame → length bytes ≤ frame_length bytes → StandBefore bytes (frame ∷ []) []
stand_alone frame bytes front can all =
    let over : drop (frame_length bytes) bytes ≡ [] = drop_all (frame_length bytes) bytes all in
    record { whole = front.is ∙ rw (over, append-nil (canonical frame)) (sym (append-nil (canonical frame))); each = (can, tt) }

-- a reading of the bytes behind frames is a reading of all bytes
pub reads_then : (bytes : List ℕ) (frames : List Frame) (rest : List ℕ) (more : List Frame) (progress : Progress) → StandBefore bytes frames rest → Reads rest more progress → Reads bytes (frames ++ more) progress
reads_then bytes frames rest more (Waiting held) before reads =
    (stand_then bytes frames rest more held before reads.0, reads.1)
reads_then bytes frames rest more (Faulty fault) before reads =
    (reads.0, stand_then bytes frames rest more reads.0 before reads.1, reads.2)
reads_then bytes frames rest more Ended before reads =
    (frames ++ reads.0, reads.1, rw reads.2 (sym (append_assoc frames reads.0 (End ∷ []))), stand_then bytes frames rest reads.0 (canonical End ++ reads.1) before reads.3)

-- after a fault or End more bytes change nothing
pub fault_on : (bytes : List ℕ) (frames : List Frame) (fault : FrameFault) (more : List ℕ) → Reads bytes frames (Faulty fault) → Reads (bytes ++ more) frames (Faulty fault)
fault_on bytes frames fault more reads =
    (reads.0 ++ more, stand_on bytes frames reads.0 more reads.1, fault_stays reads.0 more fault reads.2)

pub end_on : (bytes : List ℕ) (frames : List Frame) (more : List ℕ) → Reads bytes frames Ended → Reads (bytes ++ more) frames Ended
end_on bytes frames more reads =
    (reads.0, reads.1 ++ more, reads.2, rw (← append_assoc (canonical End) reads.1 more) (stand_on bytes reads.0 (canonical End ++ reads.1) more reads.3))

-- what a reader finds in bytes whose front it holds
pub reads_fresh : (held piece : List ℕ) (frames more : List Frame) (progress : Progress) → frames ≡ [] → length held ≡ 0 → GoesOn frames piece more progress → Reads (held ++ piece) more progress
reads_fresh held piece frames more progress none empty goes =
    rw (nil_from_length held empty) (goes [] (rw none (stand_none [])))

pub reads_partial : (bytes held rest : List ℕ) → held ++ rest ≡ bytes → IsPartial held → rest ≡ [] → Reads bytes [] (Waiting held)
reads_partial bytes held rest is p none =
    (rw (← is, none, append-nil held) (stand_none held), p)

pub reads_bad : (bytes held rest : List ℕ) (fault : FrameFault) → held ++ rest ≡ bytes → fault_at held ≡ Some fault → Reads bytes [] (Faulty fault)
reads_bad bytes held rest fault is bad =
    (bytes, stand_none bytes, rw (← is) (fault_stays held rest fault bad))

pub reads_end : (bytes held rest : List ℕ) → held ++ rest ≡ bytes → StandsAtFront End held → Reads bytes (End ∷ []) Ended
reads_end bytes held rest is front =
    rw (← is) (end_on held (End ∷ []) rest (stand_ended held [] held (stand_none held) front))

pub reads_on : (bytes held rest : List ℕ) (frame : Frame) (frames more : List Frame) (progress : Progress) → held ++ rest ≡ bytes → StandsAtFront frame held → IsBeforeEnd frame → length held ≤ frame_length held → frames ≡ frame ∷ [] → GoesOn frames rest more progress → Reads bytes more progress
reads_on bytes held rest frame frames more progress is front can one same goes =
    rw (← is) (goes held (rw same (stand_alone frame held front can one)))

-- the frames of all bytes, from those of the bytes before a piece and of what was held and the piece
pub goes_on : (bytes : List ℕ) (frames : List Frame) (held piece : List ℕ) (more : List Frame) (before after : Progress) → before ≡ Waiting held → Reads (held ++ piece) more after → Reads bytes frames before → Reads (bytes ++ piece) (frames ++ more) after
goes_on bytes frames held piece more before after is found reads =
    let first = rw is at reads in
    reads_then (bytes ++ piece) frames (held ++ piece) more after (stand_on bytes frames held piece first.0) found

pub stays_faulty : (bytes : List ℕ) (frames : List Frame) (piece : List ℕ) (more : List Frame) (fault : FrameFault) (before : Progress) → before ≡ Faulty fault → more ≡ [] → Reads bytes frames before → Reads (bytes ++ piece) (frames ++ more) before
stays_faulty bytes frames piece more fault before is none reads =
    rw (none, append-nil frames, is) (fault_on bytes frames fault piece (rw is at reads))

pub stays_ended : (bytes : List ℕ) (frames : List Frame) (piece : List ℕ) (more : List Frame) (before : Progress) → before ≡ Ended → more ≡ [] → Reads bytes frames before → Reads (bytes ++ piece) (frames ++ more) before
stays_ended bytes frames piece more before is none reads =
    rw (none, append-nil frames, is) (end_on bytes frames piece (rw is at reads))
