-- What frames show, one behind another.
use Rattle.std.proofs.Common.{◌≡◌, ◌≢◌, ◌⊎◌, inl, inr, ℕ, Bool, true, List, [], ◌∷◌, ◌++◌, append_assoc, refl, sym, ap, ◌∙◌, Some, None}
use Rattle.std.proofs.lemmas.List.{append-nil}
use Rattle.std.specs.FinMap as m
use Rattle.std.specs.Option.{option_or, option_map}
use Rattle.frames.specs.declared.frame.Hello as hello
use Rattle.frames.specs.declared.frame.Frame.{Frame}
use Rattle.frames.specs.declared.frame.Frame.TheVariants.{Hello, Message, End}
use Rattle.message_demux.specs.declared.slots.Slot.{Slot}
use Rattle.message_demux.specs.declared.slots.SlotSpec.{SlotSpec}
use Rattle.message_demux.specs.Inbox.{refusal, refusal_by, missing}
use Rattle.message_demux.specs.Kept.{InboxContents}
use Rattle.message_demux.specs.Slots.{slot_at, listed}
use Rattle.peer_streams.specs.declared.error.PartyError.{PartyError}
use Rattle.peer_streams.specs.declared.error.PartyError.TheVariants as cause
use Rattle.peer_streams.specs.Judging.{hello_differs, greeting_cause, own_cause, cause_of, cause_behind, is_begun}
use Rattle.peer_streams.specs.Reading.{KeepsOf}
use Rattle.peer_streams.proofs.Keeping.{lacks-missing}
use Rattle.peer_streams.proofs.Options.{or_assoc}

-- frames and then others show the first cause of the frames, or else the first one of the others
-- behind them
pub causes-append : (expected : hello.Hello) (slots : List SlotSpec) (before frames more : List Frame) → cause_behind expected slots before (frames ++ more) ≡ option_or (cause_behind expected slots before frames) (cause_behind expected slots (before ++ frames) more)
causes-append expected slots before [] more = rw (append-nil before) refl
causes-append expected slots before (frame ∷ frames) more =
    let first = cause_of expected slots before frame in
    let rest = causes-append expected slots (before ++ frame ∷ []) frames more in
    let there : (before ++ frame ∷ []) ++ frames ≡ before ++ frame ∷ frames = append_assoc before (frame ∷ []) frames in
    ap (option_or first) (rest ∙ ap (λ b. option_or (cause_behind expected slots (before ++ frame ∷ []) frames) (cause_behind expected slots b more)) there)
    ∙ or_assoc first (cause_behind expected slots (before ++ frame ∷ []) frames) (cause_behind expected slots (before ++ frame ∷ frames) more)

-- frames that show nothing, and then one that shows this
pub causes-at : (expected : hello.Hello) (slots : List SlotSpec) (before frames : List Frame) (frame : Frame) (more : List Frame) (shown : PartyError) → cause_behind expected slots before frames ≡ None → cause_of expected slots (before ++ frames) frame ≡ Some shown → cause_behind expected slots before (frames ++ frame ∷ more) ≡ Some shown
causes-at expected slots before frames frame more shown none some =
    causes-append expected slots before frames (frame ∷ more)
    ∙ ap (λ o. option_or o (cause_behind expected slots (before ++ frames) (frame ∷ more))) none
    ∙ ap (λ o. option_or o (cause_behind expected slots ((before ++ frames) ++ frame ∷ []) more)) some

-- frames that show nothing, and then one that shows nothing
pub causes-more : (expected : hello.Hello) (slots : List SlotSpec) (before frames : List Frame) (frame : Frame) → cause_behind expected slots before frames ≡ None → cause_of expected slots (before ++ frames) frame ≡ None → cause_behind expected slots before (frames ++ frame ∷ []) ≡ None
causes-more expected slots before frames frame none nothing =
    causes-append expected slots before frames (frame ∷ [])
    ∙ ap (λ o. option_or o (cause_behind expected slots (before ++ frames) (frame ∷ []))) none
    ∙ ap (λ o. option_or o None) nothing

pub begun : (frames : List Frame) (frame : Frame) → is_begun (frames ++ frame ∷ []) ≡ true
begun [] frame = refl
begun (f ∷ frames) frame = refl

-- ---- one frame

hello-greets : (expected : hello.Hello) (before : List Frame) (found : hello.Hello) → greeting_cause expected before (Hello found) ≡ None
hello-greets expected [] found = refl
hello-greets expected (f ∷ before) found = refl

greeted-greets : (expected : hello.Hello) (before : List Frame) (frame : Frame) → true ≡ is_begun before → greeting_cause expected before frame ≡ None
greeted-greets expected [] frame is = absurd (cc)
greeted-greets expected (f ∷ before) frame is = refl

-- a frame that came behind a Hello shows its own cause
pub own : (expected : hello.Hello) (slots : List SlotSpec) (before : List Frame) (frame : Frame) → true ≡ is_begun before → cause_of expected slots before frame ≡ own_cause expected slots before frame
own expected slots before frame is =
    ap (λ o. option_or o (own_cause expected slots before frame)) (greeted-greets expected before frame is)

pub own-hello : (expected : hello.Hello) (slots : List SlotSpec) (before : List Frame) (found : hello.Hello) → cause_of expected slots before (Hello found) ≡ hello_differs expected found
own-hello expected slots before found =
    ap (λ o. option_or o (hello_differs expected found)) (hello-greets expected before found)

pub own-message : (expected : hello.Hello) (inbox : InboxContents) (before : List Frame) (gate round : ℕ) (payload : List ℕ) → true ≡ is_begun before → KeepsOf inbox expected.from before → cause_of expected inbox.slots before (Message gate round payload) ≡ option_map (cause.Refused expected.from) (refusal inbox (slot_at expected.from gate round) payload)
own-message expected inbox before gate round payload is keeps =
    let slot = slot_at expected.from gate round in
    own expected inbox.slots before (Message gate round payload) is
    ∙ ap (λ kept. option_map (cause.Refused expected.from) (refusal_by slot payload (listed inbox.slots slot) kept)) (sym (keeps slot refl))

pub own-end : (expected : hello.Hello) (inbox : InboxContents) (before : List Frame) → true ≡ is_begun before → KeepsOf inbox expected.from before → cause_of expected inbox.slots before End ≡ option_map (cause.EndEarly expected.from) (missing inbox expected.from.0)
own-end expected inbox before is keeps =
    own expected inbox.slots before End is
    ∙ ap (option_map (cause.EndEarly expected.from)) (sym (lacks-missing inbox expected.from before keeps))

-- ---- many frames

-- Frames that were judged behind any others: they show nothing, the inbox keeps their messages, and
-- the peer has greeted where there is a frame.
pub record AreJudged (expected : hello.Hello) (old new : InboxContents) (start greeted : Bool) (frames : List Frame) : Type 0 where
  pub slots : new.slots ≡ old.slots
  pub others : (slot : Slot) → slot.from ≢ expected.from → m.get new.kept slot ≡ m.get old.kept slot
  pub each : (before : List Frame) → start ≡ is_begun before → KeepsOf old expected.from before → (greeted ≡ is_begun (before ++ frames)) × (cause_behind expected old.slots before frames ≡ None) × KeepsOf new expected.from (before ++ frames)

-- what a judged frame says
abbrev pub OneJudged : hello.Hello → InboxContents → InboxContents → Bool → Frame → Type 0
OneJudged expected old new greeted frame =
    (before : List Frame) → greeted ≡ is_begun before → KeepsOf old expected.from before
    → (cause_of expected old.slots before frame ≡ None) × KeepsOf new expected.from (before ++ frame ∷ [])

pub judged-none : (expected : hello.Hello) (inbox : InboxContents) (greeted : Bool) → AreJudged expected inbox inbox greeted greeted []
judged-none expected inbox greeted = record {
  slots = refl;
  others = λ slot other. refl;
  each = λ before is keeps. rw (append-nil before) (is, refl, keeps);
}

pub judged-more : (expected : hello.Hello) (old mid new : InboxContents) (start greeted : Bool) (frames : List Frame) (frame : Frame) → AreJudged expected old mid start greeted frames → OneJudged expected mid new greeted frame → new.slots ≡ mid.slots → ((slot : Slot) → slot.from ≢ expected.from → m.get new.kept slot ≡ m.get mid.kept slot) → AreJudged expected old new start true (frames ++ frame ∷ [])
judged-more expected old mid new start greeted frames frame far one slots others = record {
  slots = slots ∙ far.slots;
  others = λ slot other. others slot other ∙ far.others slot other;
  each = λ before is keeps.
      let so = far.each before is keeps in
      let then = one (before ++ frames) so.0 so.2 in
      let where_ : (before ++ frames) ++ frame ∷ [] ≡ before ++ (frames ++ frame ∷ []) = append_assoc before frames (frame ∷ []) in
      let nothing : cause_of expected old.slots (before ++ frames) frame ≡ None = ap (λ s. cause_of expected s (before ++ frames) frame) (sym far.slots) ∙ then.0 in
      (rw (← where_) (sym (begun (before ++ frames) frame)), causes-more expected old.slots before frames frame so.1 nothing, rw where_ at then.1);
}

-- a frame shows a cause behind judged ones
pub judged-shows : (expected : hello.Hello) (old mid : InboxContents) (start greeted : Bool) (frames : List Frame) (frame : Frame) (more : List Frame) (shown : PartyError) → AreJudged expected old mid start greeted frames → ((before : List Frame) → greeted ≡ is_begun before → KeepsOf mid expected.from before → (shown ≡ cause.NoMemory) ⊎ (cause_of expected mid.slots before frame ≡ Some shown)) → (before : List Frame) → start ≡ is_begun before → KeepsOf old expected.from before → (shown ≡ cause.NoMemory) ⊎ (cause_behind expected old.slots before (frames ++ frame ∷ more) ≡ Some shown)
judged-shows expected old mid start greeted frames frame more shown far said before is keeps =
    let so = far.each before is keeps in
    elim (said (before ++ frames) so.0 so.2) [
      | inl memory ↦ inl memory
      | inr some ↦ inr (causes-at expected old.slots before frames frame more shown so.1 (ap (λ s. cause_of expected s (before ++ frames) frame) (sym far.slots) ∙ some))
    ]
