-- What the frames of a peer give to slots, and what an inbox keeps of them.
use Rattle.std.proofs.Common.{◌≡◌, ◌≢◌, ℕ, eqb, Bool, true, false, cond, List, [], ◌∷◌, ◌++◌, refl, sym, ap, ◌∙◌, Some, None, arith}
use Rattle.std.specs.FinMap as m
use Rattle.std.specs.List.{find}
use Rattle.std.specs.Option.{option_or, option_map}
use Rattle.std.specs.Ordering.{eq_by_cmp}
use Rattle.std.specs.Cmp.{Equal-is}
use Rattle.std.proofs.lemmas.Bool.Decides.{nat_tests}
use Rattle.mot_base.specs.declared.Party.{Party}
use Rattle.frames.specs.declared.frame.Frame.{Frame}
use Rattle.frames.specs.declared.frame.Frame.TheVariants.{Hello, Message, End}
use Rattle.message_demux.specs.declared.inbox.Delivered.{Delivered}
use Rattle.message_demux.specs.declared.inbox.Delivered.TheVariants.{New, Again}
use Rattle.message_demux.specs.declared.slots.Slot.{Slot}
use Rattle.message_demux.specs.declared.slots.SlotSpec.{SlotSpec}
use Rattle.message_demux.specs.Inbox.{after, kept_before, is_missing, missing}
use Rattle.message_demux.specs.Kept.{InboxContents}
use Rattle.message_demux.specs.Slots.{slot_cmp, slot_of, slot_at}
use Rattle.message_demux.proofs.Keeping.{get_here, get_there}
use Rattle.message_demux.proofs.Places.{slot_same}
use Rattle.peer_streams.specs.Judging.{kept_in, is_lacking, first_lacking}
use Rattle.peer_streams.specs.Reading.{KeepsOf, StillKeeps}
use Rattle.peer_streams.proofs.Options.{cond_or}
use Rattle.mot_base.proofs.Lists.{option_or_none as or_none}

-- what frames and then others give
pub kept-append : (peer : Party) (frames more : List Frame) (slot : Slot) → kept_in peer (frames ++ more) slot ≡ option_or (kept_in peer frames slot) (kept_in peer more slot)
kept-append peer [] more slot = refl
kept-append peer (Hello h ∷ frames) more slot = kept-append peer frames more slot
kept-append peer (End ∷ frames) more slot = kept-append peer frames more slot
kept-append peer (Message gate round payload ∷ frames) more slot =
    ap (cond (eq_by_cmp slot_cmp slot (slot_at peer gate round)) (Some payload)) (kept-append peer frames more slot)
    ∙ cond_or (eq_by_cmp slot_cmp slot (slot_at peer gate round)) payload (kept_in peer frames slot) (kept_in peer more slot)

-- a Hello or End gives nothing
pub keeps-hello : (inbox : InboxContents) (peer : Party) (before : List Frame) (frame : Frame) → ((slot : Slot) → kept_in peer (frame ∷ []) slot ≡ None) → KeepsOf inbox peer before → KeepsOf inbox peer (before ++ frame ∷ [])
keeps-hello inbox peer before frame nothing keeps slot same =
    keeps slot same ∙ sym (kept-append peer before (frame ∷ []) slot ∙ ap (option_or (kept_in peer before slot)) (nothing slot) ∙ or_none (kept_in peer before slot))

pub same_slot : (x y : Slot) → eq_by_cmp slot_cmp x y ≡ true → x ≡ y
same_slot x y e = slot_same x y ((Equal-is (slot_cmp x y)).0 e)

module _ (inbox : InboxContents) (peer : Party) (gate round : ℕ) (payload : List ℕ) (before : List Frame) (keeps : KeepsOf inbox peer before) where
  abbrev pub at : Slot
  at = slot_at peer gate round

  -- what the frames with the message give to a slot
  given : (q : Slot) (b : Bool) → eq_by_cmp slot_cmp q at ≡ b → kept_in peer (before ++ Message gate round payload ∷ []) q ≡ option_or (kept_in peer before q) (cond b (Some payload) None)
  given q b is = kept-append peer before (Message gate round payload ∷ []) q ∙ ap (λ t. option_or (kept_in peer before q) (cond t (Some payload) None)) is

  new_keeps : m.get inbox.kept at ≡ None → (q : Slot) → q.from ≡ peer → (b : Bool) → eq_by_cmp slot_cmp q at ≡ b → m.get (m.insert inbox.kept at payload) q ≡ kept_in peer (before ++ Message gate round payload ∷ []) q
  new_keeps none q theirs true is =
      let same = same_slot q at is in
      let nothing : kept_in peer before q ≡ None = sym (keeps q theirs) ∙ ap (m.get inbox.kept) same ∙ none in
      ap (m.get (m.insert inbox.kept at payload)) same
      ∙ get_here inbox.kept at payload
      ∙ sym (given q true is ∙ ap (λ o. option_or o (Some payload)) nothing)
  new_keeps none q theirs false is =
      get_there inbox.kept at payload q is
      ∙ keeps q theirs
      ∙ sym (given q false is ∙ or_none (kept_in peer before q))

  again_keeps : m.get inbox.kept at ≡ Some payload → (q : Slot) → q.from ≡ peer → (b : Bool) → eq_by_cmp slot_cmp q at ≡ b → m.get inbox.kept q ≡ kept_in peer (before ++ Message gate round payload ∷ []) q
  again_keeps some q theirs true is =
      let same = same_slot q at is in
      let held : m.get inbox.kept q ≡ Some payload = ap (m.get inbox.kept) same ∙ some in
      let kept : kept_in peer before q ≡ Some payload = sym (keeps q theirs) ∙ held in
      held ∙ sym (given q true is ∙ ap (λ o. option_or o (Some payload)) kept)
  again_keeps some q theirs false is =
      keeps q theirs ∙ sym (given q false is ∙ or_none (kept_in peer before q))

  -- an inbox that took the message keeps what the frames with it give
  pub message-keeps : (delivered : Delivered) (new : InboxContents) → m.get inbox.kept at ≡ kept_before delivered payload → new ≡ after delivered inbox at payload → KeepsOf new peer (before ++ Message gate round payload ∷ [])
  message-keeps New new none is q theirs =
      ap (λ (i : InboxContents). m.get i.kept q) is ∙ new_keeps none q theirs _ refl
  message-keeps Again new some is q theirs =
      ap (λ (i : InboxContents). m.get i.kept q) is ∙ again_keeps some q theirs _ refl

not_same : (x y : Slot) (b : Bool) → x.from ≢ y.from → eq_by_cmp slot_cmp x y ≡ b → b ≡ false
not_same x y true other is = absurd (other (ap (λ (s : Slot). s.from) (same_slot x y is)))
not_same x y false other is = refl

-- a message of a peer leaves the slots of all others
pub others-stay : (inbox : InboxContents) (slot : Slot) (payload : List ℕ) (delivered : Delivered) (new : InboxContents) → new ≡ after delivered inbox slot payload → (q : Slot) → q.from ≢ slot.from → m.get new.kept q ≡ m.get inbox.kept q
others-stay inbox slot payload New new is q other =
    ap (λ (i : InboxContents). m.get i.kept q) is
    ∙ get_there inbox.kept slot payload q (let no = not_same q slot _ other refl in no)
others-stay inbox slot payload Again new is q other = ap (λ (i : InboxContents). m.get i.kept q) is

-- what an inbox keeps, it keeps when it has taken a message
pub still-keeps : (inbox : InboxContents) (slot : Slot) (payload : List ℕ) (delivered : Delivered) (new : InboxContents) → m.get inbox.kept slot ≡ kept_before delivered payload → new ≡ after delivered inbox slot payload → StillKeeps inbox new
still-keeps inbox slot payload Again new before is q held some = ap (λ (i : InboxContents). m.get i.kept q) is ∙ some
still-keeps inbox slot payload New new before is q held some = ap (λ (i : InboxContents). m.get i.kept q) is ∙ by (eq_by_cmp slot_cmp q slot) refl
  where
    by : (b : Bool) → eq_by_cmp slot_cmp q slot ≡ b → m.get (m.insert inbox.kept slot payload) q ≡ Some held
    by true same =
        let clash : None ≡ Some held = sym before ∙ ap (m.get inbox.kept) (sym (same_slot q slot same)) ∙ some in
        absurd (cc)
    by false other = get_there inbox.kept slot payload q other ∙ some

pub slots-stay : (inbox : InboxContents) (slot : Slot) (payload : List ℕ) (delivered : Delivered) (new : InboxContents) → new ≡ after delivered inbox slot payload → new.slots ≡ inbox.slots
slots-stay inbox slot payload New new is = ap (λ (i : InboxContents). i.slots) is
slots-stay inbox slot payload Again new is = ap (λ (i : InboxContents). i.slots) is

-- the same messages are missing as are lacking among the frames
lacks : (inbox : InboxContents) (peer : Party) (frames : List Frame) (spec : SlotSpec) (b : Bool) → eqb spec.from.0 peer.0 ≡ b → KeepsOf inbox peer frames → is_missing inbox peer.0 spec ≡ is_lacking frames peer spec
lacks inbox peer frames spec true theirs keeps =
    let number : spec.from.0 ≡ peer.0 = grind (arith, nat_tests) in
    let same : (slot_of spec).from ≡ peer = λ i. record { 0 = number i } in
    rw (theirs, keeps (slot_of spec) same) refl
lacks inbox peer frames spec false theirs keeps = rw theirs refl

find_same : (p q : SlotSpec → Bool) (specs : List SlotSpec) → ((spec : SlotSpec) → p spec ≡ q spec) → find p specs ≡ find q specs
find_same p q [] same = refl
find_same p q (spec ∷ specs) same =
    ap (λ b. cond b (Some spec) (find p specs)) (same spec) ∙ ap (cond (q spec) (Some spec)) (find_same p q specs same)

pub lacks-missing : (inbox : InboxContents) (peer : Party) (frames : List Frame) → KeepsOf inbox peer frames → missing inbox peer.0 ≡ first_lacking inbox.slots frames peer
lacks-missing inbox peer frames keeps =
    ap (option_map slot_of) (find_same (is_missing inbox peer.0) (is_lacking frames peer) inbox.slots (λ spec. lacks inbox peer frames spec _ refl keeps))
