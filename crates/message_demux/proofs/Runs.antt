-- What a list of messages leaves in an inbox.
use Rattle.std.proofs.Common.{◌≡◌, ◌⊎◌, inl, inr, ℕ, Bool, true, false, List, [], ◌∷◌, refl, sym, ap, ◌∙◌, Option, Some, None}
use Rattle.std.specs.FinMap as m
use Rattle.std.specs.FinMap.{get-empty, same_map}
use Rattle.std.specs.Option.{option_or}
use Rattle.std.specs.Ordering.{eq_by_cmp}
use Rattle.std.specs.Cmp.{Equal-is}
use Rattle.std.specs.Str.{bytes_eq}
use Rattle.std.proofs.lemmas.Slice.Eq.{bytes_eq-Decides}
use Rattle.message_demux.specs.declared.inbox.Refused.{Refused}
use Rattle.message_demux.specs.declared.slots.Slot.{Slot}
use Rattle.message_demux.specs.declared.slots.SlotSpec.{SlotSpec}
use Rattle.message_demux.specs.Inbox.{empty_inbox, with_payload, refusal, refusal_by, differs}
use Rattle.message_demux.specs.Fit.{Fits, unfit}
use Rattle.message_demux.specs.Kept.{Kept, InboxContents}
use Rattle.message_demux.specs.Runs.{Message, IsIn, unless_refused, after_all, IsAcceptable, NoneRefused, KeepsMessages, OrderIsNothing}
use Rattle.message_demux.specs.Slots.{slot_cmp, listed}
use Rattle.message_demux.proofs.Keeping.{get_here, get_there}
use Rattle.message_demux.proofs.Places.{slot_total, slot_same}
use Rattle.mot_base.proofs.Lists.{neither_some as neither, same_some}

-- what is known of a message that is not refused
record IsAccepted (expected : Option SlotSpec) (payload : List ℕ) (kept : Option (List ℕ)) : Type 0 where
  spec : SlotSpec
  is : expected ≡ Some spec
  fits : unfit spec payload ≡ None
  before : (kept ≡ None) ⊎ (kept ≡ Some payload)

same_bytes : (slot : Slot) (payload kept : List ℕ) → (b : Bool) → bytes_eq kept payload ≡ b → differs slot payload (Some kept) ≡ None → kept ≡ payload
same_bytes slot payload kept true is none = (bytes_eq-Decides kept payload).0 is
same_bytes slot payload kept false is none = absurd (let wrong = rw is at none in cc)

accepted_by : (slot : Slot) (payload : List ℕ) (expected : Option SlotSpec) (kept : Option (List ℕ)) → refusal_by slot payload expected kept ≡ None → IsAccepted expected payload kept
accepted_by slot payload None kept none = absurd (cc)
accepted_by slot payload (Some spec) None none =
    let parts = neither (unfit spec payload) None none in
    record { spec = spec; is = refl; fits = parts.0; before = inl refl }
accepted_by slot payload (Some spec) (Some kept) none =
    let parts = neither (unfit spec payload) (differs slot payload (Some kept)) none in
    record { spec = spec; is = refl; fits = parts.0; before = inr (ap Some (same_bytes slot payload kept (bytes_eq kept payload) refl parts.1)) }

not_refused : (cause : Option Refused) (after : Option InboxContents) (out : InboxContents) → unless_refused cause after ≡ Some out → (cause ≡ None) × (after ≡ Some out)
not_refused None after out e = (refl, e)
not_refused (Some refused) after out e = absurd (cc)

same_slot : (x y : Slot) → eq_by_cmp slot_cmp x y ≡ true → x ≡ y
same_slot x y e = slot_same x y ((Equal-is (slot_cmp x y)).0 e)

same_message : (n message : Message) → n.slot ≡ message.slot → n.payload ≡ message.payload → n ≡ message
same_message n message slot payload = λ i. record { slot = slot i; payload = payload i }

-- what is kept after one more message
after_one : (kept : Kept) (message : Message) (n : Message) (b : Bool) → eq_by_cmp slot_cmp n.slot message.slot ≡ b → m.get (m.insert kept message.slot message.payload) n.slot ≡ Some n.payload → (n ≡ message) ⊎ (m.get kept n.slot ≡ Some n.payload)
after_one kept message n true tie got =
    let same = same_slot n.slot message.slot tie in
    let there : Some message.payload ≡ Some n.payload = sym (get_here kept message.slot message.payload) ∙ sym (ap (m.get (m.insert kept message.slot message.payload)) same) ∙ got in
    inl (same_message n message same (sym (same_some _ _ there)))
after_one kept message n false other got = inr (sym (get_there kept message.slot message.payload n.slot other) ∙ got)

stays_after : (kept : Kept) (message : Message) → (m.get kept message.slot ≡ None) ⊎ (m.get kept message.slot ≡ Some message.payload) → (n : Message) (b : Bool) → eq_by_cmp slot_cmp n.slot message.slot ≡ b → m.get kept n.slot ≡ Some n.payload → m.get (m.insert kept message.slot message.payload) n.slot ≡ Some n.payload
stays_after kept message before n false other got = get_there kept message.slot message.payload n.slot other ∙ got
stays_after kept message before n true tie got =
    let same = same_slot n.slot message.slot tie in
    let here = sym (ap (m.get kept) same) ∙ got in
    let payload : message.payload ≡ n.payload = elim before [
      | inl none ↦ absurd (let clash : None ≡ Some n.payload = sym none ∙ here in cc)
      | inr kept_before ↦ same_some _ _ (sym kept_before ∙ here)
    ] in
    ap (m.get (m.insert kept message.slot message.payload)) same ∙ get_here kept message.slot message.payload ∙ ap Some payload

there_after : (kept : Kept) (message n : Message) → n ≡ message → m.get (m.insert kept message.slot message.payload) n.slot ≡ Some n.payload
there_after kept message n same =
    ap (λ k. m.get (m.insert kept message.slot message.payload) k.slot) same
    ∙ get_here kept message.slot message.payload
    ∙ ap (λ k. Some k.payload) (sym same)

-- a message that was taken, and the messages behind it
taken : (inbox : InboxContents) (message : Message) (messages : List Message) (out : InboxContents) → after_all inbox (message ∷ messages) ≡ Some out → IsAccepted (listed inbox.slots message.slot) message.payload (m.get inbox.kept message.slot) × (after_all (with_payload inbox message.slot message.payload) messages ≡ Some out)
taken inbox message messages out e =
    let parts = not_refused (refusal inbox message.slot message.payload) (after_all (with_payload inbox message.slot message.payload) messages) out e in
    (accepted_by message.slot message.payload (listed inbox.slots message.slot) (m.get inbox.kept message.slot) parts.0, parts.1)

-- what is kept at the end was kept before, or came
kept_or_came : (messages : List Message) (inbox out : InboxContents) → after_all inbox messages ≡ Some out → (n : Message) → m.get out.kept n.slot ≡ Some n.payload → IsIn n messages ⊎ (m.get inbox.kept n.slot ≡ Some n.payload)
kept_or_came [] inbox out e n got = inr (ap (λ i. m.get i.kept n.slot) (same_some _ _ e) ∙ got)
kept_or_came (message ∷ messages) inbox out e n got =
    let parts = taken inbox message messages out e in
    elim (kept_or_came messages (with_payload inbox message.slot message.payload) out parts.1 n got) [
      | inl came ↦ inl (inr came)
      | inr kept ↦ elim (after_one inbox.kept message n _ refl kept) [ inl same ↦ inl (inl same) | inr before ↦ inr before ]
    ]

-- what was kept before stays, and what came is kept
stays : (messages : List Message) (inbox out : InboxContents) → after_all inbox messages ≡ Some out → (n : Message) → m.get inbox.kept n.slot ≡ Some n.payload → m.get out.kept n.slot ≡ Some n.payload
stays [] inbox out e n got = sym (ap (λ i. m.get i.kept n.slot) (same_some _ _ e)) ∙ got
stays (message ∷ messages) inbox out e n got =
    let parts = taken inbox message messages out e in
    stays messages (with_payload inbox message.slot message.payload) out parts.1 n (stays_after inbox.kept message parts.0.before n _ refl got)

came : (messages : List Message) (inbox out : InboxContents) → after_all inbox messages ≡ Some out → (n : Message) → IsIn n messages → m.get out.kept n.slot ≡ Some n.payload
came [] inbox out e n in_it = absurd in_it
came (message ∷ messages) inbox out e n in_it =
    let parts = taken inbox message messages out e in
    elim in_it [
      | inl same ↦ stays messages (with_payload inbox message.slot message.payload) out parts.1 n (there_after inbox.kept message n same)
      | inr behind ↦ came messages (with_payload inbox message.slot message.payload) out parts.1 n behind
    ]

nothing_kept : (n : Message) → m.get (empty_inbox []).kept n.slot ≡ Some n.payload → ⊥
nothing_kept n got = let clash : None ≡ Some n.payload = sym (get-empty slot_cmp n.slot) ∙ got in cc

pub keeps_messages : KeepsMessages
keeps_messages slots messages inbox e n = (
  λ got. elim (kept_or_came messages (empty_inbox slots) inbox e n got) [ inl here ↦ here | inr before ↦ absurd (nothing_kept n before) ],
  λ in_it. came messages (empty_inbox slots) inbox e n in_it,
)

-- the expected messages stay
slots_stay : (messages : List Message) (inbox out : InboxContents) → after_all inbox messages ≡ Some out → inbox.slots ≡ out.slots
slots_stay [] inbox out e = ap (λ i. i.slots) (same_some _ _ e)
slots_stay (message ∷ messages) inbox out e =
    slots_stay messages (with_payload inbox message.slot message.payload) out (taken inbox message messages out e).1

-- options that are `Some` of the same values are the same
same_option : {X : Type 0} (a b : Option X) → ((x : X) → a ≡ Some x → b ≡ Some x) → ((x : X) → b ≡ Some x → a ≡ Some x) → a ≡ b
same_option None None f g = refl
same_option None (Some y) f g = absurd (let clash : None ≡ Some y = g y refl in cc)
same_option (Some x) b f g = sym (f x refl)

pub order_nothing : OrderIsNothing
order_nothing slots messages others here there same e f =
    let slots_same = sym (slots_stay messages (empty_inbox slots) here e) ∙ slots_stay others (empty_inbox slots) there f in
    let kept_same : here.kept ≡ there.kept = same_map slot_total slot_same here.kept there.kept (λ q. same_option (m.get here.kept q) (m.get there.kept q)
    (λ x got. (keeps_messages slots others there f (record { slot = q; payload = x })).1 ((same (record { slot = q; payload = x })).0 ((keeps_messages slots messages here e (record { slot = q; payload = x })).0 got)))
    (λ x got. (keeps_messages slots messages here e (record { slot = q; payload = x })).1 ((same (record { slot = q; payload = x })).1 ((keeps_messages slots others there f (record { slot = q; payload = x })).0 got)))) in
    λ i. record { slots = slots_same i; kept = kept_same i }

-- each message that was taken fits
each_fits : (messages : List Message) (inbox out : InboxContents) → after_all inbox messages ≡ Some out → (n : Message) → IsIn n messages → Fits inbox.slots n.slot n.payload
each_fits [] inbox out e n in_it = absurd in_it
each_fits (message ∷ messages) inbox out e n in_it =
    let parts = taken inbox message messages out e in
    elim in_it [
      | inl same ↦ (parts.0.spec, ap (λ k. listed inbox.slots k.slot) same ∙ parts.0.is, ap (λ k. unfit parts.0.spec k.payload) same ∙ parts.0.fits)
      | inr behind ↦ each_fits messages (with_payload inbox message.slot message.payload) out parts.1 n behind
    ]

-- a message that fits, and of whose slot no other payload is kept, is taken
takes_by : (slot : Slot) (payload : List ℕ) (expected : Option SlotSpec) (kept : Option (List ℕ)) (spec : SlotSpec) → expected ≡ Some spec → unfit spec payload ≡ None → ((p : List ℕ) → kept ≡ Some p → p ≡ payload) → refusal_by slot payload expected kept ≡ None
takes_by slot payload expected None spec is fits agree = rw (is, fits) refl
takes_by slot payload expected (Some kept) spec is fits agree =
    let equal : bytes_eq kept payload ≡ true = (bytes_eq-Decides kept payload).1 (agree kept refl) in
    rw (is, fits, equal) refl

all_taken : (messages : List Message) (inbox : InboxContents) → IsAcceptable inbox.slots messages → ((n : Message) → IsIn n messages → (p : List ℕ) → m.get inbox.kept n.slot ≡ Some p → p ≡ n.payload) → (out : InboxContents) × (after_all inbox messages ≡ Some out)
all_taken [] inbox can agree = (inbox, refl)
all_taken (message ∷ messages) inbox can agree =
    let fit = can.fit message (inl refl) in
    let first : refusal inbox message.slot message.payload ≡ None = takes_by message.slot message.payload (listed inbox.slots message.slot) (m.get inbox.kept message.slot) fit.0 fit.1 fit.2 (agree message (inl refl)) in
    let rest : IsAcceptable inbox.slots messages = record { fit = λ n in_it. can.fit n (inr in_it); agree = λ n k in_it there. can.agree n k (inr in_it) (inr there) } in
    let behind = all_taken messages (with_payload inbox message.slot message.payload) rest (λ n in_it p got. elim (after_one inbox.kept message (record { slot = n.slot; payload = p }) _ refl got) [
      | inl same ↦ ap (λ k. k.payload) same ∙ can.agree message n (inl refl) (inr in_it) (sym (ap (λ k. k.slot) same))
      | inr before ↦ agree n (inr in_it) p before
    ]) in
    (behind.0, rw first behind.1)

pub none_refused : NoneRefused
none_refused slots messages = (
  λ all. record {
    fit = λ n in_it. each_fits messages (empty_inbox slots) all.0 all.1 n in_it;
    agree = λ n k in_it there same.
        let first = came messages (empty_inbox slots) all.0 all.1 n in_it in
        let second = came messages (empty_inbox slots) all.0 all.1 k there in
        same_some _ _ (sym first ∙ ap (m.get all.0.kept) same ∙ second);
  },
  λ can. all_taken messages (empty_inbox slots) can (λ n in_it p got. absurd (nothing_kept (record { slot = n.slot; payload = p }) got)),
)
