-- Honest frames and streams of a peer.
use Rattle.std.proofs.Common.{◌≡◌, ◌⊎◌, inl, inr, ℕ, ◌<◌, eqb, Bool, true, false, cond, List, [], ◌∷◌, ◌++◌, append_assoc, length, refl, sym, ap, subst, ◌∙◌, Option, Some, None, nat_le, arith}
use Rattle.std.specs.List.{AllByRecursion, find}
use Rattle.std.specs.Option.{option_or, option_map}
use Rattle.std.specs.Ordering.{is_eq, eq_by_cmp}
use Rattle.std.specs.Cmp.{Equal-is, tied_itself}
use Rattle.std.specs.Str.{bytes_eq}
use Rattle.std.proofs.lemmas.Bool.{eqb-true}
use Rattle.std.proofs.lemmas.Bool.Decides.{nat_tests}
use Rattle.std.proofs.lemmas.List.{length-append}
use Rattle.std.proofs.lemmas.Option.{same_Some, cond_some}
use Rattle.std.proofs.lemmas.Slice.Eq.{bytes_eq-Decides}
use Rattle.mot_base.specs.Limits.{peer_bytes}
use Rattle.mot_base.specs.declared.Party.{Party}
use Rattle.frames.specs.Bytes.{u64_bytes, canonical, joined, IsSendable, IsInWidth}
use Rattle.frames.specs.Reading.{fault_of, IsBeforeEnd, Progress, Waiting, Faulty, Ended, Reads}
use Rattle.frames.specs.declared.frame.Hello as hello
use Rattle.frames.specs.declared.frame.Frame.{Frame}
use Rattle.frames.specs.declared.frame.Frame.TheVariants.{Hello, Message, End}
use Rattle.frames.proofs.Cuts.{fault_on, end_on}
use Rattle.frames.proofs.Injective.{front_alike}
use Rattle.frames.proofs.Unique.{unique}
use Rattle.message_demux.specs.declared.slots.Slot.{Slot}
use Rattle.message_demux.specs.declared.slots.SlotSpec.{SlotSpec}
use Rattle.message_demux.specs.Fit.{Fits}
use Rattle.message_demux.specs.Inbox.{refusal_by}
use Rattle.message_demux.specs.Slots.{slot_cmp, slot_of, slot_at, listed}
use Rattle.message_demux.proofs.Places.{slot_total, slot_same}
use Rattle.peer_streams.specs.declared.error.PartyError.{PartyError}
use Rattle.peer_streams.specs.declared.error.PartyError.TheVariants as cause
use Rattle.peer_streams.specs.Judging.{field_differs, hello_differs, kept_in, is_lacking, cause_of, cause_behind, first_cause, is_begun}
use Rattle.peer_streams.specs.Reading.{Shows}
use Rattle.peer_streams.specs.Streams.{ToSend, IsHonestFrame, AreHonest, IsAmong, IsHonestStream, AreExpected, KeepAll, HonestFramesAreKept}
use Rattle.peer_streams.proofs.Judged.{causes-append, begun, own, own-hello}
use Rattle.peer_streams.proofs.Keeping.{kept-append}
use Rattle.mot_base.proofs.Lists.{neither_some as neither, option_or_none as or_none}

-- ---- what honest frames give

same_slot : (x y : Slot) → eq_by_cmp slot_cmp x y ≡ true → x ≡ y
same_slot x y e = slot_same x y ((Equal-is (slot_cmp x y)).0 e)

among-honest : (expected : hello.Hello) (sends : ToSend) (frames : List Frame) (gate round : ℕ) (payload : List ℕ) → AreHonest expected sends frames → IsAmong (Message gate round payload) frames → sends gate round ≡ Some payload
among-honest expected sends [] gate round payload honest among = absurd among
among-honest expected sends (f ∷ frames) gate round payload honest (inl same) = subst (IsHonestFrame expected sends) (sym same) honest.0
among-honest expected sends (f ∷ frames) gate round payload honest (inr among) = among-honest expected sends frames gate round payload honest.1 among

-- what the first of some messages gives
first_gives : (expected : hello.Hello) (sends : ToSend) (gate round g r : ℕ) (payload p : List ℕ) (rest : Option (List ℕ)) (among : Type 0) → sends g r ≡ Some p → (among → (sends gate round ≡ Some payload) × (rest ≡ Some payload)) → (Message gate round payload ≡ Message g r p) ⊎ among → (b : Bool) → eq_by_cmp slot_cmp (slot_at expected.from gate round) (slot_at expected.from g r) ≡ b → cond b (Some p) rest ≡ Some payload
first_gives expected sends gate round g r payload p rest among here behind (inl same) true is = let payloads : p ≡ payload = cc in ap Some payloads
first_gives expected sends gate round g r payload p rest among here behind (inr there) true is =
    let slots = same_slot (slot_at expected.from gate round) (slot_at expected.from g r) is in
    sym here ∙ sym (ap (λ (s : Slot). sends s.gate s.round) slots) ∙ (behind there).0
first_gives expected sends gate round g r payload p rest among here behind (inl same) false is =
    let gates : gate ≡ g = cc in
    let rounds : round ≡ r = cc in
    let tie : eq_by_cmp slot_cmp (slot_at expected.from gate round) (slot_at expected.from g r) ≡ true = rw (gates, rounds) (ap is_eq (tied_itself slot_total (slot_at expected.from g r))) in
    absurd (let clash : true ≡ false = sym tie ∙ is in cc)
first_gives expected sends gate round g r payload p rest among here behind (inr there) false is = (behind there).1

pub kept-honest : HonestFramesAreKept
kept-honest expected sends [] gate round payload honest among = absurd among
kept-honest expected sends (Hello h ∷ frames) gate round payload honest (inl same) = absurd (cc)
kept-honest expected sends (Hello h ∷ frames) gate round payload honest (inr among) = kept-honest expected sends frames gate round payload honest.1 among
kept-honest expected sends (End ∷ frames) gate round payload honest among = absurd honest.0
kept-honest expected sends (Message g r p ∷ frames) gate round payload honest among =
    first_gives expected sends gate round g r payload p (kept_in expected.from frames (slot_at expected.from gate round)) (IsAmong (Message gate round payload) frames) honest.0 (λ there. (among-honest expected sends frames gate round payload honest.1 there, kept-honest expected sends frames gate round payload honest.1 there)) among _ refl

-- ---- what honest frames show

skip : {X : Type 0} (a b : Option X) → a ≡ None → option_or a b ≡ b
skip a b none = rw none refl

same-field : (peer : Party) (field : ℕ) (bytes : List ℕ) → field_differs peer field bytes bytes ≡ None
same-field peer field bytes = let same : bytes_eq bytes bytes ≡ true = (bytes_eq-Decides bytes bytes).1 refl in rw same refl

hello-same : (h : hello.Hello) → hello_differs h h ≡ None
hello-same h =
    skip _ _ (same-field h.from 0 (h.version ∷ []))
    ∙ skip _ _ (same-field h.from 1 (h.parties ∷ []))
    ∙ skip _ _ (same-field h.from 2 (h.from.0 ∷ []))
    ∙ skip _ _ (same-field h.from 3 (h.to.0 ∷ []))
    ∙ skip _ _ (same-field h.from 4 (u64_bytes h.id))
    ∙ same-field h.from 5 h.circuit

-- a message that fits, where nothing else was kept for it
taken : (slots : List SlotSpec) (slot : Slot) (payload : List ℕ) → Fits slots slot payload → (kept : Option (List ℕ)) → ((k : List ℕ) → kept ≡ Some k → k ≡ payload) → refusal_by slot payload (listed slots slot) kept ≡ None
taken slots slot payload fits None agree = rw (fits.1, fits.2) refl
taken slots slot payload fits (Some k) agree =
    let equal : bytes_eq k payload ≡ true = (bytes_eq-Decides k payload).1 (agree k refl) in
    rw (fits.1, fits.2, equal) refl

module _ (expected : hello.Hello) (sends : ToSend) where
  -- frames give to each slot nothing, or what is to be sent there
  record GiveWell (before : List Frame) : Type 0 where
    well : (gate round : ℕ) (payload : List ℕ) → kept_in expected.from before (slot_at expected.from gate round) ≡ Some payload → sends gate round ≡ Some payload

  one_gives : (frame : Frame) → IsHonestFrame expected sends frame → (gate round : ℕ) (payload : List ℕ) → kept_in expected.from (frame ∷ []) (slot_at expected.from gate round) ≡ Some payload → sends gate round ≡ Some payload
  one_gives (Hello h) honest gate round payload some = absurd (cc)
  one_gives End honest gate round payload some = absurd honest
  one_gives (Message g r p) honest gate round payload some =
      let is = cond_some (eq_by_cmp slot_cmp (slot_at expected.from gate round) (slot_at expected.from g r)) p payload some in
      let slots = same_slot (slot_at expected.from gate round) (slot_at expected.from g r) is.0 in
      ap (λ (s : Slot). sends s.gate s.round) slots ∙ honest ∙ ap Some is.1

  either : (gate round : ℕ) (payload : List ℕ) (first second : Option (List ℕ)) → (first ≡ Some payload → sends gate round ≡ Some payload) → (second ≡ Some payload → sends gate round ≡ Some payload) → option_or first second ≡ Some payload → sends gate round ≡ Some payload
  either gate round payload None second a b some = b some
  either gate round payload (Some x) second a b some = a some

  well-more : (before : List Frame) (frame : Frame) → GiveWell before → IsHonestFrame expected sends frame → GiveWell (before ++ frame ∷ [])
  well-more before frame so honest = record {
    well = λ gate round payload some.
        either gate round payload (kept_in expected.from before (slot_at expected.from gate round)) (kept_in expected.from (frame ∷ []) (slot_at expected.from gate round)) (so.well gate round payload) (one_gives frame honest gate round payload) (sym (kept-append expected.from before (frame ∷ []) (slot_at expected.from gate round)) ∙ some);
  }

  module _ (slots : List SlotSpec) (are : AreExpected expected sends slots) where
    frame-shows : (before : List Frame) (frame : Frame) → true ≡ is_begun before → GiveWell before → IsHonestFrame expected sends frame → cause_of expected slots before frame ≡ None
    frame-shows before (Hello h) started so honest = own-hello expected slots before h ∙ rw honest (hello-same expected)
    frame-shows before End started so honest = absurd honest
    frame-shows before (Message gate round payload) started so honest =
        let slot = slot_at expected.from gate round in
        own expected slots before (Message gate round payload) started
        ∙ ap (option_map (cause.Refused expected.from)) (taken slots slot payload (are.fit gate round payload honest) (kept_in expected.from before slot) (λ k held. same_Some k payload (sym (so.well gate round k held) ∙ honest)))

    frames-show : (frames before : List Frame) → true ≡ is_begun before → GiveWell before → AreHonest expected sends frames → cause_behind expected slots before frames ≡ None
    frames-show [] before started so honest = refl
    frames-show (frame ∷ frames) before started so honest =
        rw (frame-shows before frame started so honest.0)
        (frames-show frames (before ++ frame ∷ []) (sym (begun before frame)) (well-more before frame so honest.0) honest.1)

    greeted_well : GiveWell (Hello expected ∷ [])
    greeted_well = record { well = λ gate round payload some. absurd (let clash : None ≡ Some payload = some in cc) }

    pub shows-honest : (frames : List Frame) → AreHonest expected sends frames → first_cause expected slots (Hello expected ∷ frames) ≡ None
    shows-honest frames honest =
        rw (own-hello expected slots [] expected ∙ hello-same expected) (frames-show frames (Hello expected ∷ []) refl greeted_well honest)

    -- no expected message is lacking among frames that have all
    lacks-one : (frames : List Frame) → KeepAll expected sends frames → (spec : SlotSpec) → (spec.from ≡ expected.from → (payload : List ℕ) × (sends spec.gate spec.round ≡ Some payload)) → (b : Bool) → eqb spec.from.0 expected.from.0 ≡ b → is_lacking frames expected.from spec ≡ false
    lacks-one frames all spec one true theirs =
        let number : spec.from.0 ≡ expected.from.0 = eqb-true spec.from.0 expected.from.0 theirs in
        let same : spec.from ≡ expected.from = λ i. record { 0 = number i } in
        let payload = one same in
        let here : slot_of spec ≡ slot_at expected.from spec.gate spec.round = ap (λ p. slot_at p spec.gate spec.round) same in
        let held : kept_in expected.from frames (slot_of spec) ≡ Some payload.0 = ap (kept_in expected.from frames) here ∙ all spec.gate spec.round payload.0 payload.1 in
        rw (theirs, held) refl
    lacks-one frames all spec one false theirs = rw theirs refl

    lacks-none : (frames : List Frame) → KeepAll expected sends frames → (specs : List SlotSpec) → AllByRecursion (λ spec. spec.from ≡ expected.from → (payload : List ℕ) × (sends spec.gate spec.round ≡ Some payload)) specs → find (is_lacking frames expected.from) specs ≡ None
    lacks-none frames all [] each = refl
    lacks-none frames all (spec ∷ specs) each = rw (lacks-one frames all spec each.0 _ refl) (lacks-none frames all specs each.1)

    pub end-shows : (frames : List Frame) → true ≡ is_begun frames → KeepAll expected sends frames → first_cause expected slots frames ≡ None → first_cause expected slots (frames ++ End ∷ []) ≡ None
    end-shows frames started all none =
        let last : cause_of expected slots frames End ≡ None = own expected slots frames End started ∙ ap (λ o. option_map (cause.EndEarly expected.from) (option_map slot_of o)) (lacks-none frames all slots are.all) in
        causes-append expected slots [] frames (End ∷ []) ∙ skip _ _ none ∙ skip _ _ last

-- ---- honest streams

in_width : (f : Frame) → IsBeforeEnd f → IsInWidth f
in_width (Hello h) can = can
in_width (Message gate round payload) can = can.0
in_width End can = absurd can

sendable : (f : Frame) → IsBeforeEnd f → IsSendable f
sendable (Hello h) can = tt
sendable (Message gate round payload) can = can.1
sendable End can = absurd can

-- frames at the front of bytes in which others and then End stand are first ones of the others
first_ones : (frames others : List Frame) (x y : List ℕ) → AllByRecursion IsBeforeEnd frames → AllByRecursion IsBeforeEnd others → joined frames ++ x ≡ joined others ++ (canonical End ++ y) → (more : List Frame) × (others ≡ frames ++ more)
first_ones [] others x y can may is = (others, refl)
first_ones (f ∷ frames) [] x y can may is =
    let front = front_alike f End (joined frames ++ x) y (in_width f can.0) (sendable f can.0) tt tt (sym (append_assoc (canonical f) (joined frames) x) ∙ is) in
    absurd (rw front.0 at can.0)
first_ones (f ∷ frames) (g ∷ others) x y can may is =
    let front = front_alike f g (joined frames ++ x) (joined others ++ (canonical End ++ y)) (in_width f can.0) (sendable f can.0) (in_width g may.0) (sendable g may.0) (sym (append_assoc (canonical f) (joined frames) x) ∙ is ∙ append_assoc (canonical g) (joined others) (canonical End ++ y)) in
    let behind = first_ones frames others x y can.1 may.1 front.1 in
    (behind.0, let first = front.0 in let rest = behind.1 in cc)

module _ (expected : hello.Hello) (sends : ToSend) (slots : List SlotSpec) (bytes : List ℕ) (stream : IsHonestStream expected sends bytes) (are : AreExpected expected sends slots) where
  abbrev pub whole : List Frame
  whole = (Hello expected ∷ stream.frames) ++ End ∷ []

  reads-whole : Reads bytes whole Ended
  reads-whole = (Hello expected ∷ stream.frames, stream.behind, refl, record { whole = stream.is; each = stream.may_stand })

  keeps-all : KeepAll expected sends (Hello expected ∷ stream.frames)
  keeps-all gate round payload some =
      kept-honest expected sends stream.frames gate round payload stream.honest (stream.all gate round payload some)

  shows-whole : first_cause expected slots whole ≡ None
  shows-whole =
      end-shows expected sends slots are (Hello expected ∷ stream.frames) refl keeps-all
      (shows-honest expected sends slots are stream.frames stream.honest)

  keeps-whole : KeepAll expected sends whole
  keeps-whole gate round payload some =
      let slot = slot_at expected.from gate round in
      kept-append expected.from (Hello expected ∷ stream.frames) (End ∷ []) slot
      ∙ or_none (kept_in expected.from stream.frames slot)
      ∙ keeps-all gate round payload some

  pub ends : (frames : List Frame) × Reads bytes frames Ended × (first_cause expected slots frames ≡ None) × KeepAll expected sends frames
  ends = (whole, reads-whole, shows-whole, keeps-whole)

  -- first bytes are fewer than are too many
  count : (some rest : List ℕ) → bytes ≡ some ++ rest → nat_le peer_bytes (length some) ≡ false
  count some rest is =
      let long = ap length is ∙ length-append some rest in
      let few : length some < peer_bytes = omega (arith, long, stream.few) in
      grind (arith, nat_tests)

  first-shows : (some rest : List ℕ) (frames : List Frame) (progress : Progress) → bytes ≡ some ++ rest → Reads some frames progress → (first_cause expected slots frames ≡ None) × (fault_of progress ≡ None)
  first-shows some rest frames (Waiting held) is reads =
      let front = first_ones frames (Hello expected ∷ stream.frames) (held ++ rest) stream.behind reads.0.each stream.may_stand (sym (append_assoc (joined frames) held rest) ∙ ap (λ xs. xs ++ rest) (sym reads.0.whole) ∙ sym is ∙ stream.is) in
      let all : cause_behind expected slots [] (frames ++ front.0) ≡ None = ap (first_cause expected slots) (sym front.1) ∙ shows-honest expected sends slots are stream.frames stream.honest in
      ((neither _ _ (sym (causes-append expected slots [] frames front.0) ∙ all)).0, refl)
  first-shows some rest frames (Faulty fault) is reads =
      let clash = (unique bytes frames whole (Faulty fault) Ended (rw is (fault_on some frames fault rest reads)) reads-whole).1 in
      absurd (cc)
  first-shows some rest frames Ended is reads =
      let same = (unique bytes frames whole Ended Ended (rw is (end_on some frames rest reads)) reads-whole).0 in
      (rw same shows-whole, refl)

  pub shows-first : (some rest : List ℕ) (shown : Option PartyError) → bytes ≡ some ++ rest → Shows expected slots some shown → shown ≡ None
  shows-first some rest shown is shows =
      let first = first-shows some rest shows.0 shows.1 is shows.2 in
      let few = count some rest is in
      sym shows.3 ∙ rw (first.0, first.1, few) refl
