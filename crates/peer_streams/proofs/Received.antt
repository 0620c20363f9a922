-- A peer that was read on.
use Rattle.std.proofs.Common.{◌≡◌, ℕ, ◌+◌, Bool, ◌||◌, List, [], ◌∷◌, ◌++◌, length, refl, sym, ap, ◌∙◌, Option, Some, None, arith}
use Rattle.std.proofs.lemmas.List.{length-append}
use Rattle.std.specs.Option.{option_or}
use Rattle.frames.specs.Reading.{Progress, Reads}
use Rattle.frames.specs.declared.frame.Hello as hello
use Rattle.frames.specs.declared.frame.Frame.{Frame}
use Rattle.message_demux.specs.declared.slots.SlotSpec.{SlotSpec}
use Rattle.message_demux.specs.Kept.{InboxContents}
use Rattle.peer_streams.specs.declared.error.PartyError.{PartyError}
use Rattle.peer_streams.specs.Judging.{first_cause, cause_behind, is_begun}
use Rattle.peer_streams.specs.Reading.{bytes_cause, cause_read, Shows, KeepsOf, PeerRead, HasRead}
use Rattle.peer_streams.proofs.Judged.{causes-append}
use Rattle.mot_base.proofs.Lists.{neither_some as neither}

begun-append : (frames more : List Frame) → (is_begun frames || is_begun more) ≡ is_begun (frames ++ more)
begun-append [] more = refl
begun-append (f ∷ frames) more = refl

-- frames behind others that show nothing
first-behind : (expected : hello.Hello) (slots : List SlotSpec) (frames more : List Frame) → first_cause expected slots frames ≡ None → first_cause expected slots (frames ++ more) ≡ cause_behind expected slots frames more
first-behind expected slots frames more none =
    causes-append expected slots [] frames more
    ∙ ap (λ o. option_or o (cause_behind expected slots frames more)) none

module _ (inbox : InboxContents) (bytes piece : List ℕ) (peer : PeerRead) (h : HasRead inbox bytes peer) (more : List Frame) (progress : Progress) (reads : Reads (bytes ++ piece) (h.frames ++ more) progress) where
  first : first_cause peer.expected inbox.slots (h.frames ++ more) ≡ cause_behind peer.expected inbox.slots h.frames more
  first = first-behind peer.expected inbox.slots h.frames more (neither _ _ h.clean).0

  counted : (taken : ℕ) → taken ≡ peer.taken + length piece → taken ≡ length (bytes ++ piece)
  counted taken is = omega (arith, h.taken, length-append bytes piece)

  -- a frame of the piece shows a cause
  pub shows-frame : (cause : PartyError) → cause_behind peer.expected inbox.slots h.frames more ≡ Some cause → Shows peer.expected inbox.slots (bytes ++ piece) (Some cause)
  shows-frame cause some =
      (h.frames ++ more, progress, reads, ap (λ o. option_or o (bytes_cause peer.expected.from progress (length (bytes ++ piece)))) (first ∙ some))

  -- no frame does, and so this is what the bytes show
  shows-rest : (taken : ℕ) (cause : Option PartyError) → taken ≡ peer.taken + length piece → cause_behind peer.expected inbox.slots h.frames more ≡ None → bytes_cause peer.expected.from progress taken ≡ cause → cause_read peer.expected inbox.slots (h.frames ++ more) progress (length (bytes ++ piece)) ≡ cause
  shows-rest taken cause is none rest =
      ap (λ o. option_or o (bytes_cause peer.expected.from progress (length (bytes ++ piece)))) (first ∙ none)
      ∙ ap (bytes_cause peer.expected.from progress) (sym (counted taken is))
      ∙ rest

  pub shows-bytes : (taken : ℕ) (cause : PartyError) → taken ≡ peer.taken + length piece → cause_behind peer.expected inbox.slots h.frames more ≡ None → bytes_cause peer.expected.from progress taken ≡ Some cause → Shows peer.expected inbox.slots (bytes ++ piece) (Some cause)
  shows-bytes taken cause is none rest =
      (h.frames ++ more, progress, reads, shows-rest taken (Some cause) is none rest)

  -- all bytes were read
  pub read-on : (new : InboxContents) (taken : ℕ) (greeted : Bool) → taken ≡ peer.taken + length piece → greeted ≡ (peer.greeted || is_begun more) → new.slots ≡ inbox.slots → cause_behind peer.expected inbox.slots h.frames more ≡ None → KeepsOf new peer.expected.from (h.frames ++ more) → bytes_cause peer.expected.from progress taken ≡ None → HasRead new (bytes ++ piece) (record { expected = peer.expected; progress = progress; taken = taken; greeted = greeted })
  read-on new taken greeted is begun slots none keeps rest = record {
    frames = h.frames ++ more;
    reads = reads;
    taken = counted taken is;
    greeted = begun ∙ ap (λ b. b || is_begun more) h.greeted ∙ begun-append h.frames more;
    clean = rw slots (shows-rest taken None is none rest);
    keeps = keeps;
  }
