-- What is known of a slot whose place was found.
use Rattle.std.proofs.Common.{◌≡◌, ℕ, zero, suc, ◌+◌, ◌<◌, ◌^◌, List, [], ◌∷◌, ◌⊎◌, inl, inr, map, length, get_or, set, drop, replicate, eqb, is_none, Bool, false, refl, sym, ap, ◌∙◌, Option, Some, None, Result, Ok, Err, IfErr, IfSome, Bor, true, arith}
use Rattle.std.proofs.lemmas.List.{length-set, length-replicate, get_or_default, at_drop_more}
use Rattle.std.proofs.lemmas.Slice.Eq.{bytes_eq-Decides}
use Rattle.std.specs.FinMap as m
use Rattle.std.specs.List.{AllByRecursion, find}
use Rattle.std.specs.Option.{option_copied}
use Rattle.std.specs.Str.{bytes_eq}
use Rattle.message_demux.specs.declared.slots.Slot.{Slot}
use Rattle.message_demux.specs.declared.slots.SlotSpec.{SlotSpec}
use Rattle.message_demux.specs.declared.inbox.Refused.{Refused}
use Rattle.message_demux.specs.declared.inbox.Refused.TheVariants.{NoMemory}
use Rattle.message_demux.specs.declared.inbox.Delivered.{Delivered}
use Rattle.message_demux.specs.Inbox.{empty_inbox, is_missing, refusal_by, differs}
use Rattle.message_demux.specs.Fit.{Fits, unfit}
use Rattle.message_demux.specs.Kept.{InboxContents, kept_of, IsInbox}
use Rattle.std.specs.List.Sorted.{IsStrictlySortedBy}
use Rattle.message_demux.specs.Slots.{slot_cmp, slot_of, listed, IsSlotSpec, IsSlotList}
use Rattle.message_demux.proofs.Keeping.{kept_at, kept_set, kept_none, fit_set, fit_none, fit_at, listed_at}
use Rattle.message_demux.proofs.Totals.{insert_new, none_kept, kept_most, listed_most}

-- the expected message of a slot, and what is kept for it
pub record IsFound (specs : List SlotSpec) (payloads : List (Option (List ℕ))) (slot : Slot) (spec : SlotSpec) (held : Option (List ℕ)) : Type 0 where
  pub lists : listed specs slot ≡ Some spec
  pub keeps : m.get (kept_of specs payloads) slot ≡ held
  pub can : IsSlotSpec spec

each_at : (specs : List SlotSpec) (k : ℕ) (d : SlotSpec) → AllByRecursion IsSlotSpec specs → k < length specs → IsSlotSpec (get_or specs k d)
each_at [] k d all h = absurd (omega arith)
each_at (spec ∷ specs) zero d all h = all.0
each_at (spec ∷ specs) (suc k) d all h = each_at specs k d all.1 (omega arith)

-- a default for a place that there is
some_of : (specs : List SlotSpec) (k : ℕ) → k < length specs → SlotSpec
some_of [] k h = absurd (omega arith)
some_of (spec ∷ specs) k h = spec

kept_from : (specs : List SlotSpec) (payloads : List (Option (List ℕ))) → IsStrictlySortedBy slot_cmp (map slot_of specs) → length payloads ≡ length specs → (slot : Slot) (place : ℕ) → place < length specs → ((d : SlotSpec) → slot_of (get_or specs place d) ≡ slot) → (kept : Option (List ℕ)) → kept ≡ get_or payloads place kept → m.get (kept_of specs payloads) slot ≡ kept
kept_from specs payloads sorted paired slot place h here kept holds =
    kept_at specs payloads slot place (some_of specs place h) kept sorted paired h (here (some_of specs place h)) ∙ sym holds

module _ (specs : List SlotSpec) (payloads : List (Option (List ℕ))) (total : ℕ) (is : IsInbox specs payloads total) (slot : Slot) (place : ℕ) (h : place < length specs) (here : (d : SlotSpec) → slot_of (get_or specs place d) ≡ slot) where
  pub lists : (spec : SlotSpec) → spec ≡ get_or specs place spec → listed specs slot ≡ Some spec
  lists spec reads = listed_at specs slot place spec is.listed.sorted h (here spec) ∙ ap Some (sym reads)

  pub found : (spec : SlotSpec) (kept : Option (List ℕ)) → spec ≡ get_or specs place spec → kept ≡ get_or payloads place kept → IsFound specs payloads slot spec kept
  found spec kept reads holds = record {
    lists = lists spec reads;
    keeps = kept_at specs payloads slot place spec kept is.listed.sorted is.paired h (here spec) ∙ sym holds;
    can = rw reads (each_at specs place spec is.listed.each h);
  }

  pub held : (kept : Option (List ℕ)) → kept ≡ get_or payloads place kept → m.get (kept_of specs payloads) slot ≡ kept
  held kept holds = kept_from specs payloads is.listed.sorted is.paired slot place h here kept holds

  -- what is kept fits
  pub held_fits : (kept : Option (List ℕ)) (payload : List ℕ) → kept ≡ get_or payloads place kept → kept ≡ Some payload → Fits specs slot payload
  held_fits kept payload holds some =
      let d = some_of specs place h in
      (get_or specs place d, listed_at specs slot place d is.listed.sorted h (here d), fit_at specs payloads place d kept payload is.fit is.paired h (sym holds ∙ some))

  pub got_fits : (kept : Option (List ℕ)) → kept ≡ get_or payloads place kept → (r : Option (Bor (List ℕ))) → option_copied r ≡ kept → IfSome r (λ payload. Fits specs slot payload.now)
  got_fits kept holds None e = tt
  got_fits kept holds (Some payload) e = held_fits kept payload.now holds (sym e)

  -- a payload that fits is kept where nothing was
  pub keeping : (spec : SlotSpec) (payload : List ℕ) → spec ≡ get_or specs place spec → None ≡ get_or payloads place None → unfit spec payload ≡ None → IsInbox specs (set payloads place (Some payload)) (total + length payload)
  keeping spec payload reads none fits =
      let before = kept_at specs payloads slot place spec None is.listed.sorted is.paired h (here spec) ∙ sym none in
      let after = kept_set specs payloads slot place spec payload is.listed.sorted is.paired h (here spec) (sym none) in
      let more = insert_new (kept_of specs payloads) slot payload before in
      record {
        listed = is.listed;
        paired = length-set payloads place (Some payload) ∙ is.paired;
        fit = fit_set specs payloads place spec payload h (sym (ap (λ s. unfit s payload) reads) ∙ fits) is.fit;
        bytes = rw after (omega (arith, more, is.bytes));
      }

  pub keeping_is : (spec : SlotSpec) (payload : List ℕ) → None ≡ get_or payloads place None → kept_of specs (set payloads place (Some payload)) ≡ m.insert (kept_of specs payloads) slot payload
  keeping_is spec payload none =
      kept_set specs payloads slot place spec payload is.listed.sorted is.paired h (here spec) (sym none)

  pub counted : (spec : SlotSpec) (payload : List ℕ) → spec ≡ get_or specs place spec → length payload ≡ spec.len → total + length payload < 2 ^ 64
  counted spec payload reads fits =
      let one : IsSlotSpec spec = rw reads (each_at specs place spec is.listed.each h) in
      let most = kept_most specs payloads is.fit in
      let few = listed_most specs is.listed.each in
      omega (arith, one.1, most, few, is.bytes, is.listed.few, fits)

module _ (specs : List SlotSpec) (payloads : List (Option (List ℕ))) (slot : Slot) (spec : SlotSpec) (kept : Option (List ℕ)) (payload : List ℕ) (f : IsFound specs payloads slot spec kept) where
  pub refused_differs : (cause : Refused) → unfit spec payload ≡ None → differs slot payload kept ≡ Some cause → refusal_by slot payload (listed specs slot) (m.get (kept_of specs payloads) slot) ≡ Some cause
  refused_differs cause fits other = rw (f.lists, fits, f.keeps) other

  pub accepted : unfit spec payload ≡ None → differs slot payload kept ≡ None → refusal_by slot payload (listed specs slot) (m.get (kept_of specs payloads) slot) ≡ None
  accepted fits same = rw (f.lists, fits, f.keeps) same

-- the answer to a payload that does not fit
pub refused_unfit : (specs : List SlotSpec) (slot : Slot) (spec : SlotSpec) (kept : Option (List ℕ)) (payload : List ℕ) (cause : Refused) → listed specs slot ≡ Some spec → unfit spec payload ≡ Some cause → refusal_by slot payload (listed specs slot) kept ≡ Some cause
refused_unfit specs slot spec kept payload cause here bad = rw (here, bad) refl

-- the same payload does not differ
pub same_fits : (slot : Slot) (payload kept : List ℕ) → kept ≡ payload → differs slot payload (Some kept) ≡ None
same_fits slot payload kept same =
    let equal : bytes_eq kept payload ≡ true = (bytes_eq-Decides kept payload).1 same in
    rw equal refl

-- the answer to a payload that fits, from what was said of the one that is kept
pub refused_by : (specs : List SlotSpec) (payloads : List (Option (List ℕ))) (slot : Slot) (spec : SlotSpec) (kept : Option (List ℕ)) (payload : List ℕ) → IsFound specs payloads slot spec kept → unfit spec payload ≡ None → (answer : Result Delivered Refused) → IfErr answer (λ cause. (cause ≡ NoMemory) ⊎ (differs slot payload kept ≡ Some cause)) → IfErr answer (λ cause. (cause ≡ NoMemory) ⊎ (refusal_by slot payload (listed specs slot) (m.get (kept_of specs payloads) slot) ≡ Some cause))
refused_by specs payloads slot spec kept payload f fits (Ok delivered) said = tt
refused_by specs payloads slot spec kept payload f fits (Err cause) said =
    elim said [
      | inl memory ↦ inl memory
      | inr other ↦ inr (refused_differs specs payloads slot spec kept payload f cause fits other)
    ]

-- an inbox to which nothing came
pub none_yet : (specs : List SlotSpec) (payloads : List (Option (List ℕ))) (n : ℕ) → payloads ≡ replicate n None → IsSlotList specs → n ≡ length specs → IsInbox specs payloads 0
none_yet specs payloads n is can all = record {
  listed = can;
  paired = ap length is ∙ length-replicate n None ∙ all;
  fit = rw is (fit_none specs n);
  bytes = sym (none_kept (kept_of specs payloads) (ap (kept_of specs) is ∙ kept_none specs n));
}

pub none_yet_is : (specs : List SlotSpec) (payloads : List (Option (List ℕ))) (n : ℕ) → payloads ≡ replicate n None → ◌≡◌ {A = InboxContents} (record { slots = specs; kept = kept_of specs payloads }) (empty_inbox specs)
none_yet_is specs payloads n is = λ i. record { slots = specs; kept = (ap (kept_of specs) is ∙ kept_none specs n) i }

-- whether a message is missing, from what is at its place
pub missing_at : (specs : List SlotSpec) (payloads : List (Option (List ℕ))) (total : ℕ) → IsInbox specs payloads total → (place : ℕ) → place < length specs → (peer : ℕ) (d : SlotSpec) (spec : SlotSpec) (kept : Option (List ℕ)) → spec ≡ get_or specs place spec → kept ≡ get_or payloads place kept → eqb spec.from.0 peer ≡ true → is_none kept ≡ is_missing (record { slots = specs; kept = kept_of specs payloads }) peer (get_or specs place d)
missing_at specs payloads total is place h peer d spec kept reads holds theirs =
    let here : get_or specs place d ≡ spec = get_or_default specs place d spec h ∙ sym reads in
    let there : (e : SlotSpec) → slot_of (get_or specs place e) ≡ slot_of spec = λ e. ap slot_of (get_or_default specs place e spec h ∙ sym reads) in
    let keeps = held specs payloads total is (slot_of spec) place h there kept holds in
    rw (here, theirs, keeps) refl

-- a search for a missing message goes on
pub missing_more : (p : SlotSpec → Bool) (specs : List SlotSpec) (place : ℕ) → place < length specs → ((d : SlotSpec) → p (get_or specs place d) ≡ false) → find p (drop place specs) ≡ find p (drop (place + 1) specs)
missing_more p specs place h fails =
    let d = some_of specs place h in
    at_drop_more (find p) specs place d h ∙ rw (fails d) refl
