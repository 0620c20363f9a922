-- What an inbox is, and how it stands in two lists.
use Rattle.std.specs.Prelude.{◌≡◌, ℕ, List, [], ◌∷◌, length, Option, Some, None, refl}
use Rattle.std.specs.FinMap as map
use Rattle.std.specs.Coded.{Coded, code_by, coded×, coded_list, coded_ℕ}
use Rattle.std.specs.List.{sum_by}
use Rattle.message_demux.specs.contracts.slots.Slot as slot
use Rattle.message_demux.specs.contracts.slots.SlotSpec as spec
use Rattle.message_demux.specs.declared.slots.SlotSpec.{SlotSpec}
use Rattle.message_demux.specs.Fit.{unfit}
use Rattle.message_demux.specs.Slots.{slot_cmp, slot_of, IsSlotList}

-- a finite map from slots to payloads
abbrev pub Kept : Type 0
Kept = map.FinMap slot_cmp (List ℕ)

-- an inbox: the messages that it expects, and the payload that it keeps for each slot
pub record InboxContents : Type 0 where
  pub slots : List SlotSpec
  pub kept : Kept

abbrev pub contents_code : Coded InboxContents
contents_code =
    code_by
    (List SlotSpec × Kept)
    (coded× (coded_list spec.the_row.coded) (map.code slot.the_row.coded (coded_list coded_ℕ)))
    (λ inbox. (inbox.slots, inbox.kept))
    (λ pair. record { slots = pair.0; kept = pair.1 })
    (λ _. refl)

-- the map that stands in a list of expected messages and a list of what is kept for each
abbrev pub kept_of : List SlotSpec → List (Option (List ℕ)) → Kept
kept_of [] payloads = map.empty
kept_of (spec ∷ specs) [] = map.empty
kept_of (spec ∷ specs) (None ∷ payloads) = kept_of specs payloads
kept_of (spec ∷ specs) (Some payload ∷ payloads) = map.insert (kept_of specs payloads) (slot_of spec) payload

-- each payload that is kept fits its message
abbrev pub AllFit : List SlotSpec → List (Option (List ℕ)) → Type 0
AllFit [] payloads = Unit {0}
AllFit (spec ∷ specs) [] = Unit {0}
AllFit (spec ∷ specs) (None ∷ payloads) = AllFit specs payloads
AllFit (spec ∷ specs) (Some payload ∷ payloads) =
    (unfit spec payload ≡ None) × AllFit specs payloads

-- the fields of an inbox
pub record IsInbox (specs : List SlotSpec) (payloads : List (Option (List ℕ))) (total : ℕ) : Type 0 where
  pub listed : IsSlotList specs
  pub paired : length payloads ≡ length specs
  pub fit : AllFit specs payloads
  pub bytes : total ≡ sum_by length (map.values (kept_of specs payloads))
