-- What comes to the end, party by party.
use Rattle.std.proofs.Common.{◌≡◌, ◌≢◌, ℕ, zero, suc, ◌+◌, ◌<◌, ◌≤◌, Bool, true, cond, List, [], ◌∷◌, ◌++◌, length, map, take, drop, get_or, Option, Some, None, refl, sym, ap, ap₂, ◌∙◌, subst, arith, add-one, ⊎_elim}
use Rattle.std.specs.Prelude.{slice_get, option_map, is_some, IfSome}
use Rattle.std.specs.List.{All, AllByRecursion, flat_map}
use Rattle.std.specs.Option.{unwrap_or}
use Rattle.std.proofs.lemmas.Bool.{cases_eq, false≢true}
use Rattle.std.proofs.lemmas.Grind.{flat_map-append}
use Rattle.std.proofs.lemmas.List.{append_assoc, append-nil, length-append, drop-drop, length-drop}
use Rattle.mot_base.specs.declared.Party.{Party}
use Rattle.share_types.specs.Sums.{each}
use Rattle.share_types.specs.declared.bits.Bits.{Bits}
use Rattle.frames.specs.declared.frame.Frame.{Frame}
use Rattle.frames.specs.declared.frame.Frame.TheVariants as frame
use Rattle.sha2.specs.Sha256.{sha256}
use Rattle.frames.specs.Bytes.{IsSendable, canonical, joined}
use Rattle.plan_gates.specs.Gate.{Kind, Gate, OutA, OutB, width_at}
use Rattle.plan_gates.specs.declared.message.Message.{Message as Sent}
use Rattle.plan_gates.specs.Plan.{Gates, IsPlan}
use Rattle.plan_gates.specs.Messages.{rounds, message, tells}
use Rattle.plan_gates.proofs.SlotLemmas.{message_fits}
use Rattle.gate_tasks.specs.declared.value.Value.{Value as ValueInMemory}
use Rattle.gate_tasks.specs.declared.value.Value.TheVariants as value
use Rattle.joint_run.specs.Party as party
use Rattle.joint_run.specs.Party.{Own, Payload, Hand, Rounds, hand_at, word, vector, opened_word, opened_vector, gate_value, value_at, party_value}
use Rattle.joint_run.specs.Joint.{Payloads, column, IsJoint}
use Rattle.joint_run.specs.Honest.{own_at}
use Rattle.gate_tasks.specs.Stage.{value_of, receivers, IsOf, HasShape}
use Rattle.local_run.specs.declared.item.Load.{Load}
use Rattle.local_run.specs.declared.item.Load.TheVariants.{Wire, Kept, Message}
use Rattle.gate_tasks.specs.declared.report.PartyReport.{PartyReport}
use Rattle.gate_tasks.specs.Report.{tells_at, told_to, round_frames, gate_frames, frames_before, transcript}
use Rattle.local_run.specs.declared.cargo.Cargo.{Cargo}
use Rattle.local_run.specs.declared.cargo.Cargo.TheVariants as cargo
use Rattle.local_run.specs.Loads as loads
use Rattle.local_run.specs.Loads.{sent_round, sent_at, sent_before, report_loads, reports_loads}
use Rattle.local_run.specs.Meaning.{IsFit, IsMeant, ArePairs, AreMeant, AreFit}
use Rattle.local_run.specs.Report.{sent_of, bits_told, frame_of, frames_of, IsReport}
use Rattle.std.proofs.lemmas.List.Elements.{All-from_recursion}
use Rattle.local_run.proofs.Valid.{Passes, all_passing}
use Rattle.local_run.proofs.Leaving.{sent_real}
use Rattle.local_run.proofs.Sending.{IsReal}
use Rattle.mot_base.proofs.Lists.{all_implied as all_more, each_pushed as pushed}

-- ---- pairs

pub pairs_long : (R : Load → Cargo → Type 0) (ls : List Load) (cs : List Cargo) → ArePairs R ls cs → length cs ≡ length ls
pairs_long R [] [] are = refl
pairs_long R [] (c ∷ cs) are = absurd are
pairs_long R (l ∷ ls) [] are = absurd are
pairs_long R (l ∷ ls) (c ∷ cs) are = let rest = pairs_long R ls cs are.1 in omega (arith, rest)

pub pairs_front : (R : Load → Cargo → Type 0) (ls ms : List Load) (cs : List Cargo) → ArePairs R (ls ++ ms) cs → ArePairs R ls (take (length ls) cs)
pairs_front R [] ms cs are = tt
pairs_front R (l ∷ ls) ms [] are = absurd are
pairs_front R (l ∷ ls) ms (c ∷ cs) are = (are.0, pairs_front R ls ms cs are.1)

pub pairs_back : (R : Load → Cargo → Type 0) (ls ms : List Load) (cs : List Cargo) → ArePairs R (ls ++ ms) cs → ArePairs R ms (drop (length ls) cs)
pairs_back R [] ms cs are = are
pairs_back R (l ∷ ls) ms [] are = absurd are
pairs_back R (l ∷ ls) ms (c ∷ cs) are = pairs_back R ls ms cs are.1

pub pairs_weaker : (R S : Load → Cargo → Type 0) → ((l : Load) (c : Cargo) → R l c → S l c) → (ls : List Load) (cs : List Cargo) → ArePairs R ls cs → ArePairs S ls cs
pairs_weaker R S weaker [] [] are = tt
pairs_weaker R S weaker [] (c ∷ cs) are = absurd are
pairs_weaker R S weaker (l ∷ ls) [] are = absurd are
pairs_weaker R S weaker (l ∷ ls) (c ∷ cs) are = (weaker l c are.0, pairs_weaker R S weaker ls cs are.1)

-- what the reports of the first parties need stands in front of what those of more need
record IsRest (plan : Gates) (n p : ℕ) : Type 0 where
  rest : List Load
  split : reports_loads plan n ≡ reports_loads plan p ++ (report_loads plan (loads.party p) ++ rest)

rest_of : (plan : Gates) (n p : ℕ) → p < n → IsRest plan n p
rest_of plan zero p less = absurd (omega (arith, less))
rest_of plan (suc n) p less =
    ⊎_elim
    (λ (same : p ≡ n).
    record {
      rest = [];
      split =
          let here : reports_loads plan (suc n) ≡ reports_loads plan n ++ (report_loads plan (loads.party n) ++ []) =
          ap (λ (xs : List Load). reports_loads plan n ++ xs) (sym (append-nil (report_loads plan (loads.party n)))) in
          subst (λ (q : ℕ). reports_loads plan (suc n) ≡ reports_loads plan q ++ (report_loads plan (loads.party q) ++ [])) (sym same) here;
    })
    (λ (other : p ≢ n).
    let before = rest_of plan n p (omega (arith, less, other)) in
    record {
      rest = before.rest ++ report_loads plan (loads.party n);
      split =
          ap (λ (xs : List Load). xs ++ report_loads plan (loads.party n)) before.split
          ∙ append_assoc (reports_loads plan p) (report_loads plan (loads.party p) ++ before.rest) (report_loads plan (loads.party n))
          ∙ ap (λ (xs : List Load). reports_loads plan p ++ xs) (append_assoc (report_loads plan (loads.party p)) before.rest (report_loads plan (loads.party n)));
    })
    (cases_eq p n)

abbrev pub told_loads : Gates → ℕ → List Load
told_loads plan p = map (λ g. Wire g (loads.party p)) (told_to plan p)

abbrev pub sent_loads : Gates → ℕ → List Load
sent_loads plan p = sent_before plan (loads.party p) (length plan.gates)

-- the part of a party, from where it starts: what it is told, and what it sent
pub record IsPart (R : Load → Cargo → Type 0) (plan : Gates) (p start : ℕ) (cs : List Cargo) : Type 0 where
  pub told : ArePairs R (told_loads plan p) (take (length (told_loads plan p)) (drop start cs))
  pub sent : ArePairs R (sent_loads plan p) (take (length (sent_loads plan p)) (drop (start + length (told_loads plan p)) cs))
  pub inside : start + length (told_loads plan p) + length (sent_loads plan p) ≤ length cs

pub part_of : (R : Load → Cargo → Type 0) (plan : Gates) (n p start : ℕ) (cs : List Cargo) → p < n → start ≡ length (reports_loads plan p) → ArePairs R (reports_loads plan n) cs → IsPart R plan p start cs
part_of R plan n p start cs less at are =
    let whole = rest_of plan n p less in
    let here = subst (λ (ls : List Load). ArePairs R ls cs) whole.split are in
    let behind = pairs_back R (reports_loads plan p) (report_loads plan (loads.party p) ++ whole.rest) cs here in
    let moved : ArePairs R (told_loads plan p ++ (sent_loads plan p ++ whole.rest)) (drop start cs) =
    subst (λ (ls : List Load). ArePairs R ls (drop start cs)) (append_assoc (told_loads plan p) (sent_loads plan p) whole.rest)
    (subst (λ (k : ℕ). ArePairs R (report_loads plan (loads.party p) ++ whole.rest) (drop k cs)) (sym at) behind) in
    let back = pairs_back R (told_loads plan p) (sent_loads plan p ++ whole.rest) (drop start cs) moved in
    let sent = pairs_front R (sent_loads plan p) whole.rest (drop (length (told_loads plan p)) (drop start cs)) back in
    let long = pairs_long R (reports_loads plan n) cs are in
    let parts = ap (λ (ls : List Load). length ls) whole.split in
    let one = length-append (reports_loads plan p) (report_loads plan (loads.party p) ++ whole.rest) in
    let two = length-append (report_loads plan (loads.party p)) whole.rest in
    let three = length-append (told_loads plan p) (sent_loads plan p) in
    record {
      told = pairs_front R (told_loads plan p) (sent_loads plan p ++ whole.rest) (drop start cs) moved;
      sent = subst (λ (xs : List Cargo). ArePairs R (sent_loads plan p) (take (length (sent_loads plan p)) xs)) (drop-drop (length (told_loads plan p)) start cs) sent;
      inside = omega (arith, long, parts, one, two, three, at);
    }

-- ---- what is told

-- a gate that tells a party its value gives it a number
told_kind : (kind : Kind) (w : ℕ) (h : Hand) (got : Rounds) → tells h.me (record { kind = kind; width = w }) ≡ true → (x : ℕ) × (gate_value kind h got ≡ party.Told (Some x))
told_kind (OutA x to) w h got yes_told = (
  opened_word h (word h x) (got 0) 0,
  ap (λ (b : Bool). party.Told (cond b (Some (opened_word h (word h x) (got 0) 0)) None)) yes_told,
)
told_kind (OutB x to) w h got yes_told = (
  opened_vector h (vector h x) (got 0) 0,
  ap (λ (b : Bool). party.Told (cond b (Some (opened_vector h (vector h x) (got 0) 0)) None)) yes_told,
)
told_kind _ w h got yes_told = absurd (false≢true yes_told)

told_value : (o : Option Gate) (h : Hand) (got : Rounds) → tells_at o h.me ≡ true → (x : ℕ) × (value_at o h got ≡ party.Told (Some x))
told_value None h got told = absurd (false≢true told)
told_value (Some gate) h got told = told_kind gate.kind gate.width h got told

abbrev IsSomeGate : Option Gate → Type 0
IsSomeGate None = ⊥
IsSomeGate (Some gate) = Unit {0}

-- what a party is told is what the edges carry
pub record IsToldOf (plan : Gates) (owns : List Own) (table : Payloads) (p : ℕ) (gs : List ℕ) (cs : List Cargo) : Type 0 where
  pub words : map (λ bits. party.Told (Some bits.word)) (flat_map bits_told cs) ≡ map (party_value plan p (own_at owns p) (column table p)) gs
  pub widths : map (λ bits. bits.width) (flat_map bits_told cs) ≡ map (width_at plan.gates) gs

width_by : (plan : Gates) (g : ℕ) (bits : Bits) (o : Option Gate) → slice_get plan.gates g ≡ o → IfSome o (λ gate. IsOf gate (value.Told (Some bits))) → IsSomeGate o → bits.width ≡ width_at plan.gates g
width_by plan g bits None there is some = absurd some
width_by plan g bits (Some gate) there is some = is.1 ∙ ap (λ o. unwrap_or (option_map (λ (k : Gate). k.width) o) 0) (sym there)

some_gate : (o : Option Gate) (p : ℕ) → tells_at o p ≡ true → IsSomeGate o
some_gate None p told = absurd (false≢true told)
some_gate (Some gate) p told = tt

told_one : (plan : Gates) (owns : List Own) (table : Payloads) (p g : ℕ) (v : ValueInMemory) (x : ℕ) (cs : List Cargo) (gs : List ℕ) →
    IfSome (slice_get plan.gates g) (λ gate. IsOf gate v) → IsSomeGate (slice_get plan.gates g) → value_of v ≡ party_value plan p (own_at owns p) (column table p) g → party_value plan p (own_at owns p) (column table p) g ≡ party.Told (Some x) →
    IsToldOf plan owns table p gs cs → IsToldOf plan owns table p (g ∷ gs) (cargo.Value v ∷ cs)
told_one plan owns table p g (value.A word) x cs gs fits some is told rest = let contrary = is ∙ told in cc
told_one plan owns table p g (value.B bits) x cs gs fits some is told rest = let contrary = is ∙ told in cc
told_one plan owns table p g (value.Told None) x cs gs fits some is told rest = let contrary = is ∙ told in cc
told_one plan owns table p g (value.Told (Some bits)) x cs gs fits some is told rest = record {
  words = ap₂ (λ (y : party.Value) (ys : List party.Value). y ∷ ys) is rest.words;
  widths = ap₂ (λ (n : ℕ) (ns : List ℕ). n ∷ ns) (width_by plan g bits (slice_get plan.gates g) refl fits some) rest.widths;
}

told_of : (plan : Gates) (owns : List Own) (table : Payloads) (p : ℕ) (gs : List ℕ) (cs : List Cargo) → IsJoint plan owns table →
    AllByRecursion (λ g. tells_at (slice_get plan.gates g) p ≡ true) gs → ArePairs (IsMeant plan owns) (map (λ g. Wire g (loads.party p)) gs) cs → IsToldOf plan owns table p gs cs
told_of plan owns table p [] [] joint told are = record { words = refl; widths = refl }
told_of plan owns table p [] (c ∷ cs) joint told are = absurd are
told_of plan owns table p (g ∷ gs) [] joint told are = absurd are
told_of plan owns table p (g ∷ gs) (cargo.Kept k ∷ cs) joint told are = absurd are.0.0
told_of plan owns table p (g ∷ gs) (cargo.Message bytes ∷ cs) joint told are = absurd are.0.0
told_of plan owns table p (g ∷ gs) (cargo.Value v ∷ cs) joint told are =
    let number = told_value (slice_get plan.gates g) (hand_at plan p (own_at owns p) (column table p) g) (column table p g) told.0 in
    told_one plan owns table p g v number.0 cs gs are.0.0 (some_gate (slice_get plan.gates g) p told.0) (are.0.1 table joint) number.1
    (told_of plan owns table p gs cs joint told.1 are.1)

-- ---- what is sent

abbrev framed : Payloads → Load → List Frame
framed table (Message g round from to) = frame.Message g round (table g round from.0 to.0) ∷ []
framed table _ = []

frames_are : (plan : Gates) (owns : List Own) (table : Payloads) (ls : List Load) (cs : List Cargo) → IsJoint plan owns table → ArePairs (IsMeant plan owns) ls cs → frames_of ls cs ≡ flat_map (framed table) ls
frames_are plan owns table [] [] joint are = refl
frames_are plan owns table [] (c ∷ cs) joint are = absurd are
frames_are plan owns table (l ∷ ls) [] joint are = absurd are
frames_are plan owns table (Message g round from to ∷ ls) (cargo.Message payload ∷ cs) joint are =
    ap₂ (λ (x : List ℕ) (xs : List Frame). frame.Message g round x ∷ xs) (are.0.1 table joint) (frames_are plan owns table ls cs joint are.1)
frames_are plan owns table (Message g round from to ∷ ls) (cargo.Value v ∷ cs) joint are = absurd are.0.0
frames_are plan owns table (Message g round from to ∷ ls) (cargo.Kept k ∷ cs) joint are = absurd are.0.0
frames_are plan owns table (Wire g p ∷ ls) (cargo.Value v ∷ cs) joint are = frames_are plan owns table ls cs joint are.1
frames_are plan owns table (Wire g p ∷ ls) (cargo.Kept k ∷ cs) joint are = absurd are.0.0
frames_are plan owns table (Wire g p ∷ ls) (cargo.Message payload ∷ cs) joint are = absurd are.0.0
frames_are plan owns table (Kept g round p ∷ ls) (cargo.Kept k ∷ cs) joint are = frames_are plan owns table ls cs joint are.1
frames_are plan owns table (Kept g round p ∷ ls) (cargo.Value v ∷ cs) joint are = absurd are.0.0
frames_are plan owns table (Kept g round p ∷ ls) (cargo.Message payload ∷ cs) joint are = absurd are.0.0

framed_in : (table : Payloads) (g round : ℕ) (p : Party) (tos : List ℕ) → flat_map (framed table) (map (λ to. Message g round p (loads.party to)) tos) ≡ map (λ to. frame.Message g round (table g round p.0 to)) tos
framed_in table g round p [] = refl
framed_in table g round p (to ∷ tos) = ap (λ (fs : List Frame). frame.Message g round (table g round p.0 to) ∷ fs) (framed_in table g round p tos)

-- what is made of each part is made of all of them
flat_flat : {X Y Z : Type 0} (f : Y → List Z) (g : X → List Y) (h : X → List Z) → ((x : X) → flat_map f (g x) ≡ h x) → (xs : List X) → flat_map f (flat_map g xs) ≡ flat_map h xs
flat_flat f g h same [] = refl
flat_flat f g h same (x ∷ xs) = flat_map-append f (g x) (flat_map g xs) ∙ ap₂ (λ ys zs. ys ++ zs) (same x) (flat_flat f g h same xs)

framed_at : (table : Payloads) (plan : Gates) (p g : ℕ) → flat_map (framed table) (sent_at plan (loads.party p) g) ≡ gate_frames plan p (sent_of table p) g
framed_at table plan p g =
    flat_flat (framed table) (sent_round plan (loads.party p) g) (round_frames plan p (sent_of table p) g)
    (λ round. framed_in table g round (loads.party p) (receivers plan p g round)) (each (rounds plan g) (λ round. round))

framed_before : (table : Payloads) (plan : Gates) (p n : ℕ) → flat_map (framed table) (sent_before plan (loads.party p) n) ≡ frames_before plan p (sent_of table p) n
framed_before table plan p zero = refl
framed_before table plan p (suc n) =
    flat_map-append (framed table) (sent_before plan (loads.party p) n) (sent_at plan (loads.party p) n)
    ∙ ap₂ (λ (xs ys : List Frame). xs ++ ys) (framed_before table plan p n) (framed_at table plan p n)

pub transcript_is : (plan : Gates) (owns : List Own) (table : Payloads) (p : ℕ) (cs : List Cargo) → IsJoint plan owns table → ArePairs (IsMeant plan owns) (sent_loads plan p) cs → frames_of (sent_loads plan p) cs ≡ transcript plan p (sent_of table p)
transcript_is plan owns table p cs joint are = frames_are plan owns table (sent_loads plan p) cs joint are ∙ framed_before table plan p (length plan.gates)

pub told_is : (plan : Gates) (owns : List Own) (table : Payloads) (p : ℕ) (cs : List Cargo) → IsJoint plan owns table → ArePairs (IsMeant plan owns) (told_loads plan p) cs → IsToldOf plan owns table p (told_to plan p) cs
told_is plan owns table p cs joint are =
    let test : ℕ → Bool = λ g. tells_at (slice_get plan.gates g) p in
    told_of plan owns table p (told_to plan p) cs joint
    (all_more (Passes test (length plan.gates)) (λ g. test g ≡ true) (λ g is. is.passes) (told_to plan p) (all_passing test (length plan.gates))) are

-- ---- each may be sent

payload_fits : (plan : Gates) (g round from to : ℕ) (payload : Payload) (o : Option Sent) → IsPlan plan → message plan from to g round ≡ o → is_some o ≡ true → IfSome o (λ m. HasShape m payload) → IsSendable (frame.Message g round payload)
payload_fits plan g round from to payload None is there some shape = absurd (false≢true some)
payload_fits plan g round from to payload (Some m) is there some shape =
    let fits = message_fits plan is from to g round m there in
    (omega (arith, shape.0, fits.some), omega (arith, shape.0, fits.most))

frames_sendable : (plan : Gates) (ls : List Load) (cs : List Cargo) → IsPlan plan → AllByRecursion (IsReal plan) ls → ArePairs (IsFit plan) ls cs → AllByRecursion IsSendable (frames_of ls cs)
frames_sendable plan [] [] is real are = tt
frames_sendable plan [] (c ∷ cs) is real are = absurd are
frames_sendable plan (l ∷ ls) [] is real are = absurd are
frames_sendable plan (Message g round from to ∷ ls) (cargo.Message payload ∷ cs) is real are =
    (payload_fits plan g round from.0 to.0 payload (message plan from.0 to.0 g round) is refl real.0.1 are.0, frames_sendable plan ls cs is real.1 are.1)
frames_sendable plan (Message g round from to ∷ ls) (cargo.Value v ∷ cs) is real are = absurd are.0
frames_sendable plan (Message g round from to ∷ ls) (cargo.Kept k ∷ cs) is real are = absurd are.0
frames_sendable plan (Wire g p ∷ ls) (c ∷ cs) is real are = frames_sendable plan ls cs is real.1 are.1
frames_sendable plan (Kept g round p ∷ ls) (c ∷ cs) is real are = frames_sendable plan ls cs is real.1 are.1

pub all_sendable : (plan : Gates) (p : ℕ) (cs : List Cargo) → IsPlan plan → ArePairs (IsFit plan) (sent_loads plan p) cs → All IsSendable (frames_of (sent_loads plan p) cs)
all_sendable plan p cs is are =
    All-from_recursion IsSendable (frames_of (sent_loads plan p) cs) (frames_sendable plan (sent_loads plan p) cs is (sent_real plan (loads.party p) (length plan.gates)) are)

-- ---- the loops

frames_append : (ls : List Load) (cs : List Cargo) (i : ℕ) (d : Load) (e : Cargo) → i < length ls → i < length cs → frames_of (take (i + 1) ls) (take (i + 1) cs) ≡ frames_of (take i ls) (take i cs) ++ frame_of (get_or ls i d) (get_or cs i e)
frames_append [] cs i d e a b = absurd (omega (arith, a))
frames_append (l ∷ ls) [] i d e a b = absurd (omega (arith, b))
frames_append (l ∷ ls) (c ∷ cs) zero d e a b = append-nil (frame_of l c)
frames_append (l ∷ ls) (c ∷ cs) (suc i) d e a b =
    let next : suc i + 1 ≡ suc (i + 1) = omega arith in
    rw next (ap (λ (fs : List Frame). frame_of l c ++ fs) (frames_append ls cs i d e (omega (arith, a)) (omega (arith, b)))
    ∙ sym (append_assoc (frame_of l c) (frames_of (take i ls) (take i cs)) (frame_of (get_or ls i d) (get_or cs i e))))

-- the bytes of one load more
pub joined_next : (ls : List Load) (cs : List Cargo) (i : ℕ) (d : Load) (c : Cargo) → i < length ls → length cs ≡ length ls → c ≡ get_or cs i c →
    joined (frames_of (take i ls) (take i cs)) ++ joined (frame_of (get_or ls i d) c) ≡ joined (frames_of (take (i + 1) ls) (take (i + 1) cs))
joined_next ls cs i d c within long read =
    ap (λ (e : Cargo). joined (frames_of (take i ls) (take i cs)) ++ joined (frame_of (get_or ls i d) e)) read
    ∙ (sym (flat_map-append canonical (frames_of (take i ls) (take i cs)) (frame_of (get_or ls i d) (get_or cs i c)))
    ∙ ap joined (sym (frames_append ls cs i d c within (omega (arith, within, long)))))

-- what holds of the frames of all loads holds of each one's
in_front : (P : Frame → Type 0) (xs ys : List Frame) → All P (xs ++ ys) → All P xs
in_front P [] ys all i d h = absurd (omega (arith, h))
in_front P (x ∷ xs) ys all zero d h = all 0 d (omega arith)
in_front P (x ∷ xs) ys all (suc i) d h = in_front P xs ys (λ j e k. all (suc j) e (omega (arith, k))) i d (omega (arith, h))

from_behind : (P : Frame → Type 0) (xs ys : List Frame) → All P (xs ++ ys) → All P ys
from_behind P [] ys all = all
from_behind P (x ∷ xs) ys all = from_behind P xs ys (λ j e k. all (suc j) e (omega (arith, k)))

pub each_sendable : (P : Frame → Type 0) (ls : List Load) (cs : List Cargo) (i : ℕ) (d : Load) (c : Cargo) → i < length ls → length cs ≡ length ls →
    All P (frames_of ls cs) → All P (frame_of (get_or ls i d) (get_or cs i c))
each_sendable P [] cs i d c within long all = absurd (omega (arith, within))
each_sendable P (l ∷ ls) [] i d c within long all = absurd (omega (arith, long))
each_sendable P (l ∷ ls) (e ∷ cs) zero d c within long all = in_front P (frame_of l e) (frames_of ls cs) all
each_sendable P (l ∷ ls) (e ∷ cs) (suc i) d c within long all =
    each_sendable P ls cs i d c (omega (arith, within)) (omega (arith, long)) (from_behind P (frame_of l e) (frames_of ls cs) all)

-- what the code cuts off for a party, and what is left behind it
pub record IsCut (plan : Gates) (p : ℕ) (ends told sent next : List Cargo) : Type 0 where
  pub told_are : told ≡ take (length (told_loads plan p)) (drop (length (reports_loads plan p)) ends)
  pub sent_are : sent ≡ take (length (sent_loads plan p)) (drop (length (reports_loads plan p) + length (told_loads plan p)) ends)
  pub next_are : next ≡ drop (length (reports_loads plan (p + 1))) ends

pub cut : (plan : Gates) (p t n : ℕ) (ends rest told behind sent next : List Cargo) → rest ≡ drop (length (reports_loads plan p)) ends → t ≡ length (told_loads plan p) → n ≡ length (sent_loads plan p) →
    told ≡ take t rest → behind ≡ drop t rest → sent ≡ take n behind → next ≡ drop n behind → IsCut plan p ends told sent next
cut plan p t n ends rest told behind sent next rest_is t_is n_is told_was behind_is sent_was next_was =
    let start = length (reports_loads plan p) in
    let back : behind ≡ drop (start + length (told_loads plan p)) ends = behind_is ∙ ap₂ (λ (k : ℕ) (xs : List Cargo). drop k xs) t_is rest_is ∙ drop-drop (length (told_loads plan p)) start ends in
    let one = length-append (reports_loads plan p) (report_loads plan (loads.party p)) in
    let two = length-append (told_loads plan p) (sent_loads plan p) in
    let three : length (reports_loads plan (p + 1)) ≡ length (reports_loads plan (suc p)) = ap (λ (k : ℕ). length (reports_loads plan k)) (add-one p) in
    let end : start + length (told_loads plan p) + length (sent_loads plan p) ≡ length (reports_loads plan (p + 1)) = omega (arith, one, two, three) in
    record {
      told_are = told_was ∙ ap₂ (λ (k : ℕ) (xs : List Cargo). take k xs) t_is rest_is;
      sent_are = sent_was ∙ ap₂ (λ (k : ℕ) (xs : List Cargo). take k xs) n_is back;
      next_are = next_was ∙ ap₂ (λ (k : ℕ) (xs : List Cargo). drop k xs) n_is back ∙ drop-drop (length (sent_loads plan p)) (start + length (told_loads plan p)) ends ∙ ap (λ (k : ℕ). drop k ends) end;
    }

-- one report more
pub reports_next : (plan : Gates) (owns : List Own) (table : Payloads) (p : ℕ) (ends told sent next : List Cargo) (loads_ : List Load) (old new : List PartyReport) (report : PartyReport) → IsJoint plan owns table → p < plan.parties → AreMeant plan owns (reports_loads plan plan.parties) ends → IsCut plan p ends told sent next → loads_ ≡ sent_loads plan p →
    report.told ≡ flat_map bits_told told → report.digest ≡ sha256 (joined (frames_of loads_ sent)) → length old ≡ p → ((q : ℕ) (r : PartyReport) → slice_get old q ≡ Some r → IsReport plan owns table q r) → new ≡ old ++ report ∷ [] →
    (q : ℕ) (r : PartyReport) → slice_get new q ≡ Some r → IsReport plan owns table q r
reports_next plan owns table p ends told sent next loads_ old new report joint less meant cuts loads_are told_as digest_as count before more q r there =
    let part = part_of (IsMeant plan owns) plan plan.parties p (length (reports_loads plan p)) ends less refl meant in
    let told_pairs = subst (λ (cs : List Cargo). ArePairs (IsMeant plan owns) (told_loads plan p) cs) (sym cuts.told_are) part.told in
    let sent_pairs = subst (λ (cs : List Cargo). ArePairs (IsMeant plan owns) (sent_loads plan p) cs) (sym cuts.sent_are) part.sent in
    let words = told_is plan owns table p told joint told_pairs in
    let frames = ap (λ (ls : List Load). frames_of ls sent) loads_are ∙ transcript_is plan owns table p sent joint sent_pairs in
    let here : IsReport plan owns table p report = record {
      told = ap (map (λ bits. party.Told (Some bits.word))) told_as ∙ words.words;
      widths = ap (map (λ bits. bits.width)) told_as ∙ words.widths;
      digest = digest_as ∙ ap (λ (fs : List Frame). sha256 (joined fs)) frames;
    } in
    pushed (IsReport plan owns table) old report before (subst (λ (n : ℕ). IsReport plan owns table n report) (sym count) here) q r (subst (λ (rs : List PartyReport). slice_get rs q ≡ Some r) more there)

-- there is enough to cut off
pub told_inside : (plan : Gates) (p t : ℕ) (ends rest : List Cargo) → p < plan.parties → AreFit plan (reports_loads plan plan.parties) ends → rest ≡ drop (length (reports_loads plan p)) ends → t ≡ length (told_loads plan p) → t ≤ length rest
told_inside plan p t ends rest less fit rest_is t_is =
    let part = part_of (IsFit plan) plan plan.parties p (length (reports_loads plan p)) ends less refl fit in
    let long = ap (λ (xs : List Cargo). length xs) rest_is ∙ length-drop (length (reports_loads plan p)) ends in
    omega (arith, part.inside, long, t_is)

pub sent_inside : (plan : Gates) (p t n : ℕ) (ends rest behind : List Cargo) → p < plan.parties → AreFit plan (reports_loads plan plan.parties) ends → rest ≡ drop (length (reports_loads plan p)) ends → t ≡ length (told_loads plan p) → n ≡ length (sent_loads plan p) → behind ≡ drop t rest → n ≤ length behind
sent_inside plan p t n ends rest behind less fit rest_is t_is n_is behind_is =
    let part = part_of (IsFit plan) plan plan.parties p (length (reports_loads plan p)) ends less refl fit in
    let long = ap (λ (xs : List Cargo). length xs) rest_is ∙ length-drop (length (reports_loads plan p)) ends in
    let short = ap (λ (xs : List Cargo). length xs) behind_is ∙ length-drop t rest in
    omega (arith, part.inside, long, short, t_is, n_is)

-- and what is cut off may be sent
pub cut_sendable : (plan : Gates) (p : ℕ) (ends told sent next : List Cargo) (ls : List Load) → IsPlan plan → p < plan.parties → AreFit plan (reports_loads plan plan.parties) ends → ls ≡ sent_loads plan p → IsCut plan p ends told sent next → All IsSendable (frames_of ls sent)
cut_sendable plan p ends told sent next ls is less fit ls_are cuts =
    let part = part_of (IsFit plan) plan plan.parties p (length (reports_loads plan p)) ends less refl fit in
    let here = all_sendable plan p sent is (subst (λ (cs : List Cargo). ArePairs (IsFit plan) (sent_loads plan p) cs) (sym cuts.sent_are) part.sent) in
    subst (λ (xs : List Load). All IsSendable (frames_of xs sent)) (sym ls_are) here

-- what a new vector was filled with
pub filled : {X : Type 0} (new old more : List X) → new ≡ old ++ more → old ≡ [] → new ≡ more
filled {X = X} new old more pushed none = pushed ∙ ap (λ (xs : List X). xs ++ more) none
