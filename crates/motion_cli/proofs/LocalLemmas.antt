-- Two runs of `local` on the same words and files lead to one outcome.
use Rattle.std.proofs.Common.{ℕ, ◌≡◌, ◌<◌, ◌⊎◌, inl, inr, Bool, List, [], ◌∷◌, ◌++◌, map, take, Option, Some, None, refl, sym, ap, ap₂, subst, ◌∙◌, arith}
use Rattle.std.specs.Prelude.{slice_get, codes}
use Rattle.std.proofs.lemmas.Option.{slice_get_within}
use Rattle.mot_base.specs.Files.{Holding}
use Rattle.share_types.specs.declared.bits.Bits.{Bits}
use Rattle.share_types.specs.declared.needs.Kind.{Kind}
use Rattle.share_types.specs.declared.needs.Kind.TheVariants.{Mult, Bit, Shared, Key}
use Rattle.share_types.specs.declared.needs.Needs.{Needs}
use Rattle.share_types.specs.Needs.{place_of, IsFirstShort}
use Rattle.cli_words.specs.Request.{LocalRequest}
use Rattle.share_types.specs.Bits.{bits}
use Rattle.circuit_tables.specs.Table.{asked, joined_bits, AreCut}
use Rattle.circuit_tables.proofs.CutLemmas.{cuts_once}
use Rattle.dealer_files.specs.Part.{Part}
use Rattle.plan_gates.specs.Needs.{all_needs}
use Rattle.joint_run.specs.Party as party
use Rattle.joint_run.specs.Party.{Own}
use Rattle.joint_run.specs.Joint.{Payloads}
use Rattle.joint_run.proofs.Unique.{one_joint_run}
use Rattle.gate_tasks.specs.declared.report.PartyReport.{PartyReport}
use Rattle.local_run.specs.Report.{AreReports, IsReport}
use Rattle.text_lines.specs.Text.{Text}
use Rattle.command_ends.specs.declared.fault.PartFault.{PartFault}
use Rattle.command_ends.specs.declared.status.Status.TheVariants as status
use Rattle.command_ends.specs.declared.status.Status.TheVariants.{Usage, Done, Write}
use Rattle.any_circuit.specs.Circuits.{Circuit, Reads, parties_of, plan_of, outputs_of, notation_of}
use Rattle.motion_cli.specs.Commands.{ReportsRun, LocalReads, LocalTexts, LocalEnds}
use Rattle.motion_cli.specs.Dealer.{part_names, AreRead, AreEnough, AreTaken, IsUntaken, IsShort, TakesParts, shortage, stock_of}
use Rattle.command_ends.specs.Outcome.{Outcome, reported, memory, part_name}
use Rattle.command_ends.specs.Refusal.{dealer_refused, few_refused}
use Rattle.motion_cli.specs.Report.{PartyRun, runs_report}
use Rattle.motion_cli.specs.Run.{AreRuns, AreRunsOf, IsRunOf}
use Rattle.command_ends.specs.Steps.{IsContent, IsUnloaded, AreContents, IsFirstUnloaded, LoadsAll, AreUnloaded}
use Rattle.motion_cli.proofs.DealerLemmas.{take_there, one_item, same_list, which_first, one_reading, not_faulty, one_faulty}
use Rattle.command_ends.proofs.StepLemmas.{Agree, Fair, Refuses, carried, file_refuses, content_once, unloaded_once, not_loaded}
use Rattle.mot_base.proofs.Lists.{some_at, cons_same as heads_tails}

-- ---- several files

content_at : (told : Option Holding) (names contents : List Text) (at : ℕ) (name : Text) → AreContents told names contents →
    slice_get names at ≡ Some name → (c : Text) × IsContent told name c
content_at told names contents at name are there =
    let h = slice_get_within names at name there in
    let count = are.count in
    let here = some_at contents at (omega (arith, h, count)) in
    (here.0, are.each at name here.0 there here.1)

not_first : (held : Holding) (rose : Type 0) (names contents : List Text) (n : ℕ) (x : Outcome) → ¬ rose →
    (first : IsFirstUnloaded (Some held) rose names x) → first.at < n → AreContents (Some held) (take n names) contents → ⊥
not_first held rose names contents n x quiet first less are =
    let c = content_at (Some held) (take n names) contents first.at first.name are (take_there names n first.at first.name less first.there) in
    not_loaded held rose first.name c.0 x quiet first.unloaded c.1

all_loaded : (held : Holding) (rose : Type 0) (names contents : List Text) (x : Outcome) → ¬ rose →
    IsFirstUnloaded (Some held) rose names x → AreContents (Some held) names contents → ⊥
all_loaded held rose names contents x quiet first are =
    let c = content_at (Some held) names contents first.at first.name are first.there in
    not_loaded held rose first.name c.0 x quiet first.unloaded c.1

first_once : (held : Holding) (rose other : Type 0) (names : List Text) (x y : Outcome) → ¬ rose → ¬ other →
    IsFirstUnloaded (Some held) rose names x → IsFirstUnloaded (Some held) other names y → x ≡ y
first_once held rose other names x y quiet still m n = elim (which_first m.at n.at) as (λ _. x ≡ y) [
  | inl less ↦ absurd (not_first held rose names n.before n.at x quiet m less n.loaded)
  | inr (inl more) ↦ absurd (not_first held other names m.before m.at y still n more m.loaded)
  | inr (inr same) ↦
      (let names_same = one_item (slice_get names n.at) m.name n.name (ap (slice_get names) (sym same) ∙ m.there) n.there in
      unloaded_once held rose other n.name quiet still x y (subst (λ (name : Text). IsUnloaded (Some held) rose name x) names_same m.unloaded) n.unloaded)
]

contents_once : (held : Holding) (names cs ds : List Text) → AreContents (Some held) names cs → AreContents (Some held) names ds → cs ≡ ds
contents_once held names cs ds m n = same_list cs ds (m.count ∙ sym n.count) same
  where
    same : (at : ℕ) (c d : Text) → slice_get cs at ≡ Some c → slice_get ds at ≡ Some d → c ≡ d
    same at c d e f =
        let h = slice_get_within cs at c e in
        let count = m.count in
        let name = some_at names at (omega (arith, h, count)) in
        content_once held name.0 c d (m.each at name.0 c name.1 e) (n.each at name.0 d name.1 f)

pub all_agree : (held : Holding) (rose other : Type 0) (names : List Text) (P Q : List Text → Outcome → Type 0) → ¬ rose → ¬ other →
    ((cs : List Text) → Agree (P cs) (Q cs)) → Agree (LoadsAll (Some held) rose names P) (LoadsAll (Some held) other names Q)
all_agree held rose other names P Q quiet still next x y (inl m) (inl n) = first_once held rose other names x y quiet still m n
all_agree held rose other names P Q quiet still next x y (inl m) (inr n) = absurd (all_loaded held rose names n.0 x quiet m n.1)
all_agree held rose other names P Q quiet still next x y (inr m) (inl n) = absurd (all_loaded held other names m.0 y still n m.1)
all_agree held rose other names P Q quiet still next x y (inr m) (inr n) =
    let same = contents_once held names m.0 n.0 m.1 n.1 in
    next n.0 x y (subst (λ (cs : List Text). P cs x) same m.2) n.2

unloaded_refuses : (told : Option Holding) (rose : Type 0) (name : Text) (x : Outcome) → IsUnloaded told rose name x → Refuses [] x
unloaded_refuses told rose name x (inl m) = subst (λ o. Refuses [] o) (sym m.1) (file_refuses [] name (codes "missing"))
unloaded_refuses told rose name x (inr (inl m)) =
    subst (λ o. Refuses [] o) (sym m.1) (file_refuses [] name (codes "too long"))
unloaded_refuses told rose name x (inr (inr m)) =
    subst (λ o. Refuses [] o) (sym m.1) (file_refuses [] name (codes "fault"))

pub all_fair : (told : Option Holding) (rose : Type 0) (names : List Text) (P Q : List Text → Outcome → Type 0) →
    ((cs : List Text) → Fair [] (P cs) (Q cs)) → Fair [] (LoadsAll told rose names P) (LoadsAll told ⊥ names Q)
all_fair told rose names P Q next x (inl m) = inl (unloaded_refuses told rose m.name x m.unloaded)
all_fair told rose names P Q next x (inr m) =
    carried [] (Q m.0) (LoadsAll told ⊥ names Q) x (λ q. inr (m.0, m.1, q)) (next m.0 x m.2)

-- ---- the parts of a deal

-- the first kind that is short
one_place_of : (a b : Kind) → place_of a ≡ place_of b → a ≡ b
one_place_of Mult Mult e = refl
one_place_of Bit Bit e = refl
one_place_of Shared Shared e = refl
one_place_of Key Key e = refl
one_place_of Mult Bit e = absurd (omega (arith, e))
one_place_of Mult Shared e = absurd (omega (arith, e))
one_place_of Mult Key e = absurd (omega (arith, e))
one_place_of Bit Mult e = absurd (omega (arith, e))
one_place_of Bit Shared e = absurd (omega (arith, e))
one_place_of Bit Key e = absurd (omega (arith, e))
one_place_of Shared Mult e = absurd (omega (arith, e))
one_place_of Shared Bit e = absurd (omega (arith, e))
one_place_of Shared Key e = absurd (omega (arith, e))
one_place_of Key Mult e = absurd (omega (arith, e))
one_place_of Key Bit e = absurd (omega (arith, e))
one_place_of Key Shared e = absurd (omega (arith, e))

one_short : (needs stock : Needs) (a b : Kind) → IsFirstShort needs stock a → IsFirstShort needs stock b → a ≡ b
one_short needs stock a b m n = elim (which_first (place_of a) (place_of b)) as (λ _. a ≡ b) [
  | inl less ↦ absurd (let h = n.earlier a less in let s = m.short in omega (arith, h, s))
  | inr (inl more) ↦ absurd (let h = m.earlier b more in let s = n.short in omega (arith, h, s))
  | inr (inr same) ↦ one_place_of a b same
]

short_once : (c : Circuit) (files : List Text) (x y : Outcome) → IsShort c files x → IsShort c files y → x ≡ y
short_once c files x y m n =
    let parts = one_reading (parties_of c) files m.parts n.parts m.read n.read in
    let needs = all_needs (plan_of c) in
    let kind = one_short needs (stock_of n.parts) m.kind n.kind (subst (λ (ps : List Part). IsFirstShort needs (stock_of ps) m.kind) parts m.short) n.short in
    m.told ∙ (ap₂ (λ (ps : List Part) (k : Kind). few_refused (shortage needs (stock_of ps) k)) parts kind ∙ sym n.told)

not_short : (c : Circuit) (files : List Text) (parts : List Part) (x : Outcome) → AreRead (parties_of c) files parts → AreEnough c parts →
    IsShort c files x → ⊥
not_short c files parts x read enough short =
    let same = one_reading (parties_of c) files short.parts parts short.read read in
    let less = subst (λ (ps : List Part). IsFirstShort (all_needs (plan_of c)) (stock_of ps) short.kind) same short.short in
    let h = enough short.kind in
    let s = less.short in
    omega (arith, h, s)

untaken_once : (prefix : Option Text) (c : Circuit) (files : List Text) (x y : Outcome) → IsUntaken prefix c files x → IsUntaken prefix c files y → x ≡ y
untaken_once None c files x y m n = absurd m
untaken_once (Some prefix) c files x y (inl m) (inl n) =
    let same = one_faulty (parties_of c) files m.at n.at m.fault n.fault m.faulty n.faulty in
    m.told ∙ (ap₂ (λ (at : ℕ) (f : PartFault). dealer_refused (part_name prefix at) f) same.0 same.1 ∙ sym n.told)
untaken_once (Some prefix) c files x y (inl m) (inr n) = absurd (not_faulty (parties_of c) files n.parts m.at m.fault n.read m.faulty)
untaken_once (Some prefix) c files x y (inr m) (inl n) = absurd (not_faulty (parties_of c) files m.parts n.at n.fault m.read n.faulty)
untaken_once (Some prefix) c files x y (inr m) (inr n) = short_once c files x y m n

not_both_taken : (prefix : Option Text) (seed : List ℕ) (c : Circuit) (files : List Text) (parts : List Part) (x : Outcome) →
    IsUntaken prefix c files x → AreTaken prefix seed c files parts → ⊥
not_both_taken None seed c files parts x m n = m
not_both_taken (Some prefix) seed c files parts x (inl m) n = not_faulty (parties_of c) files parts m.at m.fault n.0 m.faulty
not_both_taken (Some prefix) seed c files parts x (inr m) n = not_short c files parts x n.0 n.1 m

taken_once : (prefix : Option Text) (seed : List ℕ) (c : Circuit) (files : List Text) (ps qs : List Part) →
    AreTaken prefix seed c files ps → AreTaken prefix seed c files qs → ps ≡ qs
taken_once None seed c files ps qs m n = m ∙ sym n
taken_once (Some prefix) seed c files ps qs m n = one_reading (parties_of c) files ps qs m.0 n.0

pub parts_agree : (request : LocalRequest) (c : Circuit) (files : List Text) (P Q : List Part → Outcome → Type 0) →
    ((parts : List Part) → Agree (P parts) (Q parts)) → Agree (TakesParts request c files P) (TakesParts request c files Q)
parts_agree request c files P Q next x y (inl m) (inl n) = untaken_once request.dealer c files x y m n
parts_agree request c files P Q next x y (inl m) (inr n) = absurd (not_both_taken request.dealer request.seed c files n.0 x m n.1)
parts_agree request c files P Q next x y (inr m) (inl n) = absurd (not_both_taken request.dealer request.seed c files m.0 y n m.1)
parts_agree request c files P Q next x y (inr m) (inr n) =
    let same = taken_once request.dealer request.seed c files m.0 n.0 m.1 n.1 in
    next n.0 x y (subst (λ (ps : List Part). P ps x) same m.2) n.2

dealer_refuses : (name : Text) (fault : PartFault) → Refuses [] (dealer_refused name fault)
dealer_refuses name fault = record {
  kind = refl;
  usage = λ e. let is : status.Dealer ≡ Usage = e in cc;
  done = λ e. let is : status.Dealer ≡ Done = e in cc;
  write = λ e. let is : status.Dealer ≡ Write = e in cc;
  some = inl (refl, refl);
}

few_refuses : (needs stock : Needs) (kind : Kind) → Refuses [] (few_refused (shortage needs stock kind))
few_refuses needs stock kind = record {
  kind = refl;
  usage = λ e. let is : status.TooFew ≡ Usage = e in cc;
  done = λ e. let is : status.TooFew ≡ Done = e in cc;
  write = λ e. let is : status.TooFew ≡ Write = e in cc;
  some = inl (refl, refl);
}

untaken_refuses : (prefix : Option Text) (c : Circuit) (files : List Text) (x : Outcome) → IsUntaken prefix c files x → Refuses [] x
untaken_refuses None c files x m = absurd m
untaken_refuses (Some prefix) c files x (inl m) = subst (λ o. Refuses [] o) (sym m.told) (dealer_refuses (part_name prefix m.at) m.fault)
untaken_refuses (Some prefix) c files x (inr m) =
    subst (λ o. Refuses [] o) (sym m.told) (few_refuses (all_needs (plan_of c)) (stock_of m.parts) m.kind)

pub parts_fair : (request : LocalRequest) (c : Circuit) (files : List Text) (P Q : List Part → Outcome → Type 0) →
    ((parts : List Part) → Fair [] (P parts) (Q parts)) → Fair [] (TakesParts request c files P) (TakesParts request c files Q)
parts_fair request c files P Q next x (inl m) = inl (untaken_refuses request.dealer c files x m)
parts_fair request c files P Q next x (inr m) =
    carried [] (Q m.0) (TakesParts request c files Q) x (λ q. inr (m.0, m.1, q)) (next m.0 x m.2)

-- ---- the joint run

-- vectors with the same words and widths are the same
abbrev told_word : Bits → party.Value
told_word bits = party.Told (Some bits.word)

same_word : (b d : Bits) → told_word b ≡ told_word d → b.word ≡ d.word
same_word b d e = (let is : party.Told (Some b.word) ≡ party.Told (Some d.word) = e in cc)

same_bits : (bs ds : List Bits) → map told_word bs ≡ map told_word ds → map (λ (b : Bits). b.width) bs ≡ map (λ (b : Bits). b.width) ds →
    joined_bits bs ≡ joined_bits ds
same_bits [] [] words widths = refl
same_bits [] (d ∷ ds) words widths = cc
same_bits (b ∷ bs) [] words widths = cc
same_bits (b ∷ bs) (d ∷ ds) words widths =
    let first = heads_tails (told_word b) (told_word d) (map told_word bs) (map told_word ds) words in
    let second = heads_tails b.width d.width (map (λ (v : Bits). v.width) bs) (map (λ (v : Bits). v.width) ds) widths in
    ap₂ ◌++◌ (ap₂ bits second.0 (same_word b d first.0)) (same_bits bs ds first.1 second.1)

-- two reports of a party of one joint run
one_run : (c : Circuit) (owns : List Own) (table : Payloads) (p : ℕ) (r s : PartyReport) (a b : PartyRun) →
    IsReport (plan_of c) owns table p r → IsReport (plan_of c) owns table p s →
    IsRunOf (outputs_of c) p r a → IsRunOf (outputs_of c) p s b → a ≡ b
one_run c owns table p r s a b of_r of_s m n =
    let told = same_bits r.told s.told (of_r.told ∙ sym of_s.told) (of_r.widths ∙ sym of_s.widths) in
    let cut = subst (λ (bs : List Bool). AreCut (asked (Some (record { 0 = p })) (outputs_of c)) bs a.outputs) told m.outputs in
    let party = m.party ∙ sym n.party in
    let outputs = cuts_once (asked (Some (record { 0 = p })) (outputs_of c)) (joined_bits s.told) a.outputs b.outputs cut n.outputs in
    let digest = m.digest ∙ (of_r.digest ∙ (sym of_s.digest ∙ sym n.digest)) in
    λ i. record { party = party i; outputs = outputs i; digest = digest i }

one_told : (c : Circuit) (owns : List Own) (table : Payloads) (rs ss : List PartyReport) (a b : List PartyRun) →
    AreReports (plan_of c) owns table rs → AreReports (plan_of c) owns table ss →
    AreRunsOf (outputs_of c) rs a → AreRunsOf (outputs_of c) ss b → a ≡ b
one_told c owns table rs ss a b of_rs of_ss m n =
    same_list a b (m.count ∙ (of_rs.count ∙ (sym of_ss.count ∙ sym n.count))) same
  where
    same : (at : ℕ) (x y : PartyRun) → slice_get a at ≡ Some x → slice_get b at ≡ Some y → x ≡ y
    same at x y e f =
        let h = slice_get_within a at x e in
        let k = slice_get_within b at y f in
        let first = m.count in
        let second = n.count in
        let r = some_at rs at (omega (arith, h, first)) in
        let s = some_at ss at (omega (arith, k, second)) in
        one_run c owns table at r.0 s.0 x y (of_rs.each at r.0 r.1) (of_ss.each at s.0 s.1) (m.each at r.0 x r.1 e) (n.each at s.0 y s.1 f)

runs_once : (c : Circuit) (owns : List Own) (a b : List PartyRun) → AreRuns c owns a → AreRuns c owns b → a ≡ b
runs_once c owns a b m n =
    let joint = one_joint_run (plan_of c) owns in
    let table : m.table ≡ n.table = joint.2 m.table m.joint ∙ sym (joint.2 n.table n.joint) in
    let of_m = subst (λ (t : Payloads). AreReports (plan_of c) owns t m.reports) table m.reported in
    one_told c owns n.table m.reports n.reports a b of_m n.reported m.told n.told

pub run_agree : (sound : Type 0) (c : Circuit) (v : List (List Bool)) (owns : List Own) → Agree (ReportsRun sound c v owns) (ReportsRun sound c v owns)
run_agree sound c v owns x y m n =
    m.3 ∙ (ap (λ (runs : List PartyRun). reported (runs_report (notation_of c) runs)) (runs_once c owns m.0 n.0 m.1 n.1) ∙ sym n.3)

pub run_fair : (sound : Type 0) (c : Circuit) (v : List (List Bool)) (owns : List Own) → Fair [] (ReportsRun sound c v owns) (ReportsRun sound c v owns)
run_fair sound c v owns x m = inr (record {
  kind = ap (λ (o : Outcome). o.kind) m.3;
  status = ap (λ (o : Outcome). o.status) m.3;
  stored = ap (λ (o : Outcome). o.stored) m.3;
  torn = ap (λ (o : Outcome). o.torn) m.3;
  fair = m;
})

-- a count that rose since a later moment rose since an earlier one
pub texts_since : (told : Option Holding) (rose since : Type 0) (request : LocalRequest) (circuit values : Text) (end : Outcome) → (rose → since) →
    LocalTexts told rose request circuit values end → LocalTexts told since request circuit values end
texts_since told rose since request circuit values end f (inl m) = inl m
texts_since told rose since request circuit values end f (inr (c, reads, inr m)) = inr (c, reads, inr m)
texts_since told rose since request circuit values end f (inr (c, reads, inl m)) = inr (
  c,
  reads,
  inl (record {
    at = m.at;
    name = m.name;
    there = m.there;
    before = m.before;
    loaded = m.loaded;
    unloaded = by m.unloaded;
  }),
)
  where
    by : IsUnloaded told rose m.name end → IsUnloaded told since m.name end
    by (inl n) = inl n
    by (inr (inl n)) = inr (inl n)
    by (inr (inr n)) = inr (inr (f n.0, n.1))

-- `local`, where the circuit is read and all files are loaded
pub all_read : (told : Option Holding) (rose : Type 0) (request : LocalRequest) (circuit values : Text) (c : Circuit) (files : List Text)
    (end : Outcome) → Reads request.bristol circuit c → AreContents told (part_names request.dealer (parties_of c)) files →
    LocalReads request values c files end ⊎ (end ≡ memory) → LocalTexts told rose request circuit values end ⊎ (end ≡ memory)
all_read told rose request circuit values c files end reads are (inl m) = inl (inr (c, reads, inr (files, are, m)))
all_read told rose request circuit values c files end reads are (inr m) = inr m

-- `local`, where circuit and values are loaded
-- circuit or values are not loaded
pub both_unloaded : (told : Option Holding) (rose : Type 0) (request : LocalRequest) (end : Outcome) →
    AreUnloaded told rose request.circuit request.values end ⊎ (end ≡ memory) → LocalEnds told rose request end ⊎ (end ≡ memory)
both_unloaded told rose request end (inl (inl m)) = inl (inl m)
both_unloaded told rose request end (inl (inr (c, is, inl m))) = inl (inr (c, is, inl m))
both_unloaded told rose request end (inl (inr (c, is, inr (v, held, void)))) = absurd void
both_unloaded told rose request end (inr m) = inr m

-- a file of a part is not loaded
pub parts_unloaded : (told : Option Holding) (rose : Type 0) (request : LocalRequest) (circuit values : Text) (c : Circuit) (end : Outcome) →
    Reads request.bristol circuit c → IsFirstUnloaded told rose (part_names request.dealer (parties_of c)) end ⊎ (end ≡ memory) →
    LocalTexts told rose request circuit values end ⊎ (end ≡ memory)
parts_unloaded told rose request circuit values c end reads (inl m) = inl (inr (c, reads, inl m))
parts_unloaded told rose request circuit values c end reads (inr m) = inr m

pub both_loaded : (told : Option Holding) (rose since : Type 0) (request : LocalRequest) (circuit values : Text) (end : Outcome) →
    (rose → since) → IsContent told request.circuit circuit → IsContent told request.values values →
    LocalTexts told rose request circuit values end ⊎ (end ≡ memory) → LocalEnds told since request end ⊎ (end ≡ memory)
both_loaded told rose since request circuit values end f first second (inl m) =
    inl (inr (circuit, first, inr (values, second, texts_since told rose since request circuit values end f m)))
both_loaded told rose since request circuit values end f first second (inr m) = inr m
