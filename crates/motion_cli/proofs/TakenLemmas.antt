-- What the parts of a run are good for, and what a run on them tells.
use Rattle.std.proofs.Common.{ℕ, ◌≡◌, ◌<◌, ◌≤◌, ◌⊎◌, inl, inr, Bool, true, false, cond, ◌+◌, List, [], ◌∷◌, length, map, get_or, Option, Some, None, refl, sym, ap, subst, ◌∙◌, arith}
use Rattle.std.specs.Prelude.{nat_eq, slice_get, sum}
use Rattle.std.specs.List.{sum_by}
use Rattle.std.specs.Option.{option_or}
use Rattle.std.proofs.lemmas.Bool.{eqb-true}
use Rattle.std.proofs.lemmas.List.Sums.{sum_by-cons}
use Rattle.std.proofs.lemmas.Option.{slice_get_within, get_or_from_slice_get}
use Rattle.mot_base.specs.Tape.{long_word_of_tape}
use Rattle.share_types.proofs.Parties.{length-each}
use Rattle.share_types.specs.Bits.{number}
use Rattle.share_types.specs.declared.bits.Bits.{Bits}
use Rattle.share_types.specs.declared.needs.Kind.{Kind}
use Rattle.share_types.specs.declared.needs.Kind.TheVariants as kind
use Rattle.share_types.specs.declared.needs.Needs.{Needs}
use Rattle.share_types.specs.Needs.{count_of, no_needs}
use Rattle.circuit_tables.specs.Table.{Input, Told, asked, total_width}
use Rattle.circuit_values.specs.Values.{ReadsValues}
use Rattle.circuit_tables.specs.Values.{HaveWidths}
use Rattle.cli_words.specs.Request.{LocalRequest}
use Rattle.dealer_files.specs.Part.{Part, counts_of}
use Rattle.dealer_files.specs.Honest.{HonestTogether}
use Rattle.dealer_maker.specs.Draws.{parts_drawn}
use Rattle.dealer_maker.proofs.Honest.{honest}
use Rattle.plan_gates.specs.Plan.{Gates, IsPlan, has_keys}
use Rattle.plan_gates.specs.Plain.{Outside, only}
use Rattle.plan_gates.specs.Needs.{all_needs}
use Rattle.joint_run.specs.Party.{Own}
use Rattle.joint_run.specs.declared.own.Own.{Own as OwnInMemory}
use Rattle.joint_run.specs.Joint.{Payloads, IsJoint}
use Rattle.joint_run.specs.Honest.{no_part, AreHonest, AreInputs}
use Rattle.joint_run.proofs.Unique.{one_joint_run}
use Rattle.gate_tasks.specs.declared.report.PartyReport.{PartyReport}
use Rattle.local_run.specs.Inputs.{TakesInputs}
use Rattle.local_run.specs.Job.{IsJob}
use Rattle.local_run.specs.Meaning.{owns_with}
use Rattle.local_run.specs.OneSeed.{ServeAll, owns_of}
use Rattle.local_run.specs.Report as engine
use Rattle.local_run.specs.Report.{AreReports, plain_told}
use Rattle.local_run.specs.Told.{AreToldInPlain}
use Rattle.local_run.proofs.Seeding.{honest_parts_serve, jobs_of_seed_serve, jobs_of_seed_are_honest}
use Rattle.text_lines.specs.Text.{Text}
use Rattle.command_ends.specs.declared.fault.Difference.{Difference}
use Rattle.command_ends.specs.declared.fault.Field.{Field}
use Rattle.command_ends.specs.declared.fault.Field.TheVariants.{Parties, Party, Id, Mult, Bit, Shared, Key}
use Rattle.any_circuit.specs.Circuits.{Circuit, Mixed, InBristol, inputs_of, outputs_of, parties_of, plan_of, notation_of, IsWhole, Keeps, IsPlain, told_to}
use Rattle.motion_cli.specs.Commands.{HasTooMany, ReportsRun, LocalReads}
use Rattle.motion_cli.specs.Dealer.{part_names, differs, count_difference, difference, AreRead, AreEnough, AreTaken, IsUntaken}
use Rattle.command_ends.specs.Outcome.{Outcome, reported, memory, part_name}
use Rattle.motion_cli.specs.Parts.{dealer_seed}
use Rattle.motion_cli.specs.Report.{PartyRun, runs_report}
use Rattle.motion_cli.specs.Run.{AreRunsOf, AreHonestParts, AreSound, TellPlainly, owns_in}
use Rattle.any_circuit.proofs.TellingLemmas.{plain_exists, told_widths, tells_plainly}
use Rattle.mot_base.proofs.Lists.{some_at}

pub plan_parties : (c : Circuit) → (plan_of c).parties ≡ parties_of c
plan_parties (Mixed c) = refl
plan_parties (InBristol b c) = refl

-- ---- parts without a difference

none_of_two : (a b : Option Difference) → option_or a b ≡ None → (a ≡ None) × (b ≡ None)
none_of_two None b e = (refl, e)
none_of_two (Some d) b e = cc

as_expected : (field : Field) (expected found : ℕ) → differs field expected found ≡ None → expected ≡ found
as_expected field expected found e = either (nat_eq expected found) refl e
  where
    unequal : Difference
    unequal = record { field = field; expected = expected; found = found }

    either : (b : Bool) → nat_eq expected found ≡ b → cond b None (Some unequal) ≡ None → expected ≡ found
    either true same e = eqb-true expected found same
    either false other e = cc

same_counts : (first part : Needs) → count_difference first part ≡ None → (k : Kind) → count_of first k ≡ count_of part k
same_counts first part e k = by k
  where
    one : (differs Mult first.mult part.mult ≡ None)
        × (option_or (differs Bit first.bit part.bit) (option_or (differs Shared first.shared part.shared) (differs Key first.key part.key)) ≡ None)
    one = none_of_two _ _ e

    two : (differs Bit first.bit part.bit ≡ None) × (option_or (differs Shared first.shared part.shared) (differs Key first.key part.key) ≡ None)
    two = none_of_two _ _ one.1

    three : (differs Shared first.shared part.shared ≡ None) × (differs Key first.key part.key ≡ None)
    three = none_of_two _ _ two.1

    by : (k : Kind) → count_of first k ≡ count_of part k
    by kind.Mult = as_expected Mult first.mult part.mult one.0
    by kind.Bit = as_expected Bit first.bit part.bit two.0
    by kind.Shared = as_expected Shared first.shared part.shared three.0
    by kind.Key = as_expected Key first.key part.key three.1

-- a part of a run: it is for the parties, for its place, and has the counts of the first
record IsExpected (parties at : ℕ) (first part : Part) : Type 0 where
  pub parties_are : parties ≡ part.parties
  pub party_is : at ≡ part.party
  pub counts : (k : Kind) → count_of (counts_of first) k ≡ count_of (counts_of part) k

expected : (parties at : ℕ) (first part : Part) → difference parties at first part ≡ None → IsExpected parties at first part
expected parties at first part e =
    let one = none_of_two (differs Parties parties part.parties) _ e in
    let two = none_of_two (differs Party at part.party) _ one.1 in
    let three = none_of_two (differs Id first.id part.id) _ two.1 in
    record {
      parties_are = as_expected Parties parties part.parties one.0;
      party_is = as_expected Party at part.party two.0;
      counts = same_counts (counts_of first) (counts_of part) three.1;
    }

first_as : (xs : List Part) (d e : Part) → 0 < length xs → get_or xs 0 d ≡ get_or xs 0 e
first_as [] d e h = absurd (omega (arith, h))
first_as (x ∷ xs) d e h = refl

read_serve : (c : Circuit) (files : List Text) (parts : List Part) → AreRead (parties_of c) files parts → AreEnough c parts →
    length files ≡ parties_of c → ServeAll (plan_of c) parts
read_serve c files parts read enough count = record {
  count = read.count ∙ (count ∙ sym (plan_parties c));
  party = λ at part there. sym (found at part there).party_is;
  parties = λ at part there. sym (found at part there).parties_are ∙ sym (plan_parties c);
  records = λ at part k there.
      let within = slice_get_within parts at part there in
      let h = enough k in
      let same = ap (λ (p : Part). count_of (counts_of p) k) (first_as parts no_part part (omega (arith, within))) in
      let counts = (found at part there).counts k in
      omega (arith, h, same, counts);
}
  where
    found : (at : ℕ) (part : Part) → slice_get parts at ≡ Some part → IsExpected (parties_of c) at (get_or parts 0 part) part
    found at part there =
        let within = slice_get_within parts at part there in
        let n = read.count in
        let file = some_at files at (omega (arith, within, n)) in
        expected (parties_of c) at (get_or parts 0 part) part (read.each at file.0 part file.1 there).1

-- ---- the parts of a run serve it

dealt_honest : (seed : List ℕ) (c : Circuit) (parts : List Part) → 1 ≤ parties_of c →
    parts ≡ parts_drawn (dealer_seed seed) (parties_of c) (all_needs (plan_of c)) →
    HonestTogether parts (parties_of c) (long_word_of_tape (dealer_seed seed) 0) (all_needs (plan_of c))
dealt_honest seed c parts some are =
    let id = long_word_of_tape (dealer_seed seed) 0 in
    let P : List Part → Type 0 = λ ps. HonestTogether ps (parties_of c) id (all_needs (plan_of c)) in
    subst P (sym are) (honest (dealer_seed seed) (parties_of c) (all_needs (plan_of c)) some)

pub taken_serve : (prefix : Option Text) (seed : List ℕ) (c : Circuit) (files : List Text) (parts : List Part) → 1 ≤ parties_of c →
    length files ≡ length (part_names prefix (parties_of c)) → AreTaken prefix seed c files parts → ServeAll (plan_of c) parts
taken_serve None seed c files parts some count taken =
    let id = long_word_of_tape (dealer_seed seed) 0 in
    let P : ℕ → Type 0 = λ n. HonestTogether parts n id (all_needs (plan_of c)) in
    honest_parts_serve (plan_of c) parts id (all_needs (plan_of c)) (subst P (sym (plan_parties c)) (dealt_honest seed c parts some taken))
    (λ k. omega arith)
taken_serve (Some prefix) seed c files parts some count taken =
    read_serve c files parts taken.0 taken.1 (count ∙ length-each (parties_of c) (part_name prefix))

-- and can be relied on
pub taken_sound : (prefix : Option Text) (seed : List ℕ) (c : Circuit) (files : List Text) (parts : List Part) → 1 ≤ parties_of c →
    AreTaken prefix seed c files parts → AreSound prefix parts → AreHonestParts parts
taken_sound None seed c files parts some taken sound =
    let id = long_word_of_tape (dealer_seed seed) 0 in
    let together = dealt_honest seed c parts some taken in
    let P : ℕ → Type 0 = λ n. HonestTogether parts n id (all_needs (plan_of c)) in
    (id, all_needs (plan_of c), subst P (sym together.count) together)
taken_sound (Some prefix) seed c files parts some taken sound = sound

-- ---- what a run tells

-- the widths of what a party is told are those of its outputs
pub widths_told : (c : Circuit) (owns : List Own) (table : Payloads) (p : ℕ) (report : PartyReport) → IsWhole c → IsPlan (plan_of c) → Keeps c (plan_of c) →
    engine.IsReport (plan_of c) owns table p report →
    total_width (asked (Some (record { 0 = p })) (outputs_of c)) ≡ sum_by (λ (v : Bits). v.width) report.told
widths_told c owns table p report whole valid keeps is =
    told_widths c p whole valid keeps ∙ (ap sum (sym is.widths) ∙ summed report.told)
  where
    summed : (vs : List Bits) → sum (map (λ (v : Bits). v.width) vs) ≡ sum_by (λ (v : Bits). v.width) vs
    summed [] = refl
    summed (v ∷ vs) =
        sum_by-cons (λ (n : ℕ). n) v.width (map (λ (w : Bits). w.width) vs)
        ∙ (ap (λ (n : ℕ). v.width + n) (summed vs) ∙ sym (sum_by-cons (λ (w : Bits). w.width) v vs))

-- with parts that are honest together, what all bring is honest
honest_all : (c : Circuit) (seed : List ℕ) (v : List (List Bool)) (parts : List Part) → 1 ≤ parties_of c → ServeAll (plan_of c) parts →
    AreHonestParts parts → AreHonest (plan_of c) (owns_with (owns_of seed (plan_of c).parties (inputs_of c) v) parts) no_needs 0
honest_all c seed v parts some serve (id, counts, together) =
    let count = serve.count in
    let parties = plan_parties c in
    let first = some_at parts 0 (omega (arith, count, parties, some)) in
    let here = get_or_from_slice_get parts 0 first.0 first.0 first.1 in
    let same : counts_of first.0 ≡ counts =
    ap (λ (p : Part). counts_of p) (sym here) ∙ (together.one_deal 0 first.0 (omega (arith, count, parties, some))).2 in
    let P : ℕ → Type 0 = λ n. HonestTogether parts n id counts in
    let mult = serve.records 0 first.0 kind.Mult first.1 in
    let bit = serve.records 0 first.0 kind.Bit first.1 in
    let shared = serve.records 0 first.0 kind.Shared first.1 in
    let key = serve.records 0 first.0 kind.Key first.1 in
    let mults = ap (λ (n : Needs). n.mult) same in
    let bits = ap (λ (n : Needs). n.bit) same in
    let shareds = ap (λ (n : Needs). n.shared) same in
    let keys = ap (λ (n : Needs). n.key) same in
    jobs_of_seed_are_honest (plan_of c) seed (inputs_of c) v parts id counts (subst P count together)
    (omega (arith, mult, mults)) (omega (arith, bit, bits)) (omega (arith, shared, shareds)) (omega (arith, key, keys))

-- what is reported of a run is what the joint run tells all parties, and with honest parts their outputs of the plain
-- evaluation
pub run_reported : (c : Circuit) (seed : List ℕ) (v : List (List Bool)) (parts : List Part) (owns : List Own)
    (reports : List PartyReport) (runs : List PartyRun) (text : Text) →
    owns ≡ owns_with (owns_of seed (parties_of c) (inputs_of c) v) parts →
    IsWhole c → Keeps c (plan_of c) → IsPlan (plan_of c) → has_keys (plan_of c) ≡ false →
    TakesInputs (inputs_of c) (plan_of c) → HaveWidths None (inputs_of c) v → ServeAll (plan_of c) parts →
    ((table : Payloads) → IsJoint (plan_of c) owns table → AreReports (plan_of c) owns table reports) →
    ((bases : Needs) (session : ℕ) (outside : Outside) → AreHonest (plan_of c) owns bases session →
    AreInputs (plan_of c) owns outside.inputs → (p : ℕ) (report : PartyReport) → slice_get reports p ≡ Some report →
    map (λ (bits : Bits). bits.word) report.told ≡ plain_told (plan_of c) outside p) →
    AreRunsOf (outputs_of c) reports runs → text ≡ runs_report (notation_of c) runs →
    ReportsRun (AreHonestParts parts) c v owns (reported text)
run_reported c seed v parts owns reports runs text owns_are whole keeps plan unkeyed takes widths serve joint plain told text_is = (
  runs,
  record { table = run.0; joint = run.1; reports = reports; reported = are; told = told },
  tell,
  ap reported text_is,
)
  where
    run : (table : Payloads) × IsJoint (plan_of c) owns table
    run = (let one = one_joint_run (plan_of c) owns in (one.0, one.1))

    are : AreReports (plan_of c) owns run.0 reports
    are = joint run.0 run.1

    Seeded : ℕ → List Own
    Seeded n = owns_with (owns_of seed n (inputs_of c) v) parts

    plan_owns : Seeded (plan_of c).parties ≡ owns
    plan_owns = ap Seeded (plan_parties c) ∙ sym owns_are

    tell : AreHonestParts parts → TellPlainly c v runs
    tell honest = (all.0, all.1, each)
      where
        some : 1 ≤ parties_of c
        some = (let few = plan.some_parties in let same = plan_parties c in omega (arith, few, same))

        Honest : List Own → Type 0
        Honest os = AreHonest (plan_of c) os no_needs 0

        Inputs : List Own → Type 0
        Inputs os = AreInputs (plan_of c) os (map number v)

        all : (outputs : List Told) × IsPlain c v outputs
        all = plain_exists c v whole widths

        honest_owns : AreHonest (plan_of c) owns no_needs 0
        honest_owns = subst Honest plan_owns (honest_all c seed v parts some serve honest)

        inputs_owns : AreInputs (plan_of c) owns (map number v)
        inputs_owns = subst Inputs plan_owns (jobs_of_seed_serve (plan_of c) seed (inputs_of c) v parts plan unkeyed takes widths serve).1

        each : (p : ℕ) (one : PartyRun) → slice_get runs p ≡ Some one → one.outputs ≡ told_to p all.0
        each p one there =
            let within = slice_get_within runs p one there in
            let count = told.count in
            let report = some_at reports p (omega (arith, within, count)) in
            let in_plain : AreToldInPlain (plan_of c) (only (map number v)) p report.0.told = record {
              words = plain no_needs 0 (only (map number v)) honest_owns inputs_owns p report.0 report.1;
              widths = (are.each p report.0 report.1).widths;
            } in
            tells_plainly c p v report.0.told one.outputs all.0 whole unkeyed keeps widths in_plain all.1
            (told.each p report.0 one report.1 there).outputs

-- a run from one seed is a job
pub job_served : (plan asked : Gates) (seed : List ℕ) (inputs given : List Input) (v : List (List Bool)) (parts : List Part)
    (owns : List OwnInMemory) → asked ≡ plan → given ≡ inputs → owns ≡ owns_of seed plan.parties given v → IsPlan plan →
    has_keys plan ≡ false → TakesInputs inputs plan → HaveWidths None inputs v → ServeAll plan parts → IsJob asked owns parts
job_served plan asked seed inputs given v parts owns asked_is given_is owns_are valid unkeyed takes widths serve =
    let job = (jobs_of_seed_serve plan seed inputs v parts valid unkeyed takes widths serve).0 in
    let P : Gates → Type 0 = λ p. IsJob p owns parts in
    let Q : List OwnInMemory → Type 0 = λ os. IsJob plan os parts in
    subst P (sym asked_is) (subst Q (sym (owns_are ∙ ap (λ (is : List Input). owns_of seed plan.parties is v) given_is)) job)

-- there are as many reports as parties
pub reports_count : (plan : Gates) (owns : List Own) (reports : List PartyReport) →
    ((table : Payloads) → IsJoint plan owns table → AreReports plan owns table reports) → length reports ≡ plan.parties
reports_count plan owns reports joint = (let one = one_joint_run plan owns in (joint one.0 one.1).count)

-- the widths of all that is told
pub all_widths : (c : Circuit) (owns : List Own) (reports : List PartyReport) → IsWhole c → IsPlan (plan_of c) → Keeps c (plan_of c) →
    ((table : Payloads) → IsJoint (plan_of c) owns table → AreReports (plan_of c) owns table reports) →
    (p : ℕ) (report : PartyReport) → slice_get reports p ≡ Some report →
    total_width (asked (Some (record { 0 = p })) (outputs_of c)) ≡ sum_by (λ (v : Bits). v.width) report.told
all_widths c owns reports whole valid keeps joint p report there =
    let one = one_joint_run (plan_of c) owns in
    widths_told c owns one.0 p report whole valid keeps ((joint one.0 one.1).each p report there)

-- a run that is told with less to rely on
pub sound_run : (sound honest_parts : Type 0) (c : Circuit) (v : List (List Bool)) (owns : List Own) (end : Outcome) → (sound → honest_parts) →
    ReportsRun honest_parts c v owns end → ReportsRun sound c v owns end
sound_run sound honest_parts c v owns end f (runs, are, tell, text) = (runs, are, (λ s. tell (f s)), text)

pub some_parties : (c : Circuit) → IsWhole c → 1 ≤ parties_of c
some_parties (Mixed c) whole = (let some = whole.some_parties in omega (arith, some))
some_parties (InBristol b c) whole = (let some = whole.1 in omega (arith, some))

unkeyed_plan : (c : Circuit) → has_keys (plan_of c) ≡ false → ¬ (has_keys (plan_of c) ≡ true)
unkeyed_plan c unkeyed = λ e. (let no : false ≡ true = sym unkeyed ∙ e in cc)

-- `local` on a circuit that has a plan, and on values that are read, where the parts are not had
pub no_parts : (request : LocalRequest) (values : Text) (c : Circuit) (files : List Text) (v : List (List Bool)) (end : Outcome) →
    ¬ (HasTooMany c) → has_keys (plan_of c) ≡ false → ReadsValues (inputs_of c) None values v →
    IsUntaken request.dealer c files end ⊎ (end ≡ memory) → LocalReads request values c files end ⊎ (end ≡ memory)
no_parts request values c files v end few unkeyed reads (inl m) =
    inl (inr (few, inr (unkeyed_plan c unkeyed, inr (v, reads, inl m))))
no_parts request values c files v end few unkeyed reads (inr m) = inr m

-- and where it is run
pub run_reads : (request : LocalRequest) (values : Text) (c : Circuit) (files : List Text) (v : List (List Bool)) (parts : List Part)
    (end : Outcome) → IsWhole c → ¬ (HasTooMany c) → has_keys (plan_of c) ≡ false →
    ReadsValues (inputs_of c) None values v →
    AreTaken request.dealer request.seed c files parts → ReportsRun (AreHonestParts parts) c v (owns_in request c v parts) end →
    LocalReads request values c files end
run_reads request values c files v parts end whole few unkeyed reads taken run =
    let sound = taken_sound request.dealer request.seed c files parts (some_parties c whole) taken in
    inr (
      few,
      inr (
        unkeyed_plan c unkeyed,
        inr (
          v,
          reads,
          inr (
            parts,
            taken,
            sound_run (AreSound request.dealer parts) (AreHonestParts parts) c v (owns_in request c v parts) end sound run,
          ),
        ),
      ),
    )
