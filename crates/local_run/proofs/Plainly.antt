-- With honest parts each party is told what the plan computes in plain.
use Rattle.std.proofs.Common.{◌≡◌, ℕ, ◌<◌, Bool, true, false, cond, List, [], ◌∷◌, length, drop, map, Option, Some, None, refl, sym, ap, ap₂, ◌∙◌, arith}
use Rattle.std.specs.Prelude.{slice_get, slice_index}
use Rattle.std.specs.List.{AllByRecursion}
use Rattle.std.specs.Option.{unwrap_or}
use Rattle.std.proofs.lemmas.Bool.{false≢true}
use Rattle.share_types.specs.declared.bits.Bits.{Bits}
use Rattle.share_types.specs.declared.needs.Needs.{Needs}
use Rattle.plan_gates.specs.Gate.{Kind, Gate, InA, ConstA, AddA, SubA, AddConstA, MulConstA, MulA, OutA, InB, ConstB, XorB, XorConstB, SliceB, JoinB, AndB, OutB, gives}
use Rattle.plan_gates.specs.Plan.{Gates, IsPlan, has_keys}
use Rattle.plan_gates.specs.Plain.{Outside, plain_before, number_at}
use Rattle.plan_gates.specs.Messages.{tells}
use Rattle.joint_run.specs.Party as party
use Rattle.joint_run.specs.Party.{Own, party_value}
use Rattle.joint_run.specs.Joint.{Payloads, column, IsJoint}
use Rattle.joint_run.specs.Honest.{own_at, AreHonest, AreInputs, RecombineBy}
use Rattle.joint_run.proofs.Converting.{unconverted, no_shares}
use Rattle.joint_run.proofs.Grown.{grown-get}
use Rattle.joint_run.proofs.Recombining.{every_gate_recombines}
use Rattle.joint_run.proofs.Unique.{one_joint_run}
use Rattle.gate_tasks.specs.declared.report.PartyReport.{PartyReport}
use Rattle.gate_tasks.specs.Report.{tells_at, told_to}
use Rattle.local_run.specs.Report.{plain_told, AreReports}
use Rattle.local_run.proofs.Valid.{Passes, all_passing}
use Rattle.std.proofs.lemmas.Option.{slice_get_within}
use Rattle.mot_base.proofs.Lists.{all_implied as all_more, index_at as got_index}

told_plain : (kind : Kind) (w n p x : ℕ) (values : ℕ → party.Value) → tells p (record { kind = kind; width = w }) ≡ true → RecombineBy (gives kind) (record { kind = kind; width = w }) n values x → p < n → values p ≡ party.Told (Some x)
told_plain (OutA y to) w n p x values told recombine less = recombine p less ∙ ap (λ (b : Bool). party.Told (cond b (Some x) None)) told
told_plain (OutB y to) w n p x values told recombine less = recombine p less ∙ ap (λ (b : Bool). party.Told (cond b (Some x) None)) told
told_plain (InA q k) w n p x values told recombine less = absurd (false≢true told)
told_plain (ConstA c) w n p x values told recombine less = absurd (false≢true told)
told_plain (AddA y z) w n p x values told recombine less = absurd (false≢true told)
told_plain (SubA y z) w n p x values told recombine less = absurd (false≢true told)
told_plain (AddConstA y c) w n p x values told recombine less = absurd (false≢true told)
told_plain (MulConstA y c) w n p x values told recombine less = absurd (false≢true told)
told_plain (MulA y z) w n p x values told recombine less = absurd (false≢true told)
told_plain (InB q k at) w n p x values told recombine less = absurd (false≢true told)
told_plain (ConstB c) w n p x values told recombine less = absurd (false≢true told)
told_plain (XorB y z) w n p x values told recombine less = absurd (false≢true told)
told_plain (XorConstB y c) w n p x values told recombine less = absurd (false≢true told)
told_plain (SliceB y at) w n p x values told recombine less = absurd (false≢true told)
told_plain (JoinB y z) w n p x values told recombine less = absurd (false≢true told)
told_plain (AndB y z) w n p x values told recombine less = absurd (false≢true told)
told_plain _ w n p x values told recombine less = absurd (false≢true told)

-- the number of a value that is told
abbrev number_told : party.Value → ℕ
number_told (party.Told o) = unwrap_or o 0
number_told _ = 0

words_are : (f : ℕ → party.Value) (h : ℕ → ℕ) (bs : List Bits) (gs : List ℕ) → AllByRecursion (λ g. f g ≡ party.Told (Some (h g))) gs → map (λ bits. party.Told (Some bits.word)) bs ≡ map f gs → map (λ bits. bits.word) bs ≡ map h gs
words_are f h [] [] all same = refl
words_are f h [] (g ∷ gs) all same = cc
words_are f h (b ∷ bs) [] all same = cc
words_are f h (b ∷ bs) (g ∷ gs) all same =
    let first : party.Told (Some b.word) ≡ f g = ap (λ (xs : List party.Value). unwrap_or (slice_get xs 0) (party.Told None)) same in
    let rest : map (λ bits. party.Told (Some bits.word)) bs ≡ map f gs = ap (λ (xs : List party.Value). drop 1 xs) same in
    ap₂ (λ (n : ℕ) (ns : List ℕ). n ∷ ns) (ap number_told (first ∙ all.0)) (words_are f h bs gs all.1 rest)

-- one gate that tells
gate_told : (plan : Gates) (owns : List Own) (bases : Needs) (session : ℕ) (outside : Outside) (table : Payloads) (p g : ℕ) (o : Option Gate) → IsPlan plan → has_keys plan ≡ false → AreHonest plan owns bases session → AreInputs plan owns outside.inputs → IsJoint plan owns table →
    p < plan.parties → g < length plan.gates → slice_get plan.gates g ≡ o → tells_at o p ≡ true →
    party_value plan p (own_at owns p) (column table p) g ≡ party.Told (Some (slice_index (plain_before plan.gates outside (length plan.gates)) g))
gate_told plan owns bases session outside table p g None is unkeyed honest ins joint known within there told = absurd (false≢true told)
gate_told plan owns bases session outside table p g (Some gate) is unkeyed honest ins joint known within there told =
    let number = number_at plan.gates outside (plain_before plan.gates outside g) (slice_get plan.gates g) in
    let plain : slice_get (plain_before plan.gates outside (length plan.gates)) g ≡ Some number =
    grown-get (plain_before plan.gates outside) (λ j. number_at plan.gates outside (plain_before plan.gates outside j) (slice_get plan.gates j)) refl (λ j. refl) (length plan.gates) g within in
    let recombine = every_gate_recombines plan owns bases session outside table is honest ins (no_shares plan owns table outside (unconverted plan unkeyed)) joint g gate number there plain in
    told_plain gate.kind gate.width plan.parties p number (λ q. party_value plan q (own_at owns q) (column table q) g) told recombine known
    ∙ ap (λ (x : ℕ). party.Told (Some x)) (sym (got_index (plain_before plan.gates outside (length plan.gates)) g number plain))

pub plainly : (plan : Gates) (owns : List Own) (reports : List PartyReport) → IsPlan plan → has_keys plan ≡ false → ((table : Payloads) → IsJoint plan owns table → AreReports plan owns table reports) →
    (bases : Needs) (session : ℕ) (outside : Outside) → AreHonest plan owns bases session → AreInputs plan owns outside.inputs → (p : ℕ) (report : PartyReport) → slice_get reports p ≡ Some report → map (λ bits. bits.word) report.told ≡ plain_told plan outside p
plainly plan owns reports is unkeyed all bases session outside honest ins p report there =
    let run = one_joint_run plan owns in
    let are = all run.0 run.1 in
    let one = are.each p report there in
    let known : p < plan.parties = omega (arith, are.count, slice_get_within reports p report there) in
    let test : ℕ → Bool = λ g. tells_at (slice_get plan.gates g) p in
    words_are (party_value plan p (own_at owns p) (column run.0 p)) (slice_index (plain_before plan.gates outside (length plan.gates))) report.told (told_to plan p)
    (all_more (Passes test (length plan.gates)) (λ g. party_value plan p (own_at owns p) (column run.0 p) g ≡ party.Told (Some (slice_index (plain_before plan.gates outside (length plan.gates)) g)))
    (λ g passes. gate_told plan owns bases session outside run.0 p g (slice_get plan.gates g) is unkeyed honest ins run.1 known passes.below refl passes.passes)
    (told_to plan p) (all_passing test (length plan.gates)))
    one.told
