-- Runs whose parties have seeds that are derived from one seed.
use Rattle.std.specs.Prelude.{ℕ, ◌≡◌, ◌≤◌, ◌==◌, Bool, false, List, length, map, slice_get, Some, None}
use Rattle.mot_base.specs.Tape.{derived_seed}
use Rattle.share_types.specs.declared.needs.Kind.{Kind}
use Rattle.share_types.specs.declared.needs.Needs.{Needs}
use Rattle.share_types.specs.Bits.{number}
use Rattle.share_types.specs.Needs.{count_of, no_needs}
use Rattle.share_types.specs.Sums.{each}
use Rattle.circuit_tables.specs.Table.{Input}
use Rattle.circuit_tables.specs.Values.{HaveWidths, kept_of}
use Rattle.dealer_files.specs.Part.{Part, counts_of}
use Rattle.dealer_files.specs.Honest.{HonestTogether}
use Rattle.plan_gates.specs.Plan.{Gates, IsPlan, has_keys}
use Rattle.plan_gates.specs.Needs.{all_needs}
use Rattle.joint_run.specs.declared.own.Own.{Own}
use Rattle.joint_run.specs.Honest.{AreHonest, AreInputs}
use Rattle.local_run.specs.Inputs.{TakesInputs}
use Rattle.local_run.specs.Job.{IsJob}
use Rattle.local_run.specs.Meaning.{owns_with}

-- which of the inputs are a party's own
abbrev pub own_flags : List Input → ℕ → List Bool
own_flags inputs p = map (λ input. input.party.0 == p) inputs

-- what a party brings: the seed that belongs to its number under the one seed, and the values of its own inputs
-- alone. The session is 0, and its part of the deal is used from the first record on
abbrev pub own_of : List ℕ → List Input → List (List Bool) → ℕ → Own
own_of seed inputs values p = record {
  me = record { 0 = p };
  seed = record { 0 = derived_seed seed p };
  inputs = kept_of (own_flags inputs p) values;
  session = 0;
  bases = no_needs;
}

-- what each of so many parties brings
abbrev pub owns_of : List ℕ → ℕ → List Input → List (List Bool) → List Own
owns_of seed parties inputs values = each parties (own_of seed inputs values)

-- there is a part of a deal for each party of a plan, in the order of the parties, with records enough for all
-- gates
pub record ServeAll (plan : Gates) (parts : List Part) : Type 0 where
  pub count : length parts ≡ plan.parties
  pub party : (p : ℕ) (part : Part) → slice_get parts p ≡ Some part → part.party ≡ p
  pub parties : (p : ℕ) (part : Part) → slice_get parts p ≡ Some part → part.parties ≡ plan.parties
  pub records : (p : ℕ) (part : Part) (kind : Kind) → slice_get parts p ≡ Some part →
      count_of (all_needs plan) kind ≤ count_of (counts_of part) kind

-- parts that are honest together, with records enough, are such parts
abbrev pub HonestPartsServe : Type 0
HonestPartsServe =
    (plan : Gates) (parts : List Part) (id : ℕ) (counts : Needs) →
    HonestTogether parts plan.parties id counts →
    ((kind : Kind) → count_of (all_needs plan) kind ≤ count_of counts kind) → ServeAll plan parts

-- with such parts it is a job of a plan that takes the inputs and has no gates of keys, and the plan's inputs are the numbers of all
-- values
abbrev pub JobsOfSeedServe : Type 0
JobsOfSeedServe =
    (plan : Gates) (seed : List ℕ) (inputs : List Input) (values : List (List Bool)) (parts : List Part) →
    IsPlan plan → has_keys plan ≡ false → TakesInputs inputs plan → HaveWidths None inputs values → ServeAll plan parts →
    let owns = owns_of seed plan.parties inputs values in
    IsJob plan owns parts × AreInputs plan (owns_with owns parts) (map number values)

-- with parts that are honest together and have records enough, what the parties bring is honest
abbrev pub JobsOfSeedAreHonest : Type 0
JobsOfSeedAreHonest =
    (plan : Gates) (seed : List ℕ) (inputs : List Input) (values : List (List Bool)) (parts : List Part)
    (id : ℕ) (counts : Needs) →
    HonestTogether parts plan.parties id counts →
    (all_needs plan).mult ≤ counts.mult → (all_needs plan).bit ≤ counts.bit → (all_needs plan).shared ≤ counts.shared →
    (all_needs plan).key ≤ counts.key →
    AreHonest plan (owns_with (owns_of seed plan.parties inputs values) parts) no_needs 0
