-- Runs whose parties have seeds that are derived from one seed are jobs, and honest with honest parts.
use Rattle.std.proofs.Common.{◌≡◌, false, ℕ, zero, suc, ◌+◌, ◌<◌, ◌≤◌, Bool, cond, List, [], ◌∷◌, ◌++◌, length, map, take, get_or, Option, Some, None, refl, sym, ap, ◌∙◌, subst, arith}
use Rattle.std.specs.Prelude.{◌==◌, slice_get, slice_index, option_map, IfSome}
use Rattle.std.proofs.lemmas.Bool.{eq-eqb}
use Rattle.std.proofs.lemmas.List.{length-map, map-append}
use Rattle.std.proofs.lemmas.Option.{slice_get_within, slice_get-get_or, get_or_from_slice_get}
use Rattle.mot_base.specs.declared.Party.{Party}
use Rattle.share_types.specs.declared.needs.Needs.{Needs}
use Rattle.share_types.specs.declared.needs.Kind.{Kind as Stock}
use Rattle.share_types.specs.declared.needs.Kind.TheVariants.{Mult, Bit, Shared, Key}
use Rattle.share_types.specs.Bits.{number}
use Rattle.share_types.specs.Needs.{count_of, no_needs, sum_of_needs}
use Rattle.share_types.proofs.Parties.{length-each}
use Rattle.circuit_tables.specs.Table.{Input}
use Rattle.circuit_tables.specs.Values.{HaveWidths, kept_of}
use Rattle.mot_base.proofs.Lists.{same_some, take_next}
use Rattle.dealer_files.specs.Part.{Part, counts_of}
use Rattle.plan_gates.specs.Gate.{Kind, Gate, InA, InB, InOnline, party_of}
use Rattle.plan_gates.specs.Plan.{Gates, IsPlan, has_keys}
use Rattle.plan_gates.specs.Needs.{all_needs}
use Rattle.plan_gates.proofs.NeedsLemmas.{slice_get-each}
use Rattle.joint_run.specs.declared.own.Own.{Own as OwnInMemory}
use Rattle.joint_run.specs.Party.{Own}
use Rattle.joint_run.specs.Honest.{Taken, taken_by, own_at, no_part, AreInputs}
use Rattle.gate_tasks.specs.Stage.{own_with, taken_from, HasInput}
use Rattle.local_run.specs.Inputs.{TakesInputs}
use Rattle.gate_tasks.specs.Serving.{ServeParty}
use Rattle.local_run.specs.Job.{IsJob}
use Rattle.local_run.specs.Meaning.{owns_with}
use Rattle.local_run.specs.OneSeed.{own_flags, own_of, owns_of, ServeAll, HonestPartsServe, JobsOfSeedServe, JobsOfSeedAreHonest}
use Rattle.local_run.proofs.Serving.{own_is}

-- ---- inputs

-- a party keeps the values of its own inputs
kept_own : (inputs : List Input) (values : List (List Bool)) (k p : ℕ) (input : Input) →
    slice_get inputs k ≡ Some input → input.party.0 ≡ p → get_or (kept_of (own_flags inputs p) values) k [] ≡ get_or values k []
kept_own [] values k p input there e = cc
kept_own (x ∷ xs) [] k p input there e = refl
kept_own (x ∷ xs) (v ∷ vs) zero p input there e =
    let same = ap (λ (y : Input). y.party.0) (same_some x input there) ∙ e in
    ap (λ (b : Bool). cond b v []) (eq-eqb x.party.0 p same)
kept_own (x ∷ xs) (v ∷ vs) (suc k) p input there e = kept_own xs vs k p input there e

-- with the flag of one input more
pub flags_next : (inputs : List Input) (at p : ℕ) (party : Party) →
    option_map (λ (input : Input). input.party) (slice_get inputs at) ≡ Some party →
    own_flags (take (at + 1) inputs) p ≡ own_flags (take at inputs) p ++ (party.0 == p) ∷ []
flags_next inputs at p party e = by_input (slice_get inputs at) refl e
  where
    flag : Input → Bool
    flag input = input.party.0 == p

    by_input : (o : Option Input) → slice_get inputs at ≡ o →
        option_map (λ (input : Input). input.party) o ≡ Some party →
        own_flags (take (at + 1) inputs) p ≡ own_flags (take at inputs) p ++ (party.0 == p) ∷ []
    by_input None there e = cc
    by_input (Some input) there e =
        ap (map flag) (take_next inputs at input there)
        ∙ (map-append flag (take at inputs) (input ∷ [])
        ∙ ap (λ (u : Party). map flag (take at inputs) ++ (u.0 == p) ∷ []) (same_some input.party party e))

number_there : (values : List (List Bool)) (k : ℕ) →
    slice_index (map number values) k ≡ number (get_or values k [])
number_there [] k = refl
number_there (v ∷ vs) zero = refl
number_there (v ∷ vs) (suc k) = number_there vs k

-- a gate takes its input from a party of the plan
taken_small : (kind : Kind) (t : Taken) (n : ℕ) → taken_by kind ≡ Some t →
    IfSome (party_of kind) (λ party. party < n) → t.party < n
taken_small (InA party k) t n e small =
    subst (λ (q : ℕ). q < n) (ap (λ (u : Taken). u.party) (same_some _ t e)) small
taken_small (InB party k at) t n e small =
    subst (λ (q : ℕ). q < n) (ap (λ (u : Taken). u.party) (same_some _ t e)) small
taken_small (InOnline party k at m) t n e small =
    subst (λ (q : ℕ). q < n) (ap (λ (u : Taken). u.party) (same_some _ t e)) small
taken_small _ t n e small = cc

-- ---- parts of a deal

pub honest_parts_serve : HonestPartsServe
honest_parts_serve plan parts id counts honest enough = record {
  count = honest.count;
  party = λ p part there.
      ap (λ (d : Part). d.party) (sym (get_or_from_slice_get parts p part no_part there))
      ∙ honest.order p no_part (small p part there);
  parties = λ p part there. (deal p part there).0;
  records = λ p part kind there.
      let counted = ap (λ (n : Needs). count_of n kind) (deal p part there).2 in
      let most = enough kind in
      omega (arith, counted, most);
}
  where
    small : (p : ℕ) (part : Part) → slice_get parts p ≡ Some part → p < plan.parties
    small p part there =
        let within = slice_get_within parts p part there in
        let many = honest.count in
        omega (arith, within, many)

    deal : (p : ℕ) (part : Part) → slice_get parts p ≡ Some part →
        (part.parties ≡ plan.parties) × (part.id ≡ id) × (counts_of part ≡ counts)
    deal p part there =
        subst (λ (d : Part). (d.parties ≡ plan.parties) × (d.id ≡ id) × (counts_of d ≡ counts))
        (get_or_from_slice_get parts p part no_part there)
        (honest.one_deal p no_part (slice_get_within parts p part there))

-- ---- own data

none_more : (n : Needs) (kind : Stock) → count_of (sum_of_needs no_needs n) kind ≡ count_of n kind
none_more n Mult = omega arith
none_more n Bit = omega arith
none_more n Shared = omega arith
none_more n Key = omega arith

with_parts : (owns : List OwnInMemory) (parts : List Part) → length owns ≡ length parts →
    map (λ (own : Own). own.part) (owns_with owns parts) ≡ parts
with_parts [] [] same = refl
with_parts [] (part ∷ parts) same = absurd (omega (arith, same))
with_parts (own ∷ owns) [] same = absurd (omega (arith, same))
with_parts (own ∷ owns) (part ∷ parts) same =
    ap (λ (more : List Part). part ∷ more) (with_parts owns parts (omega (arith, same)))

module _ (plan : Gates) (seed : List ℕ) (inputs : List Input) (values : List (List Bool)) (parts : List Part)
    (many : length parts ≡ plan.parties) where
  abbrev owns : List OwnInMemory
  owns = owns_of seed plan.parties inputs values

  count : length owns ≡ plan.parties
  count = length-each plan.parties (own_of seed inputs values)

  own_there : (p : ℕ) → p < plan.parties → slice_get owns p ≡ Some (own_of seed inputs values p)
  own_there p h = slice_get-each plan.parties (own_of seed inputs values) p h

  with_there : (p : ℕ) → p < plan.parties →
      (part : Part) × (own_at (owns_with owns parts) p ≡ own_with (own_of seed inputs values p) part)
  with_there p h =
      let part = get_or parts p no_part in
      let there = slice_get-get_or parts p no_part (omega (arith, h, many)) in
      (part, own_is owns parts p (own_of seed inputs values p) part (own_there p h) there)

  module _ (valid : IsPlan plan) (unkeyed : has_keys plan ≡ false) (takes : TakesInputs inputs plan) (widths : HaveWidths None inputs values) where
    wide : (k : ℕ) (input : Input) → slice_get inputs k ≡ Some input → length (get_or values k []) ≡ input.width
    wide k input there =
        let within = slice_get_within inputs k input there in
        let same = widths.count in
        widths.each k input (get_or values k []) there (slice_get-get_or values k [] (omega (arith, within, same)))

    has_input : (p g : ℕ) (gate : Gate) → slice_get plan.gates g ≡ Some gate →
        HasInput gate p (own_of seed inputs values p).inputs
    has_input p g gate there t e same =
        let from = takes g gate t there e in
        let kept = kept_own inputs values t.k p from.input from.there (from.party ∙ same) in
        let long = wide t.k from.input from.there in
        let within = from.within in
        subst (λ (bits : List Bool). taken_from gate.kind + gate.width ≤ length bits) (sym kept)
        (omega (arith, within, long))

    are_inputs : AreInputs plan (owns_with owns parts) (map number values)
    are_inputs g gate t there e =
        let from = takes g gate t there e in
        let one = with_there t.party (taken_small gate.kind t plan.parties e (valid.each g gate there).party) in
        let kept = kept_own inputs values t.k t.party from.input from.there from.party in
        number_there values t.k ∙ ap number (sym (ap (λ (o : Own). get_or o.inputs t.k []) one.1 ∙ kept))

    is_job : ServeAll plan parts → IsJob plan owns parts
    is_job serve = record { keyless = unkeyed; owns_count = count; parts_count = many; each = each_party }
      where
        each_party : (p : ℕ) (o : OwnInMemory) (part : Part) → slice_get owns p ≡ Some o →
            slice_get parts p ≡ Some part → ServeParty plan p o part
        each_party p o part there part_there =
            let within = slice_get_within owns p o there in
            let small : p < plan.parties = omega (arith, within, count) in
            let same : own_of seed inputs values p ≡ o = same_some _ o (sym (own_there p small) ∙ there) in
            subst (λ (u : OwnInMemory). ServeParty plan p u part) same (record {
              me = refl;
              party = serve.party p part part_there;
              parties = serve.parties p part part_there;
              session = omega arith;
              inputs = has_input p;
              records = λ kind.
                  let enough = serve.records p part kind part_there in
                  let none = none_more (all_needs plan) kind in
                  omega (arith, enough, none);
            })

pub jobs_of_seed_serve : JobsOfSeedServe
jobs_of_seed_serve plan seed inputs values parts valid unkeyed takes widths serve = (
  is_job plan seed inputs values parts serve.count valid unkeyed takes widths serve,
  are_inputs plan seed inputs values parts serve.count valid unkeyed takes widths,
)

pub jobs_of_seed_are_honest : JobsOfSeedAreHonest
jobs_of_seed_are_honest plan seed inputs values parts id counts honest mult bit shared key =
    let all = owns_with (owns_of seed plan.parties inputs values) parts in
    let many = honest.count in
    let size = count plan seed inputs values parts many in
    let same = with_parts (owns_of seed plan.parties inputs values) parts (size ∙ sym many) in
    record {
      each = sym (length-map all (λ (own : Own). own.part)) ∙ (ap length same ∙ many);
      bases_are = λ p h. ap (λ (own : Own). own.bases) (with_there plan seed inputs values parts many p h).1;
      session_is = λ p h. ap (λ (own : Own). own.session) (with_there plan seed inputs values parts many p h).1;
      id = id;
      counts = counts;
      honest = rw same honest;
      enough_mult = omega (arith, mult);
      enough_bits = omega (arith, bit);
      enough_shared = omega (arith, shared);
      enough_keys = omega (arith, key);
    }
