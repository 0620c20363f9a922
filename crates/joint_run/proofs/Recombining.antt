-- In a joint run with honest records, the parties' values of each gate recombine to its plain number.
use Rattle.std.proofs.Common.{ℕ, ◌≡◌, ◌<◌, ◌%◌, ◌^◌, List, length, Some, refl, sym, ◌∙◌, ap, ap₂, subst, false}
use Rattle.std.specs.Prelude.{slice_get, slice_index, bit_xor}
use Rattle.std.proofs.Math.Nat.{mod-eq_of_lt}
use Rattle.share_types.specs.declared.needs.Needs.{Needs}
use Rattle.share_types.specs.Sums.{sum_to, xor_to}
use Rattle.share_types.specs.Wires.{includes}
use Rattle.share_types.proofs.Parties.{sum_to_same, xor_to_same}
use Rattle.plan_gates.specs.Gate.{Kind, Gate, Given, Word, Vector, Mask, Online, Table, OutA, OutB, gives, width_at, word as word_use, vector as vector_use, mask as mask_use, online as online_use, ShareAOnline, ShareBOnline, gate_of as gate_is}
use Rattle.plan_gates.specs.Gate as spec
use Rattle.plan_gates.specs.Plan.{Gates, IsPlan, IsOperand, IsWire, StandsAt}
use Rattle.plan_gates.specs.Plain.{Outside, number_at, number_of, seen_of, plain_numbers}
use Rattle.bmr_keys.specs.Wires.{IsActive}
use Rattle.joint_run.specs.Party as party
use Rattle.joint_run.specs.Party.{Own, Value, Hand, Rounds, wires_before, party_value, value_at, gate_value, word_share, vector_share, mask_part, active_part, Told}
use Rattle.joint_run.specs.Joint.{Payloads, column, IsJoint}
use Rattle.joint_run.specs.Honest.{own_at, offset_of, AreHonest, AreInputs, RecombineBy, Recombine}
use Rattle.joint_run.specs.Parts.{AreShares, value_in, share_of, share_at, with_shares}
use Rattle.joint_run.specs.Laws.{EveryGateRecombines, EveryWireRecombines, SharesAreLawful}
use Rattle.joint_run.proofs.Causal.{strong}
use Rattle.joint_run.proofs.Numbers.{plain, numbered as number, plain_get, plain_is, number_small}
use Rattle.joint_run.proofs.Narrow.{operand_narrow}
use Rattle.joint_run.proofs.WiresRight.{seen_wire, wire_right, wire_inside, wire_fits}
use Rattle.joint_run.proofs.Sharing.{cut}
use Rattle.joint_run.proofs.Run.{word_is, vector_is, sent, wide_is}
use Rattle.joint_run.proofs.Standing.{hands, Hear, Stand}
use Rattle.joint_run.proofs.Dealing.{triples_multiply, bit_triples_multiply, shared_bits_match}
use Rattle.joint_run.proofs.WordsRight.{word_right, told_word}
use Rattle.joint_run.proofs.VectorsRight.{vector_right, told_vector}
use Rattle.mot_base.proofs.Lists.{inside_of, same_some as some_is}

module _ (plan : Gates) (owns : List Own) (bases : Needs) (session : ℕ) (outside : Outside) (table : Payloads)
    (valid : IsPlan plan) (honest : AreHonest plan owns bases session) (inputs_are : AreInputs plan owns outside.inputs) (parts_are : AreShares plan owns table outside) (joint : IsJoint plan owns table) where
  abbrev n : ℕ
  n = plan.parties

  abbrev own : ℕ → Own
  own p = own_at owns p

  abbrev got : ℕ → ℕ → Rounds
  got g p = column table p g

  abbrev wires : ℕ → ℕ → List Value
  wires g p = wires_before plan p (own p) (column table p) g

  abbrev at : ℕ → ℕ → Hand
  at g = hands plan own (wires g) g

  abbrev offset : ℕ → ℕ
  offset p = (own p).part.offset % 2 ^ 128

  abbrev value : ℕ → ℕ → Value
  value g p = party_value plan p (own p) (column table p) g

  abbrev numbered : ℕ → ℕ
  numbered g = number plan outside g

  -- ---- what a kind of gate is shown

  -- the values of a gate recombine to its number
  abbrev Right : ℕ → Type 0
  Right g = (gate : Gate) → slice_get plan.gates g ≡ Some gate → Recombine gate n (value g) (numbered g)

  abbrev AreRight : ℕ → Type 0
  AreRight g = (k : ℕ) → k < g → Right k

  heard : (g : ℕ) (gate : Gate) → slice_get plan.gates g ≡ Some gate → Hear plan gate.kind (at g) (got g)
  heard g gate found = record { sent = λ r p q a b apart. sent plan owns table honest.each joint g r p q gate a b apart found }

  as_given : (given : Given) (g : ℕ) (gate : Gate) → gives gate.kind ≡ given → Recombine gate n (value g) (numbered g) →
      RecombineBy given gate n (value g) (numbered g)
  as_given given g gate is right = subst (λ t. RecombineBy t gate n (value g) (numbered g)) is right

  word_operand : (g x : ℕ) → AreRight g → IsOperand plan.gates g (word_use x) →
      sum_to n (λ p. party.word (at g p) x) % 2 ^ 64 ≡ slice_index (plain plan outside g) x % 2 ^ 64
  word_operand g x right (less, gate, found, word) =
      ap (λ s. s % 2 ^ 64) (sum_to_same n (λ p. party.word (at g p) x) (λ p. word_share (value x p)) (λ p h. word_is plan owns table honest.each joint g x p less))
      ∙ (as_given Word x gate word (right x less gate found) ∙ ap (λ v. v % 2 ^ 64) (sym (plain_is plan outside g x less)))

  vector_operand : (g x : ℕ) → AreRight g → IsOperand plan.gates g (vector_use x) →
      (xor_to n (λ p. party.vector (at g p) x) ≡ slice_index (plain plan outside g) x) × ((p : ℕ) → p < n → party.vector (at g p) x < 2 ^ width_at plan.gates x)
  vector_operand g x right (less, gate, found, vector) =
      let (is, small) = as_given Vector x gate vector (right x less gate found) in
      let same : (p : ℕ) → party.vector (at g p) x ≡ vector_share (value x p) = λ p. vector_is plan owns table honest.each joint g x p less in (
        xor_to_same n (λ p. party.vector (at g p) x) (λ p. vector_share (value x p)) (λ p h. same p) ∙ (is ∙ sym (plain_is plan outside g x less)),
        λ p h. subst (λ w. party.vector (at g p) x < 2 ^ w) (sym (wide_is plan x gate found)) (subst (λ s. s < 2 ^ gate.width) (sym (same p)) (small p h)),
      )

  wire_operand : (g m o : ℕ) → IsWire plan.gates m o → m < g → o < g → (p : ℕ) → p < n →
      IsActive n offset (λ q. party.mask (at g q) m) (bit_xor (slice_index (plain plan outside g) o) (slice_index (plain plan outside g) m)) (party.online (at g p) o)
  wire_operand g m o wire below before p a =
      subst (λ x. IsActive n offset (λ q. party.mask (at g q) m) x (party.online (at g p) o))
      (sym (ap₂ bit_xor (plain_is plan outside g o before) (plain_is plan outside g m below)))
      (seen_wire plan owns bases session outside table valid honest inputs_are parts_are joint g g m o p (bit_xor (numbered o) (numbered m)) below before
      (wire_right plan owns bases session outside table valid honest inputs_are parts_are joint m o wire p a))

  stands : (g : ℕ) (gate : Gate) → AreRight g → slice_get plan.gates g ≡ Some gate → Stand plan gate.kind g outside.inputs (plain plan outside g) (at g)
  stands g gate right found = record {
    words = λ x is. word_operand g x right is;
    vectors = λ x is. vector_operand g x right is;
    wires = λ m o wire below before p a. wire_operand g m o wire below before p a;
    masks = λ x is. operand_narrow plan owns table valid honest.each joint g (mask_use x) is;
    onlines = λ x is. operand_narrow plan owns table valid honest.each joint g (online_use x) is;
    brought = λ t takes. inputs_are g gate t found takes;
    triples = λ some. triples_multiply plan owns bases session honest (wires g) g (inside_of plan.gates g gate found) some;
    bit_triples = λ needed. bit_triples_multiply plan owns bases session honest (wires g) g (inside_of plan.gates g gate found) needed;
    shared_bits = λ w needed k less. shared_bits_match plan owns bases session honest (wires g) g (inside_of plan.gates g gate found) w needed k less;
  }

  -- ---- all kinds

  value_is : (g p : ℕ) (gate : Gate) → slice_get plan.gates g ≡ Some gate → value g p ≡ gate_value gate.kind (at g p) (got g p)
  value_is g p gate found = ap (λ o. value_at o (at g p) (got g p)) found

  word_case : (g : ℕ) (gate : Gate) → AreRight g → slice_get plan.gates g ≡ Some gate → gives gate.kind ≡ Word → RecombineBy Word gate n (value g) (numbered g)
  word_case g gate right found word =
      ap (λ s. s % 2 ^ 64) (sum_to_same n (λ p. word_share (value g p)) (λ p. word_share (gate_value gate.kind (at g p) (got g p))) (λ p h. ap word_share (value_is g p gate found)))
      ∙ (word_right plan valid outside (plain plan outside g) g own (wires g) (got g) gate.kind gate.width found (heard g gate found) (stands g gate right found) word
      ∙ sym (ap (λ o. number_at plan.gates outside (plain plan outside g) o % 2 ^ 64) found
      ∙ cut (number_of gate.kind (seen_of plan.gates outside (plain plan outside g) gate.kind)) gate.width ((valid.each g gate found).word word)))

  vector_case : (g : ℕ) (gate : Gate) → AreRight g → slice_get plan.gates g ≡ Some gate → gives gate.kind ≡ Vector → RecombineBy Vector gate n (value g) (numbered g)
  vector_case g gate right found vector =
      let (is, small) = vector_right plan valid outside (plain plan outside g) g own (wires g) (got g) gate.kind gate.width found (heard g gate found) (stands g gate right found) vector in (
        xor_to_same n (λ p. vector_share (value g p)) (λ p. vector_share (gate_value gate.kind (at g p) (got g p))) (λ p h. ap vector_share (value_is g p gate found))
            ∙ (is ∙ (ap (λ w. number_of gate.kind (seen_of plan.gates outside (plain plan outside g) gate.kind) % 2 ^ w) (wide_is plan g gate found)
            ∙ sym (ap (number_at plan.gates outside (plain plan outside g)) found))),
        λ p h. subst (λ w. vector_share (value g p) < 2 ^ w) (wide_is plan g gate found)
            (subst (λ v. vector_share v < 2 ^ width_at plan.gates g) (sym (value_is g p gate found)) (small p h)),
      )

  told_case : (g : ℕ) (kind : Kind) (width : ℕ) → AreRight g → slice_get plan.gates g ≡ Some (record { kind = kind; width = width }) → gives kind ≡ spec.Told →
      RecombineBy spec.Told (record { kind = kind; width = width }) n (value g) (numbered g)
  told_case g (OutA x to) width right found told p a =
      let gate : Gate = record { kind = OutA x to; width = width } in
      value_is g p gate found
      ∙ told_word plan valid outside (plain plan outside g) g own (wires g) (got g) x width p to a found (heard g gate found) (stands g gate right found) (includes to p) refl
  told_case g (OutB x to) width right found told p a =
      let gate : Gate = record { kind = OutB x to; width = width } in
      value_is g p gate found
      ∙ told_vector plan valid outside (plain plan outside g) g own (wires g) (got g) x width p to a found (heard g gate found) (stands g gate right found) (includes to p) refl
  told_case g _ width right found told p a = cc

  step : (g : ℕ) → AreRight g → Right g
  step g right gate found = by (gives gate.kind) refl
    where
      by : (given : Given) → gives gate.kind ≡ given → Recombine gate n (value g) (numbered g)
      by Word is = subst (λ t. RecombineBy t gate n (value g) (numbered g)) (sym is) (word_case g gate right found is)
      by Vector is = subst (λ t. RecombineBy t gate n (value g) (numbered g)) (sym is) (vector_case g gate right found is)
      by spec.Told is = subst (λ t. RecombineBy t gate n (value g) (numbered g)) (sym is) (told_case g gate.kind gate.width right found is)
      by Mask is = subst (λ t. RecombineBy t gate n (value g) (numbered g)) (sym is) tt
      by Online is = subst (λ t. RecombineBy t gate n (value g) (numbered g)) (sym is) tt
      by Table is = subst (λ t. RecombineBy t gate n (value g) (numbered g)) (sym is) tt

  whole : (g : ℕ) (here : Gate) (x : ℕ) → slice_get plan.gates g ≡ Some here →
      slice_get (plain plan outside (length plan.gates)) g ≡ Some x → Recombine here n (value g) x
  whole g here x found there =
      let is : numbered g ≡ x = some_is (numbered g) x (sym (plain_get plan outside (length plan.gates) g (inside_of plan.gates g here found)) ∙ there) in
      subst (λ v. Recombine here n (value g) v) is (strong Right step g here found)

pub every_gate_recombines : EveryGateRecombines
every_gate_recombines plan owns bases session outside table valid honest given parts_are joint =
    whole plan owns bases session outside table valid honest given parts_are joint

pub every_wire_recombines : EveryWireRecombines
every_wire_recombines plan owns bases session outside table valid honest given parts_are joint m o wire p h =
    let count = length plan.gates in
    let places = wire_inside plan m o wire in
    let fit = wire_fits plan owns bases session outside table valid honest given parts_are joint m o wire in record {
      zeros = fit.zeros;
      active = subst (λ x. IsActive plan.parties (offset_of owns) (λ q. mask_part plan.parties (party_value plan q (own_at owns q) (column table q) m)) x
          (active_part plan.parties (party_value plan p (own_at owns p) (column table p) o)))
          (sym (ap₂ bit_xor (plain_is plan outside count o places.1) (plain_is plan outside count m places.0)))
          (wire_right plan owns bases session outside table valid honest given parts_are joint m o wire p h);
      shares = fit.shares;
    }

-- ---- the parties' own shares

module _ (plan : Gates) (owns : List Own) (bases : Needs) (session : ℕ) (inputs : List ℕ) (table : Payloads)
    (valid : IsPlan plan) (honest : AreHonest plan owns bases session) (given : AreInputs plan owns inputs) (joint : IsJoint plan owns table) where
  abbrev outside : Outside
  outside = with_shares plan owns table inputs

  abbrev of_all : ℕ → ℕ → Value
  of_all x p = value_in plan owns table p x

  part_is : (given_as : Given) (o x : ℕ) → IsOperand plan.gates o (record { given = given_as; gate = x }) → (p : ℕ) → outside.parts p x ≡ share_of given_as (of_all x p)
  part_is given_as o x (less, gate, found, is) p =
      ap (λ o. share_at o (of_all x p)) found ∙ ap (λ t. share_of t (of_all x p)) is

  shares : AreShares plan owns table outside
  shares = record {
    words = λ o party x m w found p h. part_is Word o x (valid.each o (gate_is (ShareAOnline party x m) w) found).uses.0 p;
    vectors = λ o party x m w found p h. part_is Vector o x (valid.each o (gate_is (ShareBOnline party x m) w) found).uses.0 p;
  }

  abbrev count : ℕ
  count = length plan.gates

  recombined : (x : ℕ) (gate : Gate) → slice_get plan.gates x ≡ Some gate → Recombine gate plan.parties (of_all x) (number plan outside x)
  recombined x gate found =
      every_gate_recombines plan owns bases session outside table valid honest given shares joint x gate (number plan outside x) found
      (plain_get plan outside count x (inside_of plan.gates x gate found))

  number_here : (x : ℕ) (gate : Gate) → slice_get plan.gates x ≡ Some gate → slice_index (plain_numbers plan outside) x ≡ number plan outside x
  number_here x gate found = plain_is plan outside count x (inside_of plan.gates x gate found)

  lawful_words : (o party x m w : ℕ) → StandsAt plan.gates o (ShareAOnline party x m) w →
      sum_to plan.parties (λ p. outside.parts p x) % 2 ^ 64 ≡ slice_index (plain_numbers plan outside) x
  lawful_words o party x m w stands =
      let used = (valid.each o (gate_is (ShareAOnline party x m) w) stands).uses.0 in
      let gate = used.1 in
      let found = used.2 in
      let word = used.3 in
      let sums : sum_to plan.parties (λ p. word_share (of_all x p)) % 2 ^ 64 ≡ number plan outside x % 2 ^ 64 =
      subst (λ t. RecombineBy t gate plan.parties (of_all x) (number plan outside x)) word (recombined x gate found) in
      let wide : gate.width ≡ 64 = (valid.each x gate found).word word in
      let small : number plan outside x < 2 ^ 64 = subst (λ w. number plan outside x < 2 ^ w) (wide_is plan x gate found ∙ wide) (number_small plan outside x gate found) in
      ap (λ s. s % 2 ^ 64) (sum_to_same plan.parties (λ p. outside.parts p x) (λ p. word_share (of_all x p)) (λ p h. part_is Word o x used p))
      ∙ (sums ∙ (mod-eq_of_lt small ∙ sym (number_here x gate found)))

  lawful_vectors : (o party x m w : ℕ) → StandsAt plan.gates o (ShareBOnline party x m) w →
      xor_to plan.parties (λ p. outside.parts p x) % 2 ^ w ≡ slice_index (plain_numbers plan outside) x
  lawful_vectors o party x m w stands =
      let is = valid.each o (gate_is (ShareBOnline party x m) w) stands in
      let used = is.uses.0 in
      let gate = used.1 in
      let found = used.2 in
      let vector = used.3 in
      let all = subst (λ t. RecombineBy t gate plan.parties (of_all x) (number plan outside x)) vector (recombined x gate found) in
      let small : number plan outside x < 2 ^ w = subst (λ s. number plan outside x < 2 ^ s) is.fit.0 (number_small plan outside x gate found) in
      ap (λ s. s % 2 ^ w) (xor_to_same plan.parties (λ p. outside.parts p x) (λ p. vector_share (of_all x p)) (λ p h. part_is Vector o x used p) ∙ all.0)
      ∙ (mod-eq_of_lt small ∙ sym (number_here x gate found))

pub shares_are_lawful : SharesAreLawful
shares_are_lawful plan owns bases session inputs table valid honest given joint = (
  shares plan owns bases session inputs table valid honest given joint,
  record {
    words = lawful_words plan owns bases session inputs table valid honest given joint;
    vectors = lawful_vectors plan owns bases session inputs table valid honest given joint;
  },
)
