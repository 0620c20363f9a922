-- The plan of a circuit is valid.
use Rattle.std.proofs.Common.{ℕ, zero, suc, ◌≡◌, ◌<◌, ◌≤◌, cond, List, length, take, Option, Some, None, inl, inr, refl, sym, ◌∙◌, ap, subst, arith}
use Rattle.std.specs.Prelude.{slice_get, IfSome, option_map}
use Rattle.std.specs.Option.{unwrap_or}
use Rattle.std.proofs.lemmas.Bool.{cases_lt}
use Rattle.std.proofs.lemmas.Option.{slice_get-map}
use Rattle.mot_base.specs.Limits.{most_gates}
use Rattle.mot_base.proofs.Lists.{same_some, some_at, index_at, taken_at}
use Rattle.share_types.specs.declared.sharing.Sharing.{Sharing}
use Rattle.share_types.specs.declared.sharing.Sharing.TheVariants.{A, B, Y}
use Rattle.share_types.specs.declared.sharing.WireType.{WireType}
use Rattle.share_types.specs.Wires.{sharing_of, wire_type, width_of, party_told}
use Rattle.mixed_language.specs.declared.language.Operation.TheVariants.{Output}
use Rattle.mixed_language.specs.declared.operand.Operand.{Operand}
use Rattle.mixed_language.specs.Language.{gives, states, is_name_slot, arity_of}
use Rattle.mixed_language.specs.Circuit.{Circuit, Statement, wire_at}
use Rattle.mixed_language.specs.Valid.{IsStatement, IsCircuit}
use Rattle.mixed_language.specs.Table.{told_value, receiver_of}
use Rattle.mixed_language.specs.Eval.{operand_width}
use Rattle.mixed_language.proofs.WidthLemmas.{circuit_wide}
use Rattle.plan_gates.specs.Plan.{Gates, IsGate, IsPlan}
use Rattle.gate_plan.specs.declared.wire.Wire.{Wire}
use Rattle.gate_plan.specs.Blocks.{Lowered, single, Stand}
use Rattle.gate_plan.specs.Lowering.{block_of, operand_wire, lowered_to, lowered, wire_handled, width_handled, handled_by, is_keys, is_word, all_gates}
use Rattle.gate_plan.proofs.StandLemmas.{IsShared, later_shared, AllGates, all_none, all_both}
use Rattle.gate_plan.proofs.OperationLemmas.{Named, Names, Tells, named}
use Rattle.gate_plan.proofs.FitLemmas.{shared_same, Sound, fit, output_fits, one_operand}
use Rattle.gate_plan.proofs.HandledLemmas.{handled_own, statement_of}
use Rattle.gate_plan.proofs.PlanLemmas.{start, source, block, next, stands, wire_in, next_start, count}

party_some : (parties : ℕ) (o : Option ℕ) → 0 < parties → IfSome o (λ party. party < parties) →
    unwrap_or o 0 < parties
party_some parties None h f = h
party_some parties (Some party) h f = f

told_some : (parties : ℕ) (o : Option ℕ) → IfSome o (λ party. party < parties) →
    IfSome (party_told (receiver_of o)) (λ party. party < parties)
told_some parties None f = tt
told_some parties (Some party) f = f

own_sharing : (given : Sharing) (width : ℕ) → sharing_of (wire_type given width) ≡ given
own_sharing A width = refl
own_sharing B width = refl
own_sharing Y width = refl

module _ (c : Circuit) (circuit : IsCircuit c) where
  abbrev all : List Statement
  all = c.statements

  abbrev plan : Gates
  plan = lowered c

  -- each value of the statements before a place is given by the gates of its wire
  pub record AreValues (n : ℕ) : Type 0 where
    pub at : (x : ℕ) (t : Statement) (w : WireType) → x < n → slice_get all x ≡ Some t → t.wire ≡ Some w →
        IsShared (sharing_of w) plan.gates (start c n) (block c x t).wire (width_of w)

  module _ (n : ℕ) (s : Statement) (there : slice_get all n ≡ Some s) where
    pub row : IsStatement c.parties (take n all) s
    row = circuit.each n s there

    pub operand_place : (i : ℕ) (o : Operand) → slice_get row.operands i ≡ Some o →
        slice_get s.shape.operands i ≡ Some o.at
    operand_place i o e =
        ap (λ xs. slice_get xs i) row.places
        ∙ (slice_get-map (λ (x : Operand). x.at) row.operands i
        ∙ ap (option_map (λ (x : Operand). x.at)) e)

    -- an operand is the value of an earlier statement, and has its wire
    pub record IsEarlier (i : ℕ) (o : Operand) : Type 0 where
      pub statement : Statement
      pub below : o.at < n
      pub there_at : slice_get all o.at ≡ Some statement
      pub own : statement.wire ≡ Some o.wire
      pub wired : operand_wire (lowered_to c n).wires (slice_get s.shape.operands i) ≡
          (block c o.at statement).wire

    pub earlier : (i : ℕ) (o : Operand) → slice_get row.operands i ≡ Some o → IsEarlier i o
    earlier i o e =
        let found = statement_of (slice_get (take n all) o.at) o.wire (row.uses.found i o e) in
        let place = taken_at all n o.at found.0 found.1 in
        record {
          statement = found.0;
          below = place.0;
          there_at = place.1;
          own = found.2;
          wired = ap (operand_wire (lowered_to c n).wires) (operand_place i o e)
              ∙ ap (λ a. unwrap_or a (single 0)) (wire_in c o.at n found.0 place.1 place.0);
        }

    pub operand_value : AreValues n → (i : ℕ) (o : Operand) → slice_get row.operands i ≡ Some o →
        IsShared row.sharing plan.gates (start c n)
        (operand_wire (lowered_to c n).wires (slice_get s.shape.operands i)) (width_of o.wire)
    operand_value values i o e =
        let t = earlier i o e in
        let is = values.at o.at t.statement o.wire t.below t.there_at t.own in
        subst (λ (a : Wire). IsShared row.sharing plan.gates (start c n) a (width_of o.wire))
        (sym t.wired)
        (subst (λ (given : Sharing). IsShared given plan.gates (start c n) (block c o.at t.statement).wire (width_of o.wire))
        (shared_same row.sharing o.wire (row.uses.shared i o e)) is)

    -- and its width
    operand_low : (o : Operand) → slice_get row.operands 0 ≡ Some o → (source c n s).low ≡ width_of o.wire
    operand_low o e =
        let t = earlier 0 o e in
        let wired : wire_at all o.at ≡ Some o.wire = rw t.there_at t.own in
        ap (operand_width all) (operand_place 0 o e) ∙ ap (λ w. unwrap_or (option_map width_of w) 0) wired

    sound : AreValues n → Sound plan (start c n) s.shape.operation row.sharing
        (source c n s) s.shape.width row.operands row.width
    sound values = record {
      arity = row.arity;
      wide = row.wide;
      shared = row.uses.shared;
      x = λ o e. operand_value values 0 o e;
      y = λ o e. operand_value values 1 o e;
      party = party_some c.parties s.shape.party
          (let some = circuit.some_parties in omega arith) row.numbers.party;
      to = told_some c.parties s.shape.party row.numbers.party;
      constant = row.numbers.fits;
      bare = row.numbers.no_width;
      low = λ o e. operand_low o e;
      operand_wide = λ o e. let t = earlier 0 o e in circuit_wide c circuit o.at o.wire (rw t.there_at t.own);
    }

    -- how the value is shared that an output tells
    pub record IsTold : Type 0 where
      pub operand : Operand
      pub first : slice_get row.operands 0 ≡ Some operand
      pub place : told_value s ≡ operand.at
      pub handled : wire_handled all s ≡ Some operand.wire
      pub unnamed : s.wire ≡ None

    pub told : s.shape.operation ≡ Output → IsTold
    told e =
        let t = one_operand row.operands (row.arity ∙ ap arity_of e) in
        let is = earlier 0 t.x t.first in
        let place = index_at s.shape.operands 0 t.x.at (operand_place 0 t.x t.first) in
        record {
          operand = t.x;
          first = t.first;
          place = place;
          handled = ap (λ op. handled_by op (wire_at all (told_value s)) s.wire) e
              ∙ (ap (wire_at all) place ∙ rw is.there_at is.own);
          unnamed =
              row.wire ∙ ap
              (λ b. cond b (Some (wire_type (gives s.shape.operation row.sharing) row.width)) None)
              (ap (states is_name_slot) e);
        }

    -- the gates of the statement may stand, and give its value, if it has one
    record IsNext : Type 0 where
      gates : AllGates plan (start c n) (block c n s).gates
      value : (w : WireType) → s.wire ≡ Some w → IsShared (sharing_of w) plan.gates (start c (suc n))
          (block c n s).wire (width_of w)

    is_next : AreValues n → Named s.shape.operation → IsNext
    is_next values (Names e untold) =
        let op = s.shape.operation in
        let w = wire_type (gives op row.sharing) row.width in
        let own : s.wire ≡ Some w = row.wire ∙ rw e refl in
        let handled = (handled_own c n s w circuit there own).0 in
        let wide = circuit_wide c circuit n w (rw there own) in
        let some = wide.0 in
        let most = wide.1 in
        let same : (source c n s).width ≡ width_of w = ap width_handled handled in
        let f = fit plan (start c n) op (is_keys (wire_handled all s)) row.sharing
        (source c n s) s.shape.width row.operands row.width row.domain e
        (ap is_keys handled) (sound values) (omega (arith, some, same))
        (omega (arith, most, same)) same
        (stands c n s there) in
        let a = (block c n s).wire in
        let at_end =
        subst (λ k. IsShared (gives op row.sharing) plan.gates k a (source c n s).width)
        (sym (next_start c n s there)) f.value in
        let as_wide =
        subst (IsShared (gives op row.sharing) plan.gates (start c (suc n)) a) same at_end in
        let as_given =
        subst (λ (g : Sharing). IsShared g plan.gates (start c (suc n)) a (width_of w))
        (sym (own_sharing (gives op row.sharing) row.width)) as_wide in
        record {
          gates = f.gates;
          value = λ u f. subst
              (λ (v : WireType). IsShared (sharing_of v) plan.gates (start c (suc n)) a
              (width_of v)) (same_some w u (sym own ∙ f)) as_given;
        }
    is_next values (Tells e) =
        let t = told e in
        let w = t.operand.wire in
        let before = earlier 0 t.operand t.first in
        let wide = circuit_wide c circuit t.operand.at w (rw before.there_at before.own) in
        let value = operand_value values 0 t.operand t.first in
        let shared = shared_same row.sharing w (row.uses.shared 0 t.operand t.first) in
        let keys = is_keys (wire_handled all s) in
        let known =
        subst (λ (g : Sharing). IsShared g plan.gates (start c n) (source c n s).x (width_of w))
        (sym shared) value in
        record {
          gates = subst (λ op. AllGates plan (start c n) (block_of c.parties op keys (source c n s) (start c n)).gates)
              (sym e)
              (output_fits plan (start c n) keys (source c n s) w (ap is_keys t.handled) known wide
              (told_some c.parties s.shape.party row.numbers.party) (ap is_word t.handled)
              (ap width_handled t.handled)
              (subst (λ op. Stand plan.gates (start c n) (block_of c.parties op keys (source c n s) (start c n)).gates) e
              (stands c n s there)));
          value = λ u own. let contrary = sym own ∙ t.unnamed in cc;
        }

  pub record IsValidTo (n : ℕ) : Type 0 where
    pub values : AreValues n
    pub gates : AllGates plan 0 (lowered_to c n).gates

  values_next : (n : ℕ) (s : Statement) (there : slice_get all n ≡ Some s) → AreValues n → IsNext n s there →
      AreValues (suc n)
  values_next n s there before step = record { at = at }
    where
      at : (x : ℕ) (t : Statement) (w : WireType) → x < suc n → slice_get all x ≡ Some t → t.wire ≡ Some w →
          IsShared (sharing_of w) plan.gates (start c (suc n)) (block c x t).wire (width_of w)
      at x t w below here own =
          elim (cases_lt x n) as
          (λ _. IsShared (sharing_of w) plan.gates (start c (suc n)) (block c x t).wire (width_of w)) [
            | inl small ↦
                (let more = next_start c n s there in
                later_shared (sharing_of w) plan.gates (start c n) (start c (suc n)) (block c x t).wire (width_of w)
                (omega (arith, more)) (before.at x t w small here own))
            | inr large ↦
                (let place : n ≡ x = omega (arith, below, large) in
                let same : s ≡ t = same_some s t (sym there ∙ (ap (slice_get all) place ∙ here)) in
                let is = step.value w (ap (λ (u : Statement). u.wire) same ∙ own) in
                subst (λ k. IsShared (sharing_of w) plan.gates (start c (suc n)) (block c k t).wire (width_of w)) place
                (subst (λ (u : Statement). IsShared (sharing_of w) plan.gates (start c (suc n))
                (block c n u).wire (width_of w)) same is))
          ]

  pub valid_to : (n : ℕ) → n ≤ length all → IsValidTo n
  valid_to zero h =
      record {
        values = record { at = λ x t w below here own. absurd (omega (arith, below)) };
        gates =
            all_none plan 0;
      }
  valid_to (suc n) h =
      let here = some_at all n (omega (arith, h)) in
      let before = valid_to n (omega (arith, h)) in
      let step = is_next n here.0 here.1 before.values (named here.0.shape.operation) in
      record {
        values = values_next n here.0 here.1 before.values step;
        gates = subst (λ (l : Lowered). AllGates plan 0 l.gates) (sym (next c n here.0 here.1))
            (all_both plan 0 (lowered_to c n).gates (start c n) (block c n here.0).gates
            (omega arith) before.gates step.gates);
      }

  pub lowered_is_plan : all_gates c ≤ most_gates → IsPlan (lowered c)
  lowered_is_plan few = record {
    some_parties = circuit.some_parties;
    most_parties = circuit.most_parties;
    few = (let all = count c (length c.statements) (omega arith) in omega (arith, all, few));
    each = λ g gate there.
        subst (λ k. IsGate (lowered c) k gate) (omega arith)
        ((valid_to (length c.statements) (omega arith)).gates.each g gate there);
  }
