-- A plan that has no gate of keys has none of a conversion, and then no party enters a share.
use Rattle.std.proofs.Common.{◌≡◌, Bool, true, false, ◌||◌, List, [], ◌∷◌, refl}
use Rattle.std.specs.List.{list_any}
use Rattle.std.proofs.lemmas.Bool.{or_parts}
use Rattle.plan_gates.specs.Gate.{Kind, Gate, ShareAOnline, ShareBOnline, BToA, is_of_keys, is_conversion}
use Rattle.plan_gates.specs.Gate.{gate_of}
use Rattle.plan_gates.specs.Plan.{Gates, has_keys, has_conversions}
use Rattle.plan_gates.specs.Plain.{Outside}
use Rattle.plan_gates.proofs.KeyLemmas.{unconverted_at}
use Rattle.joint_run.specs.Party.{Own}
use Rattle.joint_run.specs.Joint.{Payloads}
use Rattle.joint_run.specs.Parts.{AreShares}

no_kind : (kind : Kind) → is_of_keys kind ≡ false → is_conversion kind ≡ false
no_kind (ShareAOnline party x m) none = cc
no_kind (ShareBOnline party x m) none = cc
no_kind (BToA x) none = cc
no_kind _ none = refl

neither : (a b : Bool) → a ≡ false → b ≡ false → (a || b) ≡ false
neither a b first second = rw (first, second) refl

no_gate : (gates : List Gate) → list_any (λ gate. is_of_keys gate.kind) gates ≡ false → list_any (λ gate. is_conversion gate.kind) gates ≡ false
no_gate [] none = refl
no_gate (gate ∷ gates) none =
    let parts = or_parts (is_of_keys gate.kind) (list_any (λ (gate : Gate). is_of_keys gate.kind) gates) none in
    neither (is_conversion gate.kind) (list_any (λ (gate : Gate). is_conversion gate.kind) gates) (no_kind gate.kind parts.0) (no_gate gates parts.1)

pub unconverted : (plan : Gates) → has_keys plan ≡ false → has_conversions plan ≡ false
unconverted plan none = no_gate plan.gates none

pub no_shares : (plan : Gates) (owns : List Own) (table : Payloads) (outside : Outside) → has_conversions plan ≡ false → AreShares plan owns table outside
no_shares plan owns table outside none = record {
  words = λ o party x m w there p h. (let contrary = unconverted_at plan o (gate_of (ShareAOnline party x m) w) none there in absurd (cc));
  vectors = λ o party x m w there p h. (let contrary = unconverted_at plan o (gate_of (ShareBOnline party x m) w) none there in absurd (cc));
}
