-- What code adds to a plan in the making, step by step.
use Rattle.std.proofs.Common.{ℕ, ◌≡◌, ◌+◌, true, List, ◌++◌, length, sym, ◌∙◌, ap, ap₂, append_assoc}
use Rattle.std.proofs.lemmas.List.{length-append}
use Rattle.plan_gates.specs.Gate.{Gate}
use Rattle.plan_gates.specs.Plan.{Gates, with_gates}
use Rattle.gate_plan.specs.declared.wire.Wire.{Wire}
use Rattle.gate_plan.specs.Blocks.{xored, anded, sliced, joined}

-- a plan is another with some gates more
pub record Adds (p q : Gates) (more : List Gate) : Type 0 where
  pub is : q ≡ with_gates p more

pub first_added : {p q : Gates} {xs : List Gate} → q ≡ with_gates p xs → Adds p q xs
first_added e = record { is = e }

pub then_added : {p q r : Gates} {xs ys : List Gate} → Adds p q xs → Adds q r ys → Adds p r (xs ++ ys)
then_added {p} {q} {r} {xs} {ys} f g = record {
  is = g.is ∙ (ap (λ (z : Gates). with_gates z ys) f.is
      ∙ ap (λ (gates : List Gate). record p { gates = gates }) (append_assoc p.gates xs ys));
}

pub length_added : {p q : Gates} {xs : List Gate} → Adds p q xs → length q.gates ≡ length p.gates + length xs
length_added {p} {q} {xs} f = ap (λ (z : Gates). length z.gates) f.is ∙ length-append p.gates xs

-- gates that depend on the number of the first
pub added_at : {p q r : Gates} {xs : List Gate} (f : ℕ → List Gate) (m : ℕ) → Adds p q xs →
    m ≡ length p.gates + length xs → r ≡ with_gates q (f (length q.gates)) → Adds p r (xs ++ f m)
added_at {p} {q} {r} {xs} f m before place e =
    then_added before (first_added (e ∙ ap (λ k. with_gates q (f k)) (length_added before ∙ sym place)))

pub given_at : {p q : Gates} {xs : List Gate} (f : ℕ → Wire) (m : ℕ) {w : Wire} → Adds p q xs →
    m ≡ length p.gates + length xs → w ≡ f (length q.gates) → w ≡ f m
given_at f m before place e = e ∙ ap f (length_added before ∙ sym place)

pub slice_more : {p q r : Gates} {xs : List Gate} (m w : ℕ) (a : Wire) (at : ℕ) → Adds p q xs →
    m ≡ length p.gates + length xs → r ≡ with_gates q (sliced true (length q.gates) w a at).gates →
    Adds p r (xs ++ (sliced true m w a at).gates)
slice_more m w a at before place e = added_at (λ k. (sliced true k w a at).gates) m before place e

pub xor_more : {p q r : Gates} {xs : List Gate} {a b : Wire} (m w : ℕ) (c d : Wire) → Adds p q xs →
    m ≡ length p.gates + length xs → a ≡ c → b ≡ d →
    r ≡ with_gates q (xored true (length q.gates) w a b).gates → Adds p r (xs ++ (xored true m w c d).gates)
xor_more {p} {q} m w c d before place first second e =
    added_at (λ k. (xored true k w c d).gates) m before place
    (e ∙ ap₂ (λ (x y : Wire). with_gates q (xored true (length q.gates) w x y).gates) first second)

pub and_more : {p q r : Gates} {xs : List Gate} {a b : Wire} (m w : ℕ) (c d : Wire) → Adds p q xs →
    m ≡ length p.gates + length xs → a ≡ c → b ≡ d →
    r ≡ with_gates q (anded true (length q.gates) w a b).gates → Adds p r (xs ++ (anded true m w c d).gates)
and_more {p} {q} m w c d before place first second e =
    added_at (λ k. (anded true k w c d).gates) m before place
    (e ∙ ap₂ (λ (x y : Wire). with_gates q (anded true (length q.gates) w x y).gates) first second)

pub join_more : {p q r : Gates} {xs : List Gate} {a b : Wire} (m w : ℕ) (c d : Wire) → Adds p q xs →
    m ≡ length p.gates + length xs → a ≡ c → b ≡ d →
    r ≡ with_gates q (joined true (length q.gates) w a b).gates → Adds p r (xs ++ (joined true m w c d).gates)
join_more {p} {q} m w c d before place first second e =
    added_at (λ k. (joined true k w c d).gates) m before place
    (e ∙ ap₂ (λ (x y : Wire). with_gates q (joined true (length q.gates) w x y).gates) first second)
