-- Of all that a party sends at a gate, the messages of one round are those of the equations for that round.
use Rattle.std.proofs.Common.{ℕ, zero, suc, ◌≡◌, ◌≢◌, ◌≤◌, eqb, Bool, true, false, cond, List, [], ◌∷◌, ◌++◌, append-nil, length, map, filter, Option, Some, None, refl, sym, ap, ap₂, ◌∙◌, inl, inr, arith}
use Rattle.std.specs.Prelude.{◌==◌, ◌&&◌, nat_lt, slice_get, is_some}
use Rattle.std.specs.List.{flat_map}
use Rattle.std.specs.Option.{unwrap_or}
use Rattle.std.proofs.lemmas.Bool.{eqb-true, eqb-false, eq-eqb, ne_eqb, cases_lt}
use Rattle.std.proofs.lemmas.Bool.Decides.{nat_tests}
use Rattle.std.proofs.lemmas.Grind.{flat_map-append}
use Rattle.std.proofs.lemmas.List.Elements.{filter-append}
use Rattle.share_types.specs.Sums.{each}
use Rattle.plan_gates.specs.Plan.{Gates}
use Rattle.plan_gates.specs.declared.message.Message.{Message}
use Rattle.plan_gates.specs.Messages.{message, messages_at, are_two, hears, rounds, stages, sent_in}
use Rattle.plan_gates.proofs.MessageLemmas.{in_rounds}
use Rattle.joint_run.specs.Party.{Rounds, Hand}
use Rattle.gate_tasks.specs.declared.outgoing.Out.{Out}
use Rattle.gate_tasks.specs.Stage.{receivers, out_to, outs_in, outs_of}
use Rattle.party_stages.specs.Following.{outs_before}
use Rattle.party_engine.specs.Saying.{at_gate}
use Rattle.party_engine.specs.Reporting.{in_round}
use Rattle.party_engine.specs.Run.{at_round}

-- ---- one round

in_own : (h : Hand) (got : Rounds) (r : ℕ) (tos : List ℕ) → in_round r (map (out_to h got r) tos) ≡ map (out_to h got r) tos
in_own h got r [] = refl
in_own h got r (to ∷ tos) = rw (eq-eqb r r refl) (ap (λ xs. out_to h got r to ∷ xs) (in_own h got r tos))

in_other : (h : Hand) (got : Rounds) (r other : ℕ) (tos : List ℕ) → other ≢ r → in_round r (map (out_to h got other) tos) ≡ []
in_other h got r other [] ne = refl
in_other h got r other (to ∷ tos) ne = rw (ne_eqb other r ne) (in_other h got r other tos ne)

-- ---- some of the rounds

nothing : (c d : Bool) (outs : List Out) → d ≡ false → cond (c && d) outs [] ≡ []
nothing true d outs is = rw is refl
nothing false d outs is = refl

nothing_first : (c d : Bool) (outs : List Out) → c ≡ false → cond (c && d) outs [] ≡ []
nothing_first c d outs is = rw is refl

module _ (h : Hand) (got : Rounds) (r : ℕ) (test : ℕ → Bool) where
  one_more : (n : ℕ) (c : Bool) → test n ≡ c → (d : Bool) → eqb n r ≡ d →
      in_round r (flat_map (outs_in h got) (filter test (each n (λ k. k)))) ≡ cond (test r && nat_lt r n) (outs_in h got r) [] →
      in_round r (flat_map (outs_in h got) (filter test (each n (λ k. k)))) ++ in_round r (flat_map (outs_in h got) (cond c (n ∷ []) [])) ≡ cond (test r && nat_lt r (suc n)) (outs_in h got r) []
  one_more n true is true same before =
      let at : n ≡ r = eqb-true n r same in
      let none : nat_lt r n ≡ false = grind (arith, nat_tests) in
      let less : nat_lt r (suc n) ≡ true = grind (arith, nat_tests) in
      let tested : test r ≡ true = ap test (sym at) ∙ is in
      let first : in_round r (flat_map (outs_in h got) (filter test (each n (λ k. k)))) ≡ [] = rw (tested, none) at before in
      let last : in_round r (flat_map (outs_in h got) (n ∷ [])) ≡ outs_in h got r =
      ap (in_round r) (append-nil (outs_in h got n)) ∙ ap (λ k. in_round r (outs_in h got k)) at ∙ in_own h got r (receivers h.plan h.me h.gate r) in
      rw (tested, less) (ap₂ (λ xs ys. xs ++ ys) first last)
  one_more n true is false other before =
      let ne : n ≢ r = eqb-false n r other in
      let keeps : nat_lt r (suc n) ≡ nat_lt r n = grind (arith, nat_tests) in
      let last : in_round r (flat_map (outs_in h got) (n ∷ [])) ≡ [] =
      ap (in_round r) (append-nil (outs_in h got n)) ∙ in_other h got r n (receivers h.plan h.me h.gate n) ne in
      rw keeps (ap₂ (λ xs ys. xs ++ ys) before last ∙ append-nil (cond (test r && nat_lt r n) (outs_in h got r) []))
  one_more n false is true same before =
      let at : n ≡ r = eqb-true n r same in
      let tested : test r ≡ false = ap test (sym at) ∙ is in
      let first : in_round r (flat_map (outs_in h got) (filter test (each n (λ k. k)))) ≡ [] = rw tested at before in
      rw tested (ap (λ xs. xs ++ []) first)
  one_more n false is false other before =
      let ne : n ≢ r = eqb-false n r other in
      let keeps : nat_lt r (suc n) ≡ nat_lt r n = grind (arith, nat_tests) in
      rw keeps (append-nil (in_round r (flat_map (outs_in h got) (filter test (each n (λ k. k))))) ∙ before)

  of_some : (n : ℕ) → in_round r (flat_map (outs_in h got) (filter test (each n (λ k. k)))) ≡ cond (test r && nat_lt r n) (outs_in h got r) []
  of_some zero = sym (nothing (test r) (nat_lt r zero) (outs_in h got r) (let none : nat_lt r zero ≡ false = grind (arith, nat_tests) in none))
  of_some (suc n) =
      ap (λ xs. in_round r (flat_map (outs_in h got) xs)) (filter-append test (each n (λ k. k)) (n ∷ []))
      ∙ ap (in_round r) (flat_map-append (outs_in h got) (filter test (each n (λ k. k))) (filter test (n ∷ [])))
      ∙ filter-append (λ (out : Out). out.round == r) (flat_map (outs_in h got) (filter test (each n (λ k. k)))) (flat_map (outs_in h got) (filter test (n ∷ [])))
      ∙ one_more n (test n) refl (eqb n r) refl (of_some n)

-- ---- the first stages

module _ (h : Hand) (got : Rounds) (r : ℕ) where
  abbrev sent : ℕ
  sent = sent_in h.plan h.me h.gate r

  abbrev all : ℕ
  all = rounds h.plan h.gate

  stage_more : (s : ℕ) (c : Bool) → eqb sent s ≡ c → in_round r (outs_before h got s) ≡ cond (nat_lt sent s && nat_lt r all) (outs_in h got r) [] →
      in_round r (outs_before h got s) ++ cond (c && nat_lt r all) (outs_in h got r) [] ≡ cond (nat_lt sent (suc s) && nat_lt r all) (outs_in h got r) []
  stage_more s true is before =
      let at : sent ≡ s = eqb-true sent s is in
      let none : nat_lt sent s ≡ false = grind (arith, nat_tests) in
      let less : nat_lt sent (suc s) ≡ true = grind (arith, nat_tests) in
      let first : in_round r (outs_before h got s) ≡ [] = rw none at before in
      rw less (ap (λ xs. xs ++ cond (nat_lt r all) (outs_in h got r) []) first)
  stage_more s false is before =
      let ne : sent ≢ s = eqb-false sent s is in
      let keeps : nat_lt sent (suc s) ≡ nat_lt sent s = grind (arith, nat_tests) in
      rw keeps (append-nil (in_round r (outs_before h got s)) ∙ before)

  of_stages : (s : ℕ) → in_round r (outs_before h got s) ≡ cond (nat_lt sent s && nat_lt r all) (outs_in h got r) []
  of_stages zero = sym (nothing_first (nat_lt sent zero) (nat_lt r all) (outs_in h got r) (let none : nat_lt sent zero ≡ false = grind (arith, nat_tests) in none))
  of_stages (suc s) =
      filter-append (λ (out : Out). out.round == r) (outs_before h got s) (outs_of h got s)
      ∙ ap (λ ys. in_round r (outs_before h got s) ++ ys) (of_some h got r (λ round. sent_in h.plan h.me h.gate round == s) all)
      ∙ stage_more s (eqb sent s) refl (of_stages s)

-- ---- all stages

fewer : (test : ℕ → Bool) (m n : ℕ) → m ≤ n → length (filter test (each m (λ k. k))) ≤ length (filter test (each n (λ k. k)))
fewer test m zero le = let none : m ≡ 0 = omega (arith, le) in rw none (omega arith)
fewer test m (suc n) le = elim (cases_lt m (suc n)) [
  | inl less ↦ (let rest = fewer test m n (omega (arith, less)) in let more = filter-append test (each n (λ k. k)) (n ∷ []) in rw more (longer (filter test (each n (λ k. k))) (filter test (n ∷ [])) rest))
  | inr same ↦ (let is : m ≡ suc n = omega (arith, le, same) in rw is (omega arith))
] where
  longer : (xs ys : List ℕ) → length (filter test (each m (λ k. k))) ≤ length xs → length (filter test (each m (λ k. k))) ≤ length (xs ++ ys)
  longer xs ys h = let both = long xs ys in omega (arith, h, both) where
    long : (xs ys : List ℕ) → length xs ≤ length (xs ++ ys)
    long [] ys = omega arith
    long (x ∷ xs) ys = let rest = long xs ys in omega (arith, rest)

no_message : (plan : Gates) (me g r to : ℕ) → rounds plan g ≤ r → (o : Option Message) → message plan me to g r ≡ o → is_some (message plan me to g r) ≡ false
no_message plan me g r to past None is = ap is_some is
no_message plan me g r to past (Some m) is = by (are_two plan.parties me to) refl where
  by : (c : Bool) → are_two plan.parties me to ≡ c → is_some (message plan me to g r) ≡ false
  by false e = ap is_some (ap (λ t. cond t (unwrap_or (slice_get (messages_at plan (slice_get plan.gates g) me to) r) None) None) e)
  by true e =
      let here : unwrap_or (slice_get (messages_at plan (slice_get plan.gates g) me to) r) None ≡ Some m =
      sym (ap (λ t. cond t (unwrap_or (slice_get (messages_at plan (slice_get plan.gates g) me to) r) None) None) e) ∙ is in
      let less = in_rounds plan g me to r m here in
      absurd (omega (arith, less, past))

none_of : (test : ℕ → Bool) (xs : List ℕ) → ((x : ℕ) → test x ≡ false) → filter test xs ≡ []
none_of test [] no_one = refl
none_of test (x ∷ xs) no_one = rw (no_one x) (none_of test xs no_one)

pub no_round : (h : Hand) (got : Rounds) (r : ℕ) → rounds h.plan h.gate ≤ r → outs_in h got r ≡ []
no_round h got r past =
    ap (map (out_to h got r))
    (none_of (λ to. is_some (message h.plan h.me to h.gate r)) (each h.plan.parties (λ q. q)) (λ to. no_message h.plan h.me h.gate r to past (message h.plan h.me to h.gate r) refl))

-- of all that a party sends at a gate, those of a round
pub round_of : (h : Hand) (got : Rounds) (r : ℕ) → in_round r (outs_before h got (stages h.plan h.me h.gate)) ≡ outs_in h got r
round_of h got r = elim (cases_lt r (rounds h.plan h.gate)) [
  | inl less ↦ (
      let some = fewer (hears h.plan h.me h.gate) r (rounds h.plan h.gate) (omega (arith, less)) in
      let before : nat_lt (sent_in h.plan h.me h.gate r) (stages h.plan h.me h.gate) ≡ true = grind (arith, nat_tests) in
      let inside : nat_lt r (rounds h.plan h.gate) ≡ true = grind (arith, nat_tests) in
      of_stages h got r (stages h.plan h.me h.gate) ∙ (rw (before, inside) refl))
  | inr past ↦ (
      let outside : nat_lt r (rounds h.plan h.gate) ≡ false = grind (arith, nat_tests) in
      of_stages h got r (stages h.plan h.me h.gate)
      ∙ nothing (nat_lt (sent_in h.plan h.me h.gate r) (stages h.plan h.me h.gate)) (nat_lt r (rounds h.plan h.gate)) (outs_in h got r) outside
      ∙ sym (no_round h got r past))
]

-- ---- of a gate and a round

pub by_both : (g r : ℕ) (outs : List Out) → at_round g r outs ≡ in_round r (at_gate g outs)
by_both g r [] = refl
by_both g r (out ∷ outs) = by (eqb out.gate g) (by_both g r outs) where
  by : (c : Bool) → at_round g r outs ≡ in_round r (at_gate g outs) → cond (c && (out.round == r)) (out ∷ at_round g r outs) (at_round g r outs) ≡ in_round r (cond c (out ∷ at_gate g outs) (at_gate g outs))
  by true rest = inner (eqb out.round r) where
    inner : (d : Bool) → cond d (out ∷ at_round g r outs) (at_round g r outs) ≡ cond d (out ∷ in_round r (at_gate g outs)) (in_round r (at_gate g outs))
    inner true = ap (λ xs. out ∷ xs) rest
    inner false = rest
  by false rest = rest
