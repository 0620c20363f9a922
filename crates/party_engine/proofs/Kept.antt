-- What was sent behind what was sent before, and what it is of the equations.
use Rattle.std.proofs.Common.{◌≡◌, ℕ, zero, suc, ◌≤◌, List, [], ◌∷◌, ◌++◌, append_assoc, length, take, get_or, Option, Some, None, refl, sym, ap, subst, ◌∙◌, arith}
use Rattle.std.specs.Prelude.{slice_get}
use Rattle.std.proofs.lemmas.Grind.{flat_map-append}
use Rattle.mot_base.specs.Links.{ByParty}
use Rattle.message_demux.specs.Kept.{InboxContents}
use Rattle.plan_gates.specs.Messages.{stages}
use Rattle.joint_run.specs.Party.{Inbox}
use Rattle.gate_tasks.specs.declared.outgoing.Out.{Out}
use Rattle.gate_tasks.specs.declared.value.Value.{Value as ValueInMemory}
use Rattle.gate_tasks.specs.Task.{Task}
use Rattle.gate_tasks.specs.Wires.{value_held}
use Rattle.peer_streams.specs.Sending.{AreSent, AreBegun}
use Rattle.peer_streams.proofs.Sent.{begun-then}
use Rattle.party_stages.specs.declared.ran.Ran.{Ran}
use Rattle.party_stages.specs.Following.{Side, me_of, hand_of, Extends, Progress, said_at, outs_before, HasFollowed, HasRun, IsRan, progress_after}
use Rattle.party_stages.specs.Scene.{IsScene, IsNext}
use Rattle.party_stages.proofs.Taking.{taken}
use Rattle.party_engine.specs.Saying.{bytes_to, bytes_of, at_gate, HasSaid, HasBegun, IsLawful}
use Rattle.party_engine.proofs.Sending.{of_gate, log_more}

-- ---- one list of messages behind another

bytes_both : (log outs : List Out) (q : ℕ) → bytes_of log q ++ bytes_of outs q ≡ bytes_of (log ++ outs) q
bytes_both log outs q = sym (flat_map-append (bytes_to q) log outs)

sent-both : (before now next : Option ByParty) (log outs : List Out) → AreSent before now (bytes_of log) → AreSent now next (bytes_of outs) → AreSent before next (bytes_of (log ++ outs))
sent-both None now next log outs sent more = tt
sent-both (Some before) None next log outs sent more = absurd sent
sent-both (Some before) (Some now) None log outs sent more = absurd more
sent-both (Some before) (Some now) (Some next) log outs sent more = λ q.
    more q ∙ ap (λ xs. xs ++ bytes_of outs q) (sent q) ∙ append_assoc (before q) (bytes_of log q) (bytes_of outs q)
    ∙ ap (λ ys. before q ++ ys) (bytes_both log outs q)

begun-same : (before next : Option ByParty) (x y : ByParty) → ((q : ℕ) → x q ≡ y q) → AreBegun before next x → AreBegun before next y
begun-same None next x y same begun = tt
begun-same (Some before) None x y same begun = absurd begun
begun-same (Some before) (Some next) x y same begun = λ q. (let one = begun q in (one.0, one.1 ∙ ap (λ ys. before q ++ take one.0 ys) (same q)))

begun-both : (before now next : Option ByParty) (log outs : List Out) → AreSent before now (bytes_of log) → AreBegun now next (bytes_of outs) → AreBegun before next (bytes_of (log ++ outs))
begun-both before now next log outs sent begun =
    begun-same before next (λ q. bytes_of log q ++ bytes_of outs q) (bytes_of (log ++ outs)) (bytes_both log outs)
    (begun-then before now next (bytes_of log) (bytes_of outs) sent begun)

-- all was sent
pub all-begun : (before now : Option ByParty) (x : ByParty) → AreSent before now x → AreBegun before now x
all-begun None now x sent = tt
all-begun (Some before) None x sent = absurd sent
all-begun (Some before) (Some now) x sent = λ q. (length (x q), sent q ∙ ap (λ ys. before q ++ ys) (sym (whole (x q))))
  where
    whole : (xs : List ℕ) → take (length xs) xs ≡ xs
    whole [] = refl
    whole (y ∷ xs) = ap (λ zs. y ∷ zs) (whole xs)

-- ---- messages of the equations

module _ (b : Side) (inbox : InboxContents) (p : Progress) (scene : IsScene b inbox p) (log : List Out) (each : (g : ℕ) → at_gate g log ≡ said_at p.said g) where
  abbrev First : ℕ → Type 0
  First g = (n : ℕ) × (n ≤ stages b.plan (me_of b) g) × ((got : Inbox) → Extends inbox got → at_gate g log ≡ outs_before (hand_of b got g) (got g) n)

  at_value : (g : ℕ) (task : Task) → slice_get p.tasks g ≡ Some task → (o : Option ValueInMemory) → value_held p.wires g ≡ o → First g
  at_value g task there None is =
      let below = scene.progress.stage g task there in (
        task.stage,
        omega (arith, below),
        λ got extends.
            let far = subst (λ (v : Option ValueInMemory). HasFollowed (hand_of b got g) (got g) task v (said_at p.said g)) is (scene.follows got extends g task there) in
            each g ∙ far.said,
      )
  at_value g task there (Some v) is = (
    stages b.plan (me_of b) g,
    omega arith,
    λ got extends.
        let far = subst (λ (w : Option ValueInMemory). HasFollowed (hand_of b got g) (got g) task w (said_at p.said g)) is (scene.follows got extends g task there) in
        each g ∙ far.said,
  )

  nothing_past : (xs : List (List Out)) (k : ℕ) → length xs ≤ k → get_or xs k [] ≡ []
  nothing_past [] k h = refl
  nothing_past (x ∷ xs) zero h = absurd (omega (arith, h))
  nothing_past (x ∷ xs) (suc k) h = nothing_past xs k (omega (arith, h))

  past_tasks : (ts : List Task) (k : ℕ) → slice_get ts k ≡ None → length ts ≤ k
  past_tasks [] k e = omega arith
  past_tasks (t ∷ ts) zero e = absurd (let clash : Some t ≡ None = e in cc)
  past_tasks (t ∷ ts) (suc k) e = let rest = past_tasks ts k e in omega (arith, rest)

  at_task : (g : ℕ) (o : Option Task) → slice_get p.tasks g ≡ o → First g
  at_task g (Some task) there = at_value g task there (value_held p.wires g) refl
  at_task g None there =
      let beyond = past_tasks p.tasks g there in
      (0, omega arith, λ got extends. each g ∙ nothing_past p.said g (omega (arith, beyond, scene.progress.tasks, scene.progress.said)))

  pub lawful : IsLawful b inbox log
  lawful g = at_task g (slice_get p.tasks g) refl

-- what was said so far was begun
pub begun_so : (b : Side) (inbox : InboxContents) (p : Progress) (before now : Option ByParty) → IsScene b inbox p → HasSaid before now p → HasBegun b inbox before now
begun_so b inbox p before now scene said = record {
  log = said.log;
  lawful = lawful b inbox p scene said.log said.each;
  sent = all-begun before now (bytes_of said.log) said.sent;
}

-- ---- a stage more

module _ (b : Side) (inbox : InboxContents) (p : Progress) (ran : Ran) (scene : IsScene b inbox p) (next : IsNext p ran) (run : IsRan b inbox ran) where
  given : HasRun b inbox ran.gate next.task.stage ran.given
  given = subst (λ s. HasRun b inbox ran.gate s ran.given) next.stage run.run

  pub scene_next : IsScene b inbox (progress_after p ran.gate ran.given)
  scene_next = taken b inbox p ran.gate next.task ran.given scene run.inside next.unset next.there given

  each_next : (log : List Out) → ((g : ℕ) → at_gate g log ≡ said_at p.said g) → (g : ℕ) → at_gate g (log ++ ran.given.out) ≡ said_at (progress_after p ran.gate ran.given).said g
  each_next log each g =
      log_more ran.gate g log ran.given.out p.said (omega (arith, run.inside, scene.progress.said)) (of_gate b inbox ran.gate ran.stage ran.given run.run) each

  pub said_next : (before now later : Option ByParty) → HasSaid before now p → AreSent now later (bytes_of ran.given.out) → HasSaid before later (progress_after p ran.gate ran.given)
  said_next before now later said sent = record {
    log = said.log ++ ran.given.out;
    sent = sent-both before now later said.log ran.given.out said.sent sent;
    each = each_next said.log said.each;
  }

  pub begun_next : (before now later : Option ByParty) → HasSaid before now p → AreBegun now later (bytes_of ran.given.out) → HasBegun b inbox before later
  begun_next before now later said begun = record {
    log = said.log ++ ran.given.out;
    lawful = lawful b inbox (progress_after p ran.gate ran.given) scene_next (said.log ++ ran.given.out) (each_next said.log said.each);
    sent = begun-both before now later said.log ran.given.out said.sent begun;
  }
