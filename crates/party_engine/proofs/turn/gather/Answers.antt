use Rattle.std.proofs.Common.{◌∙◌, ℕ, List, length, sym, ap, subst, arith, Vec, Global}
use Rattle.std.specs.List.{All}
use Rattle.std.proofs.lemmas.List.{length_push}
use Rattle.std.proofs.lemmas.List.Elements.{All-push}
use Rattle.party_stages.specs.Scene.{IsReady}
use Rattle.party_engine.proofs.turn.gather.Goals as goal
use Rattle.party_engine.proofs.turn.gather.Goals.{in-Ready+in_ok-push-in-Ready, in-Lacks, in-Done}

pub loop-look-preserved : goal.loop-look-preserved
loop-look-preserved c = elim c.match-look.branch [
  | in-Ready+in_ok-push-in-Ready w ↦ (
      let items = ap (λ (v : Vec ℕ Global). v.items) w.ready-is ∙ w.in_ok-push-in-Ready.ensures.items in
      let long = ap length items ∙ length_push c.loop-look.ready.items c.in-Some.gate in
      let few = c.loop-look.invariant.1 in (
        subst (λ (xs : List ℕ). All (IsReady c.args.brought.now c.args.inbox.now c.args.stages.now) xs) (sym items)
            (All-push (IsReady c.args.brought.now c.args.inbox.now c.args.stages.now) c.loop-look.ready.items c.in-Some.gate c.loop-look.invariant.0 (c.look.ensures w.in-Ready.is)),
        omega (arith, long, few),
      ))
  | in-Lacks w ↦ (let few = c.loop-look.invariant.1 in let same = ap (λ (v : Vec ℕ Global). length v.items) w.ready-is in
      (subst (λ (v : Vec ℕ Global). All (IsReady c.args.brought.now c.args.inbox.now c.args.stages.now) v.items) (sym w.ready-is) c.loop-look.invariant.0, omega (arith, same, few)))
  | in-Done w ↦ (let few = c.loop-look.invariant.1 in let same = ap (λ (v : Vec ℕ Global). length v.items) w.ready-is in
      (subst (λ (v : Vec ℕ Global). All (IsReady c.args.brought.now c.args.inbox.now c.args.stages.now) v.items) (sym w.ready-is) c.loop-look.invariant.0, omega (arith, same, few)))
]
