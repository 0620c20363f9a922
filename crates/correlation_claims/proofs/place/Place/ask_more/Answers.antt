use Rattle.std.proofs.Common.{◌+◌, ◌<◌, ◌≤◌, sym, ap, ◌∙◌, arith}
use Rattle.correlation_claims.proofs.Asked.{refused, granted, grants_in-le}
use Rattle.correlation_claims.proofs.place.Place.ask_more.Goals as goal

pub overflow_cast-range : goal.overflow_cast-range
overflow_cast-range g c = omega arith

pub overflow_add-self : goal.overflow_add-self
overflow_add-self g c =
    let v = c.args.self.now.seat.me.0 in let l = grants_in-le v.stock v.asks in let is = c.args.self.now.counted in omega (arith, c.add-before.ensures.behind)

pub invariant_of-self : goal.invariant_of-self
invariant_of-self g c =
    let place = c.args.self.now in let me = ap (λ m. m.0) c.add-before.ensures.me in let less : place.seat.me.0.stock < c.add-before.result + c.args.n = omega (arith, c.requires.place.1) in
    let r = refused _ _ _ _ _ me less in record {
      one_part = ap (λ v. v.parts) me ∙ place.one_part;
      no_slot = ap (λ m. m.1) c.add-before.ensures.me ∙ place.no_slot;
      «open» = λ e. absurd (cc);
      counted = place.counted ∙ sym r.0;
      latest = place.latest ∙ sym r.1;
    }

pub invariant_of-self-2 : goal.invariant_of-self-2
invariant_of-self-2 g c =
    let place = c.args.self.now in let me = ap (λ m. m.0) c.add-before.ensures.me in let le : c.add-before.result + c.args.n ≤ place.seat.me.0.stock = omega (arith, c.requires.place.1) in
    let r = granted _ _ _ _ _ me le (place.«open» c.requires.«open») in record {
      one_part = ap (λ v. v.parts) me ∙ place.one_part;
      no_slot = ap (λ m. m.1) c.add-before.ensures.me ∙ place.no_slot;
      «open» = λ _. r.0;
      counted = ap (λ n. n + 1) place.counted ∙ sym r.1;
      latest = sym r.2;
    }
