use Rattle.std.proofs.Common.{arith, length, sym, ◌∙◌, ap, inr, refl, None, Some}
use Rattle.std.proofs.lemmas.Result.{err_from_is_err_and, IfOk-weaker}
use Rattle.message_demux.specs.Inbox.{kept_before}
use Rattle.message_demux.specs.Slots.{slot_at}
use Rattle.message_demux.proofs.Found.{lists, found, keeping, keeping_is, counted, refused_unfit, refused_by, accepted, same_fits}
use Rattle.message_demux.proofs.Keeping.{fit_length}
use Rattle.message_demux.proofs.inbox.Inbox.deliver.Goals as goal

pub returns-in_err-fit-clause-refused : goal.returns-in_err-fit-clause-refused
returns-in_err-fit-clause-refused c =
    let p = err_from_is_err_and c.from_residual.result c.from_residual.ensures.1 in
    let at = rw c.deref.ensures.value at c.in-Some.ensures in
    let listed = lists c.self.inside.specs.items c.self.inside.payloads.items c.self.inside.bytes c.self.invariant _ c.in-Some.place at.0 at.1 c.index.result.now c.index.ensures in
    let cause = rw c.bytes.ensures at c.in_err-fit.ensures.refused in
    rw (p.1, p.2, ← c.self.view_is) (inr (refused_unfit c.self.inside.specs.items (slot_at c.args.from c.args.gate c.args.round) c.index.result.now _ c.args.payload _ listed cause))

pub returns-in-Some-index-clause-refused : goal.returns-in-Some-index-clause-refused
returns-in-Some-index-clause-refused c =
    let at = rw c.deref.ensures.value at c.in-Some.ensures in
    let f = found c.self.inside.specs.items c.self.inside.payloads.items c.self.inside.bytes c.self.invariant _ c.in-Some.place at.0 at.1 c.index.result.now c.index-2.result.now c.index.ensures c.index-2.ensures in
    let held = rw c.in-Some-index.is at f in
    let fits = rw c.bytes.ensures at c.in_ok-fit.ensures.fits in
    rw (← c.self.view_is) (refused_by _ _ _ _ _ c.args.payload held fits c.repeat.result c.repeat.ensures.refused)

pub returns-in-Some-index-clause-accepted : goal.returns-in-Some-index-clause-accepted
returns-in-Some-index-clause-accepted c =
    let at = rw c.deref.ensures.value at c.in-Some.ensures in
    let f = found c.self.inside.specs.items c.self.inside.payloads.items c.self.inside.bytes c.self.invariant _ c.in-Some.place at.0 at.1 c.index.result.now c.index-2.result.now c.index.ensures c.index-2.ensures in
    let held = rw c.in-Some-index.is at f in
    let fits = rw c.bytes.ensures at c.in_ok-fit.ensures.fits in
    rw (← c.self.view_is) (IfOk-weaker c.repeat.result _ _ (λ delivered same. accepted _ _ _ _ _ c.args.payload held fits (same_fits _ c.args.payload c.in-Some-index.kept same.1)) c.repeat.ensures.same)

pub returns-in-Some-index-clause-before : goal.returns-in-Some-index-clause-before
returns-in-Some-index-clause-before c =
    let at = rw c.deref.ensures.value at c.in-Some.ensures in
    let f = found c.self.inside.specs.items c.self.inside.payloads.items c.self.inside.bytes c.self.invariant _ c.in-Some.place at.0 at.1 c.index.result.now c.index-2.result.now c.index.ensures c.index-2.ensures in
    rw (← c.self.view_is) (IfOk-weaker c.repeat.result _ _ (λ delivered same. f.keeps ∙ c.in-Some-index.is ∙ ap Some same.1 ∙ sym (ap (λ d. kept_before d c.args.payload) same.0)) c.repeat.ensures.same)

pub overflow_add-self : goal.overflow_add-self
overflow_add-self c =
    let at = rw c.deref.ensures.value at c.in-Some.ensures in
    let fits = rw c.bytes.ensures at c.in_ok-fit.ensures.fits in
    let small = counted c.self.inside.specs.items c.self.inside.payloads.items c.self.inside.bytes c.self.invariant (slot_at c.args.from c.args.gate c.args.round) c.in-Some.place at.0 at.1 c.index.result.now c.args.payload c.index.ensures (fit_length c.index.result.now c.args.payload fits) in
    let same = ap length c.bytes-2.ensures in
    omega (arith, small, same)

pub invariant_of-self : goal.invariant_of-self
invariant_of-self c =
    let at = rw c.deref.ensures.value at c.in-Some.ensures in
    let fits = rw c.bytes.ensures at c.in_ok-fit.ensures.fits in
    let none = rw c.in_default-index.is at c.index-2.ensures in
    rw c.bytes-2.ensures (keeping c.self.inside.specs.items c.self.inside.payloads.items c.self.inside.bytes c.self.invariant _ c.in-Some.place at.0 at.1 c.index.result.now c.args.payload c.index.ensures none fits)

pub returns-clause-accepted : goal.returns-clause-accepted
returns-clause-accepted c =
    let at = rw c.deref.ensures.value at c.in-Some.ensures in
    let f = found c.self.inside.specs.items c.self.inside.payloads.items c.self.inside.bytes c.self.invariant _ c.in-Some.place at.0 at.1 c.index.result.now c.index-2.result.now c.index.ensures c.index-2.ensures in
    let held = rw c.in_default-index.is at f in
    let fits = rw c.bytes.ensures at c.in_ok-fit.ensures.fits in
    rw (← c.self.view_is) (accepted _ _ _ _ None c.args.payload held fits refl)

pub returns-clause-before : goal.returns-clause-before
returns-clause-before c =
    let at = rw c.deref.ensures.value at c.in-Some.ensures in
    let f = found c.self.inside.specs.items c.self.inside.payloads.items c.self.inside.bytes c.self.invariant _ c.in-Some.place at.0 at.1 c.index.result.now c.index-2.result.now c.index.ensures c.index-2.ensures in
    rw (← c.self.view_is) (f.keeps ∙ c.in_default-index.is)

pub returns-clause-after : goal.returns-clause-after
returns-clause-after c =
    let at = rw c.deref.ensures.value at c.in-Some.ensures in
    let none = rw c.in_default-index.is at c.index-2.ensures in
    let is = keeping_is c.self.inside.specs.items c.self.inside.payloads.items c.self.inside.bytes c.self.invariant (slot_at c.args.from c.args.gate c.args.round) c.in-Some.place at.0 at.1 c.index.result.now c.args.payload none in
    rw (← c.self.view_is) (λ i. record { slots = c.self.inside.specs.items; kept = is i })
