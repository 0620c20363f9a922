use Rattle.std.proofs.Common.{sym, ap, ◌∙◌}
use Rattle.frames.specs.Steps.{progress}
use Rattle.frames.proofs.Cuts.{goes_on, stays_faulty, stays_ended}
use Rattle.frames.proofs.reader.Reader.feed.Goals as goal

pub returns-in-Faulty-clause-reads : goal.returns-in-Faulty-clause-reads
returns-in-Faulty-clause-reads c = λ bytes frames reads.
    let here = sym c.self.view_is ∙ ap (λ p. progress p c.self.inside.held.items) c.in-Faulty.is in
    stays_faulty bytes frames c.args.piece.now _ c.in-Faulty.fault _ here c.nothing.ensures.frames reads

pub returns-in-Ended-clause-reads : goal.returns-in-Ended-clause-reads
returns-in-Ended-clause-reads c = λ bytes frames reads.
    let here = sym c.self.view_is ∙ ap (λ p. progress p c.self.inside.held.items) c.in-Ended.is in
    stays_ended bytes frames c.args.piece.now _ _ here c.nothing-in-Ended.ensures.frames reads

pub returns-in-Ok-clause-reads : goal.returns-in-Ok-clause-reads
returns-in-Ok-clause-reads c = λ bytes frames reads.
    let here = sym c.self.view_is ∙ ap (λ p. progress p c.self.inside.held.items) c.in-Reading.is in
    goes_on bytes frames c.self.inside.held.items c.args.piece.now _ _ _ here c.in-Ok.ensures.reads reads
