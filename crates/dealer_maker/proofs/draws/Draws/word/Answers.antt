use Rattle.std.proofs.Common.{get_or, ap, ◌∙◌}
use Rattle.dealer_maker.proofs.Drawing.{read-word}
use Rattle.dealer_maker.proofs.draws.Draws.word.Goals as goal

pub returns : goal.returns
returns c =
    ap (λ ws. get_or ws c.args.place 0) c.as_slice-words.ensures.value
    ∙ read-word c.self.inside.seed.0 c.self.inside.words.items c.args.self.now c.args.place c.self.invariant c.self.view_is c.requires
