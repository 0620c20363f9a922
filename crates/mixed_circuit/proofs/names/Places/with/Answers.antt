use Rattle.std.proofs.Common.{Some, cond, ◌∙◌, ap}
use Rattle.std.specs.Str.{bytes_eq}
use Rattle.mixed_circuit.specs.Names.{place_in}
use Rattle.mixed_circuit.proofs.FoundLemmas.{found_more}
use Rattle.mixed_circuit.proofs.names.Places.with.Goals as goal

pub returns : goal.returns
returns c = λ other. found_more c.self.inside.places c.insert.new.self c.args.name.now c.args.place c.in_ok-insert.ensures.updates other ∙ ap (λ places. cond (bytes_eq c.args.name.now other) (Some c.args.place) (place_in places other)) c.self.view_is
