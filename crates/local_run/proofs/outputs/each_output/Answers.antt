use Rattle.local_run.proofs.Giving.{all_of_last, last_inside, last_has, outputs_with_last}
use Rattle.local_run.proofs.outputs.each_output.Goals as goal

pub copied-requires : goal.copied-requires
copied-requires c =
    (all_of_last c.args.given c.args.loads.now c.args.edges.now c.in-Some.before.now c.in-Some.last.now c.in-Some.ensures.cases.0 c.requires).0

pub bounds-loads-last : goal.bounds-loads-last
bounds-loads-last c =
    last_inside c.args.given c.args.loads.now c.args.edges.now c.in-Some.before.now c.in-Some.last.now c.in-Some.ensures.cases.0 c.requires

pub last_cargo-requires : goal.last_cargo-requires
last_cargo-requires c =
    last_has c.args.given c.args.loads.now c.args.edges.now c.in-Some.before.now c.in-Some.last.now _ c.in-Some.ensures.cases.0 c.requires

pub returns : goal.returns
returns c =
    outputs_with_last c.args.given c.args.loads.now c.args.edges.now c.in-Some.before.now c.in-Some.last.now c.in_ok-outputs.outputs.items c.push.new.self.items _ c.in_ok-output.output
    c.in-Some.ensures.cases.0 c.requires c.in_ok-outputs.ensures c.in_ok-output.ensures c.in_ok-push.ensures.items
