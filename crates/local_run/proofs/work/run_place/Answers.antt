use Rattle.std.specs.List.{flat_map}
use Rattle.local_run.specs.Cargo.{values_of}
use Rattle.local_run.proofs.Few.{few_operands}
use Rattle.local_run.proofs.work.run_place.Goals as goal

pub new-requires : goal.new-requires
new-requires c = few_operands c.args.env.now.plan.now c.args.env.now.gate (flat_map values_of c.args.inputs.now.items) c.requires.serves.unkeyed
    c.requires.wires
