use Rattle.local_run.proofs.Seeding.{jobs_of_seed_serve, jobs_of_seed_are_honest, honest_parts_serve}
use Rattle.local_run.proofs.laws.jobs_of_seed_serve.Goals as goal

pub returns-clause-serve : goal.returns-clause-serve
returns-clause-serve c = jobs_of_seed_serve

pub returns-clause-honest : goal.returns-clause-honest
returns-clause-honest c = jobs_of_seed_are_honest

pub returns-clause-parts : goal.returns-clause-parts
returns-clause-parts c = honest_parts_serve
