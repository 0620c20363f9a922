use Rattle.dealer_files.proofs.Garbling.{offsets_are_odd, key_bits_are_honest, shared_bits_are_honest}
use Rattle.dealer_files.proofs.laws.honest_parts_serve_garbling.Goals as goal

pub returns-clause-odd : goal.returns-clause-odd
returns-clause-odd c = offsets_are_odd

pub returns-clause-keys : goal.returns-clause-keys
returns-clause-keys c = key_bits_are_honest

pub returns-clause-shared : goal.returns-clause-shared
returns-clause-shared c = shared_bits_are_honest
