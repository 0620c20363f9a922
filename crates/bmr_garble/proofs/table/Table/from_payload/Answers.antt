use Rattle.std.proofs.Common.{refl}
use Rattle.bmr_garble.proofs.Tables.{read-table}
use Rattle.bmr_garble.proofs.table.Table.from_payload.Goals as goal

pub returns : goal.returns
returns c =
    read-table c.args.parties c.args.width c.args.payload.now _ refl refl c.requires c.in_ok-keys_in.ensures
