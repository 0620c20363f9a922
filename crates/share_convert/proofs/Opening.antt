-- What the parties open of a garbled wire.
use Rattle.std.proofs.Common.{ap, ◌∙◌}
use Rattle.std.proofs.lemmas.Nat.{xor_comm}
use Rattle.share_types.specs.Sums.{part_of_public}
use Rattle.share_types.specs.Keys.{◌⊕◌}
use Rattle.share_types.proofs.Parties.{xor_to_same}
use Rattle.bmr_keys.specs.Wires.{whole}
use Rattle.bmr_keys.proofs.Labels.{undone}
use Rattle.bmr_keys.proofs.Sums.{xor-both, xor-public}
use Rattle.share_convert.specs.Laws.{KeysOpen}

pub keys-open : KeysOpen
keys-open n offset u x a some wire =
    let mask = whole n u in
    xor-both n (λ p. (u p).mask) (λ p. part_of_public p (a p).masked)
    ∙ (ap (λ m. mask ⊕ m)
    (xor_to_same n (λ p. part_of_public p (a p).masked) (λ p. part_of_public p (x ⊕ mask))
    (λ p small. ap (part_of_public p) (wire p small).masked)
    ∙ xor-public n (x ⊕ mask) some)
    ∙ (xor_comm mask (x ⊕ mask) ∙ undone x mask))
