use Rattle.std.proofs.Common.{◌≡◌, ◌++◌, take}
use Rattle.bmr_keys.specs.Payload.{key_bytes}
use Rattle.bmr_keys.proofs.payload.put_keys.Given as goal

abbrev pub invariant-loop-key : goal.invariant-loop-key
invariant-loop-key l = l.out.items ≡ l.initial.out.items ++ key_bytes (take l.key-index l.keys)
