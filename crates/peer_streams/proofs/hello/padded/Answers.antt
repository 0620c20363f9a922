use Rattle.std.proofs.Common.{◌≡◌, ◌≤◌, ◌-◌, ◌++◌, ℕ, [], List, length, take, drop, replicate, refl, ap, ◌∙◌, arith}
use Rattle.std.proofs.lemmas.List.{take-replicate, append-nil, drop_all, length-replicate, length-drop}
use borrow.Rule.Slice.PartMut.{put_mid}
use Rattle.peer_streams.proofs.hello.padded.Goals as goal

-- bytes in the last places of zeros
at_end : (size : ℕ) (bytes : List ℕ) → length bytes ≤ size → put_mid (size - length bytes) (size - (size - length bytes)) (replicate size 0) bytes ≡ replicate (size - length bytes) 0 ++ bytes
at_end size bytes small =
    let zeros : List ℕ = replicate size 0 in
    let front : take (size - length bytes) zeros ≡ replicate (size - length bytes) 0 = take-replicate (size - length bytes) size 0 (omega arith) in
    let long : length zeros ≡ size = length-replicate size 0 in
    let rest = length-drop (size - length bytes) zeros in
    let behind : drop (size - (size - length bytes)) (drop (size - length bytes) zeros) ≡ [] = drop_all (size - (size - length bytes)) (drop (size - length bytes) zeros) (omega arith) in
    rw (front, behind, append-nil bytes) refl

pub returns : goal.returns
returns c =
    ap (put_mid (32 - length c.args.bytes.now) (32 - (32 - length c.args.bytes.now)) (replicate 32 0)) c.copy_from_slice.ensures.after
    ∙ at_end 32 c.args.bytes.now c.requires
