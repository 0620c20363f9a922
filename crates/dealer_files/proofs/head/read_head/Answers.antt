use Rattle.std.proofs.Common.{◌<◌, ◌^◌, take, ap, ◌∙◌, arith}
use Rattle.std.proofs.lemmas.List.{take_rest}
use Rattle.byteorder.specs.Endian.{big_number}
use Rattle.dealer_files.proofs.Heads.{head-is}
use Rattle.dealer_files.proofs.head.read_head.Goals as goal

pub returns : goal.returns
returns c =
    let bytes = c.args.bytes.now in
    let word : c.read_word.result < 2 ^ 64 = search in
    let key : c.read_number.result < 2 ^ 128 = search in
    head-is bytes c.read_word.result c.read_number.result c.read_counts.result
    (λ i. omega (arith, c.type_inv.bytes i)) c.requires
    (c.read_word.ensures ∙ ap (take 8) (take_rest bytes 7))
    (c.read_number.ensures.bytes ∙ ap (take 16) (take_rest bytes 15))
    (c.read_number.ensures.number ∙ ap (big_number 16) (take_rest bytes 15))
    c.read_counts.ensures word key
