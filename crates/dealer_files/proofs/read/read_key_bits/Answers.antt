use Rattle.std.proofs.Common.{◌≡◌, length, ap, ◌∙◌, take}
use Rattle.std.proofs.lemmas.List.Elements.{All-push}
use Rattle.dealer_files.specs.File.{key_bit_bytes, key_bit_size}
use Rattle.dealer_files.specs.Laws.{KeyBitFits}
use Rattle.dealer_files.proofs.Pieces.{read-more, flags-rest}
use Rattle.dealer_files.proofs.read.read_key_bits.Goals as goal

pub loop-at-preserved : goal.loop-at-preserved
loop-at-preserved c =
    let was = c.loop-at.invariant in
    let size = key_bit_size c.args.parties in
    let front = c.split_at.ensures.front ∙ ap (λ n. take n c.loop-at.rest.now) c.key_bit_length-length.ensures in
    rw (c.in_ok-push.ensures.items, c.split_at.ensures.back, c.key_bit_length-length.ensures) (
      read-more key_bit_bytes size c.args.count c.loop-at._at c.args.bytes.now c.loop-at.list.items c.loop-at.rest.now
          c.in_ok-read_key_bit.field-0 c.loop-at-test.true was.0 (c.in_ok-read_key_bit.ensures.bytes ∙ front),
      flags-rest size c.args.count c.loop-at._at c.loop-at.rest.now c.loop-at-test.true was.1,
      All-push (λ k. length k.times ≡ c.args.parties) c.loop-at.list.items c.in_ok-read_key_bit.field-0 was.2
          c.in_ok-read_key_bit.ensures.owners,
      All-push KeyBitFits c.loop-at.list.items c.in_ok-read_key_bit.field-0 was.3 c.in_ok-read_key_bit.ensures.numbers,
    )
