use Rattle.std.proofs.Common.{refl, sym, ◌∙◌}
use Rattle.dealer_files.specs.File.{bits_start, shared_start, keys_start, key_bit_size}
use Rattle.dealer_files.proofs.Places.{some-so, first-bits, first-shared, first-keys, none-wrong, none-of, some-at, none-at, some-stated, none-stated}
use Rattle.dealer_files.proofs.read.first_wrong.Goals as goal

pub returns-then-is_some-clause-some : goal.returns-then-is_some-clause-some
returns-then-is_some-clause-some c =
    let bytes = c.args.bytes.now in
    let n = c.args.head.now.counts in
    let parties = c.args.head.now.parties in
    let r = c.first_above-first.result in
    some-stated bytes parties n r c.requires.parties c.requires.counts
    (some-so r (first-bits bytes parties n)
    (some-at bytes 7 n.bit c.starts-bits.result.0 (bits_start n) 1 1 r c.starts-bits.ensures.bits refl c.first_above-first.ensures.some))

pub returns-then-is_some-2-clause-some : goal.returns-then-is_some-2-clause-some
returns-then-is_some-2-clause-some c =
    let bytes = c.args.bytes.now in
    let n = c.args.head.now.counts in
    let parties = c.args.head.now.parties in
    let r = c.first_above-first-2.result in
    let bits = none-at bytes 7 n.bit c.starts-bits.result.0 (bits_start n) 1 1 c.starts-bits.ensures.bits refl
    (c.first_above-first.ensures.none (none-of c.first_above-first.result (sym c.is_some.ensures ∙ c.if-is_some.false))) in
    some-stated bytes parties n r c.requires.parties c.requires.counts
    (some-so r (λ place w. first-shared bytes parties n place bits w)
    (some-at bytes 1 n.shared c.starts-bits.result.1 (shared_start n) 9 9 r c.starts-bits.ensures.shared refl c.first_above-first-2.ensures.some))

pub returns-clause-none : goal.returns-clause-none
returns-clause-none c = λ e.
    let bytes = c.args.bytes.now in
    let n = c.args.head.now.counts in
    let parties = c.args.head.now.parties in
    let bits = none-at bytes 7 n.bit c.starts-bits.result.0 (bits_start n) 1 1 c.starts-bits.ensures.bits refl
    (c.first_above-first.ensures.none (none-of c.first_above-first.result (sym c.is_some.ensures ∙ c.if-is_some.false))) in
    let shared = none-at bytes 1 n.shared c.starts-bits.result.1 (shared_start n) 9 9 c.starts-bits.ensures.shared refl
    (c.first_above-first-2.ensures.none (none-of c.first_above-first-2.result (sym c.is_some-2.ensures ∙ c.if-is_some-2.false))) in
    let keys = none-at bytes 1 n.key c.starts-bits.result.2 (keys_start n) c.key_bit_length.result (key_bit_size parties)
    c.starts-bits.ensures.keys c.key_bit_length.ensures (c.first_above.ensures.none e) in
    none-stated bytes parties n c.requires.parties c.requires.counts (none-wrong bytes parties n bits shared keys)

pub returns-clause-some : goal.returns-clause-some
returns-clause-some c =
    let bytes = c.args.bytes.now in
    let n = c.args.head.now.counts in
    let parties = c.args.head.now.parties in
    let r = c.first_above.result in
    let bits = none-at bytes 7 n.bit c.starts-bits.result.0 (bits_start n) 1 1 c.starts-bits.ensures.bits refl
    (c.first_above-first.ensures.none (none-of c.first_above-first.result (sym c.is_some.ensures ∙ c.if-is_some.false))) in
    let shared = none-at bytes 1 n.shared c.starts-bits.result.1 (shared_start n) 9 9 c.starts-bits.ensures.shared refl
    (c.first_above-first-2.ensures.none (none-of c.first_above-first-2.result (sym c.is_some-2.ensures ∙ c.if-is_some-2.false))) in
    some-stated bytes parties n r c.requires.parties c.requires.counts
    (some-so r (λ place w. first-keys bytes parties n place bits shared w)
    (some-at bytes 1 n.key c.starts-bits.result.2 (keys_start n) c.key_bit_length.result (key_bit_size parties) r
    c.starts-bits.ensures.keys c.key_bit_length.ensures c.first_above.ensures.some))
