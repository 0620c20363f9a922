use Rattle.std.proofs.Common.{ℕ, ◌-◌, length, take, drop, sym, ap, ap₂, ◌∙◌, arith, inl, inr}
use Rattle.dealer_files.specs.File.{file_length, shared_start, keys_start, key_bit_size}
use Rattle.dealer_files.proofs.Pieces.{flags-of}
use Rattle.dealer_files.proofs.Places.{none-of-these}
use Rattle.dealer_files.proofs.Files.{part-is, file-is}
use Rattle.dealer_files.proofs.read.read_part.Goals as goal

pub read_shareds-requires-clause-flags : goal.read_shareds-requires-clause-flags
read_shareds-requires-clause-flags c =
    let bytes = c.args.bytes.now in
    let n = c.args.head.now.counts in
    let parties = c.args.head.now.parties in
    let right = none-of-these bytes parties n c.requires.head.same_parties c.requires.head.same_counts c.requires.right in
    rw (c.starts-first.ensures.shared, c.starts-first.ensures.keys)
    (flags-of bytes (shared_start n) 9 n.shared (keys_start n - shared_start n) (omega arith) (omega arith)
    (λ place w. right place (inr (inl w))))

pub read_key_bits-requires-clause-flags : goal.read_key_bits-requires-clause-flags
read_key_bits-requires-clause-flags c =
    let bytes = c.args.bytes.now in
    let n = c.args.head.now.counts in
    let parties = c.args.head.now.parties in
    let right = none-of-these bytes parties n c.requires.head.same_parties c.requires.head.same_counts c.requires.right in
    let long = c.requires.length ∙ ap₂ file_length (sym c.requires.head.same_parties) (sym c.requires.head.same_counts) in
    rw c.starts-first.ensures.keys
    (flags-of bytes (keys_start n) (key_bit_size parties) n.key (length bytes - keys_start n) (omega arith) (omega arith)
    (λ place w. right place (inr (inr w))))

pub new-requires : goal.new-requires
new-requires c =
    let bytes = c.args.bytes.now in
    let head = c.args.head.now in
    let n = head.counts in
    let right = none-of-these bytes head.parties n c.requires.head.same_parties c.requires.head.same_counts c.requires.right in
    let long = c.requires.length ∙ ap₂ file_length (sym c.requires.head.same_parties) (sym c.requires.head.same_counts) in
    part-is bytes n _ long c.requires.head right (record {
      mult = c.in_ok-mult.ensures.bytes ∙ ap (λ k. take (k - 47) (drop 47 bytes)) c.starts-first.ensures.bits;
      bits = c.in_ok-bits.ensures.items
          ∙ ap₂ (λ (a b : ℕ). take (b - a) (drop a bytes)) c.starts-first.ensures.bits c.starts-first.ensures.shared;
      shared = c.in_ok-shared.ensures.bytes
          ∙ ap₂ (λ (a b : ℕ). take (b - a) (drop a bytes)) c.starts-first.ensures.shared c.starts-first.ensures.keys;
      keys = c.in_ok-keys.ensures.bytes
          ∙ ap (λ a. take (length bytes - a) (drop a bytes)) c.starts-first.ensures.keys;
      mult_count = c.in_ok-mult.ensures.count;
      shared_count = c.in_ok-shared.ensures.count;
      key_count = c.in_ok-keys.ensures.count;
      owners = c.in_ok-keys.ensures.owners;
    })

pub returns-clause-part : goal.returns-clause-part
returns-clause-part c =
    let bytes = c.args.bytes.now in
    let head = c.args.head.now in
    let n = head.counts in
    let right = none-of-these bytes head.parties n c.requires.head.same_parties c.requires.head.same_counts c.requires.right in
    let long = c.requires.length ∙ ap₂ file_length (sym c.requires.head.same_parties) (sym c.requires.head.same_counts) in
    rw c.new.ensures (file-is bytes n _ long c.requires.head right (record {
      mult = c.in_ok-mult.ensures.bytes ∙ ap (λ k. take (k - 47) (drop 47 bytes)) c.starts-first.ensures.bits;
      bits = c.in_ok-bits.ensures.items
          ∙ ap₂ (λ (a b : ℕ). take (b - a) (drop a bytes)) c.starts-first.ensures.bits c.starts-first.ensures.shared;
      shared = c.in_ok-shared.ensures.bytes
          ∙ ap₂ (λ (a b : ℕ). take (b - a) (drop a bytes)) c.starts-first.ensures.shared c.starts-first.ensures.keys;
      keys = c.in_ok-keys.ensures.bytes
          ∙ ap (λ a. take (length bytes - a) (drop a bytes)) c.starts-first.ensures.keys;
      mult_count = c.in_ok-mult.ensures.count;
      shared_count = c.in_ok-shared.ensures.count;
      key_count = c.in_ok-keys.ensures.count;
      owners = c.in_ok-keys.ensures.owners;
    }))

pub returns-clause-numbers : goal.returns-clause-numbers
returns-clause-numbers c = rw c.new.ensures (record {
  id = c.requires.head.word;
  offset = c.requires.head.key;
  mult = c.in_ok-mult.ensures.numbers;
  shared = c.in_ok-shared.ensures.numbers;
  keys = c.in_ok-keys.ensures.numbers;
})
