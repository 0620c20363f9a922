-- The pieces that were read are the whole file.
use Rattle.std.proofs.Common.{◌≡◌, ℕ, ◌+◌, ◌-◌, ◌≤◌, List, ◌++◌, length, take, drop, All, refl, sym, subst, ap, ap₂, ◌∙◌, arith, inl}
use Rattle.std.specs.List.{flat_map}
use Rattle.std.proofs.lemmas.List.{take_rest, take-append-drop, length-take, length-drop}
use Rattle.mot_base.specs.Limits.{most_file_bytes}
use Rattle.share_types.specs.declared.needs.Needs.{Needs}
use Rattle.dealer_files.specs.Part.{Part, IsPart, counts_of}
use Rattle.dealer_files.specs.File.{mult_bytes, shared_bytes, key_bit_bytes, record_bytes, head_bytes, file_of, file_length, bits_start, shared_start, keys_start, IsFile}
use Rattle.dealer_files.specs.Checks.{IsWrongRecord}
use Rattle.dealer_files.specs.Reading.{IsHeadOf}
use Rattle.dealer_files.proofs.Pieces.{drop-twice, bits-of}

-- the records of a part were read from their pieces of a file with these counts
pub record ArePieces (bytes : List ℕ) (n : Needs) (p : Part) : Type 0 where
  pub mult : flat_map mult_bytes p.mult ≡ take (bits_start n - 47) (drop 47 bytes)
  pub bits : p.bits ≡ take (shared_start n - bits_start n) (drop (bits_start n) bytes)
  pub shared : flat_map shared_bytes p.shared ≡ take (keys_start n - shared_start n) (drop (shared_start n) bytes)
  pub keys : flat_map key_bit_bytes p.keys ≡ take (length bytes - keys_start n) (drop (keys_start n) bytes)
  pub mult_count : length p.mult ≡ n.mult
  pub shared_count : length p.shared ≡ n.shared
  pub key_count : length p.keys ≡ n.key
  pub owners : All (λ k. length k.times ≡ p.parties) p.keys

-- a piece, and what stands behind it
behind : (a b : ℕ) (bytes rest : List ℕ) → a ≤ b → drop b bytes ≡ rest →
    drop a bytes ≡ take (b - a) (drop a bytes) ++ rest
behind a b bytes rest h e =
    let sum : a + (b - a) ≡ b = omega arith in
    sym (take-append-drop (b - a) (drop a bytes))
    ∙ ap (λ xs. take (b - a) (drop a bytes) ++ xs) (drop-twice (b - a) a bytes ∙ (ap (λ k. drop k bytes) sum ∙ e))

bits-count : (bytes : List ℕ) (n : Needs) (p : Part) → length bytes ≡ file_length p.parties n → ArePieces bytes n p →
    length p.bits ≡ n.bit
bits-count bytes n p long r =
    let taken = length-take (shared_start n - bits_start n) (drop (bits_start n) bytes) in
    let dropped = length-drop (bits_start n) bytes in
    ap length r.bits ∙ omega arith

counts-are : (bytes : List ℕ) (n : Needs) (p : Part) → length bytes ≡ file_length p.parties n → ArePieces bytes n p →
    counts_of p ≡ n
counts-are bytes n p long r =
    rw (r.mult_count, bits-count bytes n p long r, r.shared_count, r.key_count) refl

pub part-is : (bytes : List ℕ) (n : Needs) (p : Part) → length bytes ≡ file_length p.parties n →
    IsHeadOf bytes p.parties p.party p.id p.offset n → ((place : ℕ) → IsWrongRecord bytes p.parties n place → ⊥) →
    ArePieces bytes n p → IsPart p
part-is bytes n p long h right r =
    let within = h.within in
    let few = bits-count bytes n p long r in
    let m = r.mult_count in
    let s = r.shared_count in
    let k = r.key_count in
    let size : shared_start n - bits_start n ≡ n.bit = omega arith in
    record {
      some_parties = h.some_parties;
      most_parties = h.most_parties;
      party = h.inside;
      odd = h.odd;
      mult = omega arith;
      bit = omega arith;
      shared = omega arith;
      key = omega arith;
      three_bits =
          let whole : p.bits ≡ take n.bit (drop (bits_start n) bytes) =
          r.bits ∙ ap (λ l. take l (drop (bits_start n) bytes)) size in
          rw whole (bits-of bytes (bits_start n) n.bit (λ place w. right place (inl w)));
      each_owner = r.owners;
    }

pub file-is : (bytes : List ℕ) (n : Needs) (p : Part) → length bytes ≡ file_length p.parties n →
    IsHeadOf bytes p.parties p.party p.id p.offset n → ((place : ℕ) → IsWrongRecord bytes p.parties n place → ⊥) →
    ArePieces bytes n p → IsFile bytes p
unfolding file_of
file-is bytes n p long h right r =
    let counts = counts-are bytes n p long r in
    let keys : drop (keys_start n) bytes ≡ flat_map key_bit_bytes p.keys =
    sym (take_rest bytes (keys_start n)) ∙ sym r.keys in
    let shared : drop (shared_start n) bytes ≡ flat_map shared_bytes p.shared ++ flat_map key_bit_bytes p.keys =
    behind (shared_start n) (keys_start n) bytes _ (omega arith) keys
    ∙ ap (λ xs. xs ++ flat_map key_bit_bytes p.keys) (sym r.shared) in
    let bits : drop (bits_start n) bytes ≡ p.bits ++ (flat_map shared_bytes p.shared ++ flat_map key_bit_bytes p.keys) =
    behind (bits_start n) (shared_start n) bytes _ (omega arith) shared
    ∙ ap (λ xs. xs ++ (flat_map shared_bytes p.shared ++ flat_map key_bit_bytes p.keys)) (sym r.bits) in
    let records : drop 47 bytes ≡ record_bytes p =
    behind 47 (bits_start n) bytes _ (omega arith) bits
    ∙ ap (λ xs. xs ++ (p.bits ++ (flat_map shared_bytes p.shared ++ flat_map key_bit_bytes p.keys))) (sym r.mult) in
    record {
      part = part-is bytes n p long h right r;
      within = subst (λ m. file_length p.parties m ≤ most_file_bytes) (sym counts) h.within;
      spelled =
          sym (take-append-drop 47 bytes)
          ∙ ap₂ (λ (xs ys : List ℕ). xs ++ ys)
          (h.spelled ∙ ap (head_bytes p.parties p.party p.id p.offset) (sym counts)) records;
    }
