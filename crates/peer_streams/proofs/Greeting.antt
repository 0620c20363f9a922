-- What the parties of a run say before and behind their messages.
use Rattle.std.proofs.Common.{◌≡◌, ℕ, length, map, arith}
use Rattle.std.specs.List.{All, range_with_len}
use Rattle.std.proofs.lemmas.List.FromFn.{length-map-range_with_len, get_or-map-range_with_len}
use Rattle.mot_base.specs.declared.Party.{Party}
use Rattle.frames.specs.Bytes.{IsSendable}
use Rattle.frames.specs.declared.frame.Frame.{Frame}
use Rattle.frames.specs.declared.frame.Frame.TheVariants.{Hello, End}
use Rattle.peer_streams.specs.declared.run.Run.{Run}
use Rattle.peer_streams.specs.Runs.{hello_of, party, hellos_from, ends_for}

all_can : (n : ℕ) (f : ℕ → Frame) → ((q : ℕ) → IsSendable (f q)) → All IsSendable (map f (range_with_len 0 n))
all_can n f can k d h =
    let long = length-map-range_with_len f 0 n in
    rw (get_or-map-range_with_len f 0 n k k d (omega arith) (omega arith)) (can k)

pub hellos-count : (run : Run) (me : Party) → length (hellos_from run me) ≡ run.parties
hellos-count run me = length-map-range_with_len (λ q. Hello (hello_of run me (party q))) 0 run.parties

pub hellos-can : (run : Run) (me : Party) → All IsSendable (hellos_from run me)
hellos-can run me = all_can run.parties (λ q. Hello (hello_of run me (party q))) (λ q. tt)

pub ends-count : (run : Run) → length (ends_for run) ≡ run.parties
ends-count run = length-map-range_with_len (λ q. End) 0 run.parties

pub ends-can : (run : Run) → All IsSendable (ends_for run)
ends-can run = all_can run.parties (λ q. End) (λ q. tt)
