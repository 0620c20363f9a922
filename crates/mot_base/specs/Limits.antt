-- The limits of the runtime. Whoever states a condition on a size cites one of these.
use Rattle.std.specs.Prelude.{ℕ, ◌^◌}

-- a run has 2 to 8 parties
abbrev pub least_parties : ℕ
least_parties = 2

abbrev pub most_parties : ℕ
most_parties = 8

-- a vector has 1 to 64 bits
abbrev pub most_width : ℕ
most_width = 64

-- the bytes of a file that is read or stored
abbrev pub most_file_bytes : ℕ
most_file_bytes = 67108864

-- the statements of a mixed text, outputs included, and the gates of a Bristol text
abbrev pub most_statements : ℕ
most_statements = 1048576

-- the wires of a Bristol text
abbrev pub most_wires : ℕ
most_wires = 4194304

-- the lowered gates of a plan, and the inputs or outputs of a table
abbrev pub most_gates : ℕ
most_gates = 4194304

-- the bytes of one message's payload, of which there is at least one
abbrev pub most_payload_bytes : ℕ
most_payload_bytes = 65536

-- the characters of a name, of which there is at least one
abbrev pub most_name_characters : ℕ
most_name_characters = 64

-- fewer bytes than this are taken from one peer in a run
abbrev pub peer_bytes : ℕ
peer_bytes = 2 ^ 40

-- a deal has fewer correlations of one kind than this
abbrev pub dealt_records : ℕ
dealt_records = 2 ^ 32

-- the sessions that have share words on a tape, and the jobs of one batch
abbrev pub session_count : ℕ
session_count = 65536

-- the workers of a run
abbrev pub most_workers : ℕ
most_workers = 16
