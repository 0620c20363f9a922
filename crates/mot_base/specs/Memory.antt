-- Files and a sink in memory: what is there, which calls fail, and what a call leaves.
use Rattle.std.specs.Prelude.{ℕ, ◌-◌, ◌∷◌, ◌&&◌, ◌||◌, ◌==◌, Bool, true, false, min, List, [], ◌++◌, length, take, Option, Some, None, nat_lt, nat_le, slice_get, slice_set, position, if◌then◌else◌}
use Rattle.std.specs.List.{list_any}
use Rattle.std.specs.Option.{option_and_then}
use Rattle.std.specs.Str.{bytes_eq}
use Rattle.mot_base.specs.Limits.{most_file_bytes}
use Rattle.mot_base.specs.Faults.{one_more}
use Rattle.mot_base.specs.Calls.{FileCall}
use Rattle.mot_base.specs.declared.files.FileAction.TheVariants.{Load, Store}

-- files in memory: the names, the content of each, the numbers of the calls that are to fail, the
-- counts of calls and of faults, and the calls that were asked for
pub record FilesInMemory : Type 0 where
  pub names : List (List ℕ)
  pub contents : List (List ℕ)
  pub fails : List ℕ
  pub calls : ℕ
  pub faults : ℕ
  pub asked : List FileCall

-- a sink in memory: what was appended, for how many bytes there is room, how many bytes a write
-- takes at most, the numbers of the calls that are to fail, and the counts of calls and of faults
pub record SinkInMemory : Type 0 where
  pub appended : List ℕ
  pub room : ℕ
  pub most : Option ℕ
  pub fails : List ℕ
  pub calls : ℕ
  pub faults : ℕ

-- whether the call after so many calls is listed as one that fails
abbrev pub is_listed : List ℕ → ℕ → Bool
is_listed fails calls = list_any (λ number. number == one_more calls) fails

-- what a name holds: the content that stands at the first place of the name
abbrev pub held : FilesInMemory → List ℕ → Option (List ℕ)
held files name = option_and_then (slice_get files.contents) (position (bytes_eq name) files.names)

-- whether a load of it may fail, since there is no content that is too long
abbrev pub may_fail : Option (List ℕ) → Bool
may_fail (Some content) = nat_le (length content) most_file_bytes
may_fail None = true

-- whether a load of the name fails
abbrev pub load_fails : FilesInMemory → List ℕ → Bool
load_fails files name = is_listed files.fails files.calls && may_fail (held files name)

-- the files after a call: it is counted and kept, and counted as a fault where it failed
abbrev pub after_call : FilesInMemory → FileCall → FilesInMemory
after_call files call =
    record files {
      calls = one_more files.calls;
      faults = (if call.failed then one_more files.faults else files.faults);
      asked = files.asked ++ call ∷ [];
    }

-- the files after a load of the name
abbrev pub after_load : FilesInMemory → List ℕ → FilesInMemory
after_load files name =
    after_call files (record { action = Load; name = name; failed = load_fails files name })

-- whether a store of the content fails: it is listed, and the content is not too long
abbrev pub store_fails : FilesInMemory → List ℕ → Bool
store_fails files content = is_listed files.fails files.calls && nat_le (length content) most_file_bytes

-- the names and the contents once a content stands under a name: in place of the first content of
-- the name, or behind all others
abbrev pub names_with : List (List ℕ) → Option ℕ → List ℕ → List (List ℕ)
names_with names (Some place) name = names
names_with names None name = names ++ name ∷ []

abbrev pub contents_with : List (List ℕ) → Option ℕ → List ℕ → List (List ℕ)
contents_with contents (Some place) content = slice_set contents place content
contents_with contents None content = contents ++ content ∷ []

-- the files with the content under the name
abbrev pub with_content : FilesInMemory → List ℕ → List ℕ → FilesInMemory
with_content files name content =
    record files {
      names = names_with files.names (position (bytes_eq name) files.names) name;
      contents = contents_with files.contents (position (bytes_eq name) files.names) content;
    }

-- the files after a store that put the content under the name
abbrev pub after_storing : FilesInMemory → List ℕ → List ℕ → FilesInMemory
after_storing files name content =
    after_call (with_content files name content)
    (record { action = Store; name = name; failed = false })

-- the files after a store of the content under the name that was refused
abbrev pub after_refusing : FilesInMemory → List ℕ → List ℕ → FilesInMemory
after_refusing files name content =
    after_call files (record { action = Store; name = name; failed = store_fails files content })

-- a sink to which nothing was written yet
abbrev pub empty_sink : ℕ → Option ℕ → List ℕ → SinkInMemory
empty_sink room most fails =
    record { appended = []; room = room; most = most; fails = fails; calls = 0; faults = 0 }

-- the number, or the most that there may be where it is more
abbrev pub at_most : Option ℕ → ℕ → ℕ
at_most None number = number
at_most (Some most) number = min number most

-- whether a write of the piece fails: it is listed, or there is no room for a piece with bytes
abbrev pub write_fails : SinkInMemory → List ℕ → Bool
write_fails sink piece = is_listed sink.fails sink.calls || (sink.room == 0 && nat_lt 0 (length piece))

-- how many bytes of the piece a write takes: what has room, and no more than a write takes
abbrev pub taken : SinkInMemory → List ℕ → ℕ
taken sink piece = at_most sink.most (min (length piece) sink.room)

-- the sink after a write of the piece that took some first bytes
abbrev pub after_taking : SinkInMemory → List ℕ → SinkInMemory
after_taking sink piece =
    record sink {
      appended = sink.appended ++ take (taken sink piece) piece;
      room = sink.room - taken sink piece;
      calls = one_more sink.calls;
    }

-- the sink after a write that failed
abbrev pub after_failing : SinkInMemory → SinkInMemory
after_failing sink = record sink { calls = one_more sink.calls; faults = one_more sink.faults }
