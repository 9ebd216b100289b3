-- What a history keeps of a file: all but its pads.
use Rattle.std.specs.Prelude.{ℕ, zero, suc, ◌+◌, ◌==◌, nat_lt, Bool, true, false, List, [], ◌++◌, length, take, drop, filter, slice_index, Option, None, Some, if◌then◌else◌}
use Rattle.byteorder.specs.Endian.{little_number}
use Rattle.tws_file.specs.Text.{File, Record, pad, set, bare, solution}

-- ---- bytes

-- the length of the record that the bytes begin with, by its size alone: its size field and its body; none if it is cut
abbrev pub record_length : List ℕ → Option ℕ
record_length bytes = if nat_lt (length bytes) (4 + little_number 4 bytes) then None else Some (4 + little_number 4 bytes)

-- what is kept of a record of this length that the bytes begin with: nothing if it has no body
abbrev pub kept_of : (size : ℕ) → List ℕ → List ℕ
kept_of size bytes = if size == 4 then [] else take size bytes

-- what is kept of a record, if there is one, and of the bytes after it; what begins no record is kept
abbrev pub kept_after : Option ℕ → (after : List ℕ → List ℕ) → List ℕ → List ℕ
kept_after None after bytes = bytes
kept_after (Some size) after bytes = kept_of size bytes ++ after (drop size bytes)

-- what is kept of the first n records, and what follows them
abbrev pub kept_in : (n : ℕ) → List ℕ → List ℕ
kept_in zero bytes = bytes
kept_in (suc n) bytes = kept_after (record_length bytes) (kept_in n) bytes

-- what is kept of records: there are fewer than bytes
unfoldable pub kept_records : List ℕ → List ℕ
kept_records bytes = kept_in (length bytes) bytes

-- where the records of a file begin
abbrev pub header_length : List ℕ → ℕ
header_length bytes = 8 + slice_index bytes 7

-- the header, and the records that have a body
unfoldable pub without_pads : List ℕ → List ℕ
without_pads bytes = take (header_length bytes) bytes ++ kept_records (drop (header_length bytes) bytes)

-- ---- files

abbrev pub is_kept : Record → Bool
is_kept pad = false
is_kept (set rest) = true
is_kept (bare key) = true
is_kept (solution s) = true

-- the same file without its pads
abbrev pub unpadded : File → File
unpadded file = record { «ruleset» = file.«ruleset»; word = file.word; extra = file.extra; records = filter is_kept file.records }
