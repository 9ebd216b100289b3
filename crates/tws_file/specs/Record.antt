-- A record as contracts see it, without its layout in memory.
use Rattle.std.specs.Prelude.{List, map}
use Rattle.tws_file.specs.declared.record.Record as stored
use Rattle.tws_file.specs.declared.record.Record.TheVariants.{Pad, Set, Bare, Solution}
use Rattle.tws_file.specs.Text.{Record, pad, set, bare, solution}

abbrev pub record_of : {A : Type 0} → stored.Record A → Record
record_of Pad = pad
record_of (Set rest) = set rest
record_of (Bare key) = bare key
record_of (Solution s) = solution s

abbrev pub records_of : {A : Type 0} → List (stored.Record A) → List Record
records_of rs = map record_of rs
