-- A file whose solutions' moves are spelled in the fewest bytes. Everything else is unchanged.
use Rattle.std.specs.Prelude.{ℕ, List, map}
use Rattle.tws_moves.specs.Shortest.{packed_bytes}
use Rattle.tws_file.specs.Text.{File, Record, Solution, pad, set, bare, solution, text_of}

abbrev pub packed_solution : Solution → Solution
packed_solution s = record { key = s.key; flags = s.flags; start = s.start; seed = s.seed; ticks = s.ticks; moves = packed_bytes s.moves }

abbrev pub packed_record : Record → Record
packed_record pad = pad
packed_record (set rest) = set rest
packed_record (bare key) = bare key
packed_record (solution s) = solution (packed_solution s)

abbrev pub packed_file : File → File
packed_file file = record { «ruleset» = file.ruleset; word = file.word; extra = file.extra; records = map packed_record file.records }

-- the text of the packed file
abbrev pub packed_text : File → List ℕ
packed_text file = text_of (packed_file file)
