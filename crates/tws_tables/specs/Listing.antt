-- The listing of a file: a line for the header, one for each record, one for each move if they are asked for, and one
-- for the number of records.
use Rattle.std.specs.Prelude.{ℕ, Bool, true, [], ◌∷◌, List, ◌++◌, length, codes, decimal}
use Rattle.std.specs.List.{flat_map}
use Rattle.tws_moves.specs.declared.act.Act.{Act}
use Rattle.tws_moves.specs.declared.act.Act.TheVariants.{Step, Code}
use Rattle.tws_moves.specs.Move.{Move}
use Rattle.tws_moves.specs.Spelling.{moves_in}
use Rattle.tws_file.specs.declared.key.Key.{Key}
use Rattle.tws_file.specs.declared.«ruleset».Ruleset.{Ruleset}
use Rattle.tws_file.specs.Text.{File, Record, pad, set, bare, solution}
use Rattle.tws_file.specs.Words.{hex, key_text, line, ruleset_name}

abbrev pub header_line : Ruleset → List ℕ → List ℕ → List ℕ
header_line rules word extra = line (codes "ruleset " ++ ruleset_name rules ++ codes " word " ++ hex word ++ codes " extra " ++ decimal (length extra))

-- a solution's line up to the time
abbrev pub solved_words : Key → ℕ → List ℕ
solved_words key ticks = codes "level " ++ key_text key ++ codes " ticks " ++ decimal ticks

-- a solution's line after the time, up to the number of bytes of its moves
abbrev pub details_line : (flags start seed bytes : ℕ) → List ℕ
details_line flags start seed bytes = line (codes " flags " ++ hex (flags ∷ []) ++ codes " start " ++ hex (start ∷ []) ++ codes " seed " ++ decimal seed ++ codes " bytes " ++ decimal bytes)

abbrev pub record_line : Record → List ℕ
record_line pad = line (codes "pad")
record_line (set rest) = line (codes "set " ++ decimal (length rest))
record_line (bare key) = line (codes "level " ++ key_text key)
record_line (solution s) = solved_words s.key s.ticks ++ details_line s.flags s.start s.seed (length s.moves)

-- a move's line after its tick
abbrev pub act_line : Act → List ℕ
act_line (Step direction) = line (codes " step " ++ decimal direction)
act_line (Code code) = line (codes " code " ++ decimal code)

abbrev pub move_line : Move → List ℕ
move_line m = codes " at " ++ decimal m.at ++ act_line m.act

-- the lines of a record's moves, if they are asked for
abbrev pub move_lines : Bool → Record → List ℕ
move_lines true (solution s) = flat_map move_line (moves_in s.moves)
move_lines with_moves r = []

-- a record's line, and then those of its moves
abbrev pub record_lines : Bool → Record → List ℕ
record_lines with_moves r = record_line r ++ move_lines with_moves r

abbrev pub count_line : ℕ → List ℕ
count_line n = line (codes "records " ++ decimal n)

abbrev pub listing_of : Bool → File → List ℕ
listing_of with_moves file = header_line file.ruleset file.word file.extra ++ flat_map (record_lines with_moves) file.records ++ count_line (length file.records)
