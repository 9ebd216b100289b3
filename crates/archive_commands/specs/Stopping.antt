-- The solutions of a file that stop Tile World, of which `put` names the first.
use Rattle.std.specs.Prelude.{◌≡◌, ℕ, Bool, List, [], ◌∷◌, ◌++◌, Option, None, Some, if◌then◌else◌, codes}
use Rattle.tws_file.specs.declared.key.Key.{Key}
use Rattle.tws_file.specs.Text.{File, IsText, Record, pad, set, bare, solution}
use Rattle.tws_file.specs.Words.{key_text, line}
use Rattle.command_line.specs.declared.source.Source.{Source}
use Rattle.archive_keepers.specs.Readable.{stops_tile_world}
use Rattle.archive_commands.specs.Labels.{label_of}

-- the level of a solution that does
abbrev pub stopping_key : Record → Option Key
stopping_key pad = None
stopping_key (set rest) = None
stopping_key (bare key) = None
stopping_key (solution s) = if stops_tile_world (solution s) then Some s.key else None

-- the first of two levels, if there is one
abbrev pub first_key : (first later : Option Key) → Option Key
first_key None later = later
first_key (Some key) later = Some key

-- the level of the first solution that does
abbrev pub first_stopping : List Record → Option Key
first_stopping [] = None
first_stopping (r ∷ rs) = first_key (stopping_key r) (first_stopping rs)

-- that of the file with these bytes
pub record IsFirstStopping (bytes : List ℕ) (found : Option Key) : Type 0 where
  pub file : File
  pub text : IsText bytes file
  pub first : found ≡ first_stopping file.records

-- the line that names it, with what the lines about its file begin with
abbrev pub stopping_line : (label : List ℕ) → Option Key → List ℕ
stopping_line label None = []
stopping_line label (Some key) = codes "tws: " ++ (label ++ line (codes "level " ++ (key_text key ++ codes " stops Tile World: an archive may refuse the file")))

-- the lines of these files
abbrev pub stopping_lines : (several : Bool) → List Source → List (Option Key) → List ℕ
stopping_lines several [] found = []
stopping_lines several (source ∷ sources) [] = []
stopping_lines several (source ∷ sources) (one ∷ found) = stopping_line (label_of several source) one ++ stopping_lines several sources found
