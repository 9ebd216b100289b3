-- Definitions for private steps. Callers need none of them.
use Rattle.std.specs.Prelude.{ℕ, List, [], ◌∷◌, ◌++◌, Option, codes, decimal}
use Rattle.byte_output.specs.Output.{Sends}
use Rattle.tws_file.specs.declared.key.Key.{Key}
use Rattle.tws_file.specs.declared.«ruleset».Ruleset.{Ruleset}
use Rattle.tws_file.specs.Words.{hex, password_text, ruleset_name}
use Rattle.tws_tables.specs.Solved.{seconds_text}

-- a prefix of the text was written, perhaps all of it
abbrev pub SendsSome : (old new : Option (List ℕ)) → (text : List ℕ) → Type 0
SendsSome old new text = (rest : List ℕ) × Sends old new text rest

-- ---- a line of comma-separated values, as it is written

abbrev pub csv_level : Key → (ticks : ℕ) → List ℕ
csv_level key ticks = decimal key.number ++ codes "," ++ password_text key.password ++ codes "," ++ decimal ticks ++ codes ","

abbrev pub csv_lengths : (ticks moves bytes : ℕ) → List ℕ
csv_lengths ticks moves bytes = seconds_text ticks ++ codes "," ++ decimal moves ++ codes "," ++ decimal bytes ++ codes ","

abbrev pub csv_details : (flags start seed : ℕ) → Ruleset → List ℕ
csv_details flags start seed rules =
    hex (flags ∷ []) ++ codes "," ++ hex (start ∷ []) ++ codes "," ++ decimal seed ++ codes "," ++ ruleset_name rules ++ 10 ∷ []
