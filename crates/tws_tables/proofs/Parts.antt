-- A line of comma-separated values as it is written, part by part.
use Rattle.std.proofs.Common.{◌≡◌, ℕ, ◌∷◌, List, [], ◌++◌, length, append_assoc}
use Rattle.std.specs.Prelude.{codes, decimal}
use Rattle.std.specs.List.{join_with_byte}
use Rattle.tws_moves.specs.Spelling.{moves_in}
use Rattle.tws_file.specs.declared.«ruleset».Ruleset.{Ruleset}
use Rattle.tws_file.specs.Words.{hex, line, password_text, ruleset_name}
use Rattle.tws_file.specs.Text.{Solution}
use Rattle.tws_tables.specs.Csv.{csv_fields, csv_line}
use Rattle.tws_tables.specs.Solved.{seconds_text}
use Rattle.tws_tables.specs.Steps.{csv_level, csv_lengths, csv_details}

-- ten fields, as three parts
ten_fields : (old a b c d e f g h i j : List ℕ) →
    old ++ (a ++ codes "," ++ b ++ codes "," ++ c ++ codes ",") ++ (d ++ codes "," ++ e ++ codes "," ++ f ++ codes ",") ++
    (g ++ codes "," ++ h ++ codes "," ++ i ++ codes "," ++ j ++ 10 ∷ []) ≡ old ++ line
    (join_with_byte 44 (a ∷ b ∷ c ∷ d ∷ e ∷ f ∷ g ∷ h ∷ i ∷ j ∷ []))
ten_fields old a b c d e f g h i j = simp append_assoc

-- a solution's line of comma-separated values is written
pub csv_written : (rules : Ruleset) (s : Solution) (old level lengths details : List ℕ) (moves bytes : ℕ) → moves ≡ length (moves_in s.moves) → bytes ≡ length s.moves
    → level ≡ old ++ csv_level s.key s.ticks → lengths ≡ level ++ csv_lengths s.ticks moves bytes → details ≡ lengths ++ csv_details s.flags s.start s.seed rules
    → details ≡ old ++ csv_line (csv_fields rules s)
csv_written rules s old level lengths details moves bytes moves-is bytes-is level-is lengths-is details-is =
    rw (details-is, lengths-is, level-is, moves-is, bytes-is)
    (ten_fields old (decimal s.key.number) (password_text s.key.password) (decimal s.ticks) (seconds_text s.ticks) (decimal (length (moves_in s.moves)))
    (decimal (length s.moves)) (hex (s.flags ∷ [])) (hex (s.start ∷ [])) (decimal s.seed) (ruleset_name rules))
