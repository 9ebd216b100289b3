-- The markers of a history: a copy's name, in a file that is named by the checksum of the copy.
use Rattle.std.specs.Prelude.{◌≡◌, ℕ, ◌==◌, ◌&&◌, ◌||◌, Bool, List, ◌++◌, codes}
use Rattle.std.specs.List.{ends_with, list_all}
use Rattle.std.specs.Char.{is_ascii_alphanumeric}
use Rattle.hex.specs.Hex.{encode_lower}

-- a name in the folder of its day
abbrev pub name_in_day : (day name : List ℕ) → List ℕ
name_in_day day name = day ++ (codes "/" ++ name)

-- `2026-11-27/.2cf24dba..`
abbrev pub marker_of : (day digest : List ℕ) → List ℕ
marker_of day digest = day ++ (codes "/." ++ encode_lower digest)

-- a marker of that day
abbrev pub IsMarker : (day name : List ℕ) → Type 0
IsMarker day name = (digest : List ℕ) × (name ≡ marker_of day digest)

-- a digit, a letter, a dash or a dot
abbrev pub is_name_byte : ℕ → Bool
is_name_byte b = is_ascii_alphanumeric b || (b == 45) || (b == 46)

-- a name that a copy can have in the folder of its day: no slash leads out of it
abbrev pub is_copy_name : List ℕ → Bool
is_copy_name name = list_all is_name_byte name && ends_with (λ a b. a == b) name (codes ".tws")
