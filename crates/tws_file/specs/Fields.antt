-- The fields of a solution file and their bytes. Every number is little-endian.
use Rattle.std.specs.Prelude.{◌≡◌, ℕ, ◌==◌, ◌<◌, ◌^◌, List, [], ◌∷◌, ◌++◌, length, slice_get, Option, None, Some, option_and_then, if◌then◌else◌}
use Rattle.byteorder.specs.Endian.{little_bytes}
use Rattle.byte_output.specs.Bytes.{IsBytes}
use Rattle.tws_file.specs.declared.key.Key.{Key}
use Rattle.tws_file.specs.declared.«ruleset».Ruleset.{Ruleset}
use Rattle.tws_file.specs.declared.«ruleset».Ruleset.TheVariants.{Lynx, Ms}

-- the bytes that every file begins with
abbrev pub signature : List ℕ
signature = 0x35 ∷ 0x33 ∷ 0x9B ∷ 0x99 ∷ []

-- the code of a ruleset, a byte
abbrev pub ruleset_code : Ruleset → ℕ
ruleset_code Lynx = 1
ruleset_code Ms = 2

-- the ruleset with this code
abbrev pub ruleset_with : (code : ℕ) → Option Ruleset
ruleset_with code = if code == 1 then Some Lynx else (if code == 2 then Some Ms else None)

-- the ruleset that the fifth byte says
abbrev pub ruleset_in : (start : List ℕ) → Option Ruleset
ruleset_in start = option_and_then ruleset_with (slice_get start 4)

-- a level's number fits in its two bytes, and a password is four bytes
pub record IsKey (key : Key) : Type 0 where
  pub number : key.number < 2 ^ 16
  pub password : IsBytes key.password
  pub password_length : length key.password ≡ 4

-- the key that no level has: the record of the level set begins with it
abbrev pub set_key : Key
set_key = record { number = 0; password = 0 ∷ 0 ∷ 0 ∷ 0 ∷ [] }

-- the number in two bytes, and the password
abbrev pub key_bytes : Key → List ℕ
key_bytes key = little_bytes 2 key.number ++ key.password
