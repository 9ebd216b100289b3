-- What a terminal shows of a text.
use Rattle.std.specs.Prelude.{ℕ, suc, ◌==◌, ◌&&◌, ◌||◌, not, nat_lt, Bool, true, false, List, [], ◌∷◌, if◌then◌else◌}

-- a control character of ASCII that does not end a line
abbrev pub is_control : (byte : ℕ) → Bool
is_control byte = (nat_lt byte 32 && not (byte == 10)) || byte == 127

-- the first byte in UTF-8 of U+0080 to U+00BF
abbrev pub begins_control : (byte : ℕ) → Bool
begins_control byte = byte == 194

-- the second byte in UTF-8 of U+0080 to U+009F, control characters of which some begin escape sequences
abbrev pub ends_control : (byte : ℕ) → Bool
ends_control byte = not (nat_lt byte 128) && nat_lt byte 160

-- whether a byte is part of a control character; `after` says whether it may be the second byte of one
abbrev pub is_hidden : (after : Bool) (byte : ℕ) → Bool
is_hidden after byte = is_control byte || (after && ends_control byte)

-- these bytes, with a question mark for each that is hidden
abbrev pub visible : (after : Bool) → List ℕ → List ℕ
visible after [] = []
visible after (byte ∷ bytes) = (if is_hidden after byte then 63 else byte) ∷ visible (begins_control byte) bytes

-- how many bytes stand before the first that is hidden
abbrev pub plain_length : (after : Bool) → List ℕ → ℕ
plain_length after [] = 0
plain_length after (byte ∷ bytes) = if is_hidden after byte then 0 else suc (plain_length (begins_control byte) bytes)

-- What is written of these bytes, by whether a terminal shows them. What was written before them is not known.
abbrev pub written : (to_terminal : Bool) → List ℕ → List ℕ
written true bytes = visible true bytes
written false bytes = bytes
