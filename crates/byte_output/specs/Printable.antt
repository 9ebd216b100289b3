-- Texts that may be shown on a terminal or in a line of a log.
use Rattle.std.specs.Prelude.{ℕ, ◌≤◌, ◌&&◌, nat_le, List, map, if◌then◌else◌}

-- a character of ASCII that is no control character
abbrev pub IsPrintable : (byte : ℕ) → Type 0
IsPrintable byte = (32 ≤ byte) × (byte ≤ 126)

-- the byte itself if it is printable ASCII, else a question mark
abbrev pub shown_byte : ℕ → ℕ
shown_byte b = if nat_le 32 b && nat_le b 126 then b else 63

-- a text in printable ASCII alone
abbrev pub shown : List ℕ → List ℕ
shown bytes = map shown_byte bytes
