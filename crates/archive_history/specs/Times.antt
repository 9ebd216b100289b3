-- How the log and the history spell a moment.
use Rattle.std.specs.Prelude.{◌≡◌, ℕ, Bool, false, List, ◌++◌, Some, filter, take_while, not, ◌==◌, ◌||◌, chars, encode_utf8_all}
use Rattle.jiff.specs.Types.{DateTime, Timestamp}
use Rattle.jiff.specs.Words.{civil_nanos}
use Rattle.jiff_fmt.specs.Text.{datetime_text, zulu_text}

-- RFC 3339 with three places of a second, in UTC: `2026-11-27T09:15:00.123Z`
abbrev pub stamp_text : DateTime → List ℕ
stamp_text at = datetime_text false 84 (Some 3) at ++ zulu_text false

-- what a clock in UTC shows at this moment
abbrev pub IsStamp : Timestamp → List ℕ → Type 0
IsStamp moment text = (at : DateTime) × (civil_nanos at ≡ moment.nanosecond) × (text ≡ stamp_text at)

-- what it shows at some moment
abbrev pub ShowsMoment : List ℕ → Type 0
ShowsMoment text = (moment : Timestamp) × IsStamp moment text

abbrev pub is_dash_or_colon : (c : ℕ) → Bool
is_dash_or_colon c = (c == 45) || (c == 58)

-- the same without dashes and colons, as a name of a file begins: `20261127T091500.123Z`
abbrev pub compact : (text : List ℕ) → List ℕ
compact text = encode_utf8_all (filter (λ c. not (is_dash_or_colon c)) (chars text))

-- the day alone: `2026-11-27`
abbrev pub day_of : (text : List ℕ) → List ℕ
day_of text = encode_utf8_all (take_while (λ c. not (c == 84)) (chars text))
