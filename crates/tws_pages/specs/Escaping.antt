-- A password as the text of a cell of a page.
use Rattle.std.specs.Prelude.{◌≡◌, ◌≢◌, ◌⊎◌, ◌==◌, ◌||◌, ℕ, Bool, List, [], ◌∷◌, ◌++◌, codes, Contains, encode_utf8, if◌then◌else◌}
use Rattle.std.specs.List.{flat_map, list_all}
use Rattle.std.specs.Int.{is_in_range}
use Rattle.tws_file.specs.Words.{hex}

-- a character as text in HTML: one that may have a meaning there is a reference
abbrev pub escaped_char : ℕ → List ℕ
escaped_char c =
    if c == 60 then codes "&lt;" else
    if c == 62 then codes "&gt;" else
    if c == 38 then codes "&amp;" else
    if c == 34 then codes "&quot;" else
    if c == 39 then codes "&#39;" else
    encode_utf8 c

abbrev pub escaped : List ℕ → List ℕ
escaped chars = flat_map escaped_char chars

-- a space, or a graphic character of ASCII
abbrev pub is_printable : ℕ → Bool
is_printable b = is_in_range 32 126 b

-- four characters as they are, and other bytes as an x and their hexadecimal digits
abbrev pub shown_password : List ℕ → List ℕ
shown_password password = if list_all is_printable password then escaped password else codes "x" ++ hex password

-- ---- what a reader of HTML finds in it

-- `<`, `>`, `"` and `'`
abbrev pub is_mark : ℕ → Bool
is_mark c = (c == 60) || (c == 62) || (c == 34) || (c == 39)

abbrev pub references : List (List ℕ)
references = codes "&lt;" ∷ codes "&gt;" ∷ codes "&amp;" ∷ codes "&quot;" ∷ codes "&#39;" ∷ []

-- the text begins with one of the references
pub record BeginsReference (text : List ℕ) : Type 0 where
  pub reference : List ℕ
  pub known : Contains references reference
  pub rest : List ℕ
  pub text_is : text ≡ reference ++ rest

-- the reference shows as this character
abbrev pub IsReference : (reference : List ℕ) → (char : ℕ) → Type 0
IsReference reference char =
    ((reference ≡ codes "&lt;") × (char ≡ 60)) ⊎ ((reference ≡ codes "&gt;") × (char ≡ 62)) ⊎
    ((reference ≡ codes "&amp;") × (char ≡ 38)) ⊎ ((reference ≡ codes "&quot;") × (char ≡ 34)) ⊎
    ((reference ≡ codes "&#39;") × (char ≡ 39))

-- the text shows as these characters: a reference as its own, any other character as itself
pub data Shows : (text chars : List ℕ) → Type 0 where
  no_text : Shows [] []
  by_reference : (reference : List ℕ) (char : ℕ) (text chars : List ℕ) → IsReference reference char → Shows text chars → Shows (reference ++ text) (char ∷ chars)
  by_itself : (char : ℕ) (text chars : List ℕ) → char ≢ 38 → Shows text chars → Shows (char ∷ text) (char ∷ chars)
