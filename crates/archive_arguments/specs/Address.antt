-- The text of an IPv4 address, and what is printed of one that cannot be used.
use Rattle.std.specs.Prelude.{◌≡◌, ◌<◌, ◌==◌, ℕ, ◌+◌, ◌*◌, List, [], ◌∷◌, ◌++◌, count_by, codes, if◌then◌else◌}
use Rattle.std.specs.Net.Text.{dotted_text}
use Rattle.command_line.specs.Printing.{line_about, plain_line}

-- the text is four decimal numbers without leading zeros, with dots between them; the first is the host's most significant
-- byte
pub record IsAddress (text : List ℕ) (host : ℕ) : Type 0 where
  pub a : ℕ
  pub b : ℕ
  pub c : ℕ
  pub d : ℕ
  pub fit : (a < 256) × (b < 256) × (c < 256) × (d < 256)
  pub spelled : text ≡ dotted_text a b c d
  pub host_is : host ≡ ((a * 256 + b) * 256 + c) * 256 + d

abbrev pub IsNoAddress : (text : List ℕ) → Type 0
IsNoAddress text = (host : ℕ) → IsAddress text host → ⊥

-- what helps with an address that cannot be used, by the number of its colons
abbrev pub hint_for : (colons : ℕ) → List ℕ
hint_for colons = if colons == 0 then [] else (if colons == 1 then codes "; --port gives the port" else codes "; only IPv4 is used")

abbrev pub address_hint : (text : List ℕ) → List ℕ
address_hint text = hint_for (count_by (λ b. b == 58) text)

abbrev pub bad_address_lines : (address reason : List ℕ) → List (List ℕ)
bad_address_lines address reason = plain_line (codes "bad address") ∷ line_about address (reason ++ address_hint address) ∷ []
