-- The host that the text of a server's address leads to.
use Rattle.std.specs.Prelude.{◌≡◌, ℕ, Bool, true, false, List, Option, IfSome, IfNone}
use Rattle.std.specs.Char.{is_ascii_alphabetic}
use Rattle.std.specs.List.{list_any}
use Rattle.archive_arguments.specs.Address.{IsAddress, IsNoAddress}

-- a text with a letter is the name of a host
abbrev pub has_letter : (text : List ℕ) → Bool
has_letter text = list_any is_ascii_alphabetic text

-- The host that a text leads to, if it leads to one, given what is known of the hosts of names: that of an address, or
-- the one that the resolver finds by a name.
pub record Locates (host_of : List ℕ → Option (Option ℕ)) (text : List ℕ) (found : Option ℕ) : Type 0 where
  pub address : has_letter text ≡ false → IfSome found (IsAddress text)
  pub none : has_letter text ≡ false → IfNone found (IsNoAddress text)
  pub name : has_letter text ≡ true → IfSome (host_of text) (λ (host : Option ℕ). found ≡ host)
