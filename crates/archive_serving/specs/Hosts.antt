-- A list of hosts: addresses, with a comma between two.
use Rattle.std.specs.Prelude.{◌≡◌, ℕ, ◌-◌, ◌≤◌, ◌==◌, List, ◌++◌, length, replicate}
use Rattle.std.specs.List.{AllZip, slice_split}
use Rattle.archive_server.specs.declared.putters.TheConstants.{PUTTERS}
use Rattle.archive_arguments.specs.Address.{IsAddress}

-- what stands between the commas
abbrev pub parts_of : (text : List ℕ) → List (List ℕ)
parts_of text = slice_split (λ b. b == 44) text

-- each part is the address of a host, and there are at most so many; the places left have the number 0
pub record ListsHosts (text places : List ℕ) : Type 0 where
  pub hosts : List ℕ
  pub few : length hosts ≤ PUTTERS
  pub spelled : AllZip IsAddress (parts_of text) hosts
  pub places_are : places ≡ hosts ++ replicate (PUTTERS - length hosts) 0

abbrev pub IsNoList : (text : List ℕ) → Type 0
IsNoList text = (places : List ℕ) → ListsHosts text places → ⊥
