-- The command `put`: what it did.
use Rattle.std.specs.Prelude.{◌≡◌, ◌≢◌, ◌↔◌, ℕ, ◌≤◌, false, List, Option, None, Some, string_bytes}
use Rattle.archive_wire.specs.Wire.{Entry}
use Rattle.command_line.specs.Inputs.{has_standard}
use Rattle.archive_commands.specs.declared.put.PutArguments.{PutArguments}
use Rattle.archive_commands.specs.Locating.{Locates}
use Rattle.archive_commands.specs.PutFiles.{PutsFiles}

-- What it did, by the exit status, given what is known of the bytes of the file with each name, and of the hosts of
-- names, and what holds if standard input was not read: the log of the wire before and after, what standard input had and
-- has left, and the output before and after. The server is at the host to which the address that was given leads, and at
-- the port.
pub record PutRan (bytes_of : List ℕ → Option (List ℕ)) (host_of : List ℕ → Option (Option ℕ)) (Unread : Type 0) (arguments : PutArguments) (status : ℕ) (before after : Option (List Entry)) (given left old new : Option (List ℕ)) : Type 0 where
  pub found : Option ℕ
  pub located : Locates host_of (string_bytes arguments.target.address) found
  pub bad : (status ≡ 1) ↔ (found ≡ None)
  pub nowhere : status ≡ 1 → Unread × (after ≡ before) × (new ≡ old)
  pub ended : status ≢ 1 → (host : ℕ) × (found ≡ Some host) × PutsFiles bytes_of arguments.better arguments.sources.items (record { host = host; port = arguments.target.port }) status before after given left old new
  pub few : status ≤ 4
  pub input : has_standard arguments.sources.items ≡ false → Unread
