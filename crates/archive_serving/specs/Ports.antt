-- A range of ports, as it is written: `FROM-TO`.
use Rattle.std.specs.Prelude.{ℕ, ◌+◌, ◌≤◌, ◌<◌, ◌==◌, Bool, List, length, Option, None, Some}
use Rattle.std.specs.List.{after_first, before_first, position_or_len}
use Rattle.clap.specs.Words.{Text}
use Rattle.command_line.specs.Arguments.{IsNumberUpTo}
use Rattle.archive_serving.specs.declared.limits.TheConstants.{LEAST_PORTS}
use Rattle.archive_arguments.specs.declared.limits.TheConstants.{MAX_PORT}
use Rattle.archive_serving.specs.declared.ports.Ports.{Ports}

abbrev pub is_hyphen : (b : ℕ) → Bool
is_hyphen b = b == 45

-- two ports, before and after the first hyphen, and at least so many from the one to the other
pub record IsPorts (text : List ℕ) (ports : Ports) : Type 0 where
  pub has_hyphen : position_or_len is_hyphen text < length text
  pub first_is : IsNumberUpTo MAX_PORT (before_first is_hyphen text) ports.first
  pub last_is : IsNumberUpTo MAX_PORT (after_first is_hyphen text) ports.last
  pub enough : ports.first + LEAST_PORTS ≤ ports.last + 1

-- those that were given, if any were
abbrev pub ArePorts : Option Text → Option Ports → Type 0
ArePorts None None = Unit {0}
ArePorts None (Some ports) = ⊥
ArePorts (Some text) None = ⊥
ArePorts (Some text) (Some ports) = IsPorts text ports
