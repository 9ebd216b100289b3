-- The arguments that several commands of the archive share, as `clap` reads them, and what was given for an argument.
use Rattle.std.specs.Prelude.{◌≡◌, true, List, Some, string_bytes, codes}
use Rattle.clap.specs.Words.{Row, Rule, Text, first_of, new_rule}
use Rattle.clap.specs.declared.builder.action.ArgAction.TheVariants.{SetTrue}
use Rattle.archive_arguments.specs.Arguments.{HasNumber, port_option}
use Rattle.archive_commands.specs.declared.target.Target.{Target}

-- ---- the arguments

-- `ADDRESS`
abbrev pub address_rule : Rule
address_rule = record (new_rule (codes "address")) { value_names = 1; required = true }

-- `FILE`
abbrev pub file_rule : Rule
file_rule = record (new_rule (codes "file")) { value_names = 1; required = true }

-- a flag
abbrev pub flag_rule : Text → Rule
flag_rule name = record (new_rule name) { long = Some name; action = Some SetTrue }

-- ---- what was given

-- what was found for the arguments that `put` and `get` share
pub record HasTarget (rows : List Row) (target : Target) : Type 0 where
  pub address_is : first_of address_rule.id rows ≡ Some (string_bytes target.address)
  pub port_is : HasNumber port_option rows target.port
