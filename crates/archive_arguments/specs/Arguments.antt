-- Arguments that are numbers, the port among them, as `clap` reads them, and what was given for them.
use Rattle.std.specs.Prelude.{◌≡◌, ℕ, List, Option, Some, None, codes}
use Rattle.clap.specs.Words.{Row, Rule, Text, first_of, new_rule}
use Rattle.clap.specs.declared.builder.value_parser.ValueParser.TheVariants as parser
use Rattle.command_line.specs.Arguments.{IsNumberUpTo}
use Rattle.archive_arguments.specs.declared.limits.TheConstants.{PORT, MAX_PORT}

-- ---- the arguments

-- an option with a number from 1 to `most`, and what the number is if none is given
pub record NumberOption : Type 0 where
  pub name : Text
  pub most : ℕ
  pub default : ℕ

abbrev pub number_rule_to : (most : ℕ) → (name : Text) → Rule
number_rule_to most name = record (new_rule name) { long = Some name; value_names = 1; parser = Some (parser.Unsigned 1 most) }

abbrev pub number_rule : NumberOption → Rule
number_rule option = number_rule_to option.most option.name

-- `[--port N]`
abbrev pub port_option : NumberOption
port_option = record { name = codes "port"; most = MAX_PORT; default = PORT }

-- ---- what was given

-- the number that was given, or the default if none was
abbrev pub IsNumberOr : (default most : ℕ) → Option Text → ℕ → Type 0
IsNumberOr default most (Some text) n = IsNumberUpTo most text n
IsNumberOr default most None n = n ≡ default

abbrev pub HasNumber : NumberOption → List Row → ℕ → Type 0
HasNumber option rows n = IsNumberOr option.default option.most (first_of option.name rows) n
