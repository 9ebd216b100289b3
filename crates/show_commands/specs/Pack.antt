-- The command `pack`.
use Rattle.std.specs.Prelude.{◌≡◌, ℕ, List, Option, codes, option_map, string_bytes}
use Rattle.clap.specs.Words.{App, Row, Text, first_of, new_app, with_rule}
use Rattle.tws_file.specs.Packing.{packed_text}
use Rattle.show_commands.specs.declared.pack.PackArguments.{PackArguments}
use Rattle.command_line.specs.Arguments.{HasSource, source_rule}
use Rattle.show_commands.specs.Output.{output_rule}
use Rattle.show_commands.specs.Written.{RanFrom}

abbrev pub pack_name : Text
pack_name = codes "pack"

-- `pack [-o FILE] [FILE]`
abbrev pub pack_app : App
pack_app = with_rule (with_rule (new_app pack_name) source_rule) output_rule

-- what was found for its arguments
pub record AsksToPack (rows : List Row) (arguments : PackArguments) : Type 0 where
  pub source_is : HasSource rows arguments.source
  pub output_is : option_map string_bytes arguments.output ≡ first_of output_rule.id rows

-- What it did, by the exit status, given what is known of the bytes of the file with each name, and what holds if
-- standard input was not read: what standard input had and has left, and the output before and after.
abbrev pub PackRan : (bytes_of : List ℕ → Option (List ℕ)) → (Unread : Type 0) → PackArguments → (status : ℕ) → (known left old new : Option (List ℕ)) → Type 0
PackRan bytes_of Unread arguments status known left old new = RanFrom arguments.source bytes_of Unread packed_text status known left old new
