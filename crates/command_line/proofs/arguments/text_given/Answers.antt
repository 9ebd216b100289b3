use Rattle.std.proofs.Common.{◌∙◌}
use Rattle.clap.specs.Matches.{found_of}
use Rattle.clap.specs.Words.{rows_of, first_of}
use Rattle.clap.proofs.WalkLemmas.{first_value-rows}
use Rattle.command_line.proofs.Given.{some_given, none_given}
use Rattle.command_line.proofs.arguments.text_given.Goals as goal

pub returns-clause-some : goal.returns-clause-some
returns-clause-some c =
    some_given (first_of c.args.name.now (rows_of (found_of c.args.words.now))) c.get_str.result (c.get_str.ensures ∙ first_value-rows (found_of c.args.words.now) c.args.name.now)

pub returns-clause-none : goal.returns-clause-none
returns-clause-none c =
    none_given (first_of c.args.name.now (rows_of (found_of c.args.words.now))) c.get_str.result (c.get_str.ensures ∙ first_value-rows (found_of c.args.words.now) c.args.name.now)
