use Rattle.std.proofs.Common.{map, string_bytes}
use Rattle.std.proofs.lemmas.Result.{err_from_is_err_and}
use Rattle.clap.specs.Words.{app_of}
use Rattle.command_line.proofs.Finding.{its_command, its_fault, no_fault, refused}
use Rattle.command_line.proofs.program.found_in.Goals as goal

pub returns-in_err-try_get_matches_from-clause-refused : goal.returns-in_err-try_get_matches_from-clause-refused
returns-in_err-try_get_matches_from-clause-refused c =
    let words = map string_bytes c.args.words.now in
    let app = app_of c.args.command in
    let p = err_from_is_err_and c.from_residual.result c.from_residual.ensures.1 in
    let parse = c.try_get_matches_from in
    let error = c.in_err-try_get_matches_from.field-0.0 in
    let has = its_fault app words parse.result error c.in_err-try_get_matches_from.was (parse.ensures.kinds c.requires) in
    rw p.1 (refused app words error p.0 has p.2)

pub returns-clause-found : goal.returns-clause-found
returns-clause-found c =
    let words = map string_bytes c.args.words.now in
    let app = app_of c.args.command in
    let parse = c.try_get_matches_from in
    let found = c.in_ok-try_get_matches_from.field-0 in
    (no_fault app words parse.result found c.in_ok-try_get_matches_from.was (parse.ensures.kinds c.requires), its_command app words found c.requires c.in_ok-try_get_matches_from.ensures.matches)
