use Rattle.std.proofs.Common.{ℕ, List, ◌++◌, refl, subst}
use Rattle.command_line.specs.Printing.{Prints, line_about}
use Rattle.archive_arguments.proofs.reporting.bad_address.Goals as goal

pub returns-clause-printed : goal.returns-clause-printed
returns-clause-printed g c =
    let mid = g.E.Write.contents c.print_words.new.errors in
    let new = g.E.Write.contents c.print_about.new.errors in
    (mid, c.print_words.ensures, (new, subst (λ (hint : List ℕ). Prints (line_about c.args.address.now (c.args.reason.now ++ hint)) mid new) c.hint_of-hint.ensures c.print_about.ensures, refl))
