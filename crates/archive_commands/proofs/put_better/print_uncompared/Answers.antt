use Rattle.std.proofs.Common.{ℕ, Bool, List, codes, refl, sym, subst}
use Rattle.command_line.specs.Printing.{Printed, Prints, line_about}
use Rattle.archive_commands.specs.Reports.{uncompared_lines}
use Rattle.archive_commands.proofs.put_better.print_uncompared.Goals as goal

pub returns-then-several : goal.returns-then-several
returns-then-several g c =
    let old = g.E.Write.contents c.args.errors.now in
    let new = g.E.Write.contents c.print_about.new.errors in
    subst (λ (several : Bool). Printed (uncompared_lines several c.args.source.now) old new) (sym c.if-several.true)
    (new, subst (λ (name : List ℕ). Prints (line_about name (codes "not compared")) old new) c.name_of.ensures c.print_about.ensures, refl)
