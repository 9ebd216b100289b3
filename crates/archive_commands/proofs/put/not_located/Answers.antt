use Rattle.std.proofs.Common.{ℕ, List, inl, inr, subst}
use Rattle.command_line.specs.Printing.{Printed}
use Rattle.archive_commands.specs.Reports.{no_host_reason, swapped_reason}
use Rattle.archive_arguments.specs.Address.{bad_address_lines}
use Rattle.archive_commands.proofs.put.not_located.Goals as goal

pub returns-in-Some-Named-clause-printed : goal.returns-in-Some-Named-clause-printed
returns-in-Some-Named-clause-printed g c =
    inr (subst (λ (address : List ℕ). Printed (bad_address_lines address swapped_reason) (g.E.Write.contents c.args.errors.now) (g.E.Write.contents c.swapped.new.errors)) c.as_str-address.ensures.value c.swapped.ensures.printed)

pub returns-in_default-clause-printed : goal.returns-in_default-clause-printed
returns-in_default-clause-printed g c =
    inl (subst (λ (address : List ℕ). Printed (bad_address_lines address no_host_reason) (g.E.Write.contents c.args.errors.now) (g.E.Write.contents c.no_host.new.errors)) c.as_str-address.ensures.value c.no_host.ensures.printed)
