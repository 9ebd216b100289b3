use Rattle.std.proofs.Common.{ℕ, List, Some, subst, sym, arith}
use Rattle.std.proofs.lemmas.Str.Pattern.{split_once_first}
use Rattle.command_line.specs.Arguments.{IsNumberUpTo}
use Rattle.archive_serving.proofs.ports.Ports.read.Goals as goal

pub returns-in_default-number_up_to-clause-none : goal.returns-in_default-number_up_to-clause-none
returns-in_default-number_up_to-clause-none c =
    let parts = split_once_first 45 c.args.text.now (Some (c.in-Some.from, c.in-Some.to)) c.in-Some.ensures.cases (omega arith) in
    λ ports is. c.in_default-number_up_to.ensures.none ports.first (subst (λ (text : List ℕ). IsNumberUpTo 65535 text ports.first) (sym parts.1) is.first_is)

pub returns-in_default-number_up_to-2-clause-none : goal.returns-in_default-number_up_to-2-clause-none
returns-in_default-number_up_to-2-clause-none c =
    let parts = split_once_first 45 c.args.text.now (Some (c.in-Some.from, c.in-Some.to)) c.in-Some.ensures.cases (omega arith) in
    λ ports is. c.in_default-number_up_to-2.ensures.none ports.last (subst (λ (text : List ℕ). IsNumberUpTo 65535 text ports.last) (sym parts.2) is.last_is)
