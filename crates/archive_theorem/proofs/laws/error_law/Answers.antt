use Rattle.std.proofs.Common.{refl}
use Rattle.tftp_packet.specs.declared.cause.Cause.TheVariants.{Refused}
use Rattle.archive_theorem.proofs.Error_Concludes.{failed-not_taken, failed-once, failed-nothing}
use Rattle.archive_theorem.proofs.laws.error_law.Goals as goal

pub returns-clause-refused : goal.returns-clause-refused
returns-clause-refused c = λ o r before after split e code failed known own. failed-not_taken o r before after split e (Refused code) failed own code refl known

pub returns-clause-once : goal.returns-clause-once
returns-clause-once c = failed-once

pub returns-clause-nothing : goal.returns-clause-nothing
returns-clause-nothing c = failed-nothing
