use Rattle.std.proofs.Common.{rules}
use Rattle.tftp_ends.proofs.receiver.Receiver.file.Goals as goal

pub returns-in-Complete : goal.returns-in-Complete
returns-in-Complete g c = search rules
