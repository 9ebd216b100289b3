use Rattle.archive_sockets.proofs.Dealing.{deal-apart}
use Rattle.archive_sockets.proofs.laws.dealt_ports.Goals as goal

pub returns : goal.returns
returns c = deal-apart
