use Rattle.std.proofs.Common.{rules}
use Rattle.tftp_packet.proofs.refusal.Refusal.text.Goals as goal

pub returns-in-ServerBusy : goal.returns-in-ServerBusy
returns-in-ServerBusy c = search rules
