use Rattle.tftp_packet.proofs.Sent.{sent_refusal}
use Rattle.tftp_packet.proofs.laws.sent_refusal.Goals as goal

pub returns : goal.returns
returns c = sent_refusal
