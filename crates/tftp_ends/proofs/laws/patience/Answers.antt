use Rattle.tftp_ends.proofs.Waits.{sender_ack-waited, sender_timeout-waited, receiver_data-waited, receiver_timeout-waited}
use Rattle.tftp_ends.proofs.laws.patience.Goals as goal

pub returns-clause-ack : goal.returns-clause-ack
returns-clause-ack c = sender_ack-waited

pub returns-clause-sender : goal.returns-clause-sender
returns-clause-sender c = sender_timeout-waited

pub returns-clause-data : goal.returns-clause-data
returns-clause-data c = receiver_data-waited

pub returns-clause-receiver : goal.returns-clause-receiver
returns-clause-receiver c = receiver_timeout-waited
