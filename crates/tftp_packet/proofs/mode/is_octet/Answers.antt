use Rattle.std.proofs.Common.{rules}
use Rattle.tftp_packet.proofs.mode.is_octet.Goals as goal

pub returns-clause-octet : goal.returns-clause-octet
returns-clause-octet c = search rules

pub returns-clause-test : goal.returns-clause-test
returns-clause-test c = search rules
