use Rattle.std.proofs.Common.{rules}
use Rattle.archive_log.proofs.logged_transfers.LoggedTransfers.on_step.Goals as goal

pub returns-clause-transfers : goal.returns-clause-transfers
returns-clause-transfers g c = search rules
