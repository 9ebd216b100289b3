use Rattle.std.proofs.Common.{rules}
use Rattle.archive_log.proofs.logged_transfers.LoggedTransfers.new.Goals as goal

pub returns : goal.returns
returns c = search rules
