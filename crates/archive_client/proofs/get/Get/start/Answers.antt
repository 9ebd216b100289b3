use Rattle.std.proofs.Common.{rules}
use Rattle.archive_client.proofs.get.Get.start.Goals as goal

pub returns-clause-sent : goal.returns-clause-sent
returns-clause-sent g c = search rules
