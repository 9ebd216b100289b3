use Rattle.std.proofs.Common.{rules}
use Rattle.archive_client.proofs.get.Get.file.Goals as goal

pub returns-in-Bound : goal.returns-in-Bound
returns-in-Bound g c = search rules
