use Rattle.std.proofs.Common.{rules}
use Rattle.archive_client.proofs.get.Get.into_file.Goals as goal

pub returns-in-None-clause-file : goal.returns-in-None-clause-file
returns-in-None-clause-file g c = search rules
