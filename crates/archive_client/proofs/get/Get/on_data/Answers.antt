use Rattle.std.proofs.Common.{rules}
use Rattle.archive_client.proofs.get.Get.on_data.Goals as goal

pub returns-in-Asking-clause-client : goal.returns-in-Asking-clause-client
returns-in-Asking-clause-client g c = search rules

pub returns-in-Asking-clause-sent : goal.returns-in-Asking-clause-sent
returns-in-Asking-clause-sent g c = search rules

pub returns-in-Asking-2-clause-client : goal.returns-in-Asking-2-clause-client
returns-in-Asking-2-clause-client g c = search rules

pub returns-in-Asking-2-clause-sent : goal.returns-in-Asking-2-clause-sent
returns-in-Asking-2-clause-sent g c = search rules
