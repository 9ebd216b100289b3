use Rattle.std.proofs.Common.{rules}
use Rattle.archive_client.proofs.get.Get.on_timeout.Goals as goal

pub returns-then-misses-lt-MISSES-clause-client : goal.returns-then-misses-lt-MISSES-clause-client
returns-then-misses-lt-MISSES-clause-client g c = search rules

pub returns-then-misses-lt-MISSES-clause-sent : goal.returns-then-misses-lt-MISSES-clause-sent
returns-then-misses-lt-MISSES-clause-sent g c = search rules

pub returns-then-misses-lt-MISSES-clause-fits : goal.returns-then-misses-lt-MISSES-clause-fits
returns-then-misses-lt-MISSES-clause-fits g c = search rules
