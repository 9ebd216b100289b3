use Rattle.archive_history.proofs.Comparing.{matched}
use Rattle.archive_history.proofs.matching.MatchingWrite.write.Goals as goal

pub returns-clause-bytes : goal.returns-clause-bytes
returns-clause-bytes c = matched c.args.self.now.wanted.now c.args.buf.now c.args.self.now.at c.starts_with.result c.starts_with.ensures.value c.if-not-starts_with.false
