use Rattle.std.proofs.Common.{Err, subst}
use Rattle.archive_runs.specs.Rounds.{PutsInRounds}
use Rattle.archive_commands.specs.declared.limits.TheConstants.{ROUNDS}
use Rattle.archive_commands.proofs.Sending.{put_fails}
use Rattle.archive_commands.proofs.put.put_file.Goals as goal

pub returns-in-Err-clause-fails : goal.returns-in-Err-clause-fails
returns-in-Err-clause-fails g c =
    let before = g.N.Wire.calls c.args.wire.now in
    let after = g.N.Wire.calls c.put_shown.new.wire in
    let bytes = c.in_ok-file.file.bytes.items in
    let runs : PutsInRounds c.args.server bytes ROUNDS (Err c.in-Err.fault) before after =
    subst (λ r. PutsInRounds c.args.server bytes ROUNDS r before after) c.in-Err.is c.put_shown.ensures in
    put_fails (g.R.Read.remaining c.args.input.now) c.args.server before after (g.W.Write.contents c.args.out.now) c.in-Err.fault c.of_run.result c.of_run.ensures
    (record { bytes = bytes; whole = c.in_ok-file.ensures.whole; runs = runs })
