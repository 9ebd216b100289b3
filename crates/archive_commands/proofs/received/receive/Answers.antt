use Rattle.std.proofs.Common.{rules, Ok}
use Rattle.archive_commands.specs.Get.{GetRuns}
use Rattle.archive_commands.proofs.Fetching.{judged}
use Rattle.archive_commands.proofs.received.receive.Goals as goal

pub returns-in-Err-judge-clause-fails : goal.returns-in-Err-judge-clause-fails
returns-in-Err-judge-clause-fails g c =
    let before = g.N.Wire.calls c.args.wire.now in
    let after = g.N.Wire.calls c.finish.new.self in
    let runs : GetRuns c.args.server c.args.ruleset (Ok (c.in-Ok.len, c.in-Ok.run')) c.deref.result.now before after = search rules in
    judged c.args.server c.args.ruleset before after (c.in-Ok.len, c.in-Ok.run') c.deref.result.now c.in-Err-judge.fault runs c.in-Err-judge.ensures.fault
