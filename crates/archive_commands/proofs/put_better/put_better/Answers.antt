use Rattle.std.proofs.Common.{refl, Ok, Err}
use Rattle.archive_commands.proofs.Plans.{better_put}
use Rattle.archive_commands.proofs.put_better.put_better.Goals as goal

pub returns-in-Ok-clause-puts : goal.returns-in-Ok-clause-puts
returns-in-Ok-clause-puts g c =
    let before = g.N.Wire.calls c.args.wire.now in
    let mid = g.N.Wire.calls c.fetch_shown.new.wire in
    let after = g.N.Wire.calls c.put_planned.new.wire in
    let old = g.W.Write.contents c.args.out.now in
    let new = g.W.Write.contents c.put_planned.new.out in
    better_put _ c.args.bytes.now c.args.to c.ruleset_of-ruleset.result c.fetch_shown.result (Ok c.in-Ok.news) c.put_planned.result before mid after old new c.ruleset_of-ruleset.ensures c.in-Ok.is c.fetch_shown.ensures.fetched c.fetch_shown.ensures.fails c.put_planned.ensures.puts

pub returns-in-Err-clause-puts : goal.returns-in-Err-clause-puts
returns-in-Err-clause-puts g c =
    let before = g.N.Wire.calls c.args.wire.now in
    let mid = g.N.Wire.calls c.fetch_shown.new.wire in
    let old = g.W.Write.contents c.args.out.now in
    better_put _ c.args.bytes.now c.args.to c.ruleset_of-ruleset.result c.fetch_shown.result (Err c.in-Err.fault) c.report_uncompared.result before mid mid old old c.ruleset_of-ruleset.ensures c.in-Err.is c.fetch_shown.ensures.fetched c.fetch_shown.ensures.fails
    (record { status_is = c.report_uncompared.ensures.status; unsent = refl; unsaid = refl })
