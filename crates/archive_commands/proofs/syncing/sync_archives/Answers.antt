use Rattle.archive_commands.proofs.Syncs.{sync_ended}
use Rattle.archive_commands.proofs.syncing.sync_archives.Goals as goal

pub returns-clause-ended : goal.returns-clause-ended
returns-clause-ended g c =
    let lynx = c.fetch_news-lynx.ensures in
    let ms = c.fetch_news-ms.ensures in
    sync_ended c.args.ends.from c.args.ends.to c.args.arguments.now.both c.args.arguments.now.new_archives c.fetch_news-lynx.result c.fetch_news-ms.result
    c.report_news-first.result c.report_news-second.result c.first_of-early.result c.go_on.result c.is_unreadable-unreadable.result
    (g.N.Wire.calls c.args.wire.now) (g.N.Wire.calls c.finish.new.self) (g.N.Wire.calls c.fetch_news-lynx.new.wire) (g.N.Wire.calls c.fetch_news-ms.new.wire)
    (g.N.Wire.calls c.go_on.new.wire) (g.W.Write.contents c.args.out.now) (g.W.Write.contents c.go_on.new.out) c.finish.ensures
    lynx.fetched lynx.fails ms.fetched ms.fails c.report_news-first.ensures.status c.report_news-second.ensures.status c.is_unreadable-unreadable.ensures
    c.first_of-early.ensures c.go_on.ensures.goes
