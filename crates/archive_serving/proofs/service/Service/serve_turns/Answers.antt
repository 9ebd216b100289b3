use Rattle.std.proofs.Common.{rules, ◌≡◌}
use Rattle.archive_serving.proofs.Listening.{serve_ended}
use Rattle.archive_serving.proofs.service.Service.serve_turns.Goals as goal

pub returns : goal.returns
returns g c =
    let port : c.request-port.result ≡ c.args.self.now.server.table.request = search rules in
    serve_ended _ _ _ _ _ _ _ _ _ port c.in_ok-write_line.ensures.said c.make_turns-taken.ensures c.write_line-2.ensures.said c.write_line-2.ensures.fails
