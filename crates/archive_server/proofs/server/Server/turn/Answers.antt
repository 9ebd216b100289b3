use Rattle.archive_server.proofs.Turns.{turn_made}
use Rattle.archive_server.proofs.server.Server.turn.Goals as goal

pub returns : goal.returns
returns g c = turn_made _ _ _ _ _ _ _ _ _ _ _ c.self.view_is c.next_port-port.ensures c.next_at.ensures c.noted_port-self-inside.ensures c.turn_in.ensures.makes
