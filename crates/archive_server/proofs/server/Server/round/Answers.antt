use Rattle.archive_server.proofs.Turns.{round_made}
use Rattle.archive_server.proofs.server.Server.round.Goals as goal

pub returns-clause-made : goal.returns-clause-made
returns-clause-made g c = round_made _ _ _ _ _ _ _ _ _ _ _ _ _ _ c.self.view_is c.earliest.ensures c.next_ready-next.ensures c.noted_ready-self-inside.ensures c.wait-ready.ensures c.turn_in.ensures.makes
