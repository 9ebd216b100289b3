use Rattle.archive_server.proofs.Noticing.{room_noticed}
use Rattle.archive_server.proofs.timers.Timers.apply.Goals as goal

pub follow-requires : goal.follow-requires
follow-requires c = room_noticed _ _ _ _ c.noticed.ensures c.requires
