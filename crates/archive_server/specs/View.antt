-- The plain value of a server, without its layout in memory.
use Rattle.archive_server.specs.declared.server.Server.TheInside as servers
use Rattle.archive_server.specs.Turn.{Server}

abbrev pub server_of : {A : Type 0} → servers.Inside A → Server
server_of s = record { table = s.table; last = s.last; timers = s.timers; policies = s.policies }
