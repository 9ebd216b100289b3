use Rattle.std.proofs.Common.{take}
use Rattle.archive_server.specs.Timers.{Tracks, restart}
use Rattle.archive_server.specs.Parts.{Walks}
use Rattle.archive_server.proofs.Dallying.{Falls}
use Rattle.archive_server.proofs.visit.time_out_late.Given as goal

abbrev pub invariant-loop-port : goal.invariant-loop-port
invariant-loop-port g l =
    Walks (take l.port-index l.port-items) (restart l.mode) l.initial.table l.table l.initial.timers l.timers (g.W.Wire.calls l.initial.wire) (g.W.Wire.calls l.wire) × Tracks l.table l.timers × Falls (take l.port-index l.port-items) l.initial.table l.table
