use Rattle.std.proofs.Common.{◌≤◌, ◌-◌, length}
use Rattle.archive_table.specs.Table.{is_same}
use Rattle.archive_world.specs.Inside.{NoneBefore}
use Rattle.archive_world.proofs.seats.find.Given as goal

-- no client so far is at the endpoint
abbrev pub invariant-loop-i : goal.invariant-loop-i
invariant-loop-i g l = (l.i ≤ length l.clients) × NoneBefore (is_same l.e) l.i l.clients

abbrev pub decreases-loop-i : goal.decreases-loop-i
decreases-loop-i g l = length l.clients - l.i
