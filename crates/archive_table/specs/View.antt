-- The plain values of a table and of what its calls return, without their layout in memory, and the terms of private
-- functions.
use Rattle.archive_table.specs.declared.taken.Taken.TheInside as taking
use Rattle.archive_table.specs.declared.step.Step.TheInside as stepping
use Rattle.archive_table.specs.declared.end.End as held
use Rattle.archive_table.specs.declared.end.End.TheVariants as ends
use Rattle.archive_table.specs.declared.transfer.Transfer.TheInside as transferring
use Rattle.archive_table.specs.declared.table.Table.TheInside as tables
use Rattle.archive_table.specs.Table.{End, sending, receiving, Transfer, Table, Taken}
use Rattle.archive_table.specs.Events.{Reported}
use Rattle.tftp_ends.specs.Ends.{Sender, Receiver}

abbrev pub taken_of : {A : Type 0} → taking.Inside A → Taken
taken_of t = record { peer = t.peer; file = t.file }

abbrev pub step_of : {A : Type 0} → stepping.Inside A → Reported
step_of s = record { out = s.out; opened = s.opened; taken = s.taken; closed = s.closed; event = s.event }

abbrev pub end_of : held.End Sender Receiver → End
end_of (ends.Sending s) = sending s
end_of (ends.Receiving r) = receiving r

abbrev pub transfer_of : {A : Type 0} → transferring.Inside A → Transfer
transfer_of t = record { peer = t.peer; end = end_of t.end }

abbrev pub table_of : {A : Type 0} → tables.Inside A → Table
table_of t = record { request = t.request; maps = record { lynx = t.lynx; ms = t.ms }; live = t.live }
