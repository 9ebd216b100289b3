-- A file that arrives block by block, and is handed out once it is whole.
use Rattle.std.specs.Prelude.{ℕ, List, Option, Result, Ok, Err}
use Rattle.tftp_ends.specs.Ends.{Receiver, DataAnswer, receiver_take}
use Rattle.archive_table.specs.declared.incoming.Incoming.TheInside.{Inside}
use Rattle.archive_table.specs.Table.{IsReceiving}

abbrev pub incoming_of : {A : Type 0} → Inside A → Receiver
incoming_of i = i.receiver

abbrev pub IsIncoming : {A : Type 0} → Inside A → Type 0
IsIncoming i = IsReceiving i.receiver

-- the receiver after a DATA, from which a whole file is taken out at once, and that file
abbrev pub receiver_after : DataAnswer → Receiver
receiver_after a = (receiver_take a.receiver).receiver

abbrev pub file_after : DataAnswer → Option (List ℕ)
file_after a = (receiver_take a.receiver).file

abbrev pub first_of_two : {S W E : Type 0} → Result (S × W) E → Result S E
first_of_two (Ok r) = Ok r.0
first_of_two (Err e) = Err e
