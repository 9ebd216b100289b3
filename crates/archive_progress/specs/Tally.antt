-- What is counted of a transfer, and when its line is drawn.
use Rattle.std.specs.Prelude.{ℕ, ◌-◌, nat_le, Bool, true, false, not, ◌&&◌, Option, None, Some, unwrap_or, Result, Ok, Err, if◌then◌else◌}
use Rattle.tftp_packet.specs.Packet.{Packet, read, write, data_block, ack, error}
use Rattle.tftp_packet.specs.declared.packet_fault.PacketFault.{PacketFault}
use Rattle.archive_progress.specs.declared.limits.TheConstants.{DELAY, PAUSE}
use Rattle.archive_progress.specs.declared.progress.Progress.{Progress}
use Rattle.archive_progress.specs.declared.tally.Tally.{Tally}

-- A client that sends this knows that so many blocks were acknowledged: the one before that of a DATA, that of an ACK.
abbrev pub acknowledged : Result Packet PacketFault → ℕ
acknowledged (Ok (read name mode)) = 0
acknowledged (Ok (write name mode)) = 0
acknowledged (Ok (data_block block body)) = block - 1
acknowledged (Ok (ack block)) = block
acknowledged (Ok (error code text)) = 0
acknowledged (Err e) = 0

-- when the transfer began, if it is updated at this time: at the first update
abbrev pub beginning : (time : ℕ) → Tally → ℕ
beginning time t = unwrap_or t.began time

-- how far the transfer has come
abbrev pub progress_at : (time : ℕ) → Tally → Progress
progress_at time t = record { blocks = t.blocks; length = t.length; millis = time - beginning time t }

-- the line was drawn long enough ago, or never
abbrev pub may_draw : (time : ℕ) → (drawn : Option ℕ) → Bool
may_draw time None = true
may_draw time (Some moment) = nat_le PAUSE (time - moment)

-- the transfer runs, and has run for long enough
abbrev pub is_due : (time : ℕ) → Tally → Bool
is_due time t = not t.ended && nat_le DELAY (time - beginning time t) && may_draw time t.drawn

-- what is drawn at an update
abbrev pub due_at : (time : ℕ) → Tally → Option Progress
due_at time t = if is_due time t then Some (progress_at time t) else None

-- the tally after the update
abbrev pub updated : (time : ℕ) → Tally → Tally
updated time t = record t { began = Some (beginning time t); drawn = if is_due time t then Some time else t.drawn }

abbrev pub new_tally : Tally
new_tally = record { length = None; blocks = 0; began = None; drawn = None; ended = false }
