-- The plain value of each end, without its layout in memory.
use Rattle.std.specs.Prelude.{ℕ, List}
use Rattle.tftp_ends.specs.declared.sender.Sender.TheInside as sending
use Rattle.tftp_ends.specs.declared.receiver.Receiver.TheInside as receiving
use Rattle.tftp_ends.specs.Ends.{Sender, Receiver}

-- the file is the one that the sender's blocks make
abbrev pub sender_of : {B : Type 0} → (file : B → List ℕ) → sending.Inside B → Sender
sender_of file s = record { file = file s.blocks; current = s.current; misses = s.misses; state = s.state }

abbrev pub receiver_of : {A : Type 0} → receiving.Inside A → Receiver
receiver_of r = record { count = r.count; file = r.file; misses = r.misses; state = r.state }
