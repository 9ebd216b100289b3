-- The calls after a step: what is sent, and what is closed.
use Rattle.std.specs.Prelude.{◌≡◌, ℕ, Bool, true, false, List, [], ◌∷◌, Option, None}
use Rattle.tftp_packet.specs.declared.out.Out.{Out}
use Rattle.archive_wire.specs.Wire.{Entry, Grows, closed, SendsOut}
use Rattle.archive_server.specs.Parts.{Acts}
use Rattle.archive_wire.proofs.Growing.{grows_none, grows_join}

-- a port that is no longer needed is closed, and nothing was sent
pub acts_close : {before after : Option (List Entry)} (closes : Bool) (port : ℕ) (ok : Bool) → closes ≡ true → Grows before after (closed port ok ∷ []) → Acts closes port None before after
acts_close true port ok e grows = record { replies = record { sent = ok; closed = ok }; grows = grows }
acts_close false port ok e grows = cc

-- a port that is still needed is not
pub acts_keep : (log : Option (List Entry)) (closes : Bool) (port : ℕ) → closes ≡ false → Acts closes port None log log
acts_keep log true port e = cc
acts_keep log false port e = record { replies = record { sent = true; closed = true }; grows = grows_none log }

-- a datagram is sent, and then the port is closed or not
pub acts_both : {a b c : Option (List Entry)} (closes : Bool) (port : ℕ) (out : Option Out) → SendsOut out a b → Acts closes port None b c → Acts closes port out a c
acts_both closes port out first then =
    record { replies = record { sent = first.ok; closed = then.replies.closed }; grows = grows_join first.grows then.grows }
