-- How long a client can last: its blocks bound its time-outs, whatever arrives between them.
use Rattle.std.specs.Prelude.{◌≡◌, ℕ, ◌+◌, ◌*◌, ◌<◌, false, List, [], ◌∷◌}
use Rattle.byte_output.specs.Bytes.{IsBytes}
use Rattle.tftp_packet.specs.declared.endpoint.Endpoint.{Endpoint}
use Rattle.tftp_packet.specs.Blocks.{block_count}
use Rattle.tftp_ends.specs.declared.limits.TheConstants.{MAX_BLOCKS, MISSES}
use Rattle.tftp_ends.specs.Ends.{Verdict}
use Rattle.archive_client.specs.Client.{Operation, put, get, Phase, asking, sending, receiving, failed, Client, is_over, client_datagram, client_timeout}

-- what happens to a client after its start
pub data ClientEvent : Type 0 where
  arrives : (verdict : Verdict) (from : Endpoint) (bytes : List ℕ) → ClientEvent
  waits : ClientEvent

abbrev pub client_after : ClientEvent → Client → Client
client_after (arrives verdict from bytes) c = (client_datagram verdict from bytes c).client
client_after waits c = (client_timeout c).client

abbrev pub client_run : List ClientEvent → Client → Client
client_run [] c = c
client_run (event ∷ events) c = client_run events (client_after event c)

-- what arrives are bytes
abbrev pub AreBytes : List ClientEvent → Type 0
AreBytes [] = Unit {0}
AreBytes (arrives verdict from bytes ∷ events) = IsBytes bytes × AreBytes events
AreBytes (waits ∷ events) = AreBytes events

abbrev pub time_outs : List ClientEvent → ℕ
time_outs [] = 0
time_outs (arrives verdict from bytes ∷ events) = time_outs events
time_outs (waits ∷ events) = time_outs events + 1

-- how many blocks it has sent, or received
abbrev pub phase_blocks : Phase → ℕ
phase_blocks (asking operation misses) = 0
phase_blocks (sending peer s) = s.current
phase_blocks (receiving peer r) = r.count
phase_blocks (failed why) = 0

-- how many it can have at most
abbrev pub most_blocks : Operation → ℕ
most_blocks (put file) = block_count file
most_blocks (get rules) = MAX_BLOCKS

-- as long as it is not over, it has had fewer than MISSES time-outs, and MISSES for each block that has come meanwhile
abbrev pub IsPatient : Client → List ClientEvent → Type 0
IsPatient c events =
    is_over (client_run events c) ≡ false → time_outs events + MISSES * phase_blocks c.phase < MISSES * (phase_blocks (client_run events c).phase + 1)
