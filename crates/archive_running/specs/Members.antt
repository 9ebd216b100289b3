-- What the turns of archive_server and archive_runs are in the world of archive_model: a datagram that is received and not
-- dropped is a `receives`, and a time-out is a `client_waits_long` or a `server_waits_long`.
use Rattle.std.specs.Prelude.{ℕ, Bool, true, false, ◌==◌, not, nat_le, List, [], ◌∷◌, map, filter, flat_map, Option, None, Some}
use Rattle.tftp_packet.specs.declared.endpoint.Endpoint.{Endpoint}
use Rattle.tftp_ends.specs.Ends.{Verdict, granted, refused}
use Rattle.archive_table.specs.Table.{Table, Maps, Grant, all, no_memory, empty_maps}
use Rattle.archive_server.specs.declared.next.Next.{Next}
use Rattle.archive_server.specs.declared.next.Next.TheVariants as next
use Rattle.archive_wire.specs.Wire.{Entry, opened, closed, came, quiet, failed, sent, waited, Replies, Receipt, datagram, nothing, fault}
use Rattle.archive_server.specs.Turn.{Answers, is_usable}
use Rattle.archive_runs.specs.Run.{Run, RunAnswers}
use Rattle.archive_runs.specs.declared.pace.Pace.{Pace}
use Rattle.archive_runs.specs.Rounds.{RoundAnswers, is_late, is_ready}
use Rattle.archive_model.specs.World.{Datagram, datagram_of}
use Rattle.archive_theorem.specs.Traces.{Deed, receives, client_waits_long, server_waits_long, ends_in_keep, Member}

-- ---- what calls of a wire on this host send and receive

abbrev pub arrival : (host port : ℕ) → (from : Endpoint) (bytes : List ℕ) → Datagram
arrival host port from bytes =
    record { source = from; target = record { host = host; port = port }; bytes = bytes }

-- A datagram whose `send` failed counts as sent, and is lost.
abbrev pub sent_in : (host : ℕ) → Entry → List Datagram
sent_in host (opened port) = []
sent_in host (closed port ok) = []
sent_in host (came port from bytes) = []
sent_in host (quiet port) = []
sent_in host (failed port) = []
sent_in host (sent out ok) = datagram_of host out ∷ []
sent_in host (waited after until ready now settled) = []

abbrev pub come_in : (host : ℕ) → Entry → List Datagram
come_in host (opened port) = []
come_in host (closed port ok) = []
come_in host (came port from bytes) = arrival host port from bytes ∷ []
come_in host (quiet port) = []
come_in host (failed port) = []
come_in host (sent out ok) = []
come_in host (waited after until ready now settled) = []

abbrev pub sent_in_calls : (host : ℕ) → List Entry → List Datagram
sent_in_calls host calls = flat_map (sent_in host) calls

abbrev pub come_to : (host : ℕ) → List Entry → List Datagram
come_to host calls = flat_map (come_in host) calls

-- ---- one member

-- The grant and the collections matter only if a step asks for them, and these deeds do not.
abbrev pub does : Deed → Member
does deed = record { deed = deed; grant = all; maps = empty_maps }

abbrev pub reception : Datagram → (spare : ℕ) → Grant → Maps → Member
reception d spare grant maps = record { deed = receives d spare; grant = grant; maps = maps }

abbrev pub grant_for : Verdict → Grant
grant_for granted = all
grant_for refused = no_memory

-- ---- a visit of the server on this host

abbrev pub transfer_members : (host : ℕ) → Receipt → Answers → (port : ℕ) → List Member
transfer_members host (datagram from bytes) a port = reception (arrival host port from bytes) 0 a.grant a.maps ∷ []
transfer_members host nothing a port = []
transfer_members host fault a port = []

-- A request is dropped if no port could be opened for it, or if the port cannot be used.
abbrev pub used_members : (host : ℕ) → (usable : Bool) → (spare : ℕ) → Verdict → (from : Endpoint) (bytes : List ℕ) → Table → List Member
used_members host true spare verdict from bytes s = reception (arrival host s.request from bytes) spare (grant_for verdict) empty_maps ∷ []
used_members host false spare verdict from bytes s = []

abbrev pub spared_members : (host : ℕ) → Option ℕ → Verdict → (from : Endpoint) (bytes : List ℕ) → Table → List Member
spared_members host (Some spare) verdict from bytes s = used_members host (is_usable spare s) spare verdict from bytes s
spared_members host None verdict from bytes s = []

-- A datagram that is not let in is dropped too.
abbrev pub admitted_members : (host : ℕ) → (admitted : Bool) → Answers → (from : Endpoint) (bytes : List ℕ) → Table → List Member
admitted_members host true a from bytes s = spared_members host a.spare a.verdict from bytes s
admitted_members host false a from bytes s = []

abbrev pub request_members : (host : ℕ) → Receipt → Answers → Table → List Member
request_members host (datagram from bytes) a s = admitted_members host a.admitted a from bytes s
request_members host nothing a s = []
request_members host fault a s = []

abbrev pub visit_members : (host : ℕ) → Next → Answers → Table → List Member
visit_members host next.Request a s = request_members host a.receipt a s
visit_members host (next.Transfer port) a s = transfer_members host a.receipt a port
visit_members host next.Nowhere a s = []

-- the time-outs after a visit
abbrev pub late_members : List (ℕ × Replies) → List Member
late_members late = map (λ e. does (server_waits_long e.0)) late

-- ---- a keep whose outcome is unknown

-- the time-outs of other ports than this one
abbrev pub others_of : (port : ℕ) → List (ℕ × Replies) → List (ℕ × Replies)
others_of port late = filter (λ e. not (e.0 == port)) late

-- With this datagram the server ends, and the next start finds these collections.
abbrev pub end_member : Datagram → Maps → Member
end_member d maps = record { deed = ends_in_keep d true; grant = all; maps = maps }

-- ---- a turn of a client

-- A client times out in its last quiet turn.
abbrev pub quiet_members : (last : Bool) → (host : ℕ) → Run → List Member
quiet_members true host r = does (client_waits_long (record { host = host; port = r.port })) ∷ []
quiet_members false host r = []

abbrev pub received_members : Receipt → Verdict → (host : ℕ) → Run → List Member
received_members (datagram from bytes) verdict host r =
    reception (arrival host r.port from bytes) 0 (grant_for verdict) empty_maps ∷ []
received_members nothing verdict host r = quiet_members (nat_le r.left 1) host r
received_members fault verdict host r = quiet_members (nat_le r.left 1) host r

abbrev pub client_members : RunAnswers → (host : ℕ) → Run → List Member
client_members a host r = received_members a.receipt a.verdict host r

-- ---- a round of a client

-- what it receives at its port
abbrev pub arrived_members : Receipt → Verdict → (host : ℕ) → Run → List Member
arrived_members (datagram from bytes) verdict host r =
    reception (arrival host r.port from bytes) 0 (grant_for verdict) empty_maps ∷ []
arrived_members nothing verdict host r = []
arrived_members fault verdict host r = []

abbrev pub goes_members : (late here : Bool) → RoundAnswers → (host : ℕ) → Run → List Member
goes_members true here a host r = does (client_waits_long (record { host = host; port = r.port })) ∷ []
goes_members false true a host r = arrived_members a.receipt a.verdict host r
goes_members false false a host r = []

abbrev pub round_members : Pace → RoundAnswers → (host : ℕ) → Run → List Member
round_members pace a host r = goes_members (is_late pace r a) (is_ready r.port a.ready) a host r
