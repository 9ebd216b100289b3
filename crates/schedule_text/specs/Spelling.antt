-- How an event is written: a text that is read back as that event.
use Rattle.std.specs.Prelude.{ℕ, ◌<◌, ◌^◌, List, [], ◌∷◌, ◌++◌, codes, decimal}
use Rattle.byte_output.specs.Bytes.{IsBytes}
use Rattle.hex.specs.Hex.{encode_lower}
use Rattle.tftp_packet.specs.declared.endpoint.Endpoint.{Endpoint}
use Rattle.tws_file.specs.Words.{ruleset_name}
use Rattle.archive_client.specs.Client.{put, get}
use Rattle.schedule_text.specs.Words.{found_word}
use Rattle.archive_model.specs.World.{Event, begin, deliver, client_times_out, server_times_out, stray, restart, unknown_keep}

-- ---- events whose parts fit their types

abbrev pub FitsEndpoint : Endpoint → Type 0
FitsEndpoint e = (e.host < 2 ^ 32) × (e.port < 2 ^ 16)

abbrev pub Fits : Event → Type 0
Fits (begin client (put file)) = FitsEndpoint client × IsBytes file
Fits (begin client (get rules)) = FitsEndpoint client
Fits (deliver index spare) = (index < 2 ^ 64) × (spare < 2 ^ 16)
Fits (client_times_out client) = FitsEndpoint client
Fits (server_times_out port) = port < 2 ^ 16
Fits (stray d) = FitsEndpoint d.source × FitsEndpoint d.target × IsBytes d.bytes
Fits restart = Unit {0}
Fits (unknown_keep index found) = index < 2 ^ 64

abbrev pub AllFit : List Event → Type 0
AllFit [] = Unit {0}
AllFit (e ∷ events) = Fits e × AllFit events

-- ---- their text

-- bytes as pairs of lower-case hexadecimal digits, or `-` for none
abbrev pub bytes_word : List ℕ → List ℕ
bytes_word [] = codes "-"
bytes_word (b ∷ bytes) = encode_lower (b ∷ bytes)

-- an endpoint's two words before others
abbrev pub endpoint_words : Endpoint → List (List ℕ) → List (List ℕ)
endpoint_words e words = decimal e.host ∷ decimal e.port ∷ words

abbrev pub event_words : Event → List (List ℕ)
event_words (begin client (put file)) = codes "begin" ∷ codes "put" ∷ endpoint_words client (bytes_word file ∷ [])
event_words (begin client (get rules)) = codes "begin" ∷ codes "get" ∷ endpoint_words client (ruleset_name rules ∷ [])
event_words (deliver index spare) = codes "deliver" ∷ decimal index ∷ decimal spare ∷ []
event_words (client_times_out client) = codes "client-timeout" ∷ endpoint_words client []
event_words (server_times_out port) = codes "server-timeout" ∷ decimal port ∷ []
event_words (stray d) = codes "stray" ∷ endpoint_words d.source (endpoint_words d.target (bytes_word d.bytes ∷ []))
event_words restart = codes "restart" ∷ []
event_words (unknown_keep index found) = codes "unknown-keep" ∷ decimal index ∷ found_word found ∷ []

-- each word with a space after it
abbrev pub spelled : (words : List (List ℕ)) → List ℕ
spelled [] = []
spelled (word ∷ words) = word ++ 32 ∷ spelled words

abbrev pub event_text : Event → List ℕ
event_text e = spelled (event_words e)

-- a line for each event
abbrev pub schedule_text : List Event → List ℕ
schedule_text [] = []
schedule_text (e ∷ events) = event_text e ++ 10 ∷ schedule_text events
