-- The text of an outcome: a line for each thing that a run leaves. What a replay's answer says of the events.
use Rattle.std.specs.Prelude.{◌≡◌, ◌⊎◌, ℕ, List, [], ◌∷◌, ◌++◌, codes, decimal, Option, Some}
use Rattle.std.specs.List.{flat_map}
use Rattle.hex.specs.Hex.{encode_lower}
use Rattle.tftp_packet.specs.declared.endpoint.Endpoint.{Endpoint}
use Rattle.tws_file.specs.Words.{ruleset_name}
use Rattle.archive_table.specs.Table.{Taken}
use Rattle.archive_table.specs.Keeper.{Keeping}
use Rattle.archive_model.specs.World.{Event, Datagram, Asked, to_write, to_read, Opening, Got}
use Rattle.archive_world.specs.Outcomes.{Outcome}
use Rattle.archive_world.specs.declared.world_fault.WorldFault.{WorldFault}
use Rattle.archive_world.specs.declared.world_fault.WorldFault.TheVariants.{BadEvent, PortReused, NotKept, NotLoaded, Memory}
use Rattle.schedule_text.specs.Schedule.{schedule_of}
use Rattle.archive_world.specs.Replays.{HasRun, FailsBy, nothing}

-- ---- lines

-- bytes as pairs of hexadecimal digits, or `-` for none, and the end of the line
abbrev pub bytes_text : List ℕ → List ℕ
bytes_text [] = codes "-" ++ 10 ∷ []
bytes_text (b ∷ bytes) = encode_lower (b ∷ bytes) ++ 10 ∷ []

abbrev pub text_line : (name bytes : List ℕ) → List ℕ
text_line name bytes = name ++ codes " " ++ bytes_text bytes

abbrev pub file_line : (name : List ℕ) → Endpoint → (bytes : List ℕ) → List ℕ
file_line name at bytes = name ++ codes " " ++ decimal at.host ++ codes " " ++ decimal at.port ++ codes " " ++ bytes_text bytes

abbrev pub taken_line : Taken → List ℕ
taken_line taken = file_line (codes "taken") taken.peer taken.file

abbrev pub recovered_line : Taken → List ℕ
recovered_line taken = file_line (codes "recovered") taken.peer taken.file

abbrev pub sent_line : Endpoint → List ℕ
sent_line client = codes "sent " ++ decimal client.host ++ codes " " ++ decimal client.port ++ 10 ∷ []

abbrev pub got_line : Got → List ℕ
got_line got = file_line (codes "got") got.client got.file

-- what was asked for, and how many files were taken by then, and the end of the line
abbrev pub asked_text : Asked → (taken : ℕ) → List ℕ
asked_text to_write taken = codes " write " ++ decimal taken ++ 10 ∷ []
asked_text (to_read rules) taken = codes " " ++ ruleset_name rules ++ codes " " ++ decimal taken ++ 10 ∷ []

abbrev pub opened_line : Opening → List ℕ
opened_line o =
    codes "opened " ++ decimal o.peer.host ++ codes " " ++ decimal o.peer.port ++ codes " " ++ decimal o.port ++ asked_text o.asked o.taken

abbrev pub datagram_line : Datagram → List ℕ
datagram_line d =
    codes "datagram " ++ decimal d.source.host ++ codes " " ++ decimal d.source.port ++ codes " " ++ decimal d.target.host ++ codes " "
    ++ decimal d.target.port ++ codes " " ++ bytes_text d.bytes

-- ---- the whole text

abbrev pub outcome_text : Outcome → List ℕ
outcome_text o =
    flat_map taken_line o.taken ++ flat_map recovered_line o.recovered ++ flat_map sent_line o.sent ++ flat_map got_line o.got
    ++ flat_map opened_line o.opened ++ text_line (codes "lynx") o.lynx ++ text_line (codes "ms") o.ms ++ flat_map datagram_line o.datagrams

abbrev pub fault_text : WorldFault → List ℕ
fault_text (BadEvent index) = codes "bad event " ++ decimal index ++ 10 ∷ []
fault_text (PortReused index) = codes "port reused " ++ decimal index ++ 10 ∷ []
fault_text (NotKept index) = codes "not kept " ++ decimal index ++ 10 ∷ []
fault_text (NotLoaded index) = codes "not loaded " ++ decimal index ++ 10 ∷ []
fault_text Memory = codes "out of memory" ++ 10 ∷ []

-- Over a keeper that had nothing, the text is that of the outcome of these events, or that of the first fault.
abbrev pub Answers : List Event → (text : List ℕ) → Type 0
Answers events text =
    (now : Option (List Keeping))
    × (((outcome : Outcome) × HasRun events (Some []) now outcome × (text ≡ outcome_text outcome))
    ⊎ ((fault : WorldFault) × FailsBy nothing fault events (Some []) now × (text ≡ fault_text fault)))

-- these lines answer the events of this text
abbrev pub IsAnswer : (text lines : List ℕ) → Type 0
IsAnswer text lines = (events : List Event) × (schedule_of text ≡ Some events) × Answers events lines
