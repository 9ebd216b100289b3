-- Some runs, event by event. Each datagram is named by its place in the network.
use Rattle.std.specs.Prelude.{◌≡◌, ℕ, ◌+◌, List, [], ◌∷◌, ◌++◌, length}
use Rattle.tftp_packet.specs.declared.endpoint.Endpoint.{Endpoint}
use Rattle.tws_file.specs.declared.«ruleset».Ruleset.TheVariants.{Lynx, Ms}
use Rattle.tws_best.specs.Best.{KeyedBody, collection_text}
use Rattle.archive_table.specs.Table.{Maps, Taken, all, empty_maps}
use Rattle.archive_client.specs.Client.{put, get}
use Rattle.archive_model.specs.World.{Event, begin, deliver, client_times_out, server_times_out, stray, restart, WorldStep, World, Asked, to_write, to_read, Opening, Got, server_endpoint, start, run, AllMerged}
use Rattle.archive_theorem.specs.Headline.{ClientHeadline}
use Rattle.archive_theorem.specs.Reuse.{OwnTests, own_tests}

-- ---- a file of one solution

-- the body of its record, with this many ticks
abbrev pub sample_body : (ticks : ℕ) → List ℕ
sample_body ticks = 1 ∷ 0 ∷ 0x42 ∷ 0x44 ∷ 0x48 ∷ 0x50 ∷ 0 ∷ 0 ∷ 0 ∷ 0 ∷ 0 ∷ 0 ∷ ticks ∷ 0 ∷ 0 ∷ 0 ∷ []

abbrev pub sample_file : (ticks : ℕ) → List ℕ
sample_file ticks = 0x35 ∷ 0x33 ∷ 0x9B ∷ 0x99 ∷ 1 ∷ 0 ∷ 0 ∷ 0 ∷ 16 ∷ 0 ∷ 0 ∷ 0 ∷ sample_body ticks

abbrev pub sample_entry : (ticks : ℕ) → KeyedBody
sample_entry ticks =
    record { key = record { number = 1; password = 0x42 ∷ 0x44 ∷ 0x48 ∷ 0x50 ∷ [] }; body = sample_body ticks }

-- the collections that have that solution
abbrev pub sample_maps : (ticks : ℕ) → Maps
sample_maps ticks =
    record { lynx = record { «ruleset» = Lynx; entries = sample_entry ticks ∷ [] }; ms = record { «ruleset» = Ms; entries = [] } }

-- the endpoint of a client, and that of a stranger
abbrev pub sample_client : (number : ℕ) → Endpoint
sample_client number = record { host = number + 1; port = 5000 }

abbrev pub stranger : Endpoint
stranger = record { host = 100; port = 7 }

-- everything is granted, and these are the collections after a file is taken
abbrev pub steps_of : (ticks : ℕ) → List Event → List WorldStep
steps_of ticks [] = []
steps_of ticks (event ∷ events) = record { event = event; grant = all; maps = sample_maps ticks } ∷ steps_of ticks events

-- the collections stay empty
abbrev pub plain_steps : List Event → List WorldStep
plain_steps [] = []
plain_steps (event ∷ events) = record { event = event; grant = all; maps = empty_maps } ∷ plain_steps events

-- ---- the runs

-- The request arrives twice, and two transfers are opened; the client binds to the first.
abbrev pub request_twice : List WorldStep
request_twice =
    steps_of 100
    (begin (sample_client 1) (put (sample_file 100)) ∷ deliver 0 4000 ∷ deliver 0 4001 ∷ deliver 1 0 ∷ deliver 2 0 ∷ deliver 4 0 ∷ deliver 3 0
    ∷ deliver 5 0 ∷ [])

-- Each ACK of the last block is late; the client sends that block again, and the file is taken once.
abbrev pub late_ack : List WorldStep
late_ack =
    steps_of 100
    (begin (sample_client 1) (put (sample_file 100)) ∷ deliver 0 4000 ∷ deliver 1 0 ∷ deliver 2 0 ∷ client_times_out (sample_client 1)
    ∷ deliver 4 0 ∷ client_times_out (sample_client 1) ∷ deliver 6 0 ∷ client_times_out (sample_client 1) ∷ deliver 8 0 ∷ deliver 9 0
    ∷ [])

-- a complete put
abbrev pub one_put : List Event
one_put = begin (sample_client 1) (put (sample_file 100)) ∷ deliver 0 4000 ∷ deliver 1 0 ∷ deliver 2 0 ∷ deliver 3 0 ∷ []

-- A better solution arrives while the first is fetched: that get has the collection as it was.
abbrev pub crossed_get : List WorldStep
crossed_get =
    steps_of 100 (one_put ++ begin (sample_client 2) (get Lynx) ∷ deliver 4 4001 ∷ [])
    ++ steps_of 90
    (begin (sample_client 3) (put (sample_file 90)) ∷ deliver 6 4002 ∷ deliver 7 0 ∷ deliver 8 0 ∷ deliver 5 0
    ∷ begin (sample_client 4) (get Lynx) ∷ deliver 11 4003 ∷ deliver 12 0 ∷ [])

-- Nobody answers.
abbrev pub unanswered : List WorldStep
unanswered =
    steps_of 100
    (begin (sample_client 1) (put (sample_file 100)) ∷ client_times_out (sample_client 1) ∷ client_times_out (sample_client 1)
    ∷ client_times_out (sample_client 1) ∷ client_times_out (sample_client 1) ∷ client_times_out (sample_client 1) ∷ [])

-- a stray from this endpoint to a port of the server
abbrev pub stray_by : Endpoint → (port : ℕ) → List ℕ → Event
stray_by source port bytes =
    stray (record { source = source; target = record { host = server_endpoint.host; port = port }; bytes = bytes })

abbrev pub write_request : List ℕ
write_request = 0 ∷ 2 ∷ 0x61 ∷ 0 ∷ 0x6F ∷ 0x63 ∷ 0x74 ∷ 0x65 ∷ 0x74 ∷ 0 ∷ []

-- A stranger acknowledges a block in the put's transfer, which is refused, and then puts another file.
abbrev pub strange_put : List WorldStep
strange_put =
    steps_of 90
    (begin (sample_client 1) (put (sample_file 100)) ∷ deliver 0 4000 ∷ stray_by stranger 4000 (0 ∷ 4 ∷ 0 ∷ 1 ∷ []) ∷ deliver 2 0
    ∷ stray_by stranger 6969 write_request ∷ deliver 4 4001 ∷ stray_by stranger 4001
    (0 ∷ 3 ∷ 0 ∷ 1 ∷ sample_file 90) ∷ deliver 6 0 ∷ deliver 1 0 ∷ deliver 8 0 ∷ deliver 9 0 ∷ [])

-- The server restarts between a put and a get.
abbrev pub restart_between : List WorldStep
restart_between =
    steps_of 100 (one_put ++ restart ∷ server_times_out 4000 ∷ begin (sample_client 2) (get Lynx) ∷ deliver 4 4001 ∷ deliver 5 0 ∷ [])

-- A file without bytes, which is not a solution file, changes no collection.
abbrev pub empty_put : List WorldStep
empty_put =
    plain_steps (begin (sample_client 1) (put []) ∷ deliver 0 4000 ∷ deliver 1 0 ∷ deliver 2 0 ∷ deliver 3 0 ∷ [])

-- An MS get from a server that has nothing: it fetches the text of the empty collection.
abbrev pub empty_get : List WorldStep
empty_get = plain_steps (begin (sample_client 1) (get Ms) ∷ deliver 0 4000 ∷ deliver 1 0 ∷ deliver 2 0 ∷ [])

-- The same get, of which the server's block is lost once: only the block that the server repeats brings it.
abbrev pub lost_block : List WorldStep
lost_block = plain_steps (begin (sample_client 1) (get Ms) ∷ deliver 0 4000 ∷ server_times_out 4000 ∷ deliver 2 0 ∷ deliver 3 0 ∷ [])

abbrev pub stray_from : Endpoint → Event
stray_from source = stray_by source 4000 (0 ∷ 4 ∷ 0 ∷ 1 ∷ [])

-- The strays that may not happen change nothing: one from the endpoint of an operation, one from the server's host.
abbrev pub barred_strays : List WorldStep
barred_strays =
    plain_steps
    (begin (sample_client 1) (put []) ∷ stray_from (sample_client 1) ∷ stray_from (record { host = server_endpoint.host; port = 7 })
    ∷ [])

-- The request arrives again after a restart, and finds the same port free.
abbrev pub opened_again : List WorldStep
opened_again = plain_steps (begin (sample_client 1) (put []) ∷ deliver 0 4000 ∷ restart ∷ deliver 0 4000 ∷ [])

-- Two operations begin at one endpoint, while a client at another one puts its file.
abbrev pub reused_elsewhere : List WorldStep
reused_elsewhere =
    steps_of 100
    (begin (sample_client 2) (put []) ∷ begin (sample_client 2) (put []) ∷ begin (sample_client 1) (put (sample_file 100)) ∷ deliver 2 4000
    ∷ deliver 3 0 ∷ deliver 4 0 ∷ deliver 5 0 ∷ [])

-- The same file is put twice from one endpoint.
abbrev pub begun_twice : List Event
begun_twice =
    begin (sample_client 1) (put []) ∷ deliver 0 4000 ∷ deliver 1 0 ∷ deliver 2 0 ∷ begin (sample_client 1) (put []) ∷ deliver 4 4001
    ∷ deliver 5 0 ∷ deliver 6 0 ∷ []

-- After a restart the request arrives again and finds the same port free, and then the file does.
abbrev pub opened_twice : List Event
opened_twice =
    begin (sample_client 1) (put []) ∷ deliver 0 4000 ∷ deliver 1 0 ∷ deliver 2 0 ∷ restart ∷ deliver 0 4000 ∷ deliver 2 0 ∷ []

-- A stranger puts a file from the endpoint at which a get begins.
abbrev pub strayed_there : List Event
strayed_there =
    stray_by (sample_client 1) 6969 write_request ∷ deliver 0 4000 ∷ stray_by (sample_client 1) 4000 (0 ∷ 3 ∷ 0 ∷ 1 ∷ []) ∷ deliver 2 0
    ∷ begin (sample_client 1) (get Lynx) ∷ []

-- In the run of these events the collections are as the server's contract says, the tests of own ports say this of the
-- client, and the headline does not hold of it.
pub record FailsBy (events : List Event) (tests : OwnTests) : Type 0 where
  pub merged : AllMerged (plain_steps events) start
  pub tested : own_tests (sample_client 1) (run (plain_steps events)) ≡ tests
  pub fails : ClientHeadline (run (plain_steps events)).past (sample_client 1) → ⊥

-- ---- the outcome of a run, in short

pub record Summary : Type 0 where
  -- how many datagrams were sent, and how many of them were strays
  pub datagrams : ℕ
  pub strays : ℕ
  pub opened : List Opening
  pub taken : List Taken
  pub sent : List Endpoint
  pub got : List Got
  -- the texts of the collections
  pub lynx : List ℕ
  pub ms : List ℕ

abbrev pub summary_of : World → Summary
summary_of w =
    record {
      datagrams = length w.net;
      strays = length w.strays;
      opened = w.opened;
      taken = w.taken;
      sent = w.sent;
      got = w.got;
      lynx = collection_text w.server.maps.lynx;
      ms = collection_text w.server.maps.ms;
    }

-- a file without records, of the ruleset with this code
abbrev pub bare_file : (code : ℕ) → List ℕ
bare_file code = 0x35 ∷ 0x33 ∷ 0x9B ∷ 0x99 ∷ code ∷ 0 ∷ 0 ∷ 0 ∷ []

abbrev pub sample_opening : (number port : ℕ) → Asked → (taken : ℕ) → Opening
sample_opening number port asked taken =
    record { peer = sample_client number; port = port; asked = asked; taken = taken }

-- one put, whose file is taken once and counted as sent
abbrev pub one_put_summary : (datagrams : ℕ) → List Opening → Summary
one_put_summary datagrams opened =
    record {
      datagrams = datagrams;
      strays = 0;
      opened = opened;
      taken = record { peer = sample_client 1; file = sample_file 100 } ∷ [];
      sent = sample_client 1 ∷ [];
      got = [];
      lynx = sample_file 100;
      ms = bare_file 2;
    }

-- nothing is taken, counted as sent or fetched
abbrev pub no_file_summary : (datagrams : ℕ) → Summary
no_file_summary datagrams =
    record {
      datagrams = datagrams;
      strays = 0;
      opened = [];
      taken = [];
      sent = [];
      got = [];
      lynx = bare_file 1;
      ms = bare_file 2;
    }

abbrev pub crossed_get_summary : Summary
crossed_get_summary =
    record {
      datagrams = 14;
      strays = 0;
      opened = sample_opening 1 4000 to_write 0 ∷ sample_opening 2 4001 (to_read Lynx) 1 ∷ sample_opening 3 4002 to_write 1
          ∷ sample_opening 4 4003 (to_read Lynx) 2 ∷ [];
      taken = record { peer = sample_client 1; file = sample_file 100 } ∷ record { peer = sample_client 3; file = sample_file 90 } ∷ [];
      sent = sample_client 1 ∷ [];
      got = record { client = sample_client 2; file = sample_file 100 } ∷ record { client = sample_client 4; file = sample_file 90 } ∷ [];
      lynx = sample_file 90;
      ms = bare_file 2;
    }

abbrev pub strange_put_summary : Summary
strange_put_summary =
    record {
      datagrams = 10;
      strays = 3;
      opened = sample_opening 1 4000 to_write 0 ∷ record { peer = stranger; port = 4001; asked = to_write; taken = 0 } ∷ [];
      taken = record { peer = stranger; file = sample_file 90 } ∷ record { peer = sample_client 1; file = sample_file 100 } ∷ [];
      sent = sample_client 1 ∷ [];
      got = [];
      lynx = sample_file 90;
      ms = bare_file 2;
    }

abbrev pub restart_summary : Summary
restart_summary =
    record {
      datagrams = 7;
      strays = 0;
      opened = sample_opening 1 4000 to_write 0 ∷ sample_opening 2 4001 (to_read Lynx) 1 ∷ [];
      taken = record { peer = sample_client 1; file = sample_file 100 } ∷ [];
      sent = sample_client 1 ∷ [];
      got = record { client = sample_client 2; file = sample_file 100 } ∷ [];
      lynx = sample_file 100;
      ms = bare_file 2;
    }

abbrev pub empty_put_summary : Summary
empty_put_summary =
    record {
      datagrams = 4;
      strays = 0;
      opened = sample_opening 1 4000 to_write 0 ∷ [];
      taken = record { peer = sample_client 1; file = [] } ∷ [];
      sent = sample_client 1 ∷ [];
      got = [];
      lynx = bare_file 1;
      ms = bare_file 2;
    }

abbrev pub empty_get_summary : Summary
empty_get_summary =
    record {
      datagrams = 3;
      strays = 0;
      opened = sample_opening 1 4000 (to_read Ms) 0 ∷ [];
      taken = [];
      sent = [];
      got = record { client = sample_client 1; file = bare_file 2 } ∷ [];
      lynx = bare_file 1;
      ms = bare_file 2;
    }

abbrev pub lost_block_summary : Summary
lost_block_summary = record empty_get_summary { datagrams = 4 }
