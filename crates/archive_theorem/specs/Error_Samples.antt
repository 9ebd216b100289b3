-- Some runs in which a put fails, event by event. Each datagram is named by its place in the network.
use Rattle.std.specs.Prelude.{◌≡◌, true, List, [], ◌∷◌, ◌++◌}
use Rattle.tftp_packet.specs.declared.cause.Cause.{Cause}
use Rattle.archive_table.specs.Table.{Taken, unkept, empty_maps}
use Rattle.archive_client.specs.Client.{put}
use Rattle.archive_model.specs.World.{Event, begin, deliver, client_times_out, restart, unknown_keep, WorldStep, start, run, AllMerged}
use Rattle.archive_theorem.specs.Headline.{HasOwnPorts}
use Rattle.archive_theorem.specs.Errors.{HasFailed}
use Rattle.archive_theorem.specs.Samples.{sample_client, plain_steps}

-- a put of a file without bytes, up to its DATA, which is the third datagram
abbrev pub begun_put : List Event
begun_put = begin (sample_client 1) (put []) ∷ deliver 0 4000 ∷ deliver 1 0 ∷ []

-- The file is not kept.
abbrev pub unkept_put : List WorldStep
unkept_put = plain_steps begun_put ++ record { event = deliver 2 0; grant = unkept; maps = empty_maps } ∷ plain_steps (deliver 3 0 ∷ [])

-- It is not known whether the file is kept, and the next start finds it.
abbrev pub found_put : List WorldStep
found_put = plain_steps (begun_put ++ unknown_keep 2 true ∷ deliver 3 0 ∷ [])

-- The DATA arrives after the client has given up.
abbrev pub late_put : List WorldStep
late_put =
    plain_steps
    (begun_put ++ client_times_out (sample_client 1) ∷ client_times_out (sample_client 1) ∷ client_times_out (sample_client 1)
    ∷ client_times_out (sample_client 1) ∷ client_times_out (sample_client 1) ∷ deliver 2 0 ∷ [])

-- The file is taken and its ACK is lost; the server restarts, and another transfer is at the port when the DATA comes again.
abbrev pub stale_put : List WorldStep
stale_put =
    plain_steps
    (begun_put ++ deliver 2 0 ∷ restart ∷ begin (sample_client 2) (put []) ∷ deliver 4 4000 ∷ client_times_out (sample_client 1) ∷ deliver 6 0
    ∷ deliver 7 0 ∷ [])

-- the file of the put
abbrev pub put_taken : List Taken
put_taken = record { peer = sample_client 1; file = [] } ∷ []

-- At the end of the run, which meets the premises of the law, the put has failed for this cause, and this was taken.
pub record PutFails (steps : List WorldStep) (why : Cause) (taken recovered : List Taken) : Type 0 where
  pub own : HasOwnPorts (run steps)
  pub merged : AllMerged steps start
  pub fails : HasFailed (run steps) (sample_client 1) why
  pub taken_is : (run steps).taken ≡ taken
  pub recovered_is : (run steps).recovered ≡ recovered
