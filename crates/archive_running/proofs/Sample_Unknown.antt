-- A run in which the server ends, as it does not know whether it has kept a file, and its next start finds it.
use Rattle.std.proofs.Common.{true, false, List, [], ◌∷◌, ◌++◌, Option, None, Some, refl, inl, inr}
use Rattle.tftp_packet.specs.declared.refusal.Refusal.TheVariants.{NotKept}
use Rattle.tftp_packet.specs.Packet.{encode, data_block}
use Rattle.tftp_packet.specs.Decode.{decode_bytes}
use Rattle.tftp_packet.specs.Blocks.{block_of}
use Rattle.tftp_ends.specs.Ends.{granted}
use Rattle.tws_file.specs.declared.«ruleset».Ruleset.TheVariants.{Lynx}
use Rattle.archive_table.specs.Keeper.{Keeping, keeping}
use Rattle.archive_table.specs.Table.{Taken, unkept, empty_maps, refusal_dgram}
use Rattle.archive_wire.specs.Wire.{Entry, datagram}
use Rattle.archive_server.specs.declared.mode.Mode.{Mode}
use Rattle.archive_server.specs.declared.mode.Mode.TheVariants.{Round}
use Rattle.archive_server.specs.declared.next.Next.{Next}
use Rattle.archive_server.specs.declared.next.Next.TheVariants as next
use Rattle.archive_server.specs.Turn.{Answers, Visited, Walk, IsTurnIn, next_visit, walk_after, open_policies}
use Rattle.archive_runs.specs.Run.{Run, RunAnswers, run_turn}
use Rattle.archive_model.specs.World.{server_endpoint}
use Rattle.archive_theorem.specs.Samples.{sample_file, sample_maps}
use Rattle.archive_theorem.specs.Traces.{Member, starts}
use Rattle.archive_theorem.specs.Headline.{HasOwnPorts}
use Rattle.archive_model.proofs.Places.{Has-contains}
use Rattle.archive_theorem.proofs.Keeper_Loads.{loads_itself}
use Rattle.archive_theorem.proofs.Port_Sample.{own-by}
use Rattle.archive_theorem.proofs.Sample_Files.{sample_collected_100, hundred-first}
use Rattle.archive_running.specs.Members.{arrival, client_members, does, end_member}
use Rattle.archive_running.specs.Archive.{Archive, after_end, LoadsWith, Moves, server_rounds, server_ends, client_turns, Reaches, more, ArchiveRun, world_of, CanEnd}
use Rattle.archive_running.proofs.Sample_Turns.{from_nothing, brings_at, a_visit}
use Rattle.archive_running.proofs.Sample_Rounds.{after, calls_of, a_round, rounded, round_members, client, port_of, asking, begun, client_turned, request, begins, nothing_kept, kept, bound, bound_members, bound-reaches, block, sending, changes, lynx}

-- ---- the keep, of which the server is told that it failed

abbrev put_file : Taken
put_file = record { peer = client 2; file = sample_file 100 }

abbrev refused : Answers
refused =
    record {
      receipt = block.receipt;
      admitted = true;
      spare = block.spare;
      verdict = granted;
      grant = unkept;
      maps = empty_maps;
      replies = block.replies;
    }

abbrev mode : Mode
mode = Round 0 None open_policies

abbrev at_4000 : Next
at_4000 = next.Transfer 4000

abbrev visited : Visited
visited = next_visit at_4000 refused bound.server

abbrev walked : Walk
walked = walk_after mode visited [] []

abbrev last_calls : List Entry
last_calls = visited.calls ++ walked.calls

-- the keeper's list, as the server sees it
abbrev told : Option (List Keeping)
told = Some (keeping Lynx (sample_file 100) false ∷ [])

last_turn : IsTurnIn mode at_4000 bound.server walked.server [] walked.timers false last_calls nothing_kept told
unfolding encode decode_bytes block_of
last_turn = a_visit mode at_4000 bound.server refused nothing_kept told refl (sample_maps 100, hundred-first, inl (refl, changes, inr refl)) refl refl

-- and what the next start finds
finds : LoadsWith (sample_file 100) nothing_kept kept empty_maps (sample_maps 100)
finds = (
  sample_maps 100,
  keeping Lynx (sample_file 100) true ∷ [],
  hundred-first,
  inl (refl, inr (changes, refl)),
  λ rules. refl,
  (Some (sample_file 100), refl, loads_itself Lynx (sample_maps 100).lynx sample_collected_100 refl),
  (None, refl, refl),
)

abbrev ended : Archive
ended = after_end put_file (sample_maps 100) last_calls kept bound

abbrev the_end : Member
the_end = end_member (arrival server_endpoint.host 4000 (client 2) (encode (data_block 1 (sample_file 100)))) (sample_maps 100)

ends : Moves bound ended ([] ++ the_end ∷ [])
unfolding encode decode_bytes block_of last_turn
ends =
    server_ends bound mode 4000 (client 2) (encode (data_block 1 (sample_file 100))) [] walked.timers walked.server false last_calls told kept last_turn
    put_file (sample_maps 100) refl refl refl (brings_at server_endpoint.host last_calls bound _ 2 refl refl) finds

-- ---- the put is told so

abbrev not_kept : RunAnswers
not_kept = record { receipt = datagram (port_of 4000) (refusal_dgram NotKept); verdict = granted; sent = true }

abbrev failed : Run
failed = (run_turn not_kept sending).run

abbrev answered : Archive
answered = client_turned 2 sending not_kept ended

fails : Moves ended answered (client_members not_kept 2 sending)
unfolding encode decode_bytes block_of
fails =
    let calls = (run_turn not_kept sending).calls in
    client_turns ended 2 sending failed calls (record { answers = not_kept; run = refl; calls_are = refl }) (λ e. cc) refl
    (brings_at 2 calls ended _ 3 refl refl)

-- ---- the get

abbrev second : Archive
second = begun 3 lynx answered

abbrev served : Archive
served = rounded 6969 second (request 3 4001 lynx) kept

abbrev whole : RunAnswers
whole = record { receipt = datagram (port_of 4001) (encode (data_block 1 (sample_file 100))); verdict = granted; sent = true }

abbrev fetched : Archive
fetched = client_turned 3 (asking lynx) whole served

opens : Moves second served (round_members 6969 second (request 3 4001 lynx))
unfolding encode decode_bytes block_of
opens =
    let answers = request 3 4001 lynx in
    server_rounds second 0 [] open_policies (after 6969 second answers) _ (calls_of 6969 second answers) kept (a_round 6969 second answers kept refl refl refl refl)
    (brings_at server_endpoint.host (calls_of 6969 second answers) second _ 4 refl refl)

gets : Moves served fetched (client_members whole 3 (asking lynx))
unfolding encode decode_bytes block_of
gets =
    let calls = (run_turn whole (asking lynx)).calls in
    client_turns served 3 (asking lynx) (run_turn whole (asking lynx)).run calls (record { answers = whole; run = refl; calls_are = refl }) (λ e. cc) refl
    (brings_at 3 calls served _ 5 refl refl)

abbrev members : List Member
members =
    bound_members ++ ([] ++ the_end ∷ []) ++ client_members not_kept 2 sending ++ (does (starts (client 3) lynx) ∷ [])
    ++ round_members 6969 second (request 3 4001 lynx) ++ client_members whole 3 (asking lynx)

reaches : Reaches from_nothing fetched members
unfolding encode decode_bytes block_of
reaches = more (more (more (more (more bound-reaches ends) fails) (begins 3 lynx answered (λ e. cc) refl)) opens) gets

abbrev the_run : ArchiveRun from_nothing
the_run = record { archive = fetched; members = members; reaches = reaches }

own : HasOwnPorts (world_of the_run)
unfolding encode decode_bytes block_of
own = own-by (world_of the_run) refl refl refl

pub can-end : CanEnd (sample_file 100)
unfolding encode decode_bytes block_of
can-end =
    record {
      run = the_run;
      datagram = arrival server_endpoint.host 4000 (client 2) (encode (data_block 1 (sample_file 100)));
      maps = sample_maps 100;
      ends = Has-contains members the_end (record { position = 3; is = refl });
      own = own;
      putter = client 2;
      refused = (failed.client, 0, refl, refl);
      taken = refl;
      recovered = refl;
      getter = client 3;
      got = ((run_turn whole (asking lynx)).run.client, refl, refl);
    }
