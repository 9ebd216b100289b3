-- A run with a put, a start on another host from what it has left, and a get there.
use Rattle.std.proofs.Common.{true, List, [], ◌∷◌, ◌++◌, Some, refl}
use Rattle.tftp_packet.specs.declared.endpoint.Endpoint.{Endpoint}
use Rattle.tftp_packet.specs.Packet.{encode, data_block}
use Rattle.tftp_packet.specs.Decode.{decode_bytes}
use Rattle.tftp_packet.specs.Blocks.{block_of}
use Rattle.tftp_ends.specs.Ends.{granted}
use Rattle.tws_file.specs.declared.«ruleset».Ruleset.TheVariants.{Lynx}
use Rattle.archive_table.specs.Keeper.{keeping}
use Rattle.archive_client.specs.Client.{client_start}
use Rattle.archive_wire.specs.declared.limits.TheConstants.{QUIET_TURNS}
use Rattle.archive_wire.specs.Wire.{Replies, datagram}
use Rattle.archive_runs.specs.Run.{Run, RunAnswers, run_turn, begin_opened}
use Rattle.archive_model.specs.World.{Origin, AreOver}
use Rattle.archive_model.specs.Restarts.{LoadsAs}
use Rattle.archive_theorem.specs.Samples.{sample_file, sample_maps}
use Rattle.archive_theorem.specs.Traces.{Member, starts}
use Rattle.archive_theorem.specs.Headline.{IsOwn}
use Rattle.archive_theorem.proofs.Keeper_Loads.{loads_itself}
use Rattle.archive_theorem.proofs.Port_Endpoints.{own-if}
use Rattle.archive_theorem.proofs.Sample_Files.{sample_collected_100}
use Rattle.archive_server.specs.Turn.{open_policies}
use Rattle.archive_running.specs.Members.{client_members, does}
use Rattle.archive_running.specs.Archive.{Archive, idle, after_begin, after_client_turn, Moves, server_rounds, client_begins, client_turns, Reaches, reported, more, ArchiveRun, world_of}
use Rattle.archive_running.specs.Starts.{StartsFrom, CanStart}
use Rattle.archive_running.proofs.Sample_Turns.{from_nothing, brings_at}
use Rattle.archive_running.proofs.Sample_Rounds.{after, calls_of, a_round, rounded, round_members, request, kept, acked, put_members, put-reaches, lynx, over}
use Rattle.archive_running.proofs.Start_Chain.{run-best}

-- ---- the put, and what it leaves

abbrev put_run : ArchiveRun from_nothing
put_run = record { archive = acked; members = put_members; reaches = put-reaches }

left_over : AreOver (sample_file 100 ∷ []) (sample_maps 100)
unfolding encode decode_bytes block_of
left_over = run-best from_nothing put_run

abbrev next : Origin
next =
    record { home = record { host = 7; port = 69 }; texts = sample_file 100 ∷ []; maps = sample_maps 100; over = left_over }

starts_next : StartsFrom put_run next
unfolding encode decode_bytes block_of
starts_next = record { texts = refl; maps = refl }

loads : LoadsAs (keeping Lynx (sample_file 100) true ∷ []) next.maps
loads = record { lynx = loads_itself Lynx (sample_maps 100).lynx sample_collected_100 refl; ms = refl }

-- ---- the get

abbrev done : Replies
done = record { sent = true; closed = true }

abbrev asking : Run
asking = record { client = client_start 5000 next.home lynx; port = 5000; left = QUIET_TURNS }

abbrev started : Archive
started = idle next kept

abbrev begun : Archive
begun = after_begin 3 lynx asking (begin_opened (Some 5000) next.home lynx done).calls started

abbrev served : Archive
served = rounded 69 begun (request 3 4001 lynx) kept

abbrev whole : RunAnswers
whole =
    record {
      receipt = datagram (record { host = 7; port = 4001 }) (encode (data_block 1 (sample_file 100)));
      verdict = granted;
      sent = true;
    }

abbrev ended : Run
ended = (run_turn whole asking).run

abbrev fetched : Archive
fetched = after_client_turn 3 asking ended (run_turn whole asking).calls served

abbrev getter : Endpoint
getter = record { host = 3; port = 5000 }

begins : Moves started begun (does (starts getter lynx) ∷ [])
begins = client_begins started 3 lynx (Some 5000) done asking (λ e. cc) refl

opens : Moves begun served (round_members 69 begun (request 3 4001 lynx))
unfolding encode decode_bytes block_of
opens =
    let answers = request 3 4001 lynx in
    server_rounds begun 0 [] open_policies (after 69 begun answers) _ (calls_of 69 begun answers) kept (a_round 69 begun answers kept refl refl refl refl)
    (brings_at 7 (calls_of 69 begun answers) begun _ 0 refl refl)

gets : Moves served fetched (client_members whole 3 asking)
unfolding encode decode_bytes block_of
gets =
    let calls = (run_turn whole asking).calls in
    client_turns served 3 asking ended calls (record { answers = whole; run = refl; calls_are = refl }) (λ e. cc) refl
    (brings_at 3 calls served _ 1 refl refl)

abbrev members : List Member
members = [] ++ (does (starts getter lynx) ∷ []) ++ round_members 69 begun (request 3 4001 lynx) ++ client_members whole 3 asking

reaches : Reaches next fetched members
unfolding encode decode_bytes block_of
reaches = more (more (more (reported (keeping Lynx (sample_file 100) true ∷ []) loads) begins) opens) gets

abbrev get_run : ArchiveRun next
get_run = record { archive = fetched; members = members; reaches = reaches }

owns : IsOwn (world_of get_run) getter
unfolding encode decode_bytes block_of
owns = own-if (world_of get_run) getter refl

pub can-start : CanStart (sample_file 100)
unfolding encode decode_bytes block_of
can-start =
    record {
      first = put_run;
      putter = record { host = 2; port = 5000 };
      sent = (over.client, refl, refl);
      next = next;
      elsewhere = λ e. cc;
      starts = starts_next;
      second = get_run;
      getter = getter;
      own = owns;
      got = (ended.client, refl, refl);
    }
