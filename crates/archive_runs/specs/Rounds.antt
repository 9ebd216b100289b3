-- A client that waits by the clock of its wire: one round of it, and how a whole run of rounds ends. How a run begins is in
-- `Run`.
use Rattle.std.specs.Prelude.{◌≡◌, ◌⊎◌, ℕ, ◌+◌, ◌-◌, ◌^◌, ◌==◌, ◌≤◌, nat_le, min, Bool, true, false, if◌then◌else◌, List, [], ◌∷◌, ◌++◌, Option, None, Some, Result, Ok, Err, IfOk}
use Rattle.tws_file.specs.declared.«ruleset».Ruleset.{Ruleset}
use Rattle.tftp_packet.specs.declared.endpoint.Endpoint.{Endpoint}
use Rattle.tftp_packet.specs.declared.out.Out.{Out}
use Rattle.tftp_packet.specs.declared.packet_fault.PacketFault.{PacketFault}
use Rattle.tftp_packet.specs.Packet.{Packet, read, write, data_block, ack, error}
use Rattle.tftp_packet.specs.Decode.{decode_bytes}
use Rattle.tftp_ends.specs.Ends.{Verdict}
use Rattle.archive_client.specs.declared.state.State.{State}
use Rattle.archive_client.specs.declared.state.State.TheVariants as state
use Rattle.archive_client.specs.Client.{Client, get, ClientAnswer, client_datagram, client_timeout, state_of}
use Rattle.archive_runs.specs.declared.limits.TheConstants.{DALLY_PAUSE, DALLY_LIMIT}
use Rattle.archive_wire.specs.declared.limits.TheConstants.{TIMEOUT}
use Rattle.archive_runs.specs.declared.pace.Pace.{Pace}
use Rattle.archive_runs.specs.declared.run_fault.RunFault.{RunFault}
use Rattle.archive_wire.specs.Wire.{Entry, came, quiet, failed, waited, Grows, Receipt, datagram, nothing, fault, sendings}
use Rattle.archive_runs.specs.Run.{Run, RunTurn, run_after, Begins, MakesRan, MakesRunSteps, PutsBy, WritesGot}

-- ---- how long it waits

-- the moment so many milliseconds after this time
abbrev pub moment_after : (pause time : ℕ) → ℕ
moment_after pause time = min (time + pause) (2 ^ 64 - 1)

-- for an answer
abbrev pub asking : Pace
asking = record { pause = TIMEOUT; until = 2 ^ 64 - 1 }

-- for a repeated last block, from this time on
abbrev pub dallying : (time : ℕ) → Pace
dallying time = record { pause = DALLY_PAUSE; until = moment_after DALLY_LIMIT time }

-- the moment up to which it waits
abbrev pub wait_end : Pace → Run → ℕ
wait_end pace r = min r.left pace.until

-- an ERROR goes to a stranger, or ends the transfer
abbrev pub is_error : Result Packet PacketFault → Bool
is_error (Ok (read name mode)) = false
is_error (Ok (write name mode)) = false
is_error (Ok (data_block n body)) = false
is_error (Ok (ack n)) = false
is_error (Ok (error code text)) = true
is_error (Err e) = false

-- when it times out after a step: anything that is sent but an ERROR restarts the wait
abbrev pub left_at : Pace → (time : ℕ) → Option Out → (left : ℕ) → ℕ
left_at pace time None left = left
left_at pace time (Some out) left = if is_error (decode_bytes out.dgram) then left else moment_after pace.pause time

-- ---- a round

-- what is returned and granted in a round
pub record RoundAnswers : Type 0 where
  -- by `wait`
  pub ready : Option ℕ
  pub time : ℕ
  pub settled : Option ℕ
  -- by `receive`, if it is called
  pub receipt : Receipt
  -- whether there is memory for a received block
  pub verdict : Verdict
  -- by `send`, if it is called
  pub sent : Bool

abbrev pub round_datagram : Pace → (time : ℕ) → (from : Endpoint) (bytes : List ℕ) → Verdict → Run → (ok : Bool) → RunTurn
round_datagram pace time from bytes verdict r ok =
    let a : ClientAnswer = client_datagram verdict from bytes r.client in
    record { run = record { client = a.client; port = r.port; left = left_at pace time a.out r.left }; calls = sendings a.out ok }

abbrev pub round_timeout : Pace → (time : ℕ) → Run → (ok : Bool) → RunTurn
round_timeout pace time r ok =
    let a : ClientAnswer = client_timeout r.client in
    record { run = record { client = a.client; port = r.port; left = moment_after pace.pause time }; calls = sendings a.out ok }

abbrev pub round_received : Receipt → Pace → (time : ℕ) → Verdict → (ok : Bool) → Run → RunTurn
round_received (datagram from bytes) pace time verdict ok r =
    run_after (came r.port from bytes) (round_datagram pace time from bytes verdict r ok)
round_received nothing pace time verdict ok r = record { run = r; calls = quiet r.port ∷ [] }
round_received fault pace time verdict ok r = record { run = r; calls = failed r.port ∷ [] }

-- whether all that had arrived by the end of the wait was handed out
abbrev pub is_past : (end : ℕ) → (settled : Option ℕ) → Bool
is_past end None = false
is_past end (Some settled) = nat_le end settled

abbrev pub is_late : Pace → Run → RoundAnswers → Bool
is_late pace r a = is_past (wait_end pace r) a.settled

abbrev pub is_ready : (port : ℕ) → (ready : Option ℕ) → Bool
is_ready port None = false
is_ready port (Some ready) = ready == port

-- A time-out comes before what waits at the port, so no flood of datagrams holds it back.
abbrev pub round_goes : (late here : Bool) → Pace → RoundAnswers → Run → RunTurn
round_goes true here pace a r = round_timeout pace a.time r a.sent
round_goes false true pace a r = round_received a.receipt pace a.time a.verdict a.sent r
round_goes false false pace a r = record { run = r; calls = [] }

abbrev pub run_round : Pace → RoundAnswers → Run → RunTurn
run_round pace a r =
    run_after (waited 0 (Some (wait_end pace r)) a.ready a.time a.settled) (round_goes (is_late pace r a) (is_ready r.port a.ready) pace a r)

-- one round: a wait, and then a time-out, or a step with what was received at the client's port
pub record IsRunRound (pace : Pace) (old new : Run) (calls : List Entry) : Type 0 where
  pub answers : RoundAnswers
  pub run : new ≡ (run_round pace answers old).run
  pub calls_are : calls ≡ (run_round pace answers old).calls

-- a round was made, and whether the client timed out in it
pub record MakesRunRound (pace : Pace) (late : Bool) (old new : Run) (before after : Option (List Entry)) : Type 0 where
  pub calls : List Entry
  pub round : IsRunRound pace old new calls
  pub late_is : late ≡ is_late pace old round.answers
  pub grows : Grows before after calls

-- the step with a datagram, for some verdict
pub record TakesAt (pace : Pace) (time : ℕ) (from : Endpoint) (bytes : List ℕ) (old new : Run) (before after : Option (List Entry)) : Type 0 where
  pub verdict : Verdict
  pub ran : MakesRan (λ ok. round_datagram pace time from bytes verdict old ok) new before after

-- the state after `receive` was called
pub record ReceivesAt (pace : Pace) (time : ℕ) (old new : Run) (before after : Option (List Entry)) : Type 0 where
  pub receipt : Receipt
  pub verdict : Verdict
  pub ran : MakesRan (λ ok. round_received receipt pace time verdict ok old) new before after

-- ---- rounds one after another

-- A look at the clock, from which on the client waits so many milliseconds. The port that is reported is not read.
pub record SetsTimer (pause time : ℕ) (old new : Run) (before after : Option (List Entry)) : Type 0 where
  pub ready : Option ℕ
  pub settled : Option ℕ
  pub run : new ≡ record { client = old.client; port = old.port; left = moment_after pause time }
  pub grows : Grows before after (waited 0 (Some 0) ready time settled ∷ [])

-- whether the transfer has ended; a get may still dally
abbrev pub is_ended : State → Bool
is_ended state.Running = false
is_ended state.Sent = true
is_ended state.Got = true
is_ended (state.Failed why) = true

abbrev pub has_ended : Client → Bool
has_ended c = is_ended (state_of c)

-- rounds until the transfer has ended, at most so many
pub record MakesRunRounds (rounds : ℕ) (old new : Run) (before after : Option (List Entry)) : Type 0 where
  pub time : ℕ
  pub started : Run
  pub mid : Option (List Entry)
  pub starts : SetsTimer TIMEOUT time old started before mid
  pub made : MakesRunSteps (IsRunRound asking) has_ended rounds started new mid after

-- rounds of a client that dallies, of which at most the last is a time-out
pub data Dallies (pace : Pace) : (late : Bool) (count : ℕ) (old new : Run) (calls : List Entry) → Type 0 where
  none : (r : Run) → Dallies pace false 0 r r []
  more : {count : ℕ} {old mid new : Run} {calls added : List Entry} (late : Bool) → Dallies pace false count old mid calls → (round : IsRunRound pace mid new added) → late ≡ is_late pace mid round.answers → Dallies pace late (count + 1) old new (calls ++ added)

-- in the middle of them
pub record MakesDallies (pace : Pace) (late : Bool) (count : ℕ) (old new : Run) (before after : Option (List Entry)) : Type 0 where
  pub calls : List Entry
  pub dallies : Dallies pace late count old new calls
  pub grows : Grows before after calls

-- rounds until a time-out, at most so many
pub record DalliesFor (pace : Pace) (rounds : ℕ) (old new : Run) (before after : Option (List Entry)) : Type 0 where
  pub late : Bool
  pub made : ℕ
  pub few : made ≤ rounds
  pub dallies : MakesDallies pace late made old new before after
  pub ends : (late ≡ true) ⊎ (made ≡ rounds)

-- the client dallies, from a look at the clock on
pub record MakesDally (rounds : ℕ) (old new : Run) (before after : Option (List Entry)) : Type 0 where
  pub time : ℕ
  pub started : Run
  pub mid : Option (List Entry)
  pub starts : SetsTimer DALLY_PAUSE time old started before mid
  pub made : DalliesFor (dallying time) rounds started new mid after

-- ---- whole runs

-- a whole put by rounds: its start, its rounds and its result
abbrev pub PutsInRounds : (server : Endpoint) (file : List ℕ) (rounds : ℕ) (result : Result ℕ RunFault) (before after : Option (List Entry)) → Type 0
PutsInRounds server file rounds result before after = PutsBy (MakesRunRounds rounds) server file result before after

abbrev pub len_of : Result (ℕ × Run) RunFault → Result ℕ RunFault
len_of (Ok got) = Ok got.0
len_of (Err e) = Err e

-- The rounds of a get that has begun, what it writes as soon as its client has the file, and its result: the run can then
-- dally.
pub record EndsGetInRounds (rounds : ℕ) (run : Run) (result : Result (ℕ × Run) RunFault) (before after : Option (List Entry)) (written now : Option (List ℕ)) : Type 0 where
  pub last : Run
  pub made : MakesRunRounds rounds run last before after
  pub got : WritesGot last.client (len_of result) written now
  pub stays : IfOk result (λ (r : ℕ × Run). r.1 ≡ last)

abbrev pub GetInRoundsAfter : (rounds : ℕ) → Result Run RunFault → Result (ℕ × Run) RunFault → (mid after : Option (List Entry)) → (written now : Option (List ℕ)) → Type 0
GetInRoundsAfter rounds (Ok run) result mid after written now = EndsGetInRounds rounds run result mid after written now
GetInRoundsAfter rounds (Err e) result mid after written now = (result ≡ Err e) × (after ≡ mid) × (now ≡ written)

-- a whole get by rounds, until its file is written
pub record GetsInRounds (server : Endpoint) (rules : Ruleset) (rounds : ℕ) (result : Result (ℕ × Run) RunFault) (before after : Option (List Entry)) (written now : Option (List ℕ)) : Type 0 where
  pub begun : Result Run RunFault
  pub mid : Option (List Entry)
  pub begins : Begins server (get rules) begun before mid
  pub ends : GetInRoundsAfter rounds begun result mid after written now
