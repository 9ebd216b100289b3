-- A client that runs over a wire: how it begins, one turn of it, and how a whole run ends. A round is in `Rounds`.
use Rattle.std.specs.Prelude.{◌≡◌, ◌⊎◌, ℕ, ◌≤◌, ◌+◌, ◌-◌, Bool, true, false, nat_le, List, [], ◌∷◌, ◌++◌, length, Option, None, Some, Result, Ok, Err}
use Rattle.std.specs.Io.KnownBytes.{Appends}
use Rattle.byte_output.specs.Output.{AppendsPrefix}
use Rattle.tws_file.specs.declared.«ruleset».Ruleset.{Ruleset}
use Rattle.tftp_packet.specs.declared.endpoint.Endpoint.{Endpoint}
use Rattle.tftp_packet.specs.declared.out.Out.{Out}
use Rattle.tftp_ends.specs.Ends.{Verdict}
use Rattle.tftp_packet.specs.declared.cause.Cause.{Cause}
use Rattle.tftp_packet.specs.declared.cause.Cause.TheVariants as cause
use Rattle.archive_client.specs.declared.state.State.{State}
use Rattle.archive_client.specs.declared.state.State.TheVariants as state
use Rattle.archive_client.specs.Client.{Client, Operation, put, get, is_too_long, ClientAnswer, client_start, request_out, client_datagram, client_timeout, state_of, is_over, file_or_client}
use Rattle.archive_wire.specs.declared.limits.TheConstants.{QUIET_TURNS}
use Rattle.archive_runs.specs.declared.run_fault.RunFault.{RunFault}
use Rattle.archive_runs.specs.declared.run_fault.RunFault.TheVariants as fails
use Rattle.archive_wire.specs.Wire.{Entry, opened, closed, came, quiet, failed, sent, Grows, Replies, Receipt, datagram, nothing, fault, sendings}

pub record Run : Type 0 where
  pub client : Client
  -- its own port
  pub port : ℕ
  -- how many quiet turns are left until it times out, or in rounds the moment at which it does
  pub left : ℕ

-- the result of a begin or of a turn, and the calls of the wire
pub record RunBegun : Type 0 where
  pub result : Result Run RunFault
  pub calls : List Entry

pub record RunTurn : Type 0 where
  pub run : Run
  pub calls : List Entry

-- ---- the begin

abbrev pub begin_started : Client → Operation → (port : ℕ) → (ok : Bool) → RunBegun
begin_started c operation port ok =
    record {
      result = Ok (record { client = c; port = port; left = QUIET_TURNS });
      calls = opened (Some port) ∷ sent (request_out operation c) ok ∷ [];
    }

-- The port of a file that is too long is closed again.
abbrev pub begin_sized : (long : Bool) → Endpoint → Operation → (port : ℕ) → Replies → RunBegun
begin_sized true server operation port replies =
    record {
      result = Err (fails.Transfer cause.TooLong);
      calls = opened (Some port) ∷ closed port replies.closed ∷ [];
    }
begin_sized false server operation port replies =
    begin_started (client_start port server operation) operation port replies.sent

abbrev pub begin_opened : (port : Option ℕ) → Endpoint → Operation → Replies → RunBegun
begin_opened (Some port) server operation replies = begin_sized (is_too_long operation) server operation port replies
begin_opened None server operation replies = record { result = Err fails.Socket; calls = opened None ∷ [] }

-- a run begins: a port is opened, and the request is sent from there
pub record Begins (server : Endpoint) (operation : Operation) (result : Result Run RunFault) (before after : Option (List Entry)) : Type 0 where
  pub port : Option ℕ
  pub replies : Replies
  pub result_is : result ≡ (begin_opened port server operation replies).result
  pub grows : Grows before after (begin_opened port server operation replies).calls

-- ---- a turn

-- what is returned and granted in a turn
pub record RunAnswers : Type 0 where
  pub receipt : Receipt
  -- whether there is memory for a received block
  pub verdict : Verdict
  -- by `send`, if it is called
  pub sent : Bool

-- a step that sends restarts the client's wait
abbrev pub left_after : Option Out → ℕ → ℕ
left_after (Some out) left = QUIET_TURNS
left_after None left = left

abbrev pub run_stepped : (port left : ℕ) → ClientAnswer → (ok : Bool) → RunTurn
run_stepped port left a ok =
    record { run = record { client = a.client; port = port; left = left_after a.out left }; calls = sendings a.out ok }

abbrev pub run_timed_out : (port : ℕ) → ClientAnswer → (ok : Bool) → RunTurn
run_timed_out port a ok =
    record { run = record { client = a.client; port = port; left = QUIET_TURNS }; calls = sendings a.out ok }

abbrev pub run_waited : (last : Bool) → Run → (ok : Bool) → RunTurn
run_waited true r ok = run_timed_out r.port (client_timeout r.client) ok
run_waited false r ok = record { run = record { client = r.client; port = r.port; left = r.left - 1 }; calls = [] }

-- a quiet turn: the last one left is a time-out
abbrev pub run_quiet : Run → (ok : Bool) → RunTurn
run_quiet r ok = run_waited (nat_le r.left 1) r ok

-- a call before the others
abbrev pub run_after : Entry → RunTurn → RunTurn
run_after call ran = record { run = ran.run; calls = call ∷ ran.calls }

abbrev pub run_datagram : (from : Endpoint) (bytes : List ℕ) → Verdict → Run → (ok : Bool) → RunTurn
run_datagram from bytes verdict r ok = run_stepped r.port r.left (client_datagram verdict from bytes r.client) ok

abbrev pub run_received : Receipt → Verdict → (ok : Bool) → Run → RunTurn
run_received (datagram from bytes) verdict ok r =
    run_after (came r.port from bytes) (run_datagram from bytes verdict r ok)
run_received nothing verdict ok r = run_after (quiet r.port) (run_quiet r ok)
run_received fault verdict ok r = run_after (failed r.port) (run_quiet r ok)

abbrev pub run_turn : RunAnswers → Run → RunTurn
run_turn a r = run_received a.receipt a.verdict a.sent r

pub record IsRunTurn (old new : Run) (calls : List Entry) : Type 0 where
  pub answers : RunAnswers
  pub run : new ≡ (run_turn answers old).run
  pub calls_are : calls ≡ (run_turn answers old).calls

-- what is known of a run before and after a turn or a round, and of the calls
abbrev pub RunStep : Type 1
RunStep = Run → Run → List Entry → Type 0

-- a turn or a round was made, and the log has grown by its calls
pub record MakesRunStep (Is : RunStep) (old new : Run) (before after : Option (List Entry)) : Type 0 where
  pub calls : List Entry
  pub made : Is old new calls
  pub grows : Grows before after calls

abbrev pub MakesRunTurn : (old new : Run) (before after : Option (List Entry)) → Type 0
MakesRunTurn old new before after = MakesRunStep IsRunTurn old new before after

-- the state after a part of a turn or a round
pub record MakesRan (ran : (ok : Bool) → RunTurn) (new : Run) (before after : Option (List Entry)) : Type 0 where
  pub ok : Bool
  pub run : new ≡ (ran ok).run
  pub grows : Grows before after (ran ok).calls

-- a client's step, for some verdict
pub record ClientSteps (step : Verdict → ClientAnswer) (new : Client) (out : Option Out) : Type 0 where
  pub verdict : Verdict
  pub client : new ≡ (step verdict).client
  pub out_is : out ≡ (step verdict).out

-- a datagram was received, and its step was made
pub record Takes (from : Endpoint) (bytes : List ℕ) (old new : Run) (before after : Option (List Entry)) : Type 0 where
  pub verdict : Verdict
  pub ran : MakesRan (λ ok. run_datagram from bytes verdict old ok) new before after

-- turns or rounds one after another, as long as the client has not ended
pub data Runs (Is : RunStep) (ended : Client → Bool) : (count : ℕ) (old new : Run) (calls : List Entry) → Type 0 where
  none : (r : Run) → Runs Is ended 0 r r []
  more : {count : ℕ} {old mid new : Run} {calls added : List Entry} → Runs Is ended count old mid calls → ended mid.client ≡ false → Is mid new added → Runs Is ended (count + 1) old new (calls ++ added)

-- at most `most` of them, until the client has ended
pub record RunsFor (Is : RunStep) (ended : Client → Bool) (most : ℕ) (old new : Run) (calls : List Entry) : Type 0 where
  pub made : ℕ
  pub few : made ≤ most
  pub runs : Runs Is ended made old new calls
  pub ends : (ended new.client ≡ true) ⊎ (made ≡ most)

pub record MakesRunSteps (Is : RunStep) (ended : Client → Bool) (most : ℕ) (old new : Run) (before after : Option (List Entry)) : Type 0 where
  pub calls : List Entry
  pub runs : RunsFor Is ended most old new calls
  pub grows : Grows before after calls

-- turns until the client is over
abbrev pub MakesRunTurns : (turns : ℕ) (old new : Run) (before after : Option (List Entry)) → Type 0
MakesRunTurns turns old new before after = MakesRunSteps IsRunTurn is_over turns old new before after

-- in the middle of a run
pub record MakesSome (Is : RunStep) (ended : Client → Bool) (count : ℕ) (old new : Run) (before after : Option (List Entry)) : Type 0 where
  pub calls : List Entry
  pub runs : Runs Is ended count old new calls
  pub grows : Grows before after calls

-- ---- the end of a run

abbrev pub run_fault_of : Cause → RunFault
run_fault_of (cause.Refused code) = fails.Transfer (cause.Refused code)
run_fault_of cause.TimedOut = fails.Transfer cause.TimedOut
run_fault_of cause.TooLong = fails.Transfer cause.TooLong
run_fault_of cause.Memory = fails.Memory

-- A client that still runs when its turns are used up counts as timed out.
abbrev pub unfinished : State → RunFault
unfinished state.Running = fails.Transfer cause.TimedOut
unfinished state.Sent = fails.Transfer cause.TimedOut
unfinished state.Got = fails.Transfer cause.TimedOut
unfinished (state.Failed why) = run_fault_of why

-- a put succeeds exactly if its client ended `Sent`
abbrev pub put_result : State → (len : ℕ) → Result ℕ RunFault
put_result state.Running len = Err (unfinished state.Running)
put_result state.Sent len = Ok len
put_result state.Got len = Err (unfinished state.Got)
put_result (state.Failed why) len = Err (run_fault_of why)

-- What a get writes, and what it returns: the file if its client has got it, and otherwise nothing.
abbrev pub WritesFetched : Result (List ℕ) Client → Result ℕ RunFault → (written now : Option (List ℕ)) → Type 0
WritesFetched (Ok file) (Ok len) written now = (len ≡ length file) × Appends written now file
WritesFetched (Ok file) (Err e) written now = (e ≡ fails.Write) × AppendsPrefix written now file
WritesFetched (Err c) (Ok len) written now = ⊥
WritesFetched (Err c) (Err e) written now = (e ≡ unfinished (state_of c)) × (now ≡ written)

pub record WritesGot (c : Client) (result : Result ℕ RunFault) (written now : Option (List ℕ)) : Type 0 where
  pub writes : WritesFetched (file_or_client c) result written now

-- what is known of a run before and after its turns or rounds, and of the log
abbrev pub RunMakes : Type 1
RunMakes = Run → Run → Option (List Entry) → Option (List Entry) → Type 0

-- the turns or rounds of a put that has begun, and its result
pub record EndsPut (Makes : RunMakes) (run : Run) (len : ℕ) (result : Result ℕ RunFault) (before after : Option (List Entry)) : Type 0 where
  pub last : Run
  pub made : Makes run last before after
  pub result_is : result ≡ put_result (state_of last.client) len

-- the turns of a get that has begun, and its result
pub record EndsGet (run : Run) (turns : ℕ) (result : Result ℕ RunFault) (before after : Option (List Entry)) (written now : Option (List ℕ)) : Type 0 where
  pub last : Run
  pub made : MakesRunTurns turns run last before after
  pub got : WritesGot last.client result written now

-- a run that has not begun makes no turn or round and writes nothing
abbrev pub PutAfter : RunMakes → Result Run RunFault → (len : ℕ) → Result ℕ RunFault → (mid after : Option (List Entry)) → Type 0
PutAfter Makes (Ok run) len result mid after = EndsPut Makes run len result mid after
PutAfter Makes (Err e) len result mid after = (result ≡ Err e) × (after ≡ mid)

abbrev pub GetAfter : Result Run RunFault → (turns : ℕ) → Result ℕ RunFault → (mid after : Option (List Entry)) → (written now : Option (List ℕ)) → Type 0
GetAfter (Ok run) turns result mid after written now = EndsGet run turns result mid after written now
GetAfter (Err e) turns result mid after written now = (result ≡ Err e) × (after ≡ mid) × (now ≡ written)

-- a whole put: its begin, its turns or rounds, and its result
pub record PutsBy (Makes : RunMakes) (server : Endpoint) (file : List ℕ) (result : Result ℕ RunFault) (before after : Option (List Entry)) : Type 0 where
  pub begun : Result Run RunFault
  pub mid : Option (List Entry)
  pub begins : Begins server (put file) begun before mid
  pub ends : PutAfter Makes begun (length file) result mid after

-- a whole put by turns
abbrev pub RunsPut : (server : Endpoint) (file : List ℕ) (turns : ℕ) (result : Result ℕ RunFault) (before after : Option (List Entry)) → Type 0
RunsPut server file turns result before after = PutsBy (MakesRunTurns turns) server file result before after

-- a whole get by turns
pub record RunsGet (server : Endpoint) (rules : Ruleset) (turns : ℕ) (result : Result ℕ RunFault) (before after : Option (List Entry)) (written now : Option (List ℕ)) : Type 0 where
  pub begun : Result Run RunFault
  pub mid : Option (List Entry)
  pub begins : Begins server (get rules) begun before mid
  pub ends : GetAfter begun turns result mid after written now
