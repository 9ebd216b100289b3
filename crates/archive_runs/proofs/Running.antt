-- How runs of clients begin, make turns and end.
use Rattle.std.specs.Prelude.{◌≡◌, ℕ, ◌+◌, ◌<◌, ◌≤◌, Bool, true, false, nat_lt, List, [], ◌∷◌, ◌++◌, length, Option, None, Some, Result, Ok, Err}
use Rattle.std.proofs.Common.{refl, sym, ap, subst, ◌∙◌, inl, inr, arith}
use Rattle.std.proofs.lemmas.Bool.{cases_Bool, ltb-true, lt-ltb}
use Rattle.tftp_packet.specs.declared.endpoint.Endpoint.{Endpoint}
use Rattle.tftp_packet.specs.declared.out.Out.{Out}
use Rattle.tftp_ends.specs.declared.limits.TheConstants.{MAX_FILE}
use Rattle.tftp_ends.specs.Ends.{Verdict, granted}
use Rattle.tftp_packet.specs.declared.cause.Cause.TheVariants as cause
use Rattle.archive_client.specs.Client.{Client, Operation, put, client_start, request_out, is_too_long}
use Rattle.archive_wire.specs.declared.limits.TheConstants.{QUIET_TURNS}
use Rattle.archive_runs.specs.declared.run_fault.RunFault.{RunFault}
use Rattle.archive_runs.specs.declared.run_fault.RunFault.TheVariants as fails
use Rattle.archive_wire.specs.Wire.{Entry, opened, closed, came, quiet, failed, sent, Grows, Replies, datagram, nothing, fault}
use Rattle.archive_runs.specs.Run.{Run, RunBegun, Begins, begin_sized, begin_started, run_datagram, run_quiet, run_received, MakesRan, RunStep, MakesRunStep, MakesRunTurn, none, more, MakesSome}
use Rattle.archive_wire.proofs.Growing.{grows_none, grows_join}

-- whether the send and the close succeeded
abbrev replies : (send_done close_done : Bool) → Replies
replies send_done close_done = record { sent = send_done; closed = close_done }

-- ---- the begin

-- no port was opened
pub begin_failed : {before after : Option (List Entry)} (server : Endpoint) (operation : Operation) → Grows before after (opened None ∷ []) → Begins server operation (Err fails.Socket) before after
begin_failed server operation grows =
    record { port = None; replies = replies true true; result_is = refl; grows = grows }

-- a run of this client, with all its quiet turns left
abbrev run_at : Client → (port : ℕ) → Run
run_at c port = record { client = c; port = port; left = QUIET_TURNS }

abbrev ok_run : Run → Result Run RunFault
ok_run r = Ok r

-- a port was opened, and the request was sent
pub begin_made : {before mid after : Option (List Entry)} (server : Endpoint) (operation : Operation) (port : ℕ) (c : Client)
    (out : Out) (ok : Bool) → is_too_long operation ≡ false → c ≡ client_start port server operation →
    out ≡ request_out operation c → Grows before mid (opened (Some port) ∷ []) → Grows mid after (sent out ok ∷ []) →
    Begins server operation (Ok (run_at c port)) before after
begin_made {before} {mid} {after} server operation port c out ok short c-is out-is first then =
    let used : begin_started (client_start port server operation) operation port ok ≡ begin_sized
    (is_too_long operation) server operation port (replies ok true) =
    ap (λ (b : Bool). begin_sized b server operation port (replies ok true)) (sym short) in
    let goes : Grows mid after (sent (request_out operation (client_start port server operation)) ok ∷ []) =
    subst (λ (o : Out). Grows mid after (sent o ok ∷ [])) (out-is ∙ ap (request_out operation) c-is) then in
    record {
      port = Some port;
      replies = replies ok true;
      result_is = ap (λ (x : Client). ok_run (run_at x port)) c-is ∙ ap (λ (b : RunBegun). b.result) used;
      grows = subst (λ (b : RunBegun). Grows before after b.calls) used (grows_join first goes);
    }

-- the file is too long, so the port that was opened is closed
pub begin_long : {before mid after : Option (List Entry)} (server : Endpoint) (operation : Operation) (port : ℕ) (ok : Bool) →
    is_too_long operation ≡ true → Grows before mid (opened (Some port) ∷ []) → Grows mid after (closed port ok ∷ []) →
    Begins server operation (Err (fails.Transfer cause.TooLong)) before after
begin_long {before} {mid} {after} server operation port ok long first then =
    let used : begin_sized true server operation port (replies true ok) ≡ begin_sized
    (is_too_long operation) server operation port (replies true ok) =
    ap (λ (b : Bool). begin_sized b server operation port (replies true ok)) (sym long) in
    record {
      port = Some port;
      replies = replies true ok;
      result_is = ap (λ (b : RunBegun). b.result) used;
      grows = subst (λ (b : RunBegun). Grows before after b.calls) used (grows_join first then);
    }

-- a put whose length is within the limit is not too long
pub short_put : (file : List ℕ) → length file ≤ MAX_FILE → is_too_long (put file) ≡ false
short_put file short = elim (cases_Bool (nat_lt MAX_FILE (length file))) [
  | inl y ↦ let above : MAX_FILE < length file = ltb-true MAX_FILE (length file) y in absurd (omega arith)
  | inr n ↦ n
]

-- a put whose length is beyond the limit is too long
pub long_put : (file : List ℕ) → MAX_FILE < length file → is_too_long (put file) ≡ true
long_put file long = lt-ltb MAX_FILE (length file) long

-- ---- a turn

-- a turn in which a datagram came
pub turn_received : {before mid after : Option (List Entry)} (from : Endpoint) (bytes : List ℕ) (verdict : Verdict) (port : ℕ)
    (old new : Run) → port ≡ old.port → Grows before mid (came port from bytes ∷ []) →
    MakesRan (λ ok. run_datagram from bytes verdict old ok) new mid after → MakesRunTurn old new before after
turn_received {before} {mid} {after} from bytes verdict port old new e first ran =
    let here : Grows before mid (came old.port from bytes ∷ []) = subst (λ (p : ℕ). Grows before mid (came p from bytes ∷ [])) e first in
    record {
      calls = (run_received (datagram from bytes) verdict ran.ok old).calls;
      made = record { answers = record { receipt = datagram from bytes; verdict = verdict; sent = ran.ok }; run = ran.run; calls_are = refl };
      grows = grows_join here ran.grows;
    }

-- a turn in which nothing came
pub turn_quiet : {before mid after : Option (List Entry)} (port : ℕ) (old new : Run) → port ≡ old.port →
    Grows before mid (quiet port ∷ []) → MakesRan (λ ok. run_quiet old ok) new mid after → MakesRunTurn old new before after
turn_quiet {before} {mid} {after} port old new e first ran =
    let here : Grows before mid (quiet old.port ∷ []) = subst (λ (p : ℕ). Grows before mid (quiet p ∷ [])) e first in
    record {
      calls = (run_received nothing granted ran.ok old).calls;
      made = record { answers = record { receipt = nothing; verdict = granted; sent = ran.ok }; run = ran.run; calls_are = refl };
      grows = grows_join here ran.grows;
    }

-- a turn in which `receive` failed
pub turn_failed : {before mid after : Option (List Entry)} (port : ℕ) (old new : Run) → port ≡ old.port →
    Grows before mid (failed port ∷ []) → MakesRan (λ ok. run_quiet old ok) new mid after → MakesRunTurn old new before after
turn_failed {before} {mid} {after} port old new e first ran =
    let here : Grows before mid (failed old.port ∷ []) = subst (λ (p : ℕ). Grows before mid (failed p ∷ [])) e first in
    record {
      calls = (run_received fault granted ran.ok old).calls;
      made = record { answers = record { receipt = fault; verdict = granted; sent = ran.ok }; run = ran.run; calls_are = refl };
      grows = grows_join here ran.grows;
    }

-- ---- one after another

pub some_none : (Is : RunStep) (ended : Client → Bool) (r : Run) (log : Option (List Entry)) → MakesSome Is ended 0 r r log log
some_none Is ended r log = record { calls = []; runs = none r; grows = grows_none log }

-- one more turn
pub some_more : {before mid after : Option (List Entry)} (Is : RunStep) (ended : Client → Bool) (n : ℕ) (old between new : Run) →
    MakesSome Is ended n old between before mid → ended between.client ≡ false → MakesRunStep Is between new mid after →
    MakesSome Is ended (n + 1) old new before after
some_more Is ended n old between new so_far alive step =
    record { calls = so_far.calls ++ step.calls; runs = more so_far.runs alive step.made; grows = grows_join so_far.grows step.grows }
