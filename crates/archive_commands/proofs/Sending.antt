-- Why a put fails, and what a put that succeeded has sent.
use Rattle.std.proofs.Common.{◌≡◌, ◌≢◌, ◌∙◌, ℕ, Bool, true, false, List, length, Option, Some, None, Result, Ok, Err, IfOk, refl, ap, sym, subst, inl, inr}
use Rattle.tftp_packet.specs.declared.endpoint.Endpoint.{Endpoint}
use Rattle.archive_client.specs.declared.state.State.{State}
use Rattle.archive_client.specs.declared.state.State.TheVariants as state
use Rattle.tftp_packet.specs.declared.cause.Cause.{Cause}
use Rattle.tftp_packet.specs.declared.cause.Cause.TheVariants as cause
use Rattle.archive_client.specs.Client.{Operation, put, state_of, is_too_long}
use Rattle.archive_runs.specs.declared.run_fault.RunFault.{RunFault}
use Rattle.archive_runs.specs.declared.run_fault.RunFault.TheVariants as run
use Rattle.archive_wire.specs.Wire.{Replies, Entry}
use Rattle.archive_runs.specs.Run.{Run, RunMakes, PutAfter, begin_opened, begin_sized, put_result}
use Rattle.archive_runs.specs.Rounds.{PutsInRounds}
use Rattle.command_line.specs.declared.tool_fault.ToolFault.{ToolFault}
use Rattle.archive_commands.specs.Faults.{run_fault}
use Rattle.archive_commands.specs.Put.{PutFails, PutRuns}

-- a put writes nothing, so it has no write fault
no_write_of : (why : Cause) (len : ℕ) → put_result (state.Failed why) len ≢ Err run.Write
no_write_of (cause.Refused code) len is = absurd cc
no_write_of cause.TimedOut len is = absurd cc
no_write_of cause.TooLong len is = absurd cc
no_write_of cause.Memory len is = absurd cc

-- the result of a put is never a write fault, whatever its client's state
no_write_result : (s : State) (len : ℕ) → put_result s len ≢ Err run.Write
no_write_result state.Running len is = absurd cc
no_write_result state.Sent len is = absurd cc
no_write_result state.Got len is = absurd cc
no_write_result (state.Failed why) len is = no_write_of why len is

-- a put that opened a port does not begin with a write fault
no_write_sized : (long : Bool) (server : Endpoint) (operation : Operation) (port : ℕ) (replies : Replies) → (begin_sized long server operation port replies).result ≢ Err run.Write
no_write_sized true server operation port replies is = absurd cc
no_write_sized false server operation port replies is = absurd cc

-- no put begins with a write fault
no_write_begun : (port : Option ℕ) (server : Endpoint) (operation : Operation) (replies : Replies) → (begin_opened port server operation replies).result ≢ Err run.Write
no_write_begun None server operation replies is = absurd cc
no_write_begun (Some port) server operation replies is = no_write_sized (is_too_long operation) server operation port replies is

-- the fault of a result; any, if there is none
abbrev fault_in : Result ℕ RunFault → RunFault
fault_in (Ok len) = run.Write
fault_in (Err e) = e

-- no put ends with a write fault
no_write_after : (Makes : RunMakes) (begun : Result Run RunFault) (len : ℕ) (mid after : Option (List Entry)) → begun ≢ Err run.Write → PutAfter Makes begun len (Err run.Write) mid after → ⊥
no_write_after Makes (Ok r) len mid after never ends = no_write_result (state_of ends.last.client) len (sym ends.result_is)
no_write_after Makes (Err e) len mid after never ends = never (ap Err (ap fault_in (sym ends.0)))

-- so no complete run of a put has one
pub no_write : (server : Endpoint) (file : List ℕ) (rounds : ℕ) (before after : Option (List Entry)) → PutsInRounds server file rounds (Err run.Write) before after → ⊥
no_write server file rounds before after runs =
    no_write_after _ runs.begun _ runs.mid after (λ is. no_write_begun runs.begins.port server (put file) runs.begins.replies (sym runs.begins.result_is ∙ is)) runs.ends

module _ (known : Option (List ℕ)) (server : Endpoint) (before after : Option (List Entry)) (old : Option (List ℕ)) where
  -- by its fault
  fails_by : (why : RunFault) → PutRuns known server (Err why) before after → PutFails known server before after old old (run_fault why)
  fails_by run.Socket runs = (refl, runs)
  fails_by (run.Transfer why) runs = (refl, inl runs)
  fails_by run.Memory runs = (refl, inr (inl runs))
  fails_by run.Write runs = absurd (no_write server runs.bytes _ before after runs.runs)

  -- a put whose run failed
  pub put_fails : (why : RunFault) (e : ToolFault) → e ≡ run_fault why → PutRuns known server (Err why) before after → PutFails known server before after old old e
  put_fails why e is runs = subst (PutFails known server before after old old) (sym is) (fails_by why runs)

-- ---- a put that succeeded

-- the number in a result; any, if there is none
abbrev count_in : Result ℕ RunFault → ℕ
count_in (Ok len) = len
count_in (Err e) = 0

-- a put that succeeds returns the length of its file
count_of_result : (s : State) (n len : ℕ) → Ok n ≡ put_result s len → n ≡ len
count_of_result state.Running n len is = absurd cc
count_of_result state.Sent n len is = ap count_in is
count_of_result state.Got n len is = absurd cc
count_of_result (state.Failed why) n len is = absurd cc

-- so does a complete run
count_after : (Makes : RunMakes) (begun : Result Run RunFault) (n len : ℕ) (mid after : Option (List Entry)) → PutAfter Makes begun len (Ok n) mid after → n ≡ len
count_after Makes (Ok r) n len mid after ends = count_of_result (state_of ends.last.client) n len ends.result_is
count_after Makes (Err e) n len mid after ends = absurd (let bad = ends.0 in cc)

-- and so does one in at most so many rounds
pub put_counted : (server : Endpoint) (file : List ℕ) (rounds : ℕ) (r : Result ℕ RunFault) (before after : Option (List Entry)) → PutsInRounds server file rounds r before after → IfOk r (λ (n : ℕ). n ≡ length file)
put_counted server file rounds (Ok n) before after runs = count_after _ runs.begun n (length file) runs.mid after runs.ends
put_counted server file rounds (Err e) before after runs = tt
