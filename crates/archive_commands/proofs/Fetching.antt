-- What `get` did, by its result.
use Rattle.std.proofs.Common.{◌≡◌, ◌≢◌, ℕ, List, Option, Some, None, Result, Ok, Err, OnOk, IfErr, string_bytes, refl, arith, ap, sym, subst, inl, inr, ⊎_elim}
use Rattle.tws_file.specs.declared.file_fault.FileFault.{FileFault}
use Rattle.tws_file.specs.declared.«ruleset».Ruleset.{Ruleset}
use Rattle.tftp_packet.specs.declared.endpoint.Endpoint.{Endpoint}
use Rattle.archive_wire.specs.Wire.{Entry}
use Rattle.archive_runs.specs.declared.run_fault.RunFault.{RunFault}
use Rattle.archive_runs.specs.declared.run_fault.RunFault.TheVariants as run
use Rattle.archive_runs.specs.Run.{Run}
use Rattle.archive_runs.specs.Rounds.{MakesDally}
use Rattle.archive_commands.specs.declared.limits.TheConstants.{ROUNDS}
use Rattle.archive_commands.specs.declared.get.GetArguments.{GetArguments}
use Rattle.command_line.specs.declared.tool_fault.ToolFault.{ToolFault}
use Rattle.command_line.specs.declared.tool_fault.ToolFault.TheVariants.{Read, Write, Unreadable, Memory, Socket, Transfer}
use Rattle.archive_commands.specs.Locating.{Locates}
use Rattle.archive_commands.specs.Get.{FetchFails, FetchFault, Fetches, FetchesOther, GetEnded, GetFails, GetRan, GetRuns, Gets, JudgeFault, ReceiveFault, get_drafted}
use Rattle.archive_commands.specs.Faults.{run_fault}
use Rattle.command_line.specs.Faults.{answer_status, status_of}
use Rattle.system_files.specs.Files.{Keeps, Publishes}
use Rattle.archive_commands.specs.Known.{Known}
use Rattle.archive_commands.specs.Lines.{Unsaid, got_line}
use Rattle.archive_arguments.specs.Lines.{LineFails}
use Rattle.command_line.proofs.Statuses.{map_err, map_ok, no_usage}
use Rattle.archive_commands.proofs.Statuses.{no_host, transfers}

-- what is kept twice is kept
keeps_twice : (a b c : List ℕ → Option (List ℕ)) → Keeps a b → Keeps b c → Keeps a c
keeps_twice a b c one two = λ name bytes is. two name bytes (one name bytes is)

-- a file that is published after the others were kept
publishes_after : (name : List ℕ) (text : Option (List ℕ)) (a b c : List ℕ → Option (List ℕ)) → Keeps a b → Publishes name text b c → Publishes name text a c
publishes_after name text a b c kept published = record { published = published.published; others = λ other bytes differs is. published.others other bytes differs (kept other bytes is) }

-- a fetch after the draft was begun, what was done about its line, and the dally
pub get_ended : (server : Endpoint) (rules : Ruleset) (name : List ℕ) (len : ℕ) (run last : Run) (before mid after : Option (List Entry))
    (contents drafted : Option (List ℕ)) (files between now : List ℕ → Option (List ℕ)) (Line : List ℕ → Type 0) →
    contents ≡ drafted → Keeps files between → Fetches server rules name (len, run) before mid contents between now → Line (got_line len) →
    MakesDally ROUNDS run last mid after → GetEnded server rules name before after drafted files now Line
get_ended server rules name len run last before mid after contents drafted files between now Line is kept got line dallied =
    record {
      len = len;
      run = run;
      last = last;
      mid = mid;
      got = subst (λ d. Fetches server rules name (len, run) before mid d files now) is
          (record {
            bytes = got.bytes;
            fetched = got.fetched;
            replaced = record {
              written = got.replaced.written;
              appended = got.replaced.appended;
              published = publishes_after name got.replaced.written files between now kept got.replaced.published;
            };
          });
      line = line;
      dallied = dallied;
    }

-- a fetch that failed after the draft was begun
pub fetch_fails : (server : Endpoint) (rules : Ruleset) (before after : Option (List Entry)) (files between now : List ℕ → Option (List ℕ)) (e : ToolFault) →
    Keeps files between → FetchFails server rules before after between now e → FetchFails server rules before after files now e
fetch_fails server rules before after files between now e kept failed =
    record { fault = failed.fault; kept = keeps_twice files between now kept failed.kept }

-- ---- what is received

module _ (server : Endpoint) (rules : Ruleset) (before after : Option (List Entry)) where
  -- a run that failed
  pub run_failed : (why : RunFault) (bytes : List ℕ) (e : ToolFault) → e ≡ run_fault why → GetRuns server rules (Err why) bytes before after → ReceiveFault server rules before after e
  run_failed run.Socket bytes e is runs = subst (ReceiveFault server rules before after) (sym is) (bytes, runs)
  run_failed (run.Transfer why) bytes e is runs = subst (ReceiveFault server rules before after) (sym is) (bytes, runs)
  run_failed run.Memory bytes e is runs = subst (ReceiveFault server rules before after) (sym is) (Err run.Memory, bytes, runs, tt)
  run_failed run.Write bytes e is runs = subst (ReceiveFault server rules before after) (sym is) (Err run.Write, bytes, runs, tt)

  -- what was fetched is refused
  pub judged : (got : ℕ × Run) (bytes : List ℕ) (e : ToolFault) → GetRuns server rules (Ok got) bytes before after → JudgeFault rules bytes e → ReceiveFault server rules before after e
  judged got bytes Read runs fails = absurd fails
  judged got bytes Write runs fails = absurd fails
  judged got bytes (Unreadable index fault) runs fails = (fails.0, record { got = got; bytes = bytes; runs = runs; is_not = fails.1 })
  judged got bytes Memory runs fails = (Ok got, bytes, runs, tt)
  judged got bytes Socket runs fails = absurd fails
  judged got bytes (Transfer why) runs fails = absurd fails

  -- a file of another ruleset was fetched, or something with a fault
  abbrev Other : Type 0
  Other = (fault : FileFault) × FetchesOther server rules fault before after

  -- status 3 is for nothing else
  received_other : (e : ToolFault) → ReceiveFault server rules before after e → status_of e ≡ 3 → Other
  received_other Read fails three = absurd fails
  received_other Write fails three = absurd fails
  received_other (Unreadable index fault) fails three = (fault, fails.1)
  received_other Memory fails three = absurd (omega (arith, three))
  received_other Socket fails three = absurd (omega (arith, three))
  received_other (Transfer why) fails three = absurd (omega (arith, three))

  fetched_other : (e : ToolFault) → FetchFault server rules before after e → status_of e ≡ 3 → Other
  fetched_other e fails three = ⊎_elim (λ failed. received_other e failed three) (λ unwritten. absurd (omega (arith, three, ap status_of unwritten.0))) fails

  pub done_other : (r : Result (Unit {0}) ToolFault) → IfErr r (λ e. status_of e ≡ 3 → Other) → answer_status r ≡ 3 → Other
  done_other (Ok done) other three = absurd (omega (arith, three))
  done_other (Err e) other three = other three

-- the output before and after, and the bytes of the files
module _ (old new : Option (List ℕ)) (files now : List ℕ → Option (List ℕ)) where
  -- where nothing was printed no line was
  unsaid_of : (e : ToolFault) → new ≡ old → Unsaid got_line old new e
  unsaid_of Read same = same
  unsaid_of Write same = inl same
  unsaid_of (Unreadable index fault) same = same
  unsaid_of Memory same = inl same
  unsaid_of Socket same = same
  unsaid_of (Transfer why) same = same

  -- a line that was not written whole
  line_unsaid : (len : ℕ) (e : ToolFault) → LineFails (got_line len) old new e → Unsaid got_line old new e
  line_unsaid len Read fails = absurd fails
  line_unsaid len Write fails = inr (len, fails)
  line_unsaid len (Unreadable index fault) fails = absurd fails
  line_unsaid len Memory fails = inl fails
  line_unsaid len Socket fails = absurd fails
  line_unsaid len (Transfer why) fails = absurd fails

  -- has status 2
  line_status : (line : List ℕ) (e : ToolFault) → LineFails line old new e → status_of e ≡ 2
  line_status line Read fails = absurd fails
  line_status line Write fails = refl
  line_status line (Unreadable index fault) fails = absurd fails
  line_status line Memory fails = refl
  line_status line Socket fails = absurd fails
  line_status line (Transfer why) fails = absurd fails

  module _ (server : Endpoint) (rules : Ruleset) (name : List ℕ) (before after : Option (List Entry)) (drafted : Option (List ℕ)) (e : ToolFault) where
    -- a get that fails has written no line, or a proper prefix of it
    get_unsaid : GetFails server rules name before after drafted files now old new e → Unsaid got_line old new e
    get_unsaid fails = ⊎_elim (λ none. unsaid_of e none.unsaid) (⊎_elim (λ failed. unsaid_of e failed.1) (λ unsaid. line_unsaid unsaid.len e unsaid.line)) fails

    -- a get with status 3 has fetched something else
    get_other : GetFails server rules name before after drafted files now old new e → status_of e ≡ 3 → (fault : FileFault) × FetchesOther server rules fault before after
    get_other fails three =
        ⊎_elim (λ none. absurd (omega (arith, three, ap status_of none.fault_is)))
        (⊎_elim (λ failed. fetched_other server rules before after e failed.0.fault three) (λ unsaid. absurd (omega (arith, three, line_status (got_line unsaid.len) e unsaid.line))))
        fails

    -- a get that fails with another status than 2 has changed no file
    get_keeps : GetFails server rules name before after drafted files now old new e → status_of e ≢ 2 → Keeps files now
    get_keeps fails other = ⊎_elim (λ none. none.kept) (⊎_elim (λ failed. failed.0.kept) (λ unsaid. absurd (other (line_status (got_line unsaid.len) e unsaid.line)))) fails

  -- by its result
  harmless : (r : Result (Unit {0}) ToolFault) → IfErr r (λ e. status_of e ≢ 2 → Keeps files now) → answer_status r ≢ 0 → answer_status r ≢ 2 → Keeps files now
  harmless (Ok done) keeps some other = absurd (some refl)
  harmless (Err e) keeps some other = keeps other

-- the output before and after, what is known, the bytes of the files afterwards, and the arguments
module _ (old new : Option (List ℕ)) (known : Known) (now : List ℕ → Option (List ℕ)) (arguments : GetArguments) where
  -- what `get` did, by the exit status, if a host was found
  pub get_ran : (host : ℕ) (before after : Option (List Entry)) (r : Result (Unit {0}) ToolFault) → Locates known.host_of (string_bytes arguments.target.address) (Some host)
      → OnOk r (Gets (record { host = host; port = arguments.target.port }) arguments.ruleset (string_bytes arguments.file) before after (get_drafted known.drafted_of arguments) known.bytes_of now old new)
      → IfErr r (GetFails (record { host = host; port = arguments.target.port }) arguments.ruleset (string_bytes arguments.file) before after (get_drafted known.drafted_of arguments) known.bytes_of now old new)
      → GetRan known arguments (answer_status r) before after now old new
  get_ran host before after r is gets fails = record {
    found = Some host;
    located = is;
    transfers = transfers old new got_line host r
        (map_ok r (λ g. (g.len, g.line)) gets)
        (map_err r (λ e failed. get_unsaid old new known.bytes_of now _ arguments.ruleset (string_bytes arguments.file) before after (get_drafted known.drafted_of arguments) e failed) fails);
    other = λ three.
        let other = done_other _ arguments.ruleset before after r
        (map_err r (λ e failed. get_other old new known.bytes_of now _ arguments.ruleset (string_bytes arguments.file) before after (get_drafted known.drafted_of arguments) e failed) fails) three in
        (host, refl, other.0, other.1);
    ended = λ other. (host, refl, record { done = r; status_is = refl; gets = gets; fails = fails });
    nowhere = λ one. absurd (no_usage r one);
    harmless = harmless old new known.bytes_of now r (map_err r (λ e failed. get_keeps old new known.bytes_of now _ arguments.ruleset (string_bytes arguments.file) before after (get_drafted known.drafted_of arguments) e failed) fails);
  }

  -- nothing is sent if no host was found
  pub get_nowhere : (status : ℕ) (log : Option (List Entry)) → status ≡ 1 → Locates known.host_of (string_bytes arguments.target.address) None →
      new ≡ old → Keeps known.bytes_of now → GetRan known arguments status log log now old new
  get_nowhere status log one is same kept = record {
    found = None;
    located = is;
    transfers = no_host old new got_line status one same;
    other = λ e. absurd (omega (arith, e, one));
    ended = λ other. absurd (other one);
    nowhere = λ e. (refl, kept);
    harmless = λ some other. kept;
  }
