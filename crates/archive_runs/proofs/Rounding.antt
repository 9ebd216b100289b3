-- How clients make rounds by the clock, and dally.
use Rattle.std.specs.Prelude.{◌≡◌, ℕ, ◌+◌, ◌<◌, Bool, true, false, List, [], ◌∷◌, ◌++◌, Option, Some}
use Rattle.std.proofs.Common.{refl, sym, ap, subst, ◌∙◌, inl, arith}
use Rattle.tftp_packet.specs.declared.endpoint.Endpoint.{Endpoint}
use Rattle.tftp_ends.specs.Ends.{granted}
use Rattle.archive_runs.specs.declared.pace.Pace.{Pace}
use Rattle.archive_wire.specs.Wire.{Entry, came, quiet, failed, waited, Grows, datagram, nothing, fault}
use Rattle.archive_runs.specs.Run.{Run, RunTurn, MakesRan}
use Rattle.archive_runs.specs.Rounds.{wait_end, RoundAnswers, round_timeout, is_past, is_late, is_ready, round_goes, run_round, MakesRunRound, TakesAt, ReceivesAt, none, more, MakesDallies, DalliesFor}
use Rattle.archive_wire.proofs.Growing.{grows_none, grows_join}

-- ---- what is received

pub received : {before mid after : Option (List Entry)} (pace : Pace) (time port : ℕ) (from : Endpoint) (bytes : List ℕ)
    (old new : Run) → port ≡ old.port → Grows before mid (came port from bytes ∷ []) →
    TakesAt pace time from bytes old new mid after → ReceivesAt pace time old new before after
received {before} {mid} pace time port from bytes old new e first takes =
    let here : Grows before mid (came old.port from bytes ∷ []) = subst (λ (p : ℕ). Grows before mid (came p from bytes ∷ [])) e first in
    record { receipt = datagram from bytes; verdict = takes.verdict; ran = record { ok = takes.ran.ok; run = takes.ran.run; grows = grows_join here takes.ran.grows } }

pub received_nothing : {before after : Option (List Entry)} (pace : Pace) (time port : ℕ) (old : Run) → port ≡ old.port →
    Grows before after (quiet port ∷ []) → ReceivesAt pace time old old before after
received_nothing {before} {after} pace time port old e grows =
    let here : Grows before after (quiet old.port ∷ []) = subst (λ (p : ℕ). Grows before after (quiet p ∷ [])) e grows in
    record { receipt = nothing; verdict = granted; ran = record { ok = true; run = refl; grows = here } }

pub received_fault : {before after : Option (List Entry)} (pace : Pace) (time port : ℕ) (old : Run) → port ≡ old.port →
    Grows before after (failed port ∷ []) → ReceivesAt pace time old old before after
received_fault {before} {after} pace time port old e grows =
    let here : Grows before after (failed old.port ∷ []) = subst (λ (p : ℕ). Grows before after (failed p ∷ [])) e grows in
    record { receipt = fault; verdict = granted; ran = record { ok = true; run = refl; grows = here } }

-- ---- a round

pass_made : {before mid after : Option (List Entry)} (pace : Pace) (old new : Run) (end : ℕ) (a : RoundAnswers)
    (late here : Bool) → end ≡ wait_end pace old → is_past end a.settled ≡ late → is_ready old.port a.ready ≡ here
    → Grows before mid (waited 0 (Some end) a.ready a.time a.settled ∷ []) → new ≡ (round_goes late here pace a old).run →
    Grows mid after (round_goes late here pace a old).calls → MakesRunRound pace late old new before after
pass_made {before} {mid} {after} pace old new end a late here end-is past is first run then =
    let late-is : late ≡ is_late pace old a = sym past ∙ ap (λ (e : ℕ). is_past e a.settled) end-is in
    let goes : round_goes late here pace a old ≡ round_goes (is_late pace old a) (is_ready old.port a.ready) pace a old =
    ap (λ (b : Bool). round_goes b here pace a old) late-is ∙ ap (λ (b : Bool). round_goes (is_late pace old a) b pace a old)
    (sym is) in
    let wait : Grows before mid (waited 0 (Some (wait_end pace old)) a.ready a.time a.settled ∷ []) =
    subst (λ (e : ℕ). Grows before mid (waited 0 (Some e) a.ready a.time a.settled ∷ [])) end-is first in
    record {
      calls = (run_round pace a old).calls;
      round = record { answers = a; run = run ∙ ap (λ (t : RunTurn). t.run) goes; calls_are = refl };
      late_is = late-is;
      grows = subst (λ (t : RunTurn). Grows before after (waited 0 (Some (wait_end pace old)) a.ready a.time a.settled ∷ t.calls)) goes (grows_join wait then);
    }

pub pass_late : {before mid after : Option (List Entry)} (pace : Pace) (old new : Run) (end time : ℕ) (ready settled : Option ℕ) →
    end ≡ wait_end pace old → is_past end settled ≡ true → Grows before mid (waited 0 (Some end) ready time settled ∷ []) →
    MakesRan (λ ok. round_timeout pace time old ok) new mid after → MakesRunRound pace true old new before after
pass_late pace old new end time ready settled end-is past first ran =
    let a : RoundAnswers = record { ready = ready; time = time; settled = settled; receipt = nothing; verdict = granted; sent = ran.ok } in
    pass_made pace old new end a true (is_ready old.port ready) end-is past refl first ran.run ran.grows

pub pass_received : {before mid after : Option (List Entry)} (pace : Pace) (old new : Run) (end time : ℕ)
    (ready settled : Option ℕ) → end ≡ wait_end pace old → is_past end settled ≡ false → is_ready old.port ready ≡ true →
    Grows before mid (waited 0 (Some end) ready time settled ∷ []) → ReceivesAt pace time old new mid after →
    MakesRunRound pace false old new before after
pass_received pace old new end time ready settled end-is past is first r =
    let a : RoundAnswers = record { ready = ready; time = time; settled = settled; receipt = r.receipt; verdict = r.verdict; sent = r.ran.ok } in
    pass_made pace old new end a false true end-is past is first r.ran.run r.ran.grows

pub pass_idle : {before after : Option (List Entry)} (pace : Pace) (old : Run) (end time : ℕ) (ready settled : Option ℕ) →
    end ≡ wait_end pace old → is_past end settled ≡ false → is_ready old.port ready ≡ false →
    Grows before after (waited 0 (Some end) ready time settled ∷ []) → MakesRunRound pace false old old before after
pass_idle {before} {after} pace old end time ready settled end-is past is first =
    let a : RoundAnswers = record { ready = ready; time = time; settled = settled; receipt = nothing; verdict = granted; sent = true } in
    pass_made pace old old end a false false end-is past is first refl (grows_none after)

-- ---- rounds of a client that dallies

pub dallies_none : (pace : Pace) (r : Run) (log : Option (List Entry)) → MakesDallies pace false 0 r r log log
dallies_none pace r log = record { calls = []; dallies = none r; grows = grows_none log }

pub dallies_more : {before mid after : Option (List Entry)} (pace : Pace) (late result : Bool) (n : ℕ) (old between new : Run) →
    MakesDallies pace false n old between before mid → result ≡ late → MakesRunRound pace result between new mid after →
    MakesDallies pace late (n + 1) old new before after
dallies_more pace late result n old between new so_far is made =
    record { calls = so_far.calls ++ made.calls; dallies = more late so_far.dallies made.round (sym is ∙ made.late_is); grows = grows_join so_far.grows made.grows }

pub dally_ended : {before mid after : Option (List Entry)} (pace : Pace) (result : Bool) (n rounds : ℕ) (old between new : Run) →
    n < rounds → MakesDallies pace false n old between before mid → result ≡ true →
    MakesRunRound pace result between new mid after → DalliesFor pace rounds old new before after
dally_ended pace result n rounds old between new few so_far is made =
    record { late = true; made = n + 1; few = omega (arith, few); dallies = dallies_more pace true result n old between new so_far is made; ends = inl refl }
