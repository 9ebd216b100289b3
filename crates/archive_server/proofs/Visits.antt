-- The result of a visit, by what was received and what the step returned.
use Rattle.std.specs.Prelude.{◌≡◌, ℕ, Bool, true, false, not, ◌==◌, ◌&&◌, is_some, List, [], ◌∷◌, Option, None, Some}
use Rattle.std.proofs.Common.{refl, sym, ap, subst, ◌∙◌}
use Rattle.tftp_packet.specs.declared.endpoint.Endpoint.{Endpoint}
use Rattle.tftp_ends.specs.Ends.{Verdict, granted}
use Rattle.archive_table.specs.Table.{Table, Maps, Step, Grant, all, Merges, transfer_at, table_request, table_datagram}
use Rattle.archive_table.specs.Keeper.{Keeping, StepKeeps}
use Rattle.archive_server.specs.declared.change.Change.{Change}
use Rattle.archive_server.specs.declared.change.Change.TheVariants.{Quiet, Nothing, Dropped}
use Rattle.archive_server.specs.declared.mode.Mode.{Mode}
use Rattle.archive_server.specs.declared.mode.Mode.TheVariants.{Turn, Round}
use Rattle.archive_server.specs.declared.timer.Timer.{Timer}
use Rattle.archive_wire.specs.Wire.{Entry, Grows, came, quiet, failed, opened, Replies, Receipt, datagram, nothing, fault}
use Rattle.archive_server.specs.Parts.{IsVisit, Acts}
use Rattle.archive_server.specs.Turn.{Answers, Visited, transfer_change, transfer_visit, transfer_asks, request_change, request_stepped, request_spared, request_used, request_visit, lost_visit, admits, is_peer, is_usable}
use Rattle.archive_wire.proofs.Growing.{grows_join}
use Rattle.archive_server.proofs.Requests.{server_request_step}

-- the results where nothing is sent or closed
abbrev pub no_replies : Replies
no_replies = record { sent = true; closed = true }

-- the answers in a visit that asks for nothing but a receipt
abbrev pub answers_of : Receipt → Table → Answers
answers_of receipt s =
    record { receipt = receipt; admitted = true; spare = None; verdict = granted; grant = all; maps = s.maps; replies = no_replies }

-- nothing came at a transfer's port
pub transfer_quiet : {before after : Option (List Entry)} (kept : Option (List Keeping)) (port : ℕ) (s : Table) →
    Grows before after (quiet port ∷ []) →
    IsVisit (λ a. transfer_visit a port s) (λ a. transfer_asks a port s) (λ r. true) s s false Quiet before after kept kept
transfer_quiet kept port s grows =
    record { answers = answers_of nothing s; admitted = refl; server = refl; taken_is = refl; change_is = refl; grows = grows; merges = refl; keeps = refl }

-- `receive` failed there
pub transfer_failed : {before after : Option (List Entry)} (kept : Option (List Keeping)) (port : ℕ) (s : Table) →
    Grows before after (failed port ∷ []) →
    IsVisit (λ a. transfer_visit a port s) (λ a. transfer_asks a port s) (λ r. true) s s false Quiet before after kept kept
transfer_failed kept port s grows =
    record { answers = answers_of fault s; admitted = refl; server = refl; taken_is = refl; change_is = refl; grows = grows; merges = refl; keeps = refl }

-- a receipt of nothing is always let in
nothing_let_in : (mode : Mode) (timers : List Timer) (s : Table) → admits mode timers nothing s ≡ true
nothing_let_in Turn timers s = refl
nothing_let_in (Round now settled policies) timers s = refl

-- so is one that failed
fault_let_in : (mode : Mode) (timers : List Timer) (s : Table) → admits mode timers fault s ≡ true
fault_let_in Turn timers s = refl
fault_let_in (Round now settled policies) timers s = refl

-- nothing came at the request port
pub request_quiet : {before after : Option (List Entry)} (mode : Mode) (timers : List Timer) (port : ℕ) (s : Table) →
    port ≡ s.request → Grows before after (quiet port ∷ []) →
    IsVisit (λ a. request_visit a s) (λ a. None) (λ r. admits mode timers r s) s s false Quiet before after None None
request_quiet {before} {after} mode timers port s e grows =
    record {
      answers = answers_of nothing s;
      admitted = sym (nothing_let_in mode timers s);
      server = refl;
      taken_is = refl;
      change_is = refl;
      grows = subst (λ (p : ℕ). Grows before after (quiet p ∷ [])) e grows;
      merges = refl;
      keeps = refl;
    }

-- `receive` failed there
pub request_failed : {before after : Option (List Entry)} (mode : Mode) (timers : List Timer) (port : ℕ) (s : Table) →
    port ≡ s.request → Grows before after (failed port ∷ []) →
    IsVisit (λ a. request_visit a s) (λ a. None) (λ r. admits mode timers r s) s s false Quiet before after None None
request_failed {before} {after} mode timers port s e grows =
    record {
      answers = answers_of fault s;
      admitted = sym (fault_let_in mode timers s);
      server = refl;
      taken_is = refl;
      change_is = refl;
      grows = subst (λ (p : ℕ). Grows before after (failed p ∷ [])) e grows;
      merges = refl;
      keeps = refl;
    }

-- what is known of a step at a transfer's port and of the calls after it
abbrev Stepped : (s new : Table) (port : ℕ) (to_peer : Bool) (taken : Bool) (change : Change) (mid after : Option (List Entry)) → Step → Type 0
Stepped s new port to_peer taken change mid after step =
    Acts step.closed port step.out mid after × (taken ≡ is_some step.taken) × (change ≡ transfer_change step.closed step.out to_peer port) × Merges step.taken s.maps new.maps

-- a datagram at a transfer's port, its step and the calls after it are a visit
pub transfer_step : {before mid after : Option (List Entry)} {kept now : Option (List Keeping)} (port : ℕ) (from : Endpoint)
    (bytes : List ℕ) (s new : Table) (grant : Grant) (step : Step) (to_peer taken : Bool) (change : Change) →
    to_peer ≡ is_peer from port s → new ≡ (table_datagram grant new.maps port from bytes s).server →
    step ≡ (table_datagram grant new.maps port from bytes s).step → Merges step.taken s.maps new.maps →
    StepKeeps grant (table_datagram all s.maps port from bytes s).step.taken s.maps new.maps kept now →
    Grows before mid (came port from bytes ∷ []) → Acts step.closed port step.out mid after → taken ≡ is_some step.taken →
    change ≡ transfer_change step.closed step.out to_peer port →
    IsVisit (λ a. transfer_visit a port s) (λ a. transfer_asks a port s) (λ r. true) s new taken change before after kept now
transfer_step {before} {mid} {after} port from bytes s new grant step to_peer taken change peer-is new-is step-is merges keeps grows acts taken-is change-is =
    let all-of = subst (Stepped s new port (is_peer from port s) taken change mid after) step-is
    (acts, taken-is, change-is ∙ ap (λ (b : Bool). transfer_change step.closed step.out b port) peer-is, merges) in
    record {
      answers = record { receipt = datagram from bytes; admitted = true; spare = None; verdict = granted; grant = grant; maps = new.maps; replies = all-of.0.replies };
      admitted = refl;
      server = new-is;
      taken_is = all-of.1;
      change_is = all-of.2;
      grows = grows_join grows all-of.0.grows;
      merges = all-of.3;
      keeps = keeps;
    }

and_right : (a b : Bool) → (a && b) ≡ true → b ≡ true
and_right true b e = e
and_right false b e = cc

not_some : {A : Type 0} (o : Option A) → not (is_some o) ≡ true → o ≡ None
not_some None e = refl
not_some (Some x) e = cc

-- a port that can be used is free
pub usable_free : (spare : ℕ) (s : Table) → is_usable spare s ≡ true → transfer_at spare s ≡ None
usable_free spare s e = not_some (transfer_at spare s) (and_right (not (spare == 0) && not (spare == s.request)) _ e)

-- what is known of a step at the request port and of the calls after it
abbrev RequestStepped : (s new : Table) (spare : ℕ) (taken : Bool) (change : Change) (mid after : Option (List Entry)) → Step → Type 0
RequestStepped s new spare taken change mid after step =
    Acts (not step.opened) spare step.out mid after × (taken ≡ is_some step.taken) × (change ≡ request_change step.opened spare)

-- a spare port was opened for a request, whose step and the calls after it are a visit
pub request_step : {before after : Option (List Entry)} {mid : Option (List Entry)} (spare : ℕ) (from : Endpoint) (bytes : List ℕ)
    (s new : Table) (verdict : Verdict) (step : Step) (taken : Bool) (change : Change) → is_usable spare s ≡ true →
    new ≡ (table_request verdict spare from bytes s).server → step ≡ (table_request verdict spare from bytes s).step →
    Grows before mid (opened (Some spare) ∷ []) → Acts (not step.opened) spare step.out mid after → taken ≡ is_some step.taken →
    change ≡ request_change step.opened spare →
    IsVisit (λ a. request_spared a.spare a.verdict a.replies from bytes s) (λ a. None)
    (λ r. true) s new taken change before after None None
request_step {before} {after} {mid} spare from bytes s new verdict step taken change usable new-is step-is grows acts taken-is change-is =
    let all-of = subst (RequestStepped s new spare taken change mid after) step-is (acts, taken-is, change-is) in
    let v : Visited = request_stepped spare all-of.0.replies (opened (Some spare) ∷ []) (table_request verdict spare from bytes s) in
    let used : v ≡ request_used (is_usable spare s) spare verdict all-of.0.replies from bytes s = ap (λ (b : Bool). request_used b spare verdict all-of.0.replies from bytes s) (sym usable) in
    record {
      answers = record { receipt = nothing; admitted = true; spare = Some spare; verdict = verdict; grant = all; maps = s.maps; replies = all-of.0.replies };
      admitted = refl;
      server = new-is ∙ ap (λ (w : Visited). w.server) used;
      taken_is = all-of.1 ∙ ap (λ (w : Visited). is_some w.taken) used;
      change_is = all-of.2 ∙ ap (λ (w : Visited). w.change) used;
      grows = subst (λ (w : Visited). Grows before after w.calls) used (grows_join grows all-of.0.grows);
      merges = subst (λ (w : Visited). Merges w.taken s.maps new.maps) used
          (subst (λ (m : Maps). Merges (table_request verdict spare from bytes s).step.taken s.maps m)
          (ap (λ (t : Table). t.maps) (sym new-is))
          (server_request_step verdict spare from bytes s (usable_free spare s usable)).merges);
      keeps = refl;
    }

-- the spare port cannot be used, or none was opened
pub request_unused : {before after : Option (List Entry)} (spare : ℕ) (from : Endpoint) (bytes : List ℕ) (s : Table) →
    is_usable spare s ≡ false → Grows before after (opened (Some spare) ∷ []) →
    IsVisit (λ a. request_spared a.spare a.verdict a.replies from bytes s) (λ a. None)
    (λ r. true) s s false Nothing before after None None
request_unused {before} {after} spare from bytes s unusable grows =
    let used : lost_visit (opened (Some spare) ∷ []) s ≡ request_used (is_usable spare s) spare granted no_replies from bytes s =
    ap (λ (b : Bool). request_used b spare granted no_replies from bytes s) (sym unusable) in
    record {
      answers = record { receipt = nothing; admitted = true; spare = Some spare; verdict = granted; grant = all; maps = s.maps; replies = no_replies };
      admitted = refl;
      server = ap (λ (w : Visited). w.server) used;
      taken_is = ap (λ (w : Visited). is_some w.taken) used;
      change_is = ap (λ (w : Visited). w.change) used;
      grows = subst (λ (w : Visited). Grows before after w.calls) used grows;
      merges = subst (λ (w : Visited). Merges w.taken s.maps s.maps) used refl;
      keeps = refl;
    }

-- no spare port could be opened, so the request is lost
pub request_unopened : {before after : Option (List Entry)} (from : Endpoint) (bytes : List ℕ) (s : Table) →
    Grows before after (opened None ∷ []) →
    IsVisit (λ a. request_spared a.spare a.verdict a.replies from bytes s) (λ a. None)
    (λ r. true) s s false Nothing before after None None
request_unopened from bytes s grows =
    record { answers = answers_of nothing s; admitted = refl; server = refl; taken_is = refl; change_is = refl; grows = grows; merges = refl; keeps = refl }

-- a datagram was received first, and let in
pub request_after : {before mid after : Option (List Entry)} (mode : Mode) (timers : List Timer) (port : ℕ) (from : Endpoint)
    (bytes : List ℕ) (s new : Table) (taken : Bool) (change : Change) → port ≡ s.request →
    admits mode timers (datagram from bytes) s ≡ true → Grows before mid (came port from bytes ∷ []) →
    IsVisit (λ a. request_spared a.spare a.verdict a.replies from bytes s) (λ a. None)
    (λ r. true) s new taken change mid after None None →
    IsVisit (λ a. request_visit a s) (λ a. None) (λ r. admits mode timers r s) s new taken change before after None None
request_after {before} {mid} {after} mode timers port from bytes s new taken change e let_in grows visit =
    let here = subst (λ (p : ℕ). Grows before mid (came p from bytes ∷ [])) e grows in
    record {
      answers = record {
        receipt = datagram from bytes;
        admitted = true;
        spare = visit.answers.spare;
        verdict =
            visit.answers.verdict;
        grant = visit.answers.grant;
        maps = visit.answers.maps;
        replies = visit.answers.replies;
      };
      admitted = sym let_in;
      server = visit.server;
      taken_is = visit.taken_is;
      change_is = visit.change_is;
      grows = grows_join here visit.grows;
      merges = visit.merges;
      keeps = refl;
    }

-- it was not let in
pub request_lost : {before after : Option (List Entry)} (mode : Mode) (timers : List Timer) (port : ℕ) (from : Endpoint)
    (bytes : List ℕ) (s : Table) → port ≡ s.request → admits mode timers (datagram from bytes) s ≡ false →
    Grows before after (came port from bytes ∷ []) →
    IsVisit (λ a. request_visit a s) (λ a. None) (λ r. admits mode timers r s) s s false (Dropped from.host) before after None None
request_lost {before} {after} mode timers port from bytes s e kept_out grows =
    record {
      answers = record { receipt = datagram from bytes; admitted = false; spare = None; verdict = granted; grant = all; maps = s.maps; replies = no_replies };
      admitted = sym kept_out;
      server = refl;
      taken_is = refl;
      change_is = refl;
      grows = subst (λ (p : ℕ). Grows before after (came p from bytes ∷ [])) e grows;
      merges = refl;
      keeps = refl;
    }
