-- What each ERROR says holds in every run, and what follows for a client that has failed: its file is not taken, and it has fetched nothing.
use Rattle.std.proofs.Common.{◌≡◌, ◌≢◌, ℕ, Bool, true, false, cond, List, [], ◌∷◌, ◌++◌, Some, refl, ap, sym, ◌∙◌, subst}
use Rattle.std.specs.Map.{lookup}
use Rattle.tftp_packet.specs.declared.endpoint.Endpoint.{Endpoint}
use Rattle.tftp_packet.specs.declared.cause.Cause.{Cause}
use Rattle.tftp_packet.specs.declared.cause.Cause.TheVariants as cause
use Rattle.archive_table.specs.Table.{unkept, memory_verdict, is_same, table_request, table_datagram, table_timeout}
use Rattle.archive_client.specs.declared.state.State.TheVariants as state
use Rattle.archive_client.specs.Client.{Operation, failed, client_start, client_datagram, client_timeout, phase_state}
use Rattle.archive_model.specs.World.{World, WorldStep, client_at, begins, happens, run_from, AllMerged, Origin, RunFrom, first_world, last_world}
use Rattle.archive_model.proofs.Places.{Has-contains, Has-from_contains, Has-last}
use Rattle.archive_model.proofs.Endpoints.{exact_endpoint}
use Rattle.archive_model.proofs.Growing.{step-extends, run-extends}
use Rattle.archive_theorem.specs.Headline.{IsOwn}
use Rattle.archive_theorem.specs.Errors.{HasFailed, IsNotTaken, IsTakenAtMostOnce, HasFetchedNothing}
use Rattle.archive_theorem.proofs.Claim_Past.{HasBegun, IsBound}
use Rattle.archive_theorem.proofs.Claim_Owns.{own-before}
use Rattle.archive_theorem.proofs.Claim_Invariant.{Holds, first-holds, none_at}
use Rattle.archive_theorem.proofs.Server_Moves.{begun_away}
use Rattle.archive_theorem.proofs.Server_Port.{run_same}
use Rattle.archive_theorem.proofs.Event_Happens.{step-holds, run-append, last-holds, merged-as, merged-first, merged-rest}
use Rattle.archive_theorem.proofs.Event_Cases.{Cases, nothing, begun, answers, transfers, acts, expires, waits, strayed, restarted, ended, event-case}
use Rattle.archive_theorem.proofs.Error_Claims.{Tells, Changes}
use Rattle.archive_theorem.proofs.Error_Moves.{begins_twice, kept_tells, server_before, stray_before, begins-tells, acted-tells, stays_by, datagram_answer, timeout_answer}
use Rattle.archive_theorem.proofs.Error_Steps.{case-changes}

-- ---- whatever the event

module _ (w : World) (h : Holds w) (tells : Tells w) where
  case_tells : (v : World) → Cases w v → Holds v → Changes w v → Tells v
  case_tells v nothing k c = tells
  case_tells v (begun e operation away) k c = begins-tells w h e operation k tells c
  case_tells v (answers spare grant d among other free) k c =
      kept_tells w v h k tells c refl refl
      (λ e b own. server_before w v h k tells c (table_request (memory_verdict grant) spare d.source d.bytes w.server).step.out refl e b)
  case_tells v (transfers grant maps d among ours) k c =
      kept_tells w v h k tells c refl refl
      (λ e b own. server_before w v h k tells c (table_datagram grant maps d.target.port d.source d.bytes w.server).step.out refl e b)
  case_tells v (acts grant d x among is) k c =
      acted-tells w h d.target x (client_datagram (memory_verdict grant) d.source d.bytes x) (datagram_answer w grant d x among is) k tells c
  case_tells v (expires port) k c =
      kept_tells w v h k tells c refl refl (λ e b own. server_before w v h k tells c (table_timeout port w.server).step.out refl e b)
  case_tells v (waits e x is) k c = acted-tells w h e x (client_timeout x) (timeout_answer w e x is) k tells c
  case_tells v (strayed d away) k c =
      kept_tells w v h k tells c refl refl (λ e b own. stray_before w v h k tells c d refl (Has-last w.strays d) e own)
  case_tells v restarted k c = kept_tells w v h k tells c refl refl (λ e b own d has source binds. has)
  case_tells v (ended found maps d t among completes) k c =
      kept_tells w v h k tells c refl refl
      (λ e b own. server_before w v h k tells c (table_datagram unkept maps d.target.port d.source d.bytes w.server).step.out refl e b)

  -- a client that has failed stays so, if its ports stay its own
  begun_stays : (e : Endpoint) (operation : Operation) (f : Endpoint) (why : Cause) → HasFailed w f why → IsOwn (begins e operation w) f →
      (here : Bool) → is_same f e ≡ here →
      HasFailed (begins e operation w) f why
  begun_stays e operation f why there own true at =
      let same = exact_endpoint f e at in
      begins_twice w e operation (subst (IsOwn (begins e operation w)) same own) (subst (HasBegun w.past) same (tells.begun f there.client there.is))
  begun_stays e operation f why there own false at =
      record {
        client = there.client;
        is = ap (λ (b : Bool). cond b (Some (client_start e.port w.home operation)) (client_at f w)) at ∙ there.is;
        failed_by = there.failed_by;
      }

  same_clients : (v : World) → v.clients ≡ w.clients → (f : Endpoint) (why : Cause) → HasFailed w f why → HasFailed v f why
  same_clients v clients f why there = record { client = there.client; is = ap (lookup (is_same f)) clients ∙ there.is; failed_by = there.failed_by }

  case_stays : (v : World) → Cases w v → Holds v → Changes w v → (f : Endpoint) (why : Cause) → HasFailed w f why → IsOwn v f → HasFailed v f why
  case_stays v nothing k c f why there own = there
  case_stays v (begun e operation away) k c f why there own = begun_stays e operation f why there own (is_same f e) refl
  case_stays v (answers spare grant d among other free) k c f why there own = same_clients v refl f why there
  case_stays v (transfers grant maps d among ours) k c f why there own = same_clients v refl f why there
  case_stays v (acts grant d x among is) k c f why there own =
      stays_by w h d.target x (client_datagram (memory_verdict grant) d.source d.bytes x) (datagram_answer w grant d x among is) k tells c f why there
      (is_same f d.target) refl
  case_stays v (expires port) k c f why there own = same_clients v refl f why there
  case_stays v (waits e x is) k c f why there own =
      stays_by w h e x (client_timeout x) (timeout_answer w e x is) k tells c f why there (is_same f e) refl
  case_stays v (strayed d away) k c f why there own = same_clients v refl f why there
  case_stays v restarted k c f why there own = same_clients v refl f why there
  case_stays v (ended found maps d t among completes) k c f why there own = same_clients v refl f why there

  module _ (s : WorldStep) (k : Holds (happens s w)) where
    step_case : Cases w (happens s w)
    step_case = event-case w s.event s.grant s.maps

    step_changes : Changes w (happens s w)
    step_changes = case-changes w h tells (happens s w) step_case (step-extends w s) (run_same (s ∷ []) w)

    step_tells : Tells (happens s w)
    step_tells = case_tells (happens s w) step_case k step_changes

    step_stays : (f : Endpoint) (why : Cause) → HasFailed w f why → IsOwn (happens s w) f → HasFailed (happens s w) f why
    step_stays = case_stays (happens s w) step_case k step_changes

-- ---- a run

first_tells : (o : Origin) → Tells (first_world o)
first_tells o =
    record {
      ports = λ x has. none_at x has;
      begun = λ e c is. absurd cc;
      errors = λ d has. none_at d has;
      failed_by = λ e c code is. absurd cc;
      got = λ e c is. absurd cc;
    }

run_tells : (steps : List WorldStep) (w : World) → Holds w → AllMerged steps w → Tells w → Tells (run_from steps w)
run_tells [] w h merged tells = tells
run_tells (s ∷ steps) w h merged tells =
    let k = step-holds w s h merged.0 in
    run_tells steps (happens s w) k merged.1 (step_tells w h tells s k)

run_stays : (steps : List WorldStep) (w : World) → Holds w → AllMerged steps w → Tells w → (e : Endpoint) (why : Cause) → HasFailed w e why →
    IsOwn (run_from steps w) e →
    HasFailed (run_from steps w) e why
run_stays [] w h merged tells e why there own = there
run_stays (s ∷ steps) w h merged tells e why there own =
    let k = step-holds w s h merged.0 in
    let now = step_stays w h tells s k e why there (own-before (run-extends steps (happens s w)) e own) in
    run_stays steps (happens s w) k merged.1 (step_tells w h tells s k) e why now own

-- ---- what follows for a client that has failed

module _ (w : World) (h : Holds w) (tells : Tells w) (e : Endpoint) (own : IsOwn w e) (why : Cause) (there : HasFailed w e why) where
  away : (x : Endpoint) → x ≡ e → x.host ≢ w.home.host
  away x same ours = begun_away w h e (tells.begun e there.client there.is) (ap (λ (y : Endpoint). y.host) (sym same) ∙ ours)

  not_taken : (code : ℕ) → why ≡ cause.Refused code → code ≢ 5 → IsNotTaken w.past e
  not_taken code refused known t among same =
      let has = Has-from_contains w.taken t among in
      let is = h.taken t has (away t.peer same) in
      let from = is.whose (subst (IsOwn w) (sym same) own) in
      let bound : IsBound w.past e is.port = subst (λ (x : Endpoint). IsBound w.past x is.port) same from.bound in
      let fails = there.failed_by ∙ ap failed refused in
      let r = tells.failed_by e there.client code there.is fails known own is.port bound in
      Has-contains w.recovered t (r.files t has same bound)

  taken_once : IsTakenAtMostOnce w.past e
  taken_once i j t u at_i at_j first second = h.once i j t u at_i at_j (first ∙ sym second) (away t.peer first) (subst (IsOwn w) (sym first) own)

  fetched_nothing : HasFetchedNothing w.past e
  fetched_nothing g among same =
      let got = tells.got e there.client there.is own g (Has-from_contains w.got g among) same in
      let both : state.Failed why ≡ state.Got = sym (ap phase_state there.failed_by) ∙ got in
      absurd cc

module _ (o : Origin) (r : RunFrom o) (before after : List WorldStep) (split : r.steps ≡ before ++ after) (e : Endpoint) (why : Cause)
    (there : HasFailed (run_from before (first_world o)) e why) (own : IsOwn (last_world r) e) where
  abbrev first : World
  first = first_world o

  at_end : run_from after (run_from before first) ≡ last_world r
  at_end = sym (run-append before after first) ∙ ap (λ (l : List WorldStep). run_from l first) (sym split)

  first_merged : AllMerged (before ++ after) first
  first_merged = merged-as o r (before ++ after) split

  tells_at : Tells (run_from before first)
  tells_at = run_tells before first (first-holds o) (merged-first before after first first_merged) (first_tells o)

  still : HasFailed (last_world r) e why
  still =
      let h = last-holds o (record { steps = before; merged = merged-first before after first first_merged }) in
      let own' = subst (λ (w : World). IsOwn w e) (sym at_end) own in
      subst (λ (w : World). HasFailed w e why) at_end
      (run_stays after (run_from before first) h (merged-rest before after first first_merged) tells_at e why there own')

  last_tells : Tells (last_world r)
  last_tells = run_tells r.steps first (first-holds o) r.merged (first_tells o)

  pub failed-not_taken : (code : ℕ) → why ≡ cause.Refused code → code ≢ 5 → IsNotTaken (last_world r).past e
  failed-not_taken = not_taken (last_world r) (last-holds o r) last_tells e own why still

  pub failed-once : IsTakenAtMostOnce (last_world r).past e
  failed-once = taken_once (last_world r) (last-holds o r) last_tells e own why still

  pub failed-nothing : HasFetchedNothing (last_world r).past e
  failed-nothing = fetched_nothing (last_world r) (last-holds o r) last_tells e own why still
