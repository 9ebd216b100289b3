-- Operations of which one ends before the other begins: what the later one sees, and what the earlier one cannot.
use Rattle.std.proofs.Common.{◌≡◌, ◌≢◌, ◌⊎◌, ℕ, ◌<◌, ◌≤◌, Bool, true, false, ◌==◌, List, ◌∷◌, ◌++◌, length, take, slice_get, Contains, Some, refl, ap, sym, ◌∙◌, subst, inl, inr, ⊎_elim, arith}
use Rattle.std.proofs.lemmas.Bool.{eqb-true}
use Rattle.tftp_packet.specs.declared.endpoint.Endpoint.{Endpoint}
use Rattle.tws_file.specs.declared.«ruleset».Ruleset.{Ruleset}
use Rattle.archive_table.specs.Table.{Maps, Taken}
use Rattle.archive_client.specs.Client.{Operation, put, get, is_too_long}
use Rattle.archive_model.specs.World.{Begun, Event, begin, Got, World, WorldStep, begins_unless, event_happens, happens, run_from, AllMerged, Extends, Origin, first_world}
use Rattle.archive_theorem.specs.Headline.{IsOwn}
use Rattle.archive_theorem.specs.Effects.{IsFetchedOver, FetchesNoLess, FetchesNone}
use Rattle.archive_model.proofs.Places.{Has, Has-prefix, Has-contains, Has-from_contains, at-prefix, at-last, before_last, take-prefix, either}
use Rattle.archive_theorem.proofs.Claim_Past.{HasPut, HasGet, IsGot}
use Rattle.archive_theorem.proofs.Claim_Lasts.{text-grown, get-lasts}
use Rattle.archive_theorem.proofs.Claim_Owns.{own-before}
use Rattle.archive_theorem.proofs.Claim_Invariant.{Holds, first-holds}
use Rattle.archive_theorem.proofs.Event_Happens.{merged-first, run_from-holds}
use Rattle.archive_theorem.proofs.Keeper_Holds.{first_prefix}
use Rattle.archive_theorem.proofs.Headline_Since.{begin_counted, counted}
use Rattle.archive_model.proofs.Growing.{Extends-same, end-extends, next-extends, run-extends}

-- the operation is the last that has begun
begins_at : (w : World) (ours : Bool) (e : Endpoint) (operation : Operation) → (e.host == w.home.host) ≡ ours →
    (e.host ≡ w.home.host) ⊎
    (slice_get (begins_unless ours false e operation w).begun (length w.begun) ≡ Some (record { client = e; operation = operation; taken = length w.taken }))
begins_at w true e operation at = inl (eqb-true _ _ at)
begins_at w false e operation at = inr (at-last w.begun _)

-- after its begin it is the last, unless it is on the server's host
begin_at : (w : World) (s : WorldStep) (e : Endpoint) (operation : Operation) → s.event ≡ begin e operation →
    is_too_long operation ≡ false →
    (e.host ≡ w.home.host) ⊎
    (slice_get (happens s w).begun (length w.begun) ≡ Some (record { client = e; operation = operation; taken = length w.taken }))
begin_at w s e operation is short =
    let new : Begun = record { client = e; operation = operation; taken = length w.taken } in
    subst (λ (event : Event). (e.host ≡ w.home.host) ⊎ (slice_get (event_happens event s.grant s.maps w).begun (length w.begun) ≡ Some new)) (sym is)
    (subst (λ (long : Bool). (e.host ≡ w.home.host)
    ⊎ (slice_get (begins_unless (e.host == w.home.host) long e operation w).begun (length w.begun) ≡ Some new)) (sym short)
    (begins_at w (e.host == w.home.host) e operation refl))

-- what was fetched in a world is over the same files in a later one
fetched_over : (w v : World) → Extends w.past v.past → (g : Got) (is : IsGot w.past g) (own : IsOwn w g.client) → IsFetchedOver v g (is.whose own).serves.count
fetched_over w v grows g is own =
    let s = (is.whose own).serves in
    let text = text-grown w.taken v.taken s.count is.rules g.file grows.taken s.is_text in
    record {
      rules = is.rules;
      began = (
        record { client = g.client; operation = get is.rules; taken = is.count },
        Has-contains v.begun _
            (get-lasts grows g.client is.rules is.count is.began).among,
        refl,
        refl,
      );
      counted = text.within;
      best = text.best;
    }

-- the worlds before the begin, after it, and at the end
module _ (w v : World) (s : WorldStep) (h : Holds w) (k : Holds v) (grows : Extends w.past v.past) (more : Extends (happens s w).past v.past) (e : Endpoint)
    (own : IsOwn v e) where
  -- a get that begins later has fetched over no fewer files
  gets_later : (rules : Ruleset) → s.event ≡ begin e (get rules) → (g : Got) → Has w.got g → IsOwn w g.client → (late : Got) →
      Has v.got late → late.client ≡ e → (m : ℕ) × (n : ℕ) × (m ≤ n) × IsFetchedOver v g m × IsFetchedOver v late n
  gets_later rules event g has own_then late has_late same =
      let is = h.got g has in
      let was = is.whose own_then in
      let now = k.got late has_late in
      let mine = subst (IsOwn v) (sym same) own in
      let since : now.count ≤ (now.whose mine).serves.count = (now.whose mine).since in
      let began = subst (λ (x : Endpoint). HasGet v.past x now.rules now.count) same now.began in
      let begun : (e.host ≡ w.home.host) ⊎ Has v.begun (record { client = e; operation = get rules; taken = length w.taken }) =
      either (λ ours. ours) (Has-prefix (happens s w).begun v.begun _ more.begun) (begin_counted w s e rules event) in
      let count : length w.taken ≡ now.count = counted w v h k grows e own rules now.rules now.count begun began in
      let within : was.serves.count ≤ length w.taken = was.serves.is_text.within in
      (was.serves.count, (now.whose mine).serves.count, omega arith, fetched_over w v grows g is own_then, fetched_over v v (Extends-same v.past) late now mine)

  -- nothing had been taken from the endpoint of the put before it began
  none_before : (operation : Operation) → s.event ≡ begin e operation → e.host ≢ w.home.host → is_too_long operation ≡ false →
      (t : Taken) → Has w.taken t → t.peer ≡ e → ⊥
  none_before operation event away short t has same =
      let own_then = own-before grows e own in
      let from = ((h.taken t has (λ ours. away (ap (λ (x : Endpoint). x.host) (sym same) ∙ ours))).whose (subst (IsOwn w) (sym same) own_then)).began in
      let began : HasPut w.past e t.file = subst (λ (x : Endpoint). HasPut w.past x t.file) same from in
      let position = began.among.position in
      let early : position < length w.begun = before_last w.begun position _ began.among.is in
      ⊎_elim away
      (λ new.
      let still = at-prefix w.begun v.begun grows.begun position _ began.among.is in
      let last = at-prefix (happens s w).begun v.begun more.begun (length w.begun) _ new in
      let one : position ≡ length w.begun = own.operations position (length w.begun) _ _ still last refl refl in
      omega arith)
      (begin_at w s e operation event short)

  -- what was fetched before a put began has nothing of it
  gets_none : (file : List ℕ) → s.event ≡ begin e (put file) → e.host ≢ w.home.host → is_too_long (put file) ≡ false → (g : Got) →
      Has w.got g → IsOwn w g.client →
      (count : ℕ) × IsFetchedOver v g count × ((t : Taken) → Contains (take count v.taken) t → t.peer ≡ e → ⊥)
  gets_none file event away short g has own_then =
      let is = h.got g has in
      let count = (is.whose own_then).serves.count in
      let within : count ≤ length w.taken = (is.whose own_then).serves.is_text.within in
      let same_files : take count v.taken ≡ take count w.taken = take-prefix w.taken v.taken count grows.taken within in
      let none : (t : Taken) → Contains (take count v.taken) t → t.peer ≡ e → ⊥ =
      λ t among. none_before (put file) event away short t (Has-prefix (take count w.taken) w.taken t (first_prefix count w.taken)
      (Has-from_contains (take count w.taken) t (subst (λ (ts : List Taken). Contains ts t) same_files among))) in
      (count, fetched_over w v grows g is own_then, none)

-- ---- a run

module _ (o : Origin) (before after : List WorldStep) (s : WorldStep) (merged : AllMerged (before ++ s ∷ after) (first_world o)) where
  -- the world before the begin
  abbrev first : World
  first = run_from before (first_world o)

  -- the world at the end
  abbrev last : World
  last = run_from (before ++ s ∷ after) (first_world o)

  grows : Extends first.past last.past
  grows = end-extends before (s ∷ after) (first_world o)

  -- since after the begin the lists have only grown
  more : Extends (happens s first).past last.past
  more = next-extends before after s (first_world o)

  -- the invariant holds before the begin
  first_holds : Holds first
  first_holds = run_from-holds before (first_world o) (first-holds o) (merged-first before (s ∷ after) (first_world o) merged)

  -- and at the end
  last_holds : Holds last
  last_holds = run_from-holds (before ++ s ∷ after) (first_world o) (first-holds o) merged

  -- a get that begins after another has ended has fetched over no fewer files
  pub fetches-no_less : FetchesNoLess (first_world o) before after s
  fetches-no_less e rules event own g among own_then late among_late same =
      gets_later first last s first_holds last_holds grows more e own rules event g (Has-from_contains first.got g among) own_then late
      (Has-from_contains last.got late among_late) same

  -- a get that ended before a put began has nothing of that put
  pub fetches-none : FetchesNone (first_world o) before after s
  fetches-none e file event away short own g among own_then =
      let home = (run-extends before (first_world o)).home in
      gets_none first last s first_holds last_holds grows more e own file event (λ ours. away (ours ∙ ap (λ (x : Endpoint). x.host) home)) short g
      (Has-from_contains first.got g among) own_then
