-- What was counted as sent before a get began is in what it has fetched.
use Rattle.std.proofs.Common.{◌≡◌, ◌⊎◌, ℕ, ◌<◌, ◌≤◌, Bool, true, false, ◌==◌, List, [], ◌∷◌, ◌++◌, length, take, refl, ap, sym, subst, inl, inr, arith, ◌≢◌, ◌∙◌}
use Rattle.std.proofs.lemmas.Bool.{eqb-true}
use Rattle.tftp_packet.specs.declared.endpoint.Endpoint.{Endpoint}
use Rattle.tws_file.specs.declared.«ruleset».Ruleset.{Ruleset}
use Rattle.tws_file.specs.declared.«ruleset».Ruleset.TheVariants.{Lynx}
use Rattle.tws_best.specs.Best.{IsBestOver}
use Rattle.archive_table.specs.Table.{Maps, empty_maps}
use Rattle.archive_client.specs.Client.{Operation, put, get}
use Rattle.archive_model.specs.World.{Begun, Event, begin, Got, World, WorldStep, begins_unless, event_happens, happens, run_from, run, start, AllMerged, Extends, Origin, first_world, empty_origin}
use Rattle.archive_theorem.specs.Headline.{IsOwn, HasOwnPorts, files_of, IsFetchedWith, FetchesOwnSent, FetchesSent}
use Rattle.archive_model.proofs.Places.{Has, Has-last, Has-prefix, Has-contains, Has-from_contains, at-prefix, at-take, before_last, either}
use Rattle.archive_theorem.proofs.Claim_Past.{HasGet, HasBegun}
use Rattle.archive_theorem.proofs.Claim_Owns.{get_begun, one_operation, own-each, none_reused-before}
use Rattle.archive_theorem.proofs.Claim_Invariant.{Holds, first-holds}
use Rattle.archive_theorem.proofs.Server_Moves.{begun_away}
use Rattle.archive_theorem.proofs.Event_Happens.{merged-first, run_from-holds}
use Rattle.archive_theorem.proofs.Headline_Clients.{run-clients}
use Rattle.archive_model.proofs.Growing.{end-extends, next-extends}

-- the get was counted when it began
begins_counted : (w : World) (ours : Bool) (e : Endpoint) (rules : Ruleset) → (e.host == w.home.host) ≡ ours →
    (e.host ≡ w.home.host) ⊎ Has (begins_unless ours false e (get rules) w).begun
    (record { client = e; operation = get rules; taken = length w.taken })
begins_counted w true e rules at = inl (eqb-true _ _ at)
begins_counted w false e rules at = inr (Has-last w.begun _)

-- after the begin the get is listed with its count, unless it is on the server's host
pub begin_counted : (w : World) (s : WorldStep) (e : Endpoint) (rules : Ruleset) → s.event ≡ begin e (get rules) →
    (e.host ≡ w.home.host) ⊎ Has (happens s w).begun (record { client = e; operation = get rules; taken = length w.taken })
begin_counted w s e rules is =
    subst (λ (event : Event). (e.host ≡ w.home.host) ⊎ Has (event_happens event s.grant s.maps w).begun
    (record { client = e; operation = get rules; taken = length w.taken })) (sym is)
    (begins_counted w (e.host == w.home.host) e rules refl)

-- the ruleset of a get
abbrev rules_of : Operation → Ruleset
rules_of (put file) = Lynx
rules_of (get rules) = rules

-- the worlds before the begin, and at the end
module _ (w v : World) (h : Holds w) (k : Holds v) (g : Extends w.past v.past) (e : Endpoint) (own : IsOwn v e) where
  -- no operation is on the server's host
  away_then : HasBegun v.past e → e.host ≢ w.home.host
  away_then began ours = begun_away v k e began (ours ∙ ap (λ (x : Endpoint). x.host) (sym g.home))

  -- the count of the get is that at its begin
  pub counted : (rules other : Ruleset) (m : ℕ) →
      (e.host ≡ w.home.host) ⊎ Has v.begun (record { client = e; operation = get rules; taken = length w.taken }) →
      HasGet v.past e other m → length w.taken ≡ m
  counted rules other m (inl ours) began = absurd (away_then (get_begun e other m began) ours)
  counted rules other m (inr has) began =
      ap (λ (b : Begun). b.taken) (one_operation v.past e own _ (record { client = e; operation = get other; taken = m }) has began.among refl refl)

  -- and its ruleset is the one that it began with
  same_ruleset_of : (rules other : Ruleset) (m : ℕ) →
      (e.host ≡ w.home.host) ⊎ Has v.begun (record { client = e; operation = get rules; taken = length w.taken }) →
      HasGet v.past e other m → rules ≡ other
  same_ruleset_of rules other m (inl ours) began = absurd (away_then (get_begun e other m began) ours)
  same_ruleset_of rules other m (inr has) began =
      ap (λ (b : Begun). rules_of b.operation) (one_operation v.past e own _ (record { client = e; operation = get other; taken = m }) has began.among refl refl)

  -- what it has fetched is over files among which the other's is
  fetched : (rules : Ruleset) →
      (e.host ≡ w.home.host) ⊎ Has v.begun (record { client = e; operation = get rules; taken = length w.taken }) →
      (x : Endpoint) → Has w.sent x → IsOwn w x → (got : Got) → Has v.got got → got.client ≡ e → IsFetchedWith rules w v x got
  fetched rules began x has own_then got has_got same =
      let is = k.got got has_got in
      let f = is.whose (subst (IsOwn v) (sym same) own) in
      let sent = h.sent x has in
      let there = sent.is_taken own_then in
      let by : HasGet v.past e is.rules is.count = subst (λ (f : Endpoint). HasGet v.past f is.rules is.count) same is.began in
      let count : length w.taken ≡ is.count = counted rules is.rules is.count began by in
      let since : is.count ≤ f.serves.count = f.since in
      record {
        count = f.serves.count;
        best = subst (λ (r : Ruleset). IsBestOver r (files_of (take f.serves.count v.taken)) got.file)
            (sym (same_ruleset_of rules is.rules is.count began by)) f.serves.is_text.best;
        since = omega arith;
        file = sent.file;
        began = (record { client = x; operation = put sent.file; taken = sent.began.count }, Has-contains w.begun _ sent.began.among, refl, refl);
        position = there.among.position;
        is_taken = there.among.is;
      }

-- in a run a get has fetched what was sent before it
pub fetches-own_sent : (o : Origin) (before after : List WorldStep) (s : WorldStep) → AllMerged (before ++ s ∷ after) (first_world o) →
    FetchesOwnSent (first_world o) before after s
fetches-own_sent o before after s merged e rules is own x has own_then got has_got same =
    let first = first_world o in
    let w = run_from before first in
    let v = run_from (before ++ s ∷ after) first in
    let grows : Extends w.past v.past = end-extends before (s ∷ after) first in
    let at_first = first-holds o in
    let h = run_from-holds before first at_first (merged-first before (s ∷ after) first merged) in
    let k = run_from-holds (before ++ s ∷ after) first at_first merged in
    let now = begin_counted w s e rules is in
    let more : Extends (happens s w).past v.past = next-extends before after s first in
    let began =
    either (λ ours. ours) (Has-prefix (happens s w).begun v.begun (record { client = e; operation = get rules; taken = length w.taken }) more.begun) now in
    fetched w v h k grows e own rules began x (Has-from_contains w.sent x has) own_then got (Has-from_contains v.got got has_got) same

-- The sender and the getter have begun operations, so if no port is reused theirs are their own.
pub fetches-sent : (home : Endpoint) (before after : List WorldStep) (s : WorldStep) →
    HasOwnPorts (run_from (before ++ s ∷ after) (first_world (empty_origin home))) →
    AllMerged (before ++ s ∷ after) (first_world (empty_origin home)) → FetchesSent (first_world (empty_origin home)) before after s
fetches-sent home before after s own merged e rules is x has got has_got same =
    let o = empty_origin home in
    let first = first_world o in
    let w = run_from before first in
    let v = run_from (before ++ s ∷ after) first in
    let grows : Extends w.past v.past = end-extends before (s ∷ after) first in
    let all = run-clients o (record { steps = before ++ s ∷ after; merged = merged }) in
    let early = run-clients o (record { steps = before; merged = merged-first before (s ∷ after) first merged }) in
    let getter = subst (IsOwn v) same (own-each v own got.client (all.got got has_got)) in
    let sender = own-each w (none_reused-before w v grows own) x (early.sent x has) in
    fetches-own_sent o before after s merged e rules is getter x has sender got has_got same
