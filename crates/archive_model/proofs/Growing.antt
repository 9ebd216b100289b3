-- Every event adds at most one member to each list of what has happened, and takes nothing back.
use Rattle.std.proofs.Common.{◌≡◌, ◌⊎◌, ℕ, Bool, true, false, List, [], ◌∷◌, ◌++◌, Option, None, Some, refl, ap, sym, ◌∙◌, subst, inl, inr, slice_get}
use Rattle.std.specs.Prelude.{IfSome}
use Rattle.std.proofs.lemmas.Option.{IfSome_then}
use Rattle.tftp_packet.specs.declared.endpoint.Endpoint.{Endpoint}
use Rattle.tftp_packet.specs.declared.out.Out.{Out}
use Rattle.archive_table.specs.Table.{Taken, memory_verdict, table_request, table_datagram, table_timeout, unkept}
use Rattle.archive_client.specs.Client.{client_datagram, client_timeout, phase_file}
use Rattle.archive_model.specs.World.{Datagram, Opening, Got, Past, World, Event, deliver, WorldStep, IsPrefix, Extends, net_with, opened_with, taken_with, sent_with, got_with, happens, run_from, taken_if, unknown_keep}
use Rattle.archive_model.specs.Adding.{AddsOne, Delivers, Adds, Ends}
use Rattle.archive_model.proofs.Places.{IsPrefix-same, IsPrefix-on}
use Rattle.archive_model.proofs.Sources.{timeout-takes, datagram-takes, timeout-ends, wanted-from}
use Rattle.archive_model.proofs.Doing.{Does, nothing, begun, answers, transfers, acts, expires, waits, strayed, restarted, event-does, ended}

-- ---- one list

-- of less that holds of the one
pub AddsOne-weaker : {A : Type 0} {Fits Weaker : A → Type 0} {old new : List A} → ((x : A) → Fits x → Weaker x) → AddsOne Fits old new → AddsOne Weaker old new
AddsOne-weaker weaker (inl same) = inl same
AddsOne-weaker weaker (inr one) = inr (one.0, one.1, weaker one.0 one.2)

net_adds : (host : ℕ) (net : List Datagram) (out : Option Out) → AddsOne (λ (d : Datagram). Unit {0}) net (net_with host net out)
net_adds host net None = inl refl
net_adds host net (Some out) = inr (_, refl, tt)

taken_adds : {Fits : Taken → Type 0} (taken : Option Taken) (ts : List Taken) → IfSome taken Fits → AddsOne Fits ts (taken_with taken ts)
taken_adds None ts fits = inl refl
taken_adds (Some t) ts fits = inr (t, refl, fits)

sent_adds : {Fits : Endpoint → Type 0} (newly : Bool) (e : Endpoint) (es : List Endpoint) → Fits e → AddsOne Fits es (sent_with newly e es)
sent_adds true e es fits = inr (e, refl, fits)
sent_adds false e es fits = inl refl

got_adds : {Fits : Got → Type 0} (newly : Bool) (e : Endpoint) (file : Option (List ℕ)) (gs : List Got) →
    ((text : List ℕ) → Fits (record { client = e; file = text })) → AddsOne Fits gs (got_with newly e file gs)
got_adds true e (Some file) gs fits = inr (_, refl, fits file)
got_adds true e None gs fits = inl refl
got_adds false e file gs fits = inl refl

opened_adds : {Fits : Opening → Type 0} (opened : Bool) (o : Opening) (os : List Opening) → Fits o → AddsOne Fits os (opened_with opened o os)
opened_adds true o os fits = inr (o, refl, fits)
opened_adds false o os fits = inl refl

found_adds : {Fits : Taken → Type 0} (found : Bool) (t : Taken) (ts : List Taken) → Fits t → AddsOne Fits ts (taken_if found t ts)
found_adds true t ts fits = inr (t, refl, fits)
found_adds false t ts fits = inl refl

recovered_adds : {P : Taken → Type 0} (found : Bool) (t : Taken) (rs ts : List Taken) → P t →
    AddsOne (λ u. P u × (taken_if found t ts ≡ ts ++ u ∷ [])) rs (taken_if found t rs)
recovered_adds true t rs ts fits = inr (t, refl, (fits, refl))
recovered_adds false t rs ts fits = inl refl

-- ---- what an event does

-- it delivers this datagram
delivery : {past : Past} {Fits : (spare : ℕ) → Datagram → Type 0} (index spare : ℕ) (d : Datagram) → slice_get past.net index ≡ Some d → Fits spare d →
    Delivers (deliver index spare) past Fits
delivery index spare d is fits = record { index = index; spare = spare; datagram = d; event_is = refl; is = is; fits = fits }

-- it is a keep whose outcome is unknown
ending : {past : Past} {Fits : Datagram → Type 0} (index : ℕ) (found : Bool) (d : Datagram) → slice_get past.net index ≡ Some d → Fits d →
    Ends (unknown_keep index found) past Fits
ending index found d is fits = record { index = index; found = found; datagram = d; event_is = refl; is = is; fits = fits }

does_adds : {w v : World} {event : Event} → Does w event v → Adds event w.past v.past
does_adds (nothing event) =
    record { home = refl; net = inl refl; begun = inl refl; taken = inl refl; recovered = inl refl; sent = inl refl; got = inl refl; opened = inl refl; strays = inl refl }
does_adds (begun e operation) =
    record {
      home = refl;
      net = inr (_, refl, tt);
      begun = inr (_, refl, (refl, refl));
      taken = inl refl;
      recovered = inl refl;
      sent = inl refl;
      got = inl refl;
      opened = inl refl;
      strays = inl refl;
    }
does_adds {w} (answers index spare grant d is) =
    let a = table_request (memory_verdict grant) spare d.source d.bytes w.server in
    record {
      home = refl;
      net = net_adds _ w.net a.step.out;
      begun = inl refl;
      taken = inl refl;
      recovered = inl refl;
      sent = inl refl;
      got = inl refl;
      opened = opened_adds a.step.opened _ w.opened (refl, delivery index spare d is (record { peer = refl; port = refl; asked = refl }));
      strays = inl refl;
    }
does_adds {w} (transfers index spare grant maps d is) =
    let a = table_datagram grant maps d.target.port d.source d.bytes w.server in
    record {
      home = refl;
      net = net_adds _ w.net a.step.out;
      begun = inl refl;
      taken =
          taken_adds a.step.taken w.taken
          (IfSome_then a.step.taken (datagram-takes grant maps d.target.port d.source d.bytes w.server) (λ t from. inl (delivery index spare d is from)));
      recovered = inl refl;
      sent = inl refl;
      got = inl refl;
      opened = inl refl;
      strays = inl refl;
    }
does_adds {w} (acts index spare grant d c is) =
    let a = client_datagram (memory_verdict grant) d.source d.bytes c in
    record {
      home = refl;
      net = net_adds d.target.host w.net a.out;
      begun = inl refl;
      taken = inl refl;
      recovered = inl refl;
      sent = sent_adds _ d.target w.sent (delivery index spare d is refl);
      got = got_adds _ d.target _ w.got (λ text. delivery index spare d is refl);
      opened = inl refl;
      strays = inl refl;
    }
does_adds {w} (expires port) =
    let a = table_timeout port w.server in
    record {
      home = refl;
      net = net_adds _ w.net a.step.out;
      begun = inl refl;
      taken = inl (ap (λ (t : Option Taken). taken_with t w.taken) (timeout-takes port w.server));
      recovered = inl refl;
      sent = inl refl;
      got = inl refl;
      opened = inl refl;
      strays = inl refl;
    }
does_adds {w} (waits e c) =
    let a = client_timeout c in
    record {
      home = refl;
      net = net_adds e.host w.net a.out;
      begun = inl refl;
      taken = inl refl;
      recovered = inl refl;
      sent = inl (ap (λ (newly : Bool). sent_with newly e w.sent) (timeout-ends c).sent);
      got = inl (ap (λ (newly : Bool). got_with newly e (phase_file a.client.phase) w.got) (timeout-ends c).got);
      opened = inl refl;
      strays = inl refl;
    }
does_adds (strayed d) =
    record {
      home = refl;
      net = inr (d, refl, tt);
      begun = inl refl;
      taken = inl refl;
      recovered = inl refl;
      sent = inl refl;
      got = inl refl;
      opened = inl refl;
      strays = inr (d, refl, refl);
    }
does_adds restarted =
    record { home = refl; net = inl refl; begun = inl refl; taken = inl refl; recovered = inl refl; sent = inl refl; got = inl refl; opened = inl refl; strays = inl refl }
does_adds {w} (ended index found maps d t is completes) =
    let a = table_datagram unkept maps d.target.port d.source d.bytes w.server in
    record {
      home = refl;
      net = net_adds _ w.net a.step.out;
      begun = inl refl;
      taken = found_adds found t w.taken (inr (ending index found d is (wanted-from w d t completes)));
      recovered = recovered_adds found t w.recovered w.taken (ending index found d is (wanted-from w d t completes));
      sent = inl refl;
      got = inl refl;
      opened = inl refl;
      strays = inl refl;
    }

-- any step adds at most one member to each list
pub step-adds : (w : World) (s : WorldStep) → Adds s.event w.past (happens s w).past
step-adds w s = does_adds (event-does w s.event s.grant s.maps)

-- a step in which an operation begins takes no file and opens no transfer
does_apart : {w v : World} {event : Event} → Does w event v → (v.begun ≡ w.begun) ⊎ ((v.taken ≡ w.taken) × (v.opened ≡ w.opened))
does_apart (nothing event) = inl refl
does_apart (begun e operation) = inr (refl, refl)
does_apart (answers index spare grant d is) = inl refl
does_apart (transfers index spare grant maps d is) = inl refl
does_apart (acts index spare grant d c is) = inl refl
does_apart (expires port) = inl refl
does_apart (waits e c) = inl refl
does_apart (strayed d) = inl refl
does_apart restarted = inl refl
does_apart (ended index found maps d t is completes) = inl refl

pub begins-apart : (w : World) (s : WorldStep) → ((happens s w).begun ≡ w.begun) ⊎ (((happens s w).taken ≡ w.taken) × ((happens s w).opened ≡ w.opened))
begins-apart w s = does_apart (event-does w s.event s.grant s.maps)

-- ---- nothing is taken back

prefix_of : {A : Type 0} {Fits : A → Type 0} {old new : List A} → AddsOne Fits old new → IsPrefix old new
prefix_of {A} {Fits} {old} (inl same) = subst (IsPrefix old) (sym same) (IsPrefix-same old)
prefix_of (inr one) = record { rest = one.0 ∷ []; is = one.1 }

adds_extend : {event : Event} {p q : Past} → Adds event p q → Extends p q
adds_extend a =
    record {
      home = a.home;
      net = prefix_of a.net;
      begun = prefix_of a.begun;
      taken = prefix_of a.taken;
      recovered = prefix_of a.recovered;
      sent = prefix_of a.sent;
      got = prefix_of a.got;
      opened = prefix_of a.opened;
      strays = prefix_of a.strays;
    }

pub Extends-same : (p : Past) → Extends p p
Extends-same p =
    record {
      home = refl;
      net = IsPrefix-same p.net;
      begun = IsPrefix-same p.begun;
      taken = IsPrefix-same p.taken;
      recovered = IsPrefix-same p.recovered;
      sent = IsPrefix-same p.sent;
      got = IsPrefix-same p.got;
      opened = IsPrefix-same p.opened;
      strays = IsPrefix-same p.strays;
    }

Extends-on : {p q r : Past} → Extends p q → Extends q r → Extends p r
Extends-on first next =
    record {
      home = next.home ∙ first.home;
      net = IsPrefix-on first.net next.net;
      begun = IsPrefix-on first.begun next.begun;
      taken = IsPrefix-on first.taken next.taken;
      recovered = IsPrefix-on first.recovered next.recovered;
      sent = IsPrefix-on first.sent next.sent;
      got = IsPrefix-on first.got next.got;
      opened = IsPrefix-on first.opened next.opened;
      strays = IsPrefix-on first.strays next.strays;
    }

-- whatever an event does
pub does-extends : {w v : World} {event : Event} → Does w event v → Extends w.past v.past
does-extends d = adds_extend (does_adds d)

pub step-extends : (w : World) (s : WorldStep) → Extends w.past (happens s w).past
step-extends w s = adds_extend (step-adds w s)

-- so any steps
pub run-extends : (steps : List WorldStep) (w : World) → Extends w.past (run_from steps w).past
run-extends [] w = Extends-same w.past
run-extends (s ∷ steps) w = Extends-on (step-extends w s) (run-extends steps (happens s w))

-- the end of a run has all that had happened by any moment of it
pub end-extends : (before after : List WorldStep) (w : World) → Extends (run_from before w).past (run_from (before ++ after) w).past
end-extends [] after w = run-extends after w
end-extends (s ∷ before) after w = end-extends before after (happens s w)

-- and by the step that comes then
pub next-extends : (before after : List WorldStep) (s : WorldStep) (w : World) →
    Extends (happens s (run_from before w)).past (run_from (before ++ s ∷ after) w).past
next-extends [] after s w = run-extends after (happens s w)
next-extends (x ∷ before) after s w = next-extends before after s (happens x w)
