-- The result of a client's step, if the client is the first of a list at its endpoint.
use Rattle.std.specs.Map.{lookup, set_value}
use Rattle.std.specs.Prelude.{◌≡◌, ℕ, Bool, true, false, List, Option, None, Some, Result, Ok, Err, IfOk}
use Rattle.std.proofs.Common.{refl, sym, ap, subst, slice_set, ◌∙◌}
use Rattle.std.proofs.Math.ListN.{get_or}
use Rattle.tftp_packet.specs.declared.endpoint.Endpoint.{Endpoint}
use Rattle.tftp_packet.specs.declared.out.Out.{Out}
use Rattle.archive_client.specs.declared.state.State.{State}
use Rattle.tftp_ends.specs.Ends.{Verdict, granted, refused}
use Rattle.archive_table.specs.Table.{Grant, all, no_memory, memory_verdict, is_same}
use Rattle.archive_client.specs.Client.{Client, phase_file, state_of, client_datagram, client_timeout}
use Rattle.archive_client.specs.Client as client
use Rattle.archive_model.specs.World.{World, Got, newly_got, newly_sent, got_with, sent_with, net_with, after_client, client_at, client_waits, client_receives, Datagram}
use Rattle.archive_world.specs.Inside.{IsFirst, StepsClient, answered_by, newly_fetched}
use Rattle.archive_world.proofs.Firsts.{first_lookup, first_set}

-- what a client's step returned, in terms of the client after it
pub answers_at : (step : Client → client.ClientAnswer) (e : Endpoint) (xs : List (Endpoint × Client)) (i : ℕ) (entry : Endpoint × Client)
    (here : Endpoint) (before after : Client) (was : State) (sent : Bool) (file : Option (List ℕ)) (out : Option Out) →
    IsFirst (is_same e) i xs → (here, before) ≡ get_or xs i entry → after ≡ (step before).client → was ≡ state_of before →
    sent ≡ newly_sent was (state_of after) → file ≡ newly_fetched (newly_got was (state_of after)) (phase_file after.phase) →
    out ≡ (step before).out → StepsClient step e xs (slice_set xs i (here, after)) sent file out
answers_at step e xs i entry here before after was sent file out first whole after-is was-is sent-is file-is out-is =
    record {
      client = before;
      there = first_lookup (is_same e) xs i entry first ∙ ap (λ (y : Endpoint × Client). Some y.1) (sym whole);
      written = ap (λ (k : Endpoint). slice_set xs i (k, after)) (ap (λ (y : Endpoint × Client). y.0) whole)
          ∙ ap (λ (c : Client). slice_set xs i ((get_or xs i entry).0, c)) after-is
          ∙ sym (first_set (is_same e) xs i entry (step before).client first);
      sent_is = sent-is
          ∙ ap (λ (s : State). newly_sent s (state_of after)) was-is
          ∙ ap (λ (c : Client). newly_sent (state_of before) (state_of c)) after-is;
      file_is = file-is
          ∙ ap (λ (s : State). newly_fetched (newly_got s (state_of after)) (phase_file after.phase)) was-is
          ∙ ap (λ (c : Client). newly_fetched (newly_got (state_of before) (state_of c)) (phase_file c.phase)) after-is;
      out_is = out-is;
    }

-- the same for a datagram, which was delivered unchanged
pub receives_at : (verdict : Verdict) (received d : Datagram) → received ≡ d →
    (xs : List (Endpoint × Client)) (i : ℕ) (entry : Endpoint × Client) (here : Endpoint) (before after : Client) (was : State)
    (sent : Bool) (file : Option (List ℕ)) (out answered : Option Out) →
    IsFirst (is_same d.target) i xs → (here, before) ≡ get_or xs i entry →
    after ≡ (client_datagram verdict received.source received.bytes before).client → was ≡ state_of before →
    sent ≡ newly_sent was (state_of after) → file ≡ newly_fetched (newly_got was (state_of after)) (phase_file after.phase) →
    out ≡ answered → answered ≡ (client_datagram verdict received.source received.bytes before).out →
    (v : Verdict) × StepsClient (client_datagram v d.source d.bytes) d.target xs (slice_set xs i (here, after)) sent file out
receives_at verdict received d is-received xs i entry here before after was sent file out answered first whole after-is was-is sent-is
    file-is out-is answered-is =
    let step : Datagram → client.ClientAnswer = λ x. client_datagram verdict x.source x.bytes before in (
      verdict,
      answers_at (client_datagram verdict d.source d.bytes) d.target xs i entry here before after was sent file out first whole
          (after-is ∙ ap (λ (x : Datagram). (step x).client) is-received)
          was-is sent-is file-is
          (out-is ∙ answered-is ∙ ap (λ (x : Datagram). (step x).out) is-received),
    )

-- joins three facts about a result, if it is `Ok`
pub all_of_ok : {T E : Type 0} (r : Result T E) (P Q R S : T → Type 0) → ((t : T) → P t → Q t → R t → S t) → IfOk r P → IfOk r Q → IfOk r R → IfOk r S
all_of_ok (Ok t) P Q R S merging p q r = merging t p q r
all_of_ok (Err e) P Q R S merging p q r = tt

-- ---- the clients of a machine

-- a file that is newly fetched is listed, whichever way it is returned
fetched_alike : (newly : Bool) (e : Endpoint) (file : Option (List ℕ)) (gs : List Got) →
    got_with true e (newly_fetched newly file) gs ≡ got_with newly e file gs
fetched_alike true e file gs = refl
fetched_alike false e file gs = refl

-- a machine's world after a client's answer
answered_alike : (step : Client → client.ClientAnswer) (e : Endpoint) (w : World) (after : List (Endpoint × Client)) (sent : Bool)
    (file : Option (List ℕ)) (out : Option Out) →
    (is : StepsClient step e w.clients after sent file out) →
    answered_by e after sent file out w ≡ after_client e is.client (step is.client) w
answered_alike step e w after sent file out is =
    let next : Client = (step is.client).client in
    ap (λ (l : List (Endpoint × Client)). answered_by e l sent file out w) is.written
    ∙ ap (λ (b : Bool). answered_by e (set_value (is_same e) w.clients next) b file out w) is.sent_is
    ∙ ap (λ (o : Option Out). answered_by e (set_value (is_same e) w.clients next) (newly_sent (state_of is.client) (state_of next)) file o w) is.out_is
    ∙ ap (λ (f : Option (List ℕ)). answered_by e (set_value (is_same e) w.clients next) (newly_sent (state_of is.client) (state_of next)) f
    (step is.client).out w) is.file_is
    ∙ ap (λ (gs : List Got). record w {
      clients = set_value (is_same e) w.clients next;
      past = record w.past {
        net = net_with e.host w.net (step is.client).out;
        sent = sent_with (newly_sent (state_of is.client) (state_of next)) e w.sent;
        got = gs;
      };
    })
    (fetched_alike (newly_got (state_of is.client) (state_of next)) e (phase_file next.phase) w.got)

-- a client that times out in a machine does so in its world
pub waited : (e : Endpoint) (w seen new : World) → seen ≡ w →
    (before after : List (Endpoint × Client)) (sent : Bool) (file : Option (List ℕ)) (out : Option Out) → before ≡ seen.clients →
    StepsClient client_timeout e before after sent file out → new ≡ answered_by e after sent file out seen →
    new ≡ client_waits (client_at e w) e w
waited e w seen new is-seen before after sent file out same answered new-is =
    let is = subst (λ (l : List (Endpoint × Client)). StepsClient client_timeout e l after sent file out) same answered in
    new-is
    ∙ answered_alike client_timeout e seen after sent file out is
    ∙ ap (λ (o : Option Client). client_waits o e seen) (sym is.there)
    ∙ ap (λ (v : World). client_waits (client_at e v) e v) is-seen

-- an endpoint without a client changes nothing
pub waited_none : (e : Endpoint) (w seen : World) → seen ≡ w → (before : List (Endpoint × Client)) → before ≡ seen.clients →
    lookup (is_same e) before ≡ None → w ≡ client_waits (client_at e w) e w
waited_none e w seen is-seen before same nobody =
    let none = subst (λ (l : List (Endpoint × Client)). lookup (is_same e) l ≡ None) same nobody in
    sym is-seen
    ∙ ap (λ (o : Option Client). client_waits o e seen) (sym none)
    ∙ ap (λ (v : World). client_waits (client_at e v) e v) is-seen

-- what a client was granted, as a grant of a step
abbrev pub grant_with : Verdict → Grant
grant_with granted = all
grant_with refused = no_memory

memory_with : (v : Verdict) → memory_verdict (grant_with v) ≡ v
memory_with granted = refl
memory_with refused = refl

-- a datagram that a machine's client receives is delivered in its world
pub received : (d : Datagram) (e : Endpoint) (w seen new : World) → e ≡ d.target → seen ≡ w →
    (before after : List (Endpoint × Client)) (sent : Bool) (file : Option (List ℕ)) (out : Option Out) → before ≡ seen.clients →
    (verdict : Verdict) × StepsClient (client_datagram verdict d.source d.bytes) d.target before after sent file out →
    new ≡ answered_by e after sent file out seen → (grant : Grant) × (new ≡ client_receives (client_at d.target w) grant d w)
received d e w seen new is-there is-seen before after sent file out same answers new-is =
    let is =
    subst (λ (l : List (Endpoint × Client)). (verdict : Verdict) × StepsClient (client_datagram verdict d.source d.bytes) d.target l after sent file out)
    same answers in (
      grant_with is.0,
      new-is
          ∙ ap (λ (x : Endpoint). answered_by x after sent file out seen) is-there
          ∙ answered_alike (client_datagram is.0 d.source d.bytes) d.target seen after sent file out is.1
          ∙ ap (λ (v : Verdict). after_client d.target is.1.client (client_datagram v d.source d.bytes is.1.client) seen) (sym (memory_with is.0))
          ∙ ap (λ (o : Option Client). client_receives o (grant_with is.0) d seen) (sym is.1.there)
          ∙ ap (λ (v : World). client_receives (client_at d.target v) (grant_with is.0) d v) is-seen,
    )

-- at an endpoint without a client it changes nothing
pub received_none : (d : Datagram) (e : Endpoint) (w seen : World) → e ≡ d.target → seen ≡ w → (before : List (Endpoint × Client)) →
    before ≡ seen.clients → lookup (is_same e) before ≡ None → (grant : Grant) × (w ≡ client_receives (client_at d.target w) grant d w)
received_none d e w seen is-there is-seen before same nobody =
    let none = subst (λ (l : List (Endpoint × Client)). lookup (is_same e) l ≡ None) same nobody in (
      all,
      sym is-seen
          ∙ ap (λ (o : Option Client). client_receives o all d seen) (sym none)
          ∙ ap (λ (x : Endpoint). client_receives (client_at x seen) all d seen) is-there
          ∙ ap (λ (v : World). client_receives (client_at d.target v) all d v) is-seen,
    )
