-- An operation whose datagrams are delivered in turn, from a world whose server has a place for one more transfer: what a put
-- and a get share.
use Rattle.std.proofs.Common.{◌≡◌, ◌≢◌, ℕ, zero, suc, ◌+◌, ◌*◌, Bool, true, false, cond, nat_cmp, nat_lt, List, [], ◌∷◌, ◌++◌, length, slice_get, Option, None, Some, refl, ap, sym, ◌∙◌, subst, arith, length-append}
use Rattle.std.specs.Map.{lookup}
use Rattle.std.proofs.lemmas.Bool.{eq-eqb, ne_eqb}
use Rattle.tftp_packet.specs.declared.endpoint.Endpoint.{Endpoint}
use Rattle.tftp_packet.specs.Packet.{encode}
use Rattle.tftp_ends.specs.Ends.{granted}
use Rattle.archive_table.specs.declared.limits.TheConstants.{LIVE}
use Rattle.archive_table.specs.Table.{Maps, all, Transfer, TableAnswer, at_port, transfer_at, table_datagram, table_request, has_slot}
use Rattle.archive_client.specs.Client.{Operation, Client, operation_request, client_start, client_datagram, is_too_long}
use Rattle.archive_model.specs.World.{Datagram, Event, begin, deliver, WorldStep, World, datagram_of, client_at, after_request, after_transfer, after_client, begins, asked_of, request_comes, server_receives, client_receives, arrives, delivers, event_happens, run_from, HasMerged, AllMerged, IsFree, MayHappen, MayDeliver, AllMayHappen}
use Rattle.archive_model.proofs.Places.{at-last}
use Rattle.archive_model.proofs.Endpoints.{same_endpoint}
use Rattle.archive_theorem.specs.Traces.{steps_with}
use Rattle.archive_theorem.proofs.Headline_Total.{not_more}
use Rattle.archive_theorem.proofs.Trace_Runs.{begins_fits}

-- ---- the network by one datagram longer

pub at-end : (ds : List Datagram) (d : Datagram) (i : ℕ) → length ds ≡ i → slice_get (ds ++ d ∷ []) i ≡ Some d
at-end ds d i size = ap (slice_get (ds ++ d ∷ [])) (sym size) ∙ at-last ds d

pub one-longer : (ds : List Datagram) (d : Datagram) (i : ℕ) → length ds ≡ i → length (ds ++ d ∷ []) ≡ i + 1
one-longer ds d i size = omega (arith, length-append ds (d ∷ []), size)

-- ---- events that lead to a goal

-- a step to which all is granted
abbrev pub step : Maps → Event → WorldStep
step m event = record { event = event; grant = all; maps = m }

-- so many datagrams for each block but the first, and two more
abbrev pub pairs_and_two : (blocks : ℕ) → ℕ
pairs_and_two zero = 2
pairs_and_two (suc blocks) = suc (suc (pairs_and_two blocks))

pub pairs-counted : (blocks : ℕ) → pairs_and_two blocks ≡ 2 * blocks + 2
pairs-counted zero = omega arith
pairs-counted (suc blocks) = let before = pairs-counted blocks in omega (arith, before)

module _ (m : Maps) where
  -- these events, with all granted, lead from a world to one for which the goal holds
  pub record Leads (Goal : World → Type 0) (w : World) (events : List Event) : Type 0 where
    pub may : AllMayHappen (steps_with all m events) w
    pub merged : AllMerged (steps_with all m events) w
    pub reached : Goal (run_from (steps_with all m events) w)

  pub leads-none : {Goal : World → Type 0} (w : World) → Goal w → Leads Goal w []
  leads-none w goal = record { may = tt; merged = tt; reached = goal }

  module _ (event : Event) (w v : World) (is : event_happens event all m w ≡ v) where
    pub none-taken : v.taken ≡ w.taken → HasMerged (step m event) w
    none-taken same t more = not_more w.taken t (sym (ap (λ (x : World). x.taken) is ∙ same) ∙ more)

    -- one event before the others
    pub before : {Goal : World → Type 0} (events : List Event) → MayHappen event w → HasMerged (step m event) w → Leads Goal v events →
        Leads Goal w (event ∷ events)
    before {Goal} events may merged d =
        record {
          may = (may, subst (AllMayHappen (steps_with all m events)) (sym is) d.may);
          merged = (merged, subst (AllMerged (steps_with all m events)) (sym is) d.merged);
          reached = subst (λ (x : World). Goal (run_from (steps_with all m events) x)) (sym is) d.reached;
        }

-- ---- one delivery between the client and a port of the server

module _ (m : Maps) (home e : Endpoint) (away : e.host ≢ home.host) (p : ℕ) where
  abbrev pub to_port : (bytes : List ℕ) → Datagram
  to_port bytes = record { source = e; target = record { host = home.host; port = p }; bytes = bytes }

  abbrev pub from_port : (bytes : List ℕ) → Datagram
  from_port bytes = record { source = record { host = home.host; port = p }; target = e; bytes = bytes }

  module _ (w : World) (at : w.home ≡ home) (i : ℕ) (bytes : List ℕ) where
    same_host : home.host ≡ w.home.host
    same_host = ap (λ (x : Endpoint). x.host) (sym at)

    -- what the server sends from there is the last datagram
    pub server-sent : length w.net ≡ i →
        slice_get (w.net ++ datagram_of w.home.host (record { from_port = p; to = e; dgram = bytes }) ∷ []) i ≡ Some (from_port bytes)
    server-sent size =
        at-end w.net (datagram_of w.home.host (record { from_port = p; to = e; dgram = bytes })) i size
        ∙ ap (λ (host : ℕ). Some (record { source = record { host = host; port = p }; target = e; bytes = bytes })) (sym same_host)

    module _ (there : slice_get w.net i ≡ Some (to_port bytes)) (other : p ≢ w.server.request) where
      pub server-comes : event_happens (deliver i p) all m w ≡ after_transfer (table_datagram all m p e bytes w.server) w
      server-comes =
          ap (λ (o : Option Datagram). delivers o p all m w) there
          ∙ ap (λ (b : Bool). arrives b p all m (to_port bytes) w) (eq-eqb home.host w.home.host same_host)
          ∙ ap (λ (b : Bool). server_receives b p all m (to_port bytes) w) (ne_eqb p w.server.request other)

      pub server-may : MayDeliver i p w
      server-may =
          record { datagram = to_port bytes; is = there; spare_is = λ to. absurd (other (ap (λ (x : Endpoint). x.port) to)) }

    module _ (there : slice_get w.net i ≡ Some (from_port bytes)) where
      not_ours : e.host ≢ w.home.host
      not_ours ours = away (ours ∙ sym same_host)

      pub client-comes : (c : Client) → client_at e w ≡ Some c →
          event_happens (deliver i p) all m w ≡ after_client e c (client_datagram granted (record { host = home.host; port = p }) bytes c) w
      client-comes c is =
          ap (λ (o : Option Datagram). delivers o p all m w) there
          ∙ ap (λ (b : Bool). arrives b p all m (from_port bytes) w) (ne_eqb e.host w.home.host not_ours)
          ∙ ap (λ (o : Option Client). client_receives o all (from_port bytes) w) is

      pub client-may : MayDeliver i p w
      client-may =
          record { datagram = from_port bytes; is = there; spare_is = λ to. absurd (not_ours (ap (λ (x : Endpoint). x.host) to)) }

-- ---- the begin, and the request at the server

module _ (m : Maps) (first : World) (e : Endpoint) (away : e.host ≢ first.home.host) (operation : Operation) (short : is_too_long operation ≡ false) where
  abbrev pub asking : Client
  asking = client_start e.port first.home operation

  abbrev pub begun : World
  begun = begins e operation first

  abbrev pub asks : Datagram
  asks = record { source = e; target = first.home; bytes = encode (operation_request operation) }

  starts : event_happens (begin e operation) all m first ≡ begun
  starts = begins_fits first e operation away short

  pub begun-size : length begun.net ≡ length first.net + 1
  begun-size = one-longer first.net asks (length first.net) refl

  pub asking-at : client_at e begun ≡ Some asking
  asking-at = ap (λ (b : Bool). cond b (Some asking) (client_at e first)) (same_endpoint e)

  pub from-begun : {Goal : World → Type 0} (events : List Event) → Leads m Goal begun events → Leads m Goal first (begin e operation ∷ events)
  from-begun events d = before m (begin e operation) first begun starts events (away, short) (none-taken m (begin e operation) first begun starts refl) d

  module _ (p : ℕ) (free : IsFree p first) (port : first.server.request ≡ first.home.port) where
    asks_there : slice_get begun.net (length first.net) ≡ Some asks
    asks_there = at-end first.net asks (length first.net) refl

    pub request-comes : (a : TableAnswer) → table_request granted p e asks.bytes first.server ≡ a →
        event_happens (deliver (length first.net) p) all m begun ≡ after_request e p (asked_of asks.bytes) a begun
    request-comes a answered =
        ap (λ (o : Option Datagram). delivers o p all m begun) asks_there
        ∙ ap (λ (b : Bool). arrives b p all m asks begun) (eq-eqb first.home.host first.home.host refl)
        ∙ ap (λ (b : Bool). server_receives b p all m asks begun) (eq-eqb first.home.port first.server.request (sym port))
        ∙ ap (λ (b : Bool). request_comes b (transfer_at p first.server) p all asks begun) (ne_eqb p first.server.request free.other)
        ∙ ap (λ (o : Option Transfer). request_comes false o p all asks begun) free.free
        ∙ ap (λ (x : TableAnswer). after_request e p (asked_of asks.bytes) x begun) answered

    pub request-may : MayDeliver (length first.net) p begun
    request-may = record { datagram = asks; is = asks_there; spare_is = λ to. record { other = free.other; free = free.free } }

-- a server without transfers has a place, and its ports are free
pub idle-slot : (w : World) → w.server.live ≡ [] → has_slot w.server ≡ true
idle-slot w idle = ap (λ (l : List (ℕ × Transfer)). nat_lt (length l) LIVE) idle
