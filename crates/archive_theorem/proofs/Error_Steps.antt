-- What each event changes of the server's transfers, of the files taken, and which ERRORs it sends.
use Rattle.std.proofs.Common.{◌≡◌, ◌≢◌, ◌⊎◌, ℕ, Bool, true, false, List, [], ◌∷◌, ◌++◌, length, Option, None, Some, IfSome, Result, Ok, Err, refl, ap, sym, ◌∙◌, subst, inl, inr}
use Rattle.tftp_packet.specs.declared.endpoint.Endpoint.{Endpoint}
use Rattle.tftp_packet.specs.declared.out.Out.{Out}
use Rattle.tftp_packet.specs.declared.packet_fault.PacketFault.{PacketFault}
use Rattle.tftp_packet.specs.Packet.{Packet, read, write, data_block, ack, error}
use Rattle.tftp_packet.specs.Decode.{decode_bytes}
use Rattle.tftp_ends.specs.Input.{input_of_packet}
use Rattle.archive_table.specs.Table.{Table, Maps, Taken, Grant, unkept, memory_verdict, Transfer, TableAnswer, transfer_at, is_same, table_request, data_at, ack_at, transfer_by_input, transfer_input_decoded, datagram_at, table_datagram, table_timeout}
use Rattle.archive_client.specs.Client.{Client, request_out, client_start, client_datagram, client_timeout}
use Rattle.archive_model.specs.World.{Datagram, Opening, World, client_at, datagram_of, net_with, opened_with, taken_with, taken_if, asked_of, after_request, after_transfer, ends, Extends}
use Rattle.archive_model.proofs.Places.{Has, Has-push, Has-last, either}
use Rattle.archive_model.proofs.Sources.{timeout-takes, datagram-takes}
use Rattle.archive_theorem.proofs.Claim_Past.{Binds}
use Rattle.archive_theorem.proofs.Claim_Invariant.{Holds}
use Rattle.archive_theorem.proofs.Server_Moves.{begun_away}
use Rattle.archive_theorem.proofs.Headline_Remains.{ack_leaves}
use Rattle.archive_theorem.proofs.Error_Table.{IsHarmless, IsWith, Closes, AnswersAt, AnswersRequest, datagram-answers, timeout-answers, request-answers}
use Rattle.archive_theorem.proofs.Error_Claims.{IsRefusal, Tells, Opens, TakesFrom, OnlyRecovers, ClosesFor, Changes}
use Rattle.archive_theorem.proofs.Event_Cases.{Cases, nothing, begun, answers, transfers, acts, expires, waits, strayed, restarted, ended}

-- ---- only a DATA completes a file

binds_some : {P : Type 0} (taken : Option Taken) → P → IfSome taken (λ (t : Taken). P)
binds_some None p = tt
binds_some (Some t) p = p

binds_none : (P : Type 0) (taken : Option Taken) → taken ≡ None → IfSome taken (λ (t : Taken). P)
binds_none P None none = tt
binds_none P (Some t) none = absurd cc

module _ (grant : Grant) (maps : Maps) (port : ℕ) (from : Endpoint) (s : Table) where
  packet_binds : (t : Transfer) (same : Bool) (p : Packet) →
      IfSome (transfer_by_input (input_of_packet same p) grant maps port from t s).step.taken (λ (u : Taken). Binds (Ok p))
  packet_binds t true (read name mode) = tt
  packet_binds t true (write name mode) = tt
  packet_binds t true (data_block n body) = binds_some (data_at t.end grant maps port t.peer n body s).step.taken tt
  packet_binds t true (ack n) = binds_none _ (ack_at t.end port t.peer n s).step.taken (ack_leaves t.end port t.peer n s).0
  packet_binds t true (error code text) = tt
  packet_binds t false (read name mode) = tt
  packet_binds t false (write name mode) = tt
  packet_binds t false (data_block n body) = tt
  packet_binds t false (ack n) = tt
  packet_binds t false (error code text) = tt

  decoded_binds : (t : Transfer) (answer : Result Packet PacketFault) →
      IfSome (transfer_by_input (transfer_input_decoded t.peer from answer) grant maps port from t s).step.taken (λ (u : Taken). Binds answer)
  decoded_binds t (Ok p) = packet_binds t (is_same from t.peer) p
  decoded_binds t (Err e) = tt

  at_binds : (t : Option Transfer) (bytes : List ℕ) → IfSome (datagram_at t grant maps port from bytes s).step.taken (λ (u : Taken). Binds (decode_bytes bytes))
  at_binds (Some t) bytes = decoded_binds t (decode_bytes bytes)
  at_binds None bytes = tt

  datagram_binds : (bytes : List ℕ) → IfSome (table_datagram grant maps port from bytes s).step.taken (λ (u : Taken). Binds (decode_bytes bytes))
  datagram_binds bytes = at_binds (transfer_at port s) bytes

-- ---- what is added

pub at_some : {A : Type 0} (P : A → Type 0) (o : Option A) (x : A) → o ≡ Some x → IfSome o P → P x
at_some P None x is p = absurd cc
at_some P (Some y) x is p = let same : y ≡ x = cc in subst P same p

-- a datagram that is new is one that was sent
pub record IsSent (host : ℕ) (out : Option Out) (d : Datagram) : Type 0 where
  pub sent : Out
  pub is : out ≡ Some sent
  pub same : d ≡ datagram_of host sent

pub net_added : (host : ℕ) (net : List Datagram) (out : Option Out) (d : Datagram) → Has (net_with host net out) d → Has net d ⊎ IsSent host out d
net_added host net None d has = inl has
net_added host net (Some o) d has = either (λ old. old) (λ new. record { sent = o; is = refl; same = new }) (Has-push net (datagram_of host o) d has)

taken_added : (ts : List Taken) (taken : Option Taken) (u : Taken) → Has (taken_with taken ts) u → Has ts u ⊎ (taken ≡ Some u)
taken_added ts None u has = inl has
taken_added ts (Some t) u has = either (λ old. old) (λ new. ap Some (sym new)) (Has-push ts t u has)

found_added : (found : Bool) (t : Taken) (ts rs : List Taken) (u : Taken) → Has (taken_if found t ts) u → Has ts u ⊎ Has (taken_if found t rs) u
found_added true t ts rs u has =
    either (λ old. old) (λ (new : u ≡ t). subst (Has (rs ++ t ∷ [])) (sym new) (Has-last rs t)) (Has-push ts t u has)
found_added false t ts rs u has = inl has

-- what a refusal reads as is no harmless datagram
harmless_refusal : {P : Type 0} (v : World) (host : ℕ) (o : Out) (d : Datagram) → d ≡ datagram_of host o → IsRefusal v d → IsHarmless o.dgram → P
harmless_refusal v host o d same r harmless =
    absurd (r.known (harmless r.code r.text (ap (λ (x : Datagram). decode_bytes x.bytes) (sym same) ∙ r.reads)))

-- ---- an answer at a port

module _ (w v : World) (port : ℕ) (a : TableAnswer) (answer : AnswersAt port w.server a)
    (gone : transfer_at port a.server ≡ None → (t : Transfer) → transfer_at port v.server ≡ Some t → ⊥) (files : a.step.taken ≡ None → OnlyRecovers w v) where
  sent_errors : (d : Datagram) → IsRefusal v d → IsSent w.home.host a.step.out d → ClosesFor w v d.target d.source.port
  sent_errors d r s =
      elim (at_some (λ (o : Out). IsHarmless o.dgram ⊎ Closes port w.server a o) a.step.out s.sent s.is answer.sends) [
        | inl harmless ↦ harmless_refusal v w.home.host s.sent d s.same r harmless
        | inr closes ↦
            let to : d.target ≡ closes.transfer.peer = ap (λ (x : Datagram). x.target) s.same ∙ closes.to in
            let from : port ≡ d.source.port = sym closes.from ∙ ap (λ (x : Datagram). x.source.port) (sym s.same) in
            subst (ClosesFor w v d.target) from
            (record {
              transfer = closes.transfer;
              is = closes.is;
              peer = sym to;
              untaken = closes.untaken;
              gone = gone closes.gone;
              files = files closes.none;
            })
      ]

  port_errors : (d : Datagram) → IsRefusal v d → Has (net_with w.home.host w.net a.step.out) d →
      Has w.net d ⊎ ((d.source.port ≡ w.server.request) ⊎ ClosesFor w v d.target d.source.port)
  port_errors d r has = either (λ old. old) (λ new. inr (sent_errors d r new)) (net_added w.home.host w.net a.step.out d has)

-- ---- each event

none_some : {P : Type 0} (o : Option Transfer) (t : Transfer) → o ≡ None → o ≡ Some t → P
none_some o t none is = let both : None ≡ Some t = sym none ∙ is in absurd cc

kept_live : (w : World) (port : ℕ) (t : Transfer) → transfer_at port w.server ≡ Some t → IsWith w.server port t.peer
kept_live w port t is = record { transfer = t; is = is; same = refl }

-- one that leaves the server, and sends from another host or not at all
module _ (w v : World) (more : Extends w.past v.past) (server : v.server ≡ w.server) (opened : v.opened ≡ w.opened) (taken : v.taken ≡ w.taken)
    (sends : (d : Datagram) → Has v.net d → Has w.net d ⊎ (d.source.host ≢ w.home.host)) where
  apart-changes : Changes w v
  apart-changes =
      record {
        more = more;
        request = ap (λ (s : Table). s.request) server;
        live = λ port t is. inl (kept_live w port t (ap (transfer_at port) (sym server) ∙ is));
        opened = λ o has. inl (subst (λ (l : List Opening). Has l o) opened has);
        taken = λ u has. inl (subst (λ (l : List Taken). Has l u) taken has);
        errors = λ d has r.
            either (λ old. old) (λ away. absurd (away (r.ours ∙ ap (λ (x : Endpoint). x.host) more.home))) (sends d has);
      }

-- one of the server that opens nothing
module _ (w v : World) (more : Extends w.past v.past) (request : v.server.request ≡ w.server.request) (opened : v.opened ≡ w.opened)
    (live : (port : ℕ) (t : Transfer) → transfer_at port v.server ≡ Some t → IsWith w.server port t.peer)
    (taken : (u : Taken) → Has v.taken u → Has w.taken u ⊎ (Has v.recovered u ⊎ TakesFrom w u))
    (errors : (d : Datagram) → IsRefusal v d → Has v.net d → Has w.net d ⊎ ((d.source.port ≡ w.server.request) ⊎ ClosesFor w v d.target d.source.port)) where
  served-changes : Changes w v
  served-changes =
      record {
        more = more;
        request = request;
        live = λ port t is. inl (live port t is);
        opened = λ o has. inl (subst (λ (l : List Opening). Has l o) opened has);
        taken = taken;
        errors = λ d has r. errors d r has;
      }

-- a client's host is not the server's
client_sends : (w : World) (e : Endpoint) (out : Option Out) → e.host ≢ w.home.host → (d : Datagram) → Has (net_with e.host w.net out) d →
    Has w.net d ⊎ (d.source.host ≢ w.home.host)
client_sends w e out away d has =
    either (λ old. old) (λ (new : IsSent e.host out d). λ ours. away (ap (λ (x : Datagram). x.source.host) (sym new.same) ∙ ours))
    (net_added e.host w.net out d has)

-- ---- a request

module _ (w : World) (spare : ℕ) (grant : Grant) (d : Datagram) (other : spare ≢ w.server.request) where
  abbrev asked : TableAnswer
  asked = table_request (memory_verdict grant) spare d.source d.bytes w.server

  abbrev after_asked : World
  after_asked = after_request d.source spare (asked_of d.bytes) asked w

  answered : AnswersRequest spare d.source w.server asked
  answered = request-answers spare d.source w.server (memory_verdict grant) d.bytes

  asked_live : (port : ℕ) (t : Transfer) → transfer_at port after_asked.server ≡ Some t → IsWith w.server port t.peer ⊎ Opens w after_asked port t.peer
  asked_live port t is =
      either (λ old. old)
      (λ (new : (port ≡ spare) × (t.peer ≡ d.source) × (asked.step.opened ≡ true)).
      record {
        opening = record { peer = d.source; port = spare; asked = asked_of d.bytes; taken = length w.taken };
        adds = ap (λ (b : Bool). opened_with b (record { peer = d.source; port = spare; asked = asked_of d.bytes; taken = length w.taken }) w.opened) new.2;
        peer_is = sym new.1;
        port_is = sym new.0;
      })
      (answered.stays port t is)

  opened_added : (added : Bool) (o x : Opening) → Has (opened_with added o w.opened) x → o.port ≢ w.server.request →
      Has w.opened x ⊎ (x.port ≢ w.server.request)
  opened_added true o x has apart =
      either (λ old. old) (λ (new : x ≡ o). λ same. apart (ap (λ (y : Opening). y.port) (sym new) ∙ same)) (Has-push w.opened o x has)
  opened_added false o x has apart = inl has

  asked_errors : (x : Datagram) → Has after_asked.net x → IsRefusal after_asked x →
      Has w.net x ⊎ ((x.source.port ≡ w.server.request) ⊎ ClosesFor w after_asked x.target x.source.port)
  asked_errors x has r =
      either (λ old. old)
      (λ (new : IsSent w.home.host asked.step.out x).
      elim (at_some (λ (o : Out). IsHarmless o.dgram ⊎ (o.from_port ≡ w.server.request)) asked.step.out new.sent new.is answered.sends) [
        | inl harmless ↦ harmless_refusal after_asked w.home.host new.sent x new.same r harmless
        | inr from ↦ inl (ap (λ (y : Datagram). y.source.port) new.same ∙ from)
      ])
      (net_added w.home.host w.net asked.step.out x has)

  asked-changes : Extends w.past after_asked.past → after_asked.server.request ≡ w.server.request → Changes w after_asked
  asked-changes more request =
      record {
        more = more;
        request = request;
        live = asked_live;
        opened = λ o has. opened_added asked.step.opened _ o has other;
        taken = λ u has. inl has;
        errors = asked_errors;
      }

-- ---- a datagram at a port

module _ (w : World) (h : Holds w) (grant : Grant) (maps : Maps) (d : Datagram) (among : Has w.net d) (ours : d.target.host ≡ w.home.host) where
  abbrev told : TableAnswer
  told = table_datagram grant maps d.target.port d.source d.bytes w.server

  abbrev after_told : World
  after_told = after_transfer told w

  port_answer : AnswersAt d.target.port w.server told
  port_answer = datagram-answers w.server h.apart grant maps d.target.port d.source d.bytes

  told_takes : (u : Taken) → told.step.taken ≡ Some u → TakesFrom w u
  told_takes u is =
      let source : u.peer ≡ d.source =
      at_some (λ (t : Taken). t.peer ≡ d.source) told.step.taken u is (datagram-takes grant maps d.target.port d.source d.bytes w.server) in
      record {
        port = d.target.port;
        with_peer = at_some (λ (t : Taken). IsWith w.server d.target.port t.peer) told.step.taken u is port_answer.takes;
        bound =
            record {
              datagram = d;
              among = among;
              source = sym source;
              target = ap (λ (host : ℕ). record { host = host; port = d.target.port }) ours;
              binds =
                  at_some (λ (t : Taken). Binds (decode_bytes d.bytes)) told.step.taken u is
                  (datagram_binds grant maps d.target.port d.source w.server d.bytes);
            };
      }

  told_files : told.step.taken ≡ None → OnlyRecovers w after_told
  told_files none u has = inl (subst (λ (t : Option Taken). Has (taken_with t w.taken) u) none has)

  told-changes : Extends w.past after_told.past → after_told.server.request ≡ w.server.request → Changes w after_told
  told-changes more request =
      served-changes w after_told more request refl port_answer.stays
      (λ u has. either (λ old. old) (λ new. inr (told_takes u new)) (taken_added w.taken told.step.taken u has))
      (λ x r has. port_errors w after_told d.target.port told port_answer (λ none t is. none_some _ t none is) told_files x r has)

-- ---- a time-out of a port

module _ (w : World) (h : Holds w) (port : ℕ) where
  abbrev late : TableAnswer
  late = table_timeout port w.server

  abbrev after_late : World
  after_late = after_transfer late w

  late_files : OnlyRecovers w after_late
  late_files u has = inl (subst (λ (t : Option Taken). Has (taken_with t w.taken) u) (timeout-takes port w.server) has)

  late-changes : Extends w.past after_late.past → after_late.server.request ≡ w.server.request → Changes w after_late
  late-changes more request =
      let answer = timeout-answers w.server h.apart port in
      served-changes w after_late more request refl answer.stays
      (λ u has. either (λ old. old) (λ recovered. inl recovered) (late_files u has))
      (λ x r has. port_errors w after_late port late answer (λ none t is. none_some _ t none is) (λ none. late_files) x r has)

-- ---- a keep whose outcome is unknown

module _ (w : World) (h : Holds w) (found : Bool) (maps : Maps) (d : Datagram) (t : Taken) where
  abbrev after_end : World
  after_end = ends found t maps d w

  end_files : OnlyRecovers w after_end
  end_files u has = found_added found t w.taken w.recovered u has

  end-changes : Extends w.past after_end.past → Changes w after_end
  end-changes more =
      let told = table_datagram unkept maps d.target.port d.source d.bytes w.server in
      let answer = datagram-answers w.server h.apart unkept maps d.target.port d.source d.bytes in
      served-changes w after_end more refl refl (λ port u is. none_some None u refl is)
      (λ u has. either (λ old. old) (λ recovered. inl recovered) (end_files u has))
      (λ x r has. port_errors w after_end d.target.port told answer (λ none u is. none_some None u refl is) (λ none. end_files) x r has)

-- ---- whatever the event

module _ (w : World) (h : Holds w) (tells : Tells w) where
  client_away : (e : Endpoint) (c : Client) → client_at e w ≡ Some c → e.host ≢ w.home.host
  client_away e c is = begun_away w h e (tells.begun e c is)

  pub case-changes : (v : World) → Cases w v → Extends w.past v.past → v.server.request ≡ w.server.request → Changes w v
  case-changes v nothing more request = apart-changes w w more refl refl refl (λ d has. inl has)
  case-changes v (begun e operation away) more request =
      apart-changes w v more refl refl refl (client_sends w e (Some (request_out operation (client_start e.port w.home operation))) away)
  case-changes v (answers spare grant d among other free) more request = asked-changes w spare grant d other more request
  case-changes v (transfers grant maps d among ours) more request = told-changes w h grant maps d among ours more request
  case-changes v (acts grant d c among is) more request =
      apart-changes w v more refl refl refl
      (client_sends w d.target (client_datagram (memory_verdict grant) d.source d.bytes c).out (client_away d.target c is))
  case-changes v (expires port) more request = late-changes w h port more request
  case-changes v (waits e c is) more request =
      apart-changes w v more refl refl refl (client_sends w e (client_timeout c).out (client_away e c is))
  case-changes v (strayed d away) more request =
      apart-changes w v more refl refl refl
      (λ x has. either (λ old. old) (λ (new : x ≡ d). λ ours. away (ap (λ (y : Datagram). y.source.host) (sym new) ∙ ours)) (Has-push w.net d x has))
  case-changes v restarted more request =
      served-changes w v more refl refl (λ port t is. none_some None t refl is) (λ u has. inl has) (λ d r has. inl has)
  case-changes v (ended found maps d t among completes) more request = end-changes w h found maps d t more
