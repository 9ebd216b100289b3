-- Steps of the server that take no file and open no transfer, after which the invariant holds.
use Rattle.std.proofs.Common.{◌≡◌, ◌≢◌, ◌⊎◌, ℕ, List, Option, None, Some, IfSome, Ok, ap, sym, subst, inl, inr}
use Rattle.std.specs.Map.{lookup, set_value, remove_entry}
use Rattle.tftp_packet.specs.declared.endpoint.Endpoint.{Endpoint}
use Rattle.tftp_packet.specs.declared.out.Out.{Out}
use Rattle.tftp_packet.specs.declared.refusal.Refusal.{Refusal}
use Rattle.tftp_packet.specs.Packet.{Packet, encode}
use Rattle.tftp_packet.specs.Refusal.{refusal_packet}
use Rattle.tftp_packet.specs.Decode.{decode_bytes}
use Rattle.tftp_packet.proofs.Sent.{sent_refusal}
use Rattle.tftp_ends.specs.Ends.{dgram_of}
use Rattle.tftp_ends.proofs.Steps.{ReadsBack}
use Rattle.archive_table.specs.Table.{End, Transfer, at_port, with_live, transfer_at, sends_from, refusal_dgram, replies, goes_on, closes}
use Rattle.archive_model.specs.World.{Datagram, World, datagram_of, net_with, after_transfer, Extends, IsPrefix}
use Rattle.archive_model.proofs.Places.{Has, IsPrefix-same, IsPrefix-push, Has-push, either}
use Rattle.archive_theorem.proofs.Keyed.{IsApart, NewOrOld, lookup-set, lookup-remove, apart-set, apart-remove}
use Rattle.archive_theorem.proofs.Claim_Past.{Says, IsHonest, IsLiveEnd, IsLive, IsRunning, IsUntaken}
use Rattle.archive_theorem.proofs.Claim_Lasts.{honest-lasts, live-lasts}
use Rattle.archive_theorem.proofs.Claim_Invariant.{exact_port, Holds}
use Rattle.archive_theorem.proofs.Server_Moves.{served, bound_before, served-holds, served-extends}

-- ---- what is sent is honest

same_packet : (p q : Packet) (bytes : List ℕ) → decode_bytes bytes ≡ Ok p → decode_bytes bytes ≡ Ok q → p ≡ q
same_packet p q bytes is also = cc

-- a packet that reads back and says what is so is honest
pub honest_packet : (w : World) (source target : Endpoint) (p : Packet) → decode_bytes (encode p) ≡ Ok p → Says w.past source target p →
    IsHonest w.past (record { source = source; target = target; bytes = encode p })
honest_packet w source target p back says =
    record { says = inr (λ q is. subst (Says w.past source target) (same_packet p q (encode p) back is) says) }

-- an ERROR is honest
pub honest_refusal : (w : World) (source target : Endpoint) (why : Refusal) →
    IsHonest w.past (record { source = source; target = target; bytes = refusal_dgram why })
honest_refusal w source target why = honest_packet w source target (refusal_packet why) (sent_refusal why) tt

-- what is sent from the server's host is honest
abbrev pub SendsHonest : World → Option Out → Type 0
SendsHonest w out = IfSome out (λ o. IsHonest w.past (datagram_of w.home.host o))

-- the server's endpoint with this port
abbrev pub from_port : World → ℕ → Endpoint
from_port w port = record { host = w.home.host; port = port }

-- what an end sends is honest, if it reads back and says what is so
pub sends_packet : (w : World) (port : ℕ) (peer : Endpoint) (out : Option Packet) → IfSome out ReadsBack →
    IfSome out (Says w.past (from_port w port) peer) → SendsHonest w (sends_from port peer (dgram_of out))
sends_packet w port peer None back says = tt
sends_packet w port peer (Some p) back says = honest_packet w (from_port w port) peer p back.decoded says

-- ---- the network

-- the network with what is sent begins with what it was
pub net-prefix : (host : ℕ) (net : List Datagram) (out : Option Out) → IsPrefix net (net_with host net out)
net-prefix host net None = IsPrefix-same net
net-prefix host net (Some out) = IsPrefix-push net (datagram_of host out)

-- a new datagram of the network is honest, and from the server's host
net_honest : (w v : World) → Extends w.past v.past → (out : Option Out) → SendsHonest w out → (d : Datagram) →
    Has (net_with w.home.host w.net out) d → Has w.net d ⊎ ((d.source.host ≡ w.home.host) × IsHonest v.past d)
net_honest w v g None honest d has = inl has
net_honest w v g (Some out) honest d has =
    either (λ old. old)
    (λ is. (ap (λ (x : Datagram). x.source.host) is, subst (IsHonest v.past) (sym is) (honest-lasts g (datagram_of w.home.host out) honest)))
    (Has-push w.net (datagram_of w.home.host out) d has)

-- a new datagram is from the server's host, and honest by what holds after the step
pub net_from_server : (w v : World) → Extends w.past v.past → (out : Option Out) → SendsHonest v out → (d : Datagram) →
    Has (net_with w.home.host w.net out) d → Has w.net d ⊎ ((d.source.host ≡ w.home.host) × IsHonest v.past d)
net_from_server w v g None honest d has = inl has
net_from_server w v g (Some out) honest d has =
    let here = subst (λ (e : Endpoint). IsHonest v.past (datagram_of e.host out)) g.home honest in
    either (λ old. old) (λ is. (ap (λ (x : Datagram). x.source.host) is, subst (IsHonest v.past) (sym is) here))
    (Has-push w.net (datagram_of w.home.host out) d has)

-- ---- the steps

module _ (w : World) (h : Holds w) where
  -- the world with these transfers, after this was sent
  abbrev pub moved : List (ℕ × Transfer) → Option Out → World
  moved live out = served (net_with w.home.host w.net out) (with_live live w.server) w.taken w.recovered w.opened w

  -- the lists have only grown
  moved_grows : (live : List (ℕ × Transfer)) (out : Option Out) → Extends w.past (moved live out).past
  moved_grows live out =
      served-extends w.past (net-prefix w.home.host w.net out) (IsPrefix-same w.taken) (IsPrefix-same w.recovered) (IsPrefix-same w.opened)

  -- no file is newly taken
  untaken_after : (live : List (ℕ × Transfer)) (out : Option Out) → SendsHonest w out → (port : ℕ) (t : Transfer) →
      t.peer.host ≢ w.home.host → IsUntaken w.past port t → IsUntaken (moved live out).past port t
  untaken_after live out honest port t away untaken running own u among same bound =
      let g = moved_grows live out in
      let from_us : (d : Datagram) → Has (net_with w.home.host w.net out) d → Has w.net d ⊎ (d.source.host ≡ w.home.host) =
      λ d has. either (λ old. old) (λ ours. ours.0) (net_honest w (moved live out) g out honest d has) in
      let before = bound_before w h (net_with w.home.host w.net out) (with_live live w.server) w.taken w.recovered w.opened from_us t.peer port away bound in
      untaken running own u among same before

  -- each of these transfers is as the invariant says
  pub moved-holds : (live : List (ℕ × Transfer)) (out : Option Out) → SendsHonest w out → IsApart at_port exact_port live →
      ((port : ℕ) (t : Transfer) → lookup (at_port port) live ≡ Some t → IsLive w.past port t × IsUntaken w.past port t) → Holds (moved live out)
  moved-holds live out honest apart fits =
      let g = moved_grows live out in
      served-holds w h (net_with w.home.host w.net out) (with_live live w.server) w.taken w.recovered w.opened
      (record {
        more = g;
        honest = net_honest w (moved live out) g out honest;
        apart = apart;
        live = λ port t is. live-lasts g port t (fits port t is).0;
        untaken = λ port t is. untaken_after live out honest port t (fits port t is).0.away (fits port t is).1;
        openings = λ o has. inl has;
        files = λ t has. inl has;
        once = h.once;
        best = h.best;
      })

  -- a datagram that is honest is sent, and nothing else changes: the invariant still holds
  pub replies-holds : (out : Out) → IsHonest w.past (datagram_of w.home.host out) → Holds (after_transfer (replies out w.server) w)
  replies-holds out honest =
      moved-holds w.server.live (Some out) honest h.apart (λ port t is. (h.live port t is, h.untaken port t is))

  -- the new end, or what was there
  goes_on_fits : (port : ℕ) (t : Transfer) (end : End) → transfer_at port w.server ≡ Some t → IsLiveEnd w.past t.peer port end →
      (IsRunning end → IsRunning t.end) → (q : ℕ) (u : Transfer) →
      NewOrOld at_port exact_port w.server.live port (record { peer = t.peer; end = end }) q u → IsLive w.past q u × IsUntaken w.past q u
  goes_on_fits port t end is fits onward q u (inr old) = (h.live q u old, h.untaken q u old)
  goes_on_fits port t end is fits onward q u (inl new) =
      let there = h.live port t is in
      let next : Transfer = record { peer = t.peer; end = end } in
      let live : IsLive w.past port next = record { away = there.away; end = fits } in
      let untaken : IsUntaken w.past port next = λ running. h.untaken port t is (onward running) in
      let pair : IsLive w.past q next × IsUntaken w.past q next =
      subst (λ (p : ℕ). IsLive w.past p next × IsUntaken w.past p next) (sym new.0) (live, untaken) in
      subst (λ (x : Transfer). IsLive w.past q x × IsUntaken w.past q x) (sym new.1) pair

  -- a transfer that goes on keeps the invariant
  pub goes_on-holds : (port : ℕ) (t : Transfer) (end : End) (out : Option (List ℕ)) → transfer_at port w.server ≡ Some t →
      IsLiveEnd w.past t.peer port end → (IsRunning end → IsRunning t.end) → SendsHonest w (sends_from port t.peer out) →
      Holds (after_transfer (goes_on port t.peer end out w.server) w)
  goes_on-holds port t end out is fits onward honest =
      let next : Transfer = record { peer = t.peer; end = end } in
      moved-holds (set_value (at_port port) w.server.live next) (sends_from port t.peer out) honest
      (apart-set at_port exact_port w.server.live port next h.apart)
      (λ q u e. goes_on_fits port t end is fits onward q u (lookup-set at_port exact_port w.server.live port next q u e))

  -- closing a transfer keeps the invariant
  pub closes-holds : (port : ℕ) (peer : Endpoint) (out : Option (List ℕ)) → SendsHonest w (sends_from port peer out) →
      Holds (after_transfer (closes port peer out w.server) w)
  closes-holds port peer out honest =
      moved-holds (remove_entry (at_port port) w.server.live) (sends_from port peer out) honest
      (apart-remove at_port exact_port w.server.live port h.apart)
      (λ q u e.
      let old = lookup-remove at_port exact_port w.server.live port q u h.apart e in
      (h.live q u old, h.untaken q u old))
