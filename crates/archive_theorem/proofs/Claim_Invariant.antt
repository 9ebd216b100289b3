-- The invariant of a world, which every event keeps, whoever reuses a port. Where it says that something has not
-- happened, each step must be examined; all else lasts by itself.
use Rattle.std.proofs.Common.{◌≡◌, ◌≢◌, ℕ, zero, suc, ◌≤◌, true, List, [], ◌∷◌, map, length, slice_get, None, Some, Ordering, Less, Equal, Greater, is_eq, nat_cmp, refl, ap, sym, subst}
use Rattle.std.specs.Cmp.{nat_cmp_is}
use Rattle.std.proofs.lemmas.Map.Lookups.{exact_unsigned}
use Rattle.tftp_packet.specs.declared.endpoint.Endpoint.{Endpoint}
use Rattle.archive_table.specs.Table.{Maps, Taken, Transfer, at_port, transfer_at}
use Rattle.archive_client.specs.Client.{Client}
use Rattle.archive_model.specs.World.{Datagram, Begun, Opening, Got, World, Origin, AreOver, given, first_world, client_at, Past}
use Rattle.archive_theorem.specs.Headline.{Owns, IsOwn, files_of}
use Rattle.archive_model.proofs.Places.{Has}
use Rattle.archive_theorem.proofs.Keyed.{IsApart}
use Rattle.archive_theorem.proofs.Claim_Past.{HasBegun, IsHonest, IsBound, IsLive, IsUntaken, IsFaithful, MayBind, IsOpening, IsTaken, IsSent, IsGot}

equal_from : (r : Ordering) → is_eq r ≡ true → r ≡ Equal
equal_from Less e = absurd cc
equal_from Equal e = refl
equal_from Greater e = absurd cc

-- the comparison of ports is exact
pub exact_port : (a b : ℕ) → at_port a b ≡ true → a ≡ b
exact_port a b e = exact_unsigned a b (equal_from (nat_cmp a b) e)

-- a port passes the test with itself
pub same_port : (a : ℕ) → at_port a a ≡ true
same_port a = ap is_eq (sym (nat_cmp_is a a Equal refl))

-- each collection is the best over the files taken
abbrev pub AreBest : List Taken → Maps → Type 0
AreBest taken maps = AreOver (files_of taken) maps

-- two files from one peer on another host, whose ports are its own, are the same
abbrev pub TakesOnce : Past → Type 0
TakesOnce past =
    (i j : ℕ) (t u : Taken) → slice_get past.taken i ≡ Some t → slice_get past.taken j ≡ Some u → t.peer ≡ u.peer → t.peer.host ≢
    past.home.host → Owns past t.peer → i ≡ j

-- an operation that has begun is not on the server's host, and counts no more files than are taken now
pub record IsBegun (past : Past) (b : Begun) : Type 0 where
  pub away : b.client.host ≢ past.home.host
  pub counted : b.taken ≤ length past.taken

-- the invariant
pub record Holds (w : World) : Type 0 where
  pub net : (d : Datagram) → Has w.net d → IsHonest w.past d
  pub apart : IsApart at_port exact_port w.server.live
  pub live : (port : ℕ) (t : Transfer) → transfer_at port w.server ≡ Some t → IsLive w.past port t
  pub untaken : (port : ℕ) (t : Transfer) → transfer_at port w.server ≡ Some t → IsUntaken w.past port t
  pub clients : (e : Endpoint) (c : Client) → client_at e w ≡ Some c → IsFaithful w.past e c
  -- a client has sent a DATA or an ACK to no other port than the one that it is bound to
  pub bound : (e : Endpoint) (c : Client) → client_at e w ≡ Some c → IsOwn w e → (port : ℕ) → IsBound w.past e port → MayBind c.phase port
  -- a client binds to one port
  pub one_port : (e : Endpoint) (p q : ℕ) → HasBegun w.past e → IsOwn w e → IsBound w.past e p → IsBound w.past e q → p ≡ q
  pub begun : (b : Begun) → Has w.begun b → IsBegun w.past b
  pub strays : (d : Datagram) → Has w.strays d → d.source.host ≢ w.home.host
  pub opened : (o : Opening) → Has w.opened o → IsOpening w.past o
  -- what the server had at first is from its own host
  pub taken : (t : Taken) → Has w.taken t → t.peer.host ≢ w.home.host → IsTaken w.past t
  pub once : TakesOnce w.past
  pub sent : (e : Endpoint) → Has w.sent e → IsSent w.past e
  pub got : (g : Got) → Has w.got g → IsGot w.past g
  pub best : AreBest w.taken w.server.maps

pub none_at : {A : Type 0} {P : Type 0} (x : A) → Has [] x → P
none_at x h = let is : None ≡ Some x = h.is in absurd cc

-- ---- the first world

-- a text that the server had at first counts as taken from its own host
pub given-at : (home : Endpoint) (texts : List (List ℕ)) (i : ℕ) (t : Taken) → slice_get (map (given home) texts) i ≡ Some t → t.peer.host ≡ home.host
given-at home [] i t is = absurd cc
given-at home (x ∷ texts) zero t is = let same : given home x ≡ t = cc in ap (λ (u : Taken). u.peer.host) (sym same)
given-at home (x ∷ texts) (suc i) t is = given-at home texts i t is

-- the files of these are the texts
pub given_files : (home : Endpoint) (texts : List (List ℕ)) → files_of (map (given home) texts) ≡ texts
given_files home [] = refl
given_files home (x ∷ texts) = ap (λ (l : List (List ℕ)). x ∷ l) (given_files home texts)

-- so the collections at first are the best over the files taken
pub first-best : (o : Origin) → AreBest (first_world o).taken o.maps
first-best o = subst (λ (l : List (List ℕ)). AreOver l o.maps) (sym (given_files o.home o.texts)) o.over

-- the invariant holds at first
pub first-holds : (o : Origin) → Holds (first_world o)
first-holds o =
    record {
      net = λ d h. none_at d h;
      apart = tt;
      live = λ port t e. absurd cc;
      untaken = λ port t e. absurd cc;
      clients = λ e c is. absurd cc;
      bound = λ e c is. absurd cc;
      one_port = λ e p q h. none_at h.begun h.among;
      begun = λ b h. none_at b h;
      strays = λ d h. none_at d h;
      opened = λ o h. none_at o h;
      taken = λ t h away. absurd (away (given-at o.home o.texts h.position t h.is));
      once = λ i j t u at_i at_j same away. absurd (away (given-at o.home o.texts i t at_i));
      sent = λ e h. none_at e h;
      got = λ g h. none_at g h;
      best = first-best o;
    }
