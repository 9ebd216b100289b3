-- A step of the server that takes a file, after which the invariant holds.
use Rattle.std.proofs.Common.{◌≡◌, ◌≢◌, ◌⊎◌, ℕ, List, [], ◌∷◌, ◌++◌, Option, Some, ap, sym, ◌∙◌, subst, inl, inr, ⊎_elim}
use Rattle.std.specs.Map.{lookup, set_value}
use Rattle.tftp_packet.specs.declared.endpoint.Endpoint.{Endpoint}
use Rattle.tftp_packet.specs.declared.out.Out.{Out}
use Rattle.tftp_ends.specs.declared.recv_state.RecvState.TheVariants as recv
use Rattle.tftp_ends.specs.Ends.{Receiver}
use Rattle.archive_table.specs.Table.{Table, Maps, Taken, Transfer, receiving, at_port, transfer_at}
use Rattle.archive_model.specs.World.{Datagram, World, net_with, to_write, Extends}
use Rattle.archive_theorem.specs.Headline.{IsOwn}
use Rattle.archive_model.proofs.Places.{Has, IsPrefix-same, IsPrefix-push, Has-push, OldOrLast, at-push, either}
use Rattle.archive_theorem.proofs.Keyed.{NewOrOld, lookup-set, lookup-written, apart-set}
use Rattle.archive_theorem.proofs.Claim_Past.{HasOpened, IsBound, IsReceivingAt, IsLive, IsRunning, IsUntaken, IsTaken, IsTakenFrom}
use Rattle.archive_theorem.proofs.Claim_Lasts.{live-lasts, opened-lasts, taken_from-lasts}
use Rattle.archive_theorem.proofs.Claim_Owns.{put_begun}
use Rattle.archive_theorem.proofs.Claim_Invariant.{exact_port, AreBest, Holds}
use Rattle.archive_theorem.proofs.Server_Moves.{served, bound_before, served-holds, served-extends}
use Rattle.archive_theorem.proofs.Server_Sends.{SendsHonest, net-prefix, net_from_server}

-- the transfer with this receiver
abbrev pub with_end : Transfer → Receiver → Transfer
with_end t next = record { peer = t.peer; end = receiving next }

-- the file as it is taken
abbrev pub taken_of : Transfer → (file : List ℕ) → Taken
taken_of t file = record { peer = t.peer; file = file }

-- the server with these collections and this receiver
abbrev pub server_with : Maps → (port : ℕ) → Transfer → Table → Table
server_with maps port t s = record { request = s.request; maps = maps; live = set_value (at_port port) s.live t }

-- the world after it
abbrev pub world_taken : Maps → (port : ℕ) → Transfer → (file : List ℕ) → Receiver → Option Out → World → World
world_taken maps port t file next out w =
    served (net_with w.home.host w.net out) (server_with maps port (with_end t next) w.server) (w.taken ++ taken_of t file ∷ []) w.recovered w.opened w

-- which only adds the file, and what is sent
pub taken-extends : (w : World) (maps : Maps) (port : ℕ) (t : Transfer) (file : List ℕ) (next : Receiver) (out : Option Out) →
    Extends w.past (world_taken maps port t file next out w).past
taken-extends w maps port t file next out =
    served-extends w.past (net-prefix w.home.host w.net out) (IsPrefix-push w.taken (taken_of t file)) (IsPrefix-same w.recovered) (IsPrefix-same w.opened)

-- what must be shown
pub record Taking (w : World) (maps : Maps) (port : ℕ) (t : Transfer) (file : List ℕ) (next : Receiver) (out : Option Out) : Type 0 where
  pub is : transfer_at port w.server ≡ Some t
  pub there : IsReceivingAt (world_taken maps port t file next out w).past t.peer port next
  pub stopped : next.state ≢ recv.Running
  pub honest : SendsHonest (world_taken maps port t file next out w) out
  pub count : ℕ
  pub opened : HasOpened w.past t.peer port to_write count
  pub whose : IsOwn w t.peer → IsTakenFrom w.past t.peer file port
  -- no file was taken from the peer before
  pub fresh : IsOwn w t.peer → (u : Taken) → Has w.taken u → u.peer ≡ t.peer → ⊥
  pub best : AreBest (w.taken ++ taken_of t file ∷ []) maps

module _ (w : World) (h : Holds w) (maps : Maps) (port : ℕ) (t : Transfer) (file : List ℕ) (next : Receiver) (out : Option Out)
    (k : Taking w maps port t file next out) where
  -- the world after it
  abbrev after : World
  after = world_taken maps port t file next out w

  grows : Extends w.past after.past
  grows = taken-extends w maps port t file next out

  -- a new datagram is from the server's host
  from_us : (d : Datagram) → Has (net_with w.home.host w.net out) d → Has w.net d ⊎ (d.source.host ≡ w.home.host)
  from_us d has = either (λ old. old) (λ ours. ours.0) (net_from_server w after grows out k.honest d has)

  -- so no client is newly bound
  before : (e : Endpoint) (q : ℕ) → e.host ≢ w.home.host → IsBound after.past e q → IsBound w.past e q
  before = bound_before w h (net_with w.home.host w.net out) (server_with maps port (with_end t next) w.server)
      (w.taken ++ taken_of t file ∷ []) w.recovered w.opened from_us

  -- ---- the transfers

  -- each transfer is as the claims say
  live_in : (q : ℕ) (u : Transfer) → NewOrOld at_port exact_port w.server.live port (with_end t next) q u → IsLive after.past q u
  live_in q u (inr old) = live-lasts grows q u (h.live q u old)
  live_in q u (inl new) =
      let here : IsLive after.past port (with_end t next) = record { away = (h.live port t k.is).away; end = k.there } in
      subst (λ (x : Transfer). IsLive after.past q x) (sym new.1) (subst (λ (p : ℕ). IsLive after.past p (with_end t next)) (sym new.0) here)

  -- the transfer whose file was taken waits for no blocks
  not_new : {P : Type 0} (u : Transfer) → u ≡ with_end t next → IsRunning u.end → P
  not_new u is running = absurd (k.stopped (subst (λ (x : Transfer). IsRunning x.end) is running))

  same_some : (u x : Transfer) → Some u ≡ Some x → u ≡ x
  same_some u x e = cc

  -- a transfer that is running at the port is the new one
  at_this : {P : Type 0} (q : ℕ) (u : Transfer) → lookup (at_port q) (set_value (at_port port) w.server.live (with_end t next)) ≡ Some u →
      q ≡ port → IsRunning u.end → P
  at_this q u e same running =
      let found = lookup-written at_port exact_port w.server.live port t (with_end t next) k.is in
      let here : lookup (at_port port) (set_value (at_port port) w.server.live (with_end t next)) ≡ Some u =
      ap (λ (p : ℕ). lookup (at_port p) (set_value (at_port port) w.server.live (with_end t next))) (sym same) ∙ e in
      not_new u (same_some u (with_end t next) (sym here ∙ found)) running

  -- the file is from the peer of another running transfer
  new_untaken : (q : ℕ) (u : Transfer) → lookup (at_port q) (set_value (at_port port) w.server.live (with_end t next)) ≡ Some u →
      IsRunning u.end → t.peer ≡ u.peer → IsBound w.past u.peer q → IsOwn w t.peer → ⊥
  new_untaken q u e running same bound own =
      let from = k.whose own in
      let here : IsBound w.past t.peer q = subst (λ (x : Endpoint). IsBound w.past x q) (sym same) bound in
      let one = h.one_port t.peer q port (put_begun t.peer file from.began) own here from.bound in
      at_this q u e one running

  -- from no peer of a transfer that waits for blocks was a file taken
  untaken_in : (q : ℕ) (u : Transfer) → lookup (at_port q) (set_value (at_port port) w.server.live (with_end t next)) ≡ Some u →
      NewOrOld at_port exact_port w.server.live port (with_end t next) q u → IsUntaken after.past q u
  untaken_in q u e (inl new) running own v has same bound = not_new u new.1 running
  untaken_in q u e (inr old) running own v has same bound =
      let was = before u.peer q (h.live q u old).away bound in
      ⊎_elim
      (λ there. h.untaken q u old running own v there same was)
      (λ (is : v ≡ taken_of t file).
      let peers : t.peer ≡ u.peer = sym (ap (λ (x : Taken). x.peer) is) ∙ same in
      new_untaken q u e running peers was (subst (IsOwn w) (sym peers) own))
      (Has-push w.taken (taken_of t file) v has)

  -- ---- the files taken

  -- files are still taken once
  once_in : (i j : ℕ) (a b : Taken) → OldOrLast w.taken (taken_of t file) i a → OldOrLast w.taken (taken_of t file) j b → a.peer ≡ b.peer →
      a.peer.host ≢ w.home.host → IsOwn w a.peer → i ≡ j
  once_in i j a b (inl at_i) (inl at_j) same other own = h.once i j a b at_i at_j same other own
  once_in i j a b (inl at_i) (inr last) same other own =
      let peers : a.peer ≡ t.peer = same ∙ ap (λ (x : Taken). x.peer) last.1 in
      absurd (k.fresh (subst (IsOwn w) peers own) a (record { position = i; is = at_i }) peers)
  once_in i j a b (inr last) (inl at_j) same other own =
      let mine : a.peer ≡ t.peer = ap (λ (x : Taken). x.peer) last.1 in
      absurd (k.fresh (subst (IsOwn w) mine own) b (record { position = j; is = at_j }) (sym same ∙ mine))
  once_in i j a b (inr last) (inr also) same other own = last.0 ∙ sym also.0

  -- the file is taken where its peer is bound
  new_taken : IsTaken after.past (taken_of t file)
  new_taken =
      record {
        port = port;
        count = k.count;
        opened = opened-lasts grows t.peer port to_write k.count k.opened;
        whose = λ own. taken_from-lasts grows t.peer file port (k.whose own);
      }

  -- a step that takes a file keeps the invariant
  pub takes-holds : Holds (world_taken maps port t file next out w)
  takes-holds =
      served-holds w h (net_with w.home.host w.net out) (server_with maps port (with_end t next) w.server)
      (w.taken ++ taken_of t file ∷ []) w.recovered w.opened
      (record {
        more = grows;
        honest = net_from_server w after grows out k.honest;
        apart = apart-set at_port exact_port w.server.live port (with_end t next) h.apart;
        live = λ q u e. live_in q u (lookup-set at_port exact_port w.server.live port (with_end t next) q u e);
        untaken = λ q u e. untaken_in q u e (lookup-set at_port exact_port w.server.live port (with_end t next) q u e);
        openings = λ o has. inl has;
        files = λ u has. either (λ old. old) (λ is. subst (IsTaken after.past) (sym is) new_taken) (Has-push w.taken (taken_of t file) u has);
        once = λ i j a b at_i at_j. once_in i j a b (at-push w.taken (taken_of t file) i a at_i) (at-push w.taken (taken_of t file) j b at_j);
        best = k.best;
      })
