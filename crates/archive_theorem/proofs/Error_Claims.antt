-- What each ERROR from the server says to an endpoint whose ports are its own: no transfer of it at that port takes its file. What is
-- claimed, and why it lasts.
use Rattle.std.proofs.Common.{◌≡◌, ◌≢◌, ◌⊎◌, ℕ, ◌<◌, List, [], ◌∷◌, ◌++◌, length, slice_get, None, Some, Ok, refl, ap, sym, ◌∙◌, subst, inl, inr, ⊎_elim, arith}
use Rattle.tftp_packet.specs.declared.endpoint.Endpoint.{Endpoint}
use Rattle.tftp_packet.specs.declared.cause.Cause.TheVariants as cause
use Rattle.tftp_packet.specs.Packet.{error}
use Rattle.tftp_packet.specs.Decode.{decode_bytes}
use Rattle.tftp_ends.specs.declared.recv_state.RecvState.{RecvState}
use Rattle.tftp_ends.specs.declared.recv_state.RecvState.TheVariants as recv
use Rattle.tftp_ends.specs.Ends.{Receiver, IsEnded}
use Rattle.archive_table.specs.Table.{Taken, Transfer, End, sending, receiving, transfer_at}
use Rattle.archive_client.specs.declared.state.State.TheVariants as state
use Rattle.archive_client.specs.Client.{Client, failed, state_of}
use Rattle.archive_model.specs.World.{Datagram, Opening, Got, World, client_at, Extends}
use Rattle.archive_model.proofs.Places.{Has, Has-prefix, at-prefix, at-last, before_last}
use Rattle.archive_theorem.specs.Headline.{IsOwn}
use Rattle.archive_theorem.proofs.Claim_Past.{HasBegun, IsBound, IsTaken, IsTakenFrom, HasCome, IsLiveEnd, IsRunning}
use Rattle.archive_theorem.proofs.Claim_Lasts.{bound-lasts}
use Rattle.archive_theorem.proofs.Claim_Owns.{own-before, put_begun}
use Rattle.archive_theorem.proofs.Claim_Invariant.{Holds}
use Rattle.archive_theorem.proofs.Error_Table.{IsWith, HasUntaken}

-- ---- what is claimed

-- a transfer was opened for the endpoint at the port, and is there no more
pub record WasClosed (w : World) (e : Endpoint) (port : ℕ) : Type 0 where
  pub opening : Opening
  pub among : Has w.opened opening
  pub peer : opening.peer ≡ e
  pub port_is : opening.port ≡ port
  pub gone : (t : Transfer) → transfer_at port w.server ≡ Some t → t.peer ≢ e

-- no transfer with the endpoint is at the port, nor will one be
abbrev pub IsShut : World → Endpoint → (port : ℕ) → Type 0
IsShut w e port = (port ≡ w.server.request) ⊎ WasClosed w e port

-- and no file was taken from there, but one that was recovered
pub record IsRefused (w : World) (e : Endpoint) (port : ℕ) : Type 0 where
  pub shut : IsShut w e port
  pub files : (u : Taken) → Has w.taken u → u.peer ≡ e → IsBound w.past e port → Has w.recovered u

-- an ERROR from the server's host, other than that of an unknown transfer
pub record IsRefusal (w : World) (d : Datagram) : Type 0 where
  pub ours : d.source.host ≡ w.home.host
  pub away : d.target.host ≢ w.home.host
  pub code : ℕ
  pub text : List ℕ
  pub reads : decode_bytes d.bytes ≡ Ok (error code text)
  pub known : code ≢ 5

-- what holds in each world beside the invariant
pub record Tells (w : World) : Type 0 where
  pub ports : (o : Opening) → Has w.opened o → o.port ≢ w.server.request
  pub begun : (e : Endpoint) (c : Client) → client_at e w ≡ Some c → HasBegun w.past e
  pub errors : (d : Datagram) → Has w.net d → IsRefusal w d → IsOwn w d.target → IsRefused w d.target d.source.port
  pub failed_by : (e : Endpoint) (c : Client) (code : ℕ) → client_at e w ≡ Some c → c.phase ≡ failed (cause.Refused code) → code ≢ 5 → IsOwn w e →
      (port : ℕ) → IsBound w.past e port → IsRefused w e port
  pub got : (e : Endpoint) (c : Client) → client_at e w ≡ Some c → IsOwn w e → (g : Got) → Has w.got g → g.client ≡ e → state_of c ≡ state.Got

-- ---- what a step does

-- a transfer with this peer is opened at the port
pub record Opens (w v : World) (port : ℕ) (peer : Endpoint) : Type 0 where
  pub opening : Opening
  pub adds : v.opened ≡ w.opened ++ opening ∷ []
  pub peer_is : opening.peer ≡ peer
  pub port_is : opening.port ≡ port

-- a transfer takes the file of its peer, which has sent to it
pub record TakesFrom (w : World) (u : Taken) : Type 0 where
  pub port : ℕ
  pub with_peer : IsWith w.server port u.peer
  pub bound : IsBound w.past u.peer port

-- every file that is taken now was taken before or is recovered
abbrev pub OnlyRecovers : (w v : World) → Type 0
OnlyRecovers w v = (u : Taken) → Has v.taken u → Has w.taken u ⊎ Has v.recovered u

-- a transfer with this peer that had taken no file ends, and takes none
pub record ClosesFor (w v : World) (e : Endpoint) (port : ℕ) : Type 0 where
  pub transfer : Transfer
  pub is : transfer_at port w.server ≡ Some transfer
  pub peer : transfer.peer ≡ e
  pub untaken : HasUntaken transfer.end
  pub gone : (t : Transfer) → transfer_at port v.server ≡ Some t → ⊥
  pub files : OnlyRecovers w v

pub record Changes (w v : World) : Type 0 where
  pub more : Extends w.past v.past
  pub request : v.server.request ≡ w.server.request
  pub live : (port : ℕ) (t : Transfer) → transfer_at port v.server ≡ Some t → IsWith w.server port t.peer ⊎ Opens w v port t.peer
  pub opened : (o : Opening) → Has v.opened o → Has w.opened o ⊎ (o.port ≢ w.server.request)
  pub taken : (u : Taken) → Has v.taken u → Has w.taken u ⊎ (Has v.recovered u ⊎ TakesFrom w u)
  pub errors : (d : Datagram) → Has v.net d → IsRefusal v d →
      Has w.net d ⊎ ((d.source.port ≡ w.server.request) ⊎ ClosesFor w v d.target d.source.port)

-- ---- the claims last

-- each transfer was opened
record WasOpened (w : World) (e : Endpoint) (port : ℕ) : Type 0 where
  opening : Opening
  among : Has w.opened opening
  peer : opening.peer ≡ e
  port_is : opening.port ≡ port

end_opened : (w : World) (e : Endpoint) (port : ℕ) (end : End) → IsLiveEnd w.past e port end → WasOpened w e port
end_opened w e port (sending s) there =
    record { opening = _; among = there.serves.opened.among; peer = refl; port_is = refl }
end_opened w e port (receiving r) there = record { opening = _; among = there.opened.among; peer = refl; port_is = refl }

module _ (w : World) (h : Holds w) (tells : Tells w) where
  -- a transfer is at no such port
  shut_empty : {P : Type 0} (e : Endpoint) (port : ℕ) → IsShut w e port → IsWith w.server port e → P
  shut_empty e port (inl same) there =
      let o = end_opened w there.transfer.peer port there.transfer.end (h.live port there.transfer there.is).end in
      absurd (tells.ports o.opening o.among (o.port_is ∙ same))
  shut_empty e port (inr closed) there = absurd (closed.gone there.transfer there.is there.same)

module _ (w v : World) (h : Holds w) (k : Holds v) (tells : Tells w) (c : Changes w v) where
  opens_twice : {P : Type 0} (e : Endpoint) (port : ℕ) → IsOwn v e → WasClosed w e port → Opens w v port e → P
  opens_twice e port own closed new =
      let position = closed.among.position in
      let still = at-prefix w.opened v.opened c.more.opened position closed.opening closed.among.is in
      let last = ap (λ (l : List Opening). slice_get l (length w.opened)) new.adds ∙ at-last w.opened new.opening in
      let earlier : position < length w.opened = before_last w.opened position closed.opening closed.among.is in
      let same : position ≡ length w.opened =
      own.openings position (length w.opened) closed.opening new.opening still last closed.peer new.peer_is (closed.port_is ∙ sym new.port_is) in
      absurd (omega arith)

  gone_still : (e : Endpoint) (port : ℕ) → IsOwn v e → WasClosed w e port → (t : Transfer) → t.peer ≡ e →
      IsWith w.server port t.peer ⊎ Opens w v port t.peer → ⊥
  gone_still e port own closed t same (inl old) = closed.gone old.transfer old.is (old.same ∙ same)
  gone_still e port own closed t same (inr new) = opens_twice e port own closed (subst (Opens w v port) same new)

  shut-lasts : (e : Endpoint) (port : ℕ) → IsOwn v e → IsShut w e port → IsShut v e port
  shut-lasts e port own (inl same) = inl (same ∙ sym c.request)
  shut-lasts e port own (inr closed) =
      inr
      (record {
        opening = closed.opening;
        among = Has-prefix w.opened v.opened closed.opening c.more.opened closed.among;
        peer = closed.peer;
        port_is = closed.port_is;
        gone = λ t is same. gone_still e port own closed t same (c.live port t is);
      })

  -- ---- files

  module _ (e : Endpoint) (away : e.host ≢ v.home.host) (own : IsOwn v e) where
    other_host : (u : Taken) → u.peer ≡ e → u.peer.host ≢ v.home.host
    other_host u same ours = away (ap (λ (x : Endpoint). x.host) (sym same) ∙ ours)

    -- a file that was taken from there is of the put there, and from one port
    taken_from : (u : Taken) (there : IsTaken v.past u) → u.peer ≡ e → IsTakenFrom v.past e u.file there.port
    taken_from u there same =
        subst (λ (x : Endpoint). IsTakenFrom v.past x u.file there.port) same (there.whose (subst (IsOwn v) (sym same) own))

    -- the endpoint is bound to one port
    one_port : (u : Taken) → Has v.taken u → u.peer ≡ e → (p q : ℕ) → IsBound v.past e p → IsBound v.past e q → p ≡ q
    one_port u has same p q at_p at_q =
        let there = k.taken u has (other_host u same) in
        k.one_port e p q (put_begun e u.file (taken_from u there same).began) own at_p at_q

    -- from a port that was opened for it
    not_request : {P : Type 0} (u : Taken) (has : Has v.taken u) → u.peer ≡ e → ((o : Opening) → Has v.opened o → o.port ≢ v.server.request) →
        IsBound v.past e v.server.request → P
    not_request u has same ports bound =
        let there = k.taken u has (other_host u same) in
        let at = one_port u has same there.port v.server.request (taken_from u there same).bound bound in
        absurd (ports _ there.opened.among at)

    -- what was taken before was taken from a bound port
    bound_then : (u : Taken) → Has w.taken u → u.peer ≡ e → (port : ℕ) → IsBound v.past e port → IsBound w.past e port
    bound_then u has same port bound =
        let later = Has-prefix w.taken v.taken u c.more.taken has in
        let home : w.home.host ≡ v.home.host = ap (λ (x : Endpoint). x.host) (sym c.more.home) in
        let there = h.taken u has (λ ours. other_host u same (ours ∙ home)) in
        let from = there.whose (own-before c.more u.peer (subst (IsOwn v) (sym same) own)) in
        let old : IsBound w.past e there.port = subst (λ (x : Endpoint). IsBound w.past x there.port) same from.bound in
        subst (IsBound w.past e) (one_port u later same there.port port (bound-lasts c.more e there.port old) bound) old

    module _ (port : ℕ) (refused : IsRefused w e port) where
      file_by : (u : Taken) → Has v.taken u → u.peer ≡ e → IsBound v.past e port → Has w.taken u ⊎ (Has v.recovered u ⊎ TakesFrom w u) → Has v.recovered u
      file_by u has same bound (inl old) =
          Has-prefix w.recovered v.recovered u c.more.recovered (refused.files u old same (bound_then u old same port bound))
      file_by u has same bound (inr (inl recovered)) = recovered
      file_by u has same bound (inr (inr takes)) =
          let there : IsBound v.past e takes.port =
          bound-lasts c.more e takes.port (subst (λ (x : Endpoint). IsBound w.past x takes.port) same takes.bound) in
          let at : takes.port ≡ port = one_port u has same takes.port port there bound in
          let with_peer : IsWith w.server port e =
          subst (λ (p : ℕ). IsWith w.server p e) at (subst (IsWith w.server takes.port) same takes.with_peer) in
          shut_empty w h tells e port refused.shut with_peer

      pub refused-lasts : IsRefused v e port
      refused-lasts =
          record {
            shut = shut-lasts e port own refused.shut;
            files = λ u has same bound. file_by u has same bound (c.taken u has);
          }

    -- a refusal from the request port
    pub request-refuses : (port : ℕ) → ((o : Opening) → Has v.opened o → o.port ≢ v.server.request) → port ≡ v.server.request → IsRefused v e port
    request-refuses port ports same =
        record {
          shut = inl same;
          files = λ u has from bound. not_request u has from ports (subst (IsBound v.past e) same bound);
        }

    -- ---- a transfer that ends by an ERROR

    module _ (port : ℕ) (closes : ClosesFor w v e port) where
      -- it has no file that was taken
      come_untaken : {P : Type 0} (file : List ℕ) (r : Receiver) (state : RecvState) → IsEnded state → HasCome w.past e file r state →
          (text : List ℕ) → r.file ≡ Some text → P
      come_untaken file r recv.Running ended come text is = absurd ended
      come_untaken file r recv.Complete ended come text is = let both : None ≡ Some text = sym come.1 ∙ is in absurd cc
      come_untaken file r recv.TimedOut ended come text is = absurd ended
      come_untaken file r recv.Over ended come text is = absurd come

      end_untaken : {P : Type 0} (t : Transfer) (end : End) → t.end ≡ end → transfer_at port w.server ≡ Some t → t.peer ≡ e → HasUntaken end →
          IsLiveEnd w.past e port end →
          (u : Taken) → Has w.taken u → u.peer ≡ e → IsBound w.past e port → P
      end_untaken t (sending s) at is peer untaken live u has same bound = absurd untaken
      end_untaken t (receiving r) at is peer (inl running) live u has same bound =
          absurd
          (h.untaken port t is (subst (λ (x : End). IsRunning x) (sym at) running)
          (subst (IsOwn w) (sym peer) (own-before c.more e own)) u has (same ∙ sym peer) (subst (λ (x : Endpoint). IsBound w.past x port) (sym peer) bound))
      end_untaken t (receiving r) at is peer (inr held) live u has same bound =
          let put = live.whose (own-before c.more e own) in
          come_untaken put.file r r.state held.0 put.come held.1.0 held.1.1

      closed_file : (u : Taken) → Has v.taken u → u.peer ≡ e → IsBound v.past e port → Has w.taken u ⊎ Has v.recovered u → Has v.recovered u
      closed_file u has same bound (inr recovered) = recovered
      closed_file u has same bound (inl old) =
          let t = closes.transfer in
          let live = subst (λ (x : Endpoint). IsLiveEnd w.past x port t.end) closes.peer (h.live port t closes.is).end in
          end_untaken t t.end refl closes.is closes.peer closes.untaken live u old same (bound_then u old same port bound)

      pub close-refuses : IsRefused v e port
      close-refuses =
          let t = closes.transfer in
          let live = subst (λ (x : Endpoint). IsLiveEnd w.past x port t.end) closes.peer (h.live port t closes.is).end in
          let o = end_opened w e port t.end live in
          record {
            shut = inr
                (record {
                  opening = o.opening;
                  among = Has-prefix w.opened v.opened o.opening c.more.opened o.among;
                  peer = o.peer;
                  port_is = o.port_is;
                  gone = λ u is same. closes.gone u is;
                });
            files = λ u has same bound. closed_file u has same bound (closes.files u has);
          }

  -- ---- the openings and the ERRORs

  pub ports_still : (o : Opening) → Has v.opened o → o.port ≢ v.server.request
  ports_still o has =
      ⊎_elim (λ old. λ same. tells.ports o old (same ∙ c.request)) (λ new. λ same. new (same ∙ c.request)) (c.opened o has)

  refusal_then : (d : Datagram) → IsRefusal v d → IsRefusal w d
  refusal_then d r =
      let home : v.home.host ≡ w.home.host = ap (λ (x : Endpoint). x.host) c.more.home in
      record { ours = r.ours ∙ home; away = λ ours. r.away (ours ∙ sym home); code = r.code; text = r.text; reads = r.reads; known = r.known }

  pub error-tells : (d : Datagram) → Has v.net d → IsRefusal v d → IsOwn v d.target → IsRefused v d.target d.source.port
  error-tells d has r own =
      elim (c.errors d has r) [
        | inl old ↦ refused-lasts d.target r.away own d.source.port (tells.errors d old (refusal_then d r) (own-before c.more d.target own))
        | inr (inl request) ↦ request-refuses d.target r.away own d.source.port ports_still (request ∙ sym c.request)
        | inr (inr closes) ↦ close-refuses d.target r.away own d.source.port closes
      ]
