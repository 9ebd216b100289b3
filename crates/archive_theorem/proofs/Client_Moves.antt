-- What must be shown about a step of a client for the invariant to hold in the world after it.
use Rattle.std.proofs.Common.{◌≡◌, ◌⊎◌, ℕ, List, Option, None, Some, IfSome, refl, ap, sym, ◌∙◌, subst, inl, inr, ⊎_elim}
use Rattle.std.specs.Map.{lookup, set_value}
use Rattle.tftp_packet.specs.declared.endpoint.Endpoint.{Endpoint}
use Rattle.tftp_packet.specs.declared.out.Out.{Out}
use Rattle.tftp_packet.specs.Decode.{decode_bytes}
use Rattle.archive_table.specs.Table.{Taken, Transfer, transfer_at, is_same}
use Rattle.archive_client.specs.Client.{Client}
use Rattle.archive_model.specs.World.{Datagram, World, Got, datagram_of, net_with, client_at, Extends, IsPrefix}
use Rattle.archive_theorem.specs.Headline.{IsOwn}
use Rattle.archive_model.proofs.Places.{Has, IsPrefix-same, Has-push, either}
use Rattle.archive_theorem.proofs.Keyed.{NewOrOld, lookup-set, lookup-written}
use Rattle.archive_model.proofs.Endpoints.{endpoint_is, exact_endpoint}
use Rattle.archive_theorem.proofs.Claim_Past.{HasBegun, IsHonest, Binds, IsBound, IsUntaken, IsRunning, IsFaithful, MayBind, IsSent, IsGot}
use Rattle.archive_theorem.proofs.Claim_Lasts.{honest-lasts, live-lasts, faithful-lasts, opening-lasts, is_taken-lasts, sent-lasts, got-lasts}
use Rattle.archive_theorem.proofs.Claim_Invariant.{Holds}
use Rattle.archive_theorem.proofs.Server_Sends.{net-prefix}

-- the world after a step of the client at an endpoint, by what it sends
abbrev pub acted : Endpoint → (next : Client) → Option Out → (sent : List Endpoint) (got : List Got) → World → World
acted e next out sent got w =
    record w {
      clients = set_value (is_same e) w.clients next;
      past = record w.past { net = net_with e.host w.net out; sent = sent; got = got };
    }

-- what is sent is honest, and from the client's port
pub record SendsHonestly (w : World) (e : Endpoint) (o : Out) : Type 0 where
  pub port : o.from_port ≡ e.port
  pub honest : IsHonest w.past (datagram_of e.host o)

-- it binds the client to no other port than the one that it is bound to
abbrev pub BindsTo : World → (was next : Client) → Out → Type 0
BindsTo w was next o =
    Binds (decode_bytes o.dgram) → (port : ℕ) → o.to ≡ record { host = w.home.host; port = port } → MayBind next.phase port
    × ((p : ℕ) → MayBind was.phase p → p ≡ port)

-- what must be shown
pub record Acting (w : World) (e : Endpoint) (was next : Client) (out : Option Out) (sent : List Endpoint) (got : List Got) : Type 0 where
  pub is : client_at e w ≡ Some was
  pub client : IsFaithful w.past e next
  pub sending : IfSome out (SendsHonestly w e)
  pub binding : IfSome out (BindsTo w was next)
  pub still : (p : ℕ) → MayBind was.phase p → MayBind next.phase p
  pub more_sent : IsPrefix w.sent sent
  pub more_got : IsPrefix w.got got
  pub sents : (x : Endpoint) → Has sent x → Has w.sent x ⊎ IsSent w.past x
  pub gots : (g : Got) → Has got g → Has w.got g ⊎ IsGot (acted e next out sent got w).past g

module _ (w : World) (h : Holds w) (e : Endpoint) (was next : Client) (out : Option Out) (sent : List Endpoint) (got : List Got)
    (a : Acting w e was next out sent got) where
  -- the world after it
  abbrev after : World
  after = acted e next out sent got w

  grows : Extends w.past after.past
  grows =
      record {
        home = refl;
        net = net-prefix e.host w.net out;
        begun = IsPrefix-same w.begun;
        taken = IsPrefix-same w.taken;
        recovered = IsPrefix-same w.recovered;
        sent = a.more_sent;
        got = a.more_got;
        opened = IsPrefix-same w.opened;
        strays = IsPrefix-same w.strays;
      }

  -- ---- the network

  -- the endpoint was bound before, or this step binds it
  pub record NewBound (f : Endpoint) (port : ℕ) : Type 0 where
    pub out_of : Out
    pub is_out : out ≡ Some out_of
    pub by : f ≡ e
    pub to : out_of.to ≡ record { host = w.home.host; port = port }
    pub binds : Binds (decode_bytes out_of.dgram)

  -- what is sent is from the endpoint
  from_it : (o : Out) → o.from_port ≡ e.port → record { host = e.host; port = o.from_port } ≡ e
  from_it o same = sym (endpoint_is e e.host o.from_port refl (sym same))

  -- who is bound was bound before, or is so by what is sent
  bound_by : (sends : Option Out) → out ≡ sends → IfSome sends (SendsHonestly w e) → (f : Endpoint) (port : ℕ) (d : Datagram) →
      Has (net_with e.host w.net sends) d → d.source ≡ f → d.target ≡ record { host = w.home.host; port = port } →
      Binds (decode_bytes d.bytes) → IsBound w.past f port ⊎ NewBound f port
  bound_by None is sending f port d has source target binds =
      inl (record { datagram = d; among = has; source = source; target = target; binds = binds })
  bound_by (Some o) is sending f port d has source target binds =
      either
      (λ old. record { datagram = d; among = old; source = source; target = target; binds = binds })
      (λ new.
      record {
        out_of = o;
        is_out = is;
        by = sym source ∙ ap (λ (x : Datagram). x.source) new ∙ from_it o sending.port;
        to = sym (ap (λ (x : Datagram). x.target) new) ∙ target;
        binds = subst (λ (x : Datagram). Binds (decode_bytes x.bytes)) new binds;
      })
      (Has-push w.net (datagram_of e.host o) d has)

  -- the same for the world after the step
  split : (f : Endpoint) (port : ℕ) → IsBound after.past f port → IsBound w.past f port ⊎ NewBound f port
  split f port b = bound_by out refl a.sending f port b.datagram b.among b.source b.target b.binds

  -- a step binds the client only to the port that its next phase is bound to
  binding_of : (f : Endpoint) (port : ℕ) → NewBound f port → MayBind next.phase port × ((p : ℕ) → MayBind was.phase p → p ≡ port)
  binding_of f port b =
      let binding = subst (λ (o : Option Out). IfSome o (BindsTo w was next)) b.is_out a.binding in
      binding b.binds port b.to

  -- each datagram of the network is still honest
  honest_by : (sends : Option Out) → IfSome sends (SendsHonestly w e) → (d : Datagram) → Has (net_with e.host w.net sends) d → IsHonest w.past d
  honest_by None sending d has = h.net d has
  honest_by (Some o) sending d has =
      ⊎_elim (λ old. h.net d old) (λ new. subst (IsHonest w.past) (sym new) sending.honest) (Has-push w.net (datagram_of e.host o) d has)

  -- ---- the clients

  same_some : (x y : Client) → Some x ≡ Some y → x ≡ y
  same_some x y is = cc

  -- the client at the endpoint is the new one
  found_next : (f : Endpoint) (c : Client) → client_at f after ≡ Some c → f ≡ e → c ≡ next
  found_next f c is same =
      let written = lookup-written is_same exact_endpoint w.clients e was next a.is in
      let here : lookup (is_same e) (set_value (is_same e) w.clients next) ≡ Some c =
      ap (λ (x : Endpoint). lookup (is_same x) (set_value (is_same e) w.clients next)) (sym same) ∙ is in
      same_some c next (sym here ∙ written)

  -- each client is as the claims say
  client_in : (f : Endpoint) (c : Client) → NewOrOld is_same exact_endpoint w.clients e next f c → IsFaithful w.past f c
  client_in f c (inl new) =
      subst (IsFaithful w.past f) (sym new.1) (subst (λ (x : Endpoint). IsFaithful w.past x next) (sym new.0) a.client)
  client_in f c (inr old) = h.clients f c old

  -- it was bound before
  old_bound : (f : Endpoint) (c : Client) → NewOrOld is_same exact_endpoint w.clients e next f c → IsOwn w f → (port : ℕ) →
      IsBound w.past f port → MayBind c.phase port
  old_bound f c (inl new) own port b =
      let at_e : IsBound w.past e port = subst (λ (x : Endpoint). IsBound w.past x port) new.0 b in
      subst (λ (x : Client). MayBind x.phase port) (sym new.1) (a.still port (h.bound e was a.is (subst (IsOwn w) new.0 own) port at_e))
  old_bound f c (inr old) own port b = h.bound f c old own port b

  -- each is bound where its endpoint is
  bound_in : (f : Endpoint) (c : Client) → client_at f after ≡ Some c → IsOwn w f → (port : ℕ) → IsBound after.past f port → MayBind c.phase port
  bound_in f c is own port b =
      ⊎_elim
      (old_bound f c (lookup-set is_same exact_endpoint w.clients e next f c is) own port)
      (λ (new : NewBound f port). subst (λ (x : Client). MayBind x.phase port) (sym (found_next f c is new.by)) (binding_of f port new).0)
      (split f port b)

  -- a port to which the client was bound is the one to which it is bound now
  agrees : (f : Endpoint) → IsOwn w f → (p q : ℕ) → IsBound w.past f p → NewBound f q → p ≡ q
  agrees f own p q old new =
      (binding_of f q new).1 p (h.bound e was a.is (subst (IsOwn w) new.by own) p (subst (λ (x : Endpoint). IsBound w.past x p) new.by old))

  -- a step binds to one port only
  one_target : (f : Endpoint) (p q : ℕ) → NewBound f p → NewBound f q → p ≡ q
  one_target f p q b c =
      let same_out : Some b.out_of ≡ Some c.out_of = sym b.is_out ∙ c.is_out in
      let same : b.out_of ≡ c.out_of = cc in
      let to : record { host = w.home.host; port = p } ≡ record { host = w.home.host; port = q } =
      sym b.to ∙ ap (λ (o : Out). o.to) same ∙ c.to in
      ap (λ (x : Endpoint). x.port) to

  -- an endpoint whose ports are its own is bound to one port
  one_port_in : (f : Endpoint) (p q : ℕ) → HasBegun w.past f → IsOwn w f → (IsBound w.past f p ⊎ NewBound f p) → (IsBound w.past f q ⊎ NewBound f q) → p ≡ q
  one_port_in f p q begun own (inl b) (inl c) = h.one_port f p q begun own b c
  one_port_in f p q begun own (inl b) (inr c) = agrees f own p q b c
  one_port_in f p q begun own (inr b) (inl c) = sym (agrees f own q p c b)
  one_port_in f p q begun own (inr b) (inr c) = one_target f p q b c

  -- ---- the server's transfers

  -- no file was taken from a client that is newly bound
  untaken_new : (port : ℕ) (t : Transfer) → transfer_at port w.server ≡ Some t → IsRunning t.end → IsOwn w t.peer → (u : Taken) →
      Has w.taken u → u.peer ≡ t.peer → NewBound t.peer port → ⊥
  untaken_new port t is running own u has same new =
      let from = h.taken u has (λ ours. (h.live port t is).away (ap (λ (x : Endpoint). x.host) (sym same) ∙ ours)) in
      let bound = (from.whose (subst (IsOwn w) (sym same) own)).bound in
      let there : IsBound w.past t.peer from.port = subst (λ (x : Endpoint). IsBound w.past x from.port) same bound in
      let one = agrees t.peer own from.port port there new in
      h.untaken port t is running own u has same (subst (λ (p : ℕ). IsBound w.past t.peer p) one there)

  -- while blocks are missing, no file was taken from the peer
  untaken_in : (port : ℕ) (t : Transfer) → transfer_at port w.server ≡ Some t → IsUntaken after.past port t
  untaken_in port t is running own u has same b =
      ⊎_elim (h.untaken port t is running own u has same) (untaken_new port t is running own u has same) (split t.peer port b)

  -- a step of a client for which all this is shown keeps the invariant
  pub acted-holds : Holds after
  acted-holds =
      record {
        net = λ d has. honest-lasts grows d (honest_by out a.sending d has);
        apart = h.apart;
        live = λ port t is. live-lasts grows port t (h.live port t is);
        untaken = untaken_in;
        clients = λ f c is. faithful-lasts grows f c (client_in f c (lookup-set is_same exact_endpoint w.clients e next f c is));
        bound = bound_in;
        one_port = λ f p q begun own b c.
            one_port_in f p q (record { begun = begun.begun; among = begun.among; client = begun.client }) own (split f p b) (split f q c);
        begun = λ b has. record { away = (h.begun b has).away; counted = (h.begun b has).counted };
        strays = h.strays;
        opened = λ o has. opening-lasts grows o (h.opened o has);
        taken = λ t has other. is_taken-lasts grows t (h.taken t has other);
        once = h.once;
        sent = λ x has. sent-lasts grows x (⊎_elim (h.sent x) (λ now. now) (a.sents x has));
        got = λ g has. ⊎_elim (λ old. got-lasts grows g (h.got g old)) (λ now. now) (a.gots g has);
        best = h.best;
      }
