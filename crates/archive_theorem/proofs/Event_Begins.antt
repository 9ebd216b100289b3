-- An operation begins, and the invariant still holds.
use Rattle.std.proofs.Common.{◌≡◌, ◌≢◌, ◌⊎◌, ℕ, ◌<◌, ◌≤◌, Bool, true, false, cond, List, [], ◌∷◌, ◌++◌, length, Some, Result, Ok, Err, refl, ap, sym, ◌∙◌, subst, inl, inr, ⊎_elim, arith, le_refl}
use Rattle.std.proofs.lemmas.Bool.{ltb-false}
use Rattle.tftp_packet.specs.declared.endpoint.Endpoint.{Endpoint}
use Rattle.tftp_packet.specs.declared.packet_fault.PacketFault.{PacketFault}
use Rattle.tftp_packet.specs.Packet.{Packet, read, write, data_block, ack, error, encode}
use Rattle.tftp_packet.specs.Decode.{decode_bytes}
use Rattle.tftp_ends.specs.declared.limits.TheConstants.{MAX_FILE}
use Rattle.archive_table.specs.Table.{is_same}
use Rattle.archive_client.specs.Client.{Operation, put, get, Client, IsOperation, client_start, operation_request, is_too_long}
use Rattle.archive_model.specs.World.{Datagram, Begun, World, client_at, begins, Extends}
use Rattle.archive_theorem.specs.Headline.{IsOwn}
use Rattle.archive_model.proofs.Doing as doing
use Rattle.archive_model.proofs.Places.{Has, Has-last, Has-push, IsPrefix-push, at-prefix, at-last, before_last, either}
use Rattle.archive_model.proofs.Endpoints.{exact_endpoint}
use Rattle.archive_theorem.proofs.Claim_Past.{HasBegun, IsStranger, PutsBlock, ServesBlock, Fetches, ServerAcks, Says, IsHonest, Binds, IsBound, IsAskingFor, IsFaithful, MayBind}
use Rattle.archive_theorem.proofs.Claim_Lasts.{honest-lasts, live-lasts, faithful-lasts, opening-lasts, is_taken-lasts, sent-lasts, got-lasts}
use Rattle.archive_theorem.proofs.Claim_Owns.{own-before, no_stranger, put_begun, get_begun}
use Rattle.archive_theorem.proofs.Claim_Invariant.{Holds}
use Rattle.archive_theorem.proofs.Server_Sends.{honest_packet}
use Rattle.archive_theorem.proofs.Client_Answers.{request_fields, request_says, request_binds}
use Rattle.archive_model.proofs.Growing.{does-extends}

-- ---- one more datagram

-- the new datagram is the one that binds
pub record BindsBy (d : Datagram) (f : Endpoint) (port : ℕ) : Type 0 where
  pub source : d.source ≡ f
  pub binds : Binds (decode_bytes d.bytes)

-- an endpoint that is bound was bound before, or the new datagram binds it
pub bound_split : (w v : World) (d : Datagram) → v.home ≡ w.home → v.net ≡ w.net ++ d ∷ [] → (f : Endpoint) (port : ℕ) →
    IsBound v.past f port → IsBound w.past f port ⊎ BindsBy d f port
bound_split w v d home net f port b =
    either
    (λ old. record { datagram = b.datagram; among = old; source = b.source; target = b.target ∙ ap (λ (x : Endpoint). record { host = x.host; port = port }) home; binds = b.binds })
    (λ new.
    record {
      source = ap (λ (x : Datagram). x.source) (sym new) ∙ b.source;
      binds = subst (λ (x : Datagram). Binds (decode_bytes x.bytes)) new b.binds;
    })
    (Has-push w.net d b.datagram (subst (λ (ds : List Datagram). Has ds b.datagram) net b.among))

-- ---- a begin

-- the file is not too long
pub may_begin : (operation : Operation) → is_too_long operation ≡ false → IsOperation operation
may_begin (put file) short = ltb-false MAX_FILE (length file) short
may_begin (get rules) short = tt

module _ (w : World) (h : Holds w) (e : Endpoint) (operation : Operation) (away : e.host ≢ w.home.host) (may : IsOperation operation) where
  -- the world after that
  abbrev after : World
  after = begins e operation w

  -- what is recorded of it
  abbrev began : Begun
  began = record { client = e; operation = operation; taken = length w.taken }

  abbrev request : Datagram
  request = record { source = e; target = w.home; bytes = encode (operation_request operation) }

  grows : Extends w.past after.past
  grows = does-extends {w = w} (doing.begun e operation)

  -- the new client asks for what has begun
  asking : IsAskingFor after.past e operation
  asking = record { may = may; count = length w.taken; among = Has-last w.begun began }

  -- the request is honest
  new_honest : IsHonest after.past request
  new_honest =
      honest_packet after e w.home (operation_request operation) (request_fields operation) (request_says after e w.home operation asking)

  -- ports that are an endpoint's own now were its own before
  own_then : (f : Endpoint) → IsOwn after f → IsOwn w f
  own_then f own = own-before grows f own

  -- no operation began there before, if its ports are its own
  not_before : {P : Type 0} → IsOwn after e → HasBegun w.past e → P
  not_before own b =
      let position = b.among.position in
      let still = at-prefix w.begun (w.begun ++ began ∷ []) (IsPrefix-push w.begun began) position b.begun b.among.is in
      let earlier : position < length w.begun = before_last w.begun position b.begun b.among.is in
      let same : position ≡ length w.begun = own.operations position (length w.begun) b.begun began still (at-last w.begun began) b.client refl in
      absurd (omega arith)

  -- nothing from there binds
  unsaid : {P : Type 0} → IsOwn after e → (target : Endpoint) (p : Packet) → Binds (Ok p) → Says w.past e target p → P
  unsaid own target (read name mode) binds says = absurd binds
  unsaid own target (write name mode) binds says = absurd binds
  unsaid own target (data_block n body) binds says =
      ⊎_elim (λ (s : PutsBlock w.past e n body). not_before own (put_begun e s.file s.began))
      (λ (s : ServesBlock w.past e target n body). absurd (away s.ours)) says
  unsaid own target (ack n) binds says =
      ⊎_elim (λ (s : Fetches w.past e). not_before own (get_begun e s.rules s.count s.began)) (λ (s : ServerAcks w.past e target n). absurd (away s.ours)) says
  unsaid own target (error code text) binds says = absurd binds

  -- bytes from there that bind would say what has begun, and nothing has
  unread : {P : Type 0} → IsOwn after e → (d : Datagram) (answer : Result Packet PacketFault) → decode_bytes d.bytes ≡ answer →
      Binds answer → ((p : Packet) → decode_bytes d.bytes ≡ Ok p → Says w.past e d.target p) → P
  unread own d (Ok p) reads binds says = unsaid own d.target p binds (says p reads)
  unread own d (Err fault) reads binds says = absurd binds

  -- a datagram from there is a stranger's, or says what has begun
  honest_there : (d : Datagram) → IsHonest w.past d → d.source ≡ e →
      IsStranger w.past e ⊎ ((p : Packet) → decode_bytes d.bytes ≡ Ok p → Says w.past e d.target p)
  honest_there d honest same =
      subst (λ (x : Endpoint). IsStranger w.past x ⊎ ((p : Packet) → decode_bytes d.bytes ≡ Ok p → Says w.past x d.target p)) same honest.says

  -- so the endpoint was not bound
  unbound : {P : Type 0} → IsOwn after e → (port : ℕ) → IsBound w.past e port → P
  unbound own port b =
      ⊎_elim
      (no_stranger w.past e (own_then e own))
      (λ says. unread own b.datagram (decode_bytes b.datagram.bytes) refl b.binds says)
      (honest_there b.datagram (h.net b.datagram b.among) b.source)

  -- the request binds nobody
  before : (f : Endpoint) (port : ℕ) → IsBound after.past f port → IsBound w.past f port
  before f port b = ⊎_elim (λ old. old) (λ (new : BindsBy request f port). absurd (request_binds operation new.binds))
      (bound_split w after request refl refl f port b)

  -- ---- the clients

  -- the client is the new one, or one of those before
  abbrev NewOr : Endpoint → Client → Type 0
  NewOr f c = ((f ≡ e) × (c ≡ client_start e.port w.home operation)) ⊎ (client_at f w ≡ Some c)

  found_in : (f : Endpoint) (c : Client) (here : Bool) → is_same f e ≡ here →
      cond here (Some (client_start e.port w.home operation)) (client_at f w) ≡ Some c → NewOr f c
  found_in f c true is found = inl (exact_endpoint f e is, cc)
  found_in f c false is found = inr found

  found : (f : Endpoint) (c : Client) → client_at f after ≡ Some c → NewOr f c
  found f c is = found_in f c (is_same f e) refl is

  -- each client is as the claims say
  faithful : (f : Endpoint) (c : Client) → NewOr f c → IsFaithful after.past f c
  faithful f c (inl new) =
      let here : IsFaithful after.past e (client_start e.port w.home operation) = record { port = refl; server = refl; phase = asking } in
      subst (IsFaithful after.past f) (sym new.1) (subst (λ (x : Endpoint). IsFaithful after.past x (client_start e.port w.home operation)) (sym new.0) here)
  faithful f c (inr old) = faithful-lasts grows f c (h.clients f c old)

  -- each is bound where its endpoint is
  bound_in : (f : Endpoint) (c : Client) → NewOr f c → IsOwn after f → (port : ℕ) → IsBound w.past f port → MayBind c.phase port
  bound_in f c (inl new) own port b =
      unbound (subst (IsOwn after) new.0 own) port (subst (λ (x : Endpoint). IsBound w.past x port) new.0 b)
  bound_in f c (inr old) own port b = h.bound f c old (own_then f own) port b

  -- an endpoint whose ports are its own is bound to one port
  one_port_in : (f : Endpoint) (p q : ℕ) (b : HasBegun after.past f) → Has w.begun b.begun ⊎ (b.begun ≡ began) → IsOwn after f → IsBound w.past f p →
      IsBound w.past f q → p ≡ q
  one_port_in f p q b (inl old) own at_p at_q =
      h.one_port f p q (record { begun = b.begun; among = old; client = b.client }) (own_then f own) at_p at_q
  one_port_in f p q b (inr new) own at_p at_q =
      let same : f ≡ e = sym b.client ∙ ap (λ (x : Begun). x.client) new in
      unbound (subst (IsOwn after) same own) p (subst (λ (x : Endpoint). IsBound w.past x p) same at_p)

  -- a begin keeps the invariant
  pub begins-holds : Holds after
  begins-holds =
      record {
        net = λ d has. ⊎_elim (λ old. honest-lasts grows d (h.net d old)) (λ new. subst (IsHonest after.past) (sym new) new_honest)
            (Has-push w.net request d has);
        apart = h.apart;
        live = λ port t is. live-lasts grows port t (h.live port t is);
        untaken = λ port t is running own u has same b. h.untaken port t is running (own_then t.peer own) u has same (before t.peer port b);
        clients = λ f c is. faithful f c (found f c is);
        bound = λ f c is own port b. bound_in f c (found f c is) own port (before f port b);
        one_port = λ f p q b own at_p at_q. one_port_in f p q b (Has-push w.begun began b.begun b.among) own (before f p at_p) (before f q at_q);
        begun = λ b has.
            ⊎_elim
            (λ old. record { away = (h.begun b old).away; counted = (h.begun b old).counted })
            (λ (new : b ≡ began). record {
              away = λ ours. away (ap (λ (x : Begun). x.client.host) (sym new) ∙ ours);
              counted =
                  subst (λ (x : Begun). x.taken ≤ length w.taken) (sym new) (le_refl (length w.taken));
            })
            (Has-push w.begun began b has);
        strays = h.strays;
        opened = λ o has. opening-lasts grows o (h.opened o has);
        taken = λ t has other. is_taken-lasts grows t (h.taken t has other);
        once = λ i j t u at_i at_j same other own. h.once i j t u at_i at_j same other (own_then t.peer own);
        sent = λ x has. sent-lasts grows x (h.sent x has);
        got = λ g has. got-lasts grows g (h.got g has);
        best = h.best;
      }
