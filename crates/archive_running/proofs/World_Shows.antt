-- A world that has what an archive has, after each step of either.
use Rattle.std.proofs.Common.{◌≡◌, ◌≢◌, ◌⊎◌, ℕ, Bool, true, false, ◌||◌, cond, List, [], ◌∷◌, ◌++◌, length, Option, None, Some, Ok, is_some, refl, ap, sym, ◌∙◌, subst, inl, inr, append-nil}
use Rattle.std.specs.List.{list_any}
use Rattle.std.specs.Map.{lookup, set_value}
use Rattle.std.proofs.lemmas.List.Elements.{All-nil}
use Rattle.std.proofs.lemmas.Map.{keys-set_value}
use Rattle.std.proofs.lemmas.Map.Made.{is_some-lookup}
use Rattle.tftp_packet.specs.declared.endpoint.Endpoint.{Endpoint}
use Rattle.tftp_packet.specs.declared.out.Out.{Out}
use Rattle.archive_table.specs.Table.{Table, Maps, Taken, unkept, is_same, table_datagram}
use Rattle.archive_table.specs.Keeper.{Keeping}
use Rattle.archive_table.specs.Table as table
use Rattle.archive_client.specs.declared.state.State.TheVariants as state
use Rattle.archive_client.specs.Client.{Operation, Client, request_out, client_start, state_of, phase_file, file_or, file_or_client}
use Rattle.archive_client.specs.Client as client
use Rattle.archive_server.specs.Turn.{step_calls}
use Rattle.archive_wire.specs.Wire.{Replies}
use Rattle.archive_model.specs.World.{Datagram, Begun, Opening, Got, World, has_begun, datagram_of, net_with, taken_with, sent_with, got_with, newly_sent, newly_got, after_client, begins, ends, restarts}
use Rattle.archive_theorem.specs.Traces.{named_in}
use Rattle.archive_model.proofs.Places.{Has, Has-contains, Has-from_contains, Has-prefix, IsPrefix-push, Has-last, Has-push, either}
use Rattle.archive_theorem.proofs.Keyed.{lookup-set}
use Rattle.archive_model.proofs.Endpoints.{exact_endpoint}
use Rattle.archive_theorem.proofs.Server_Moves.{served}
use Rattle.archive_running.specs.Members.{sent_in_calls}
use Rattle.archive_running.specs.Archive.{Archive, Mirrors, after_restart}
use Rattle.archive_running.proofs.Server_Ports.{IsApart}
use Rattle.archive_running.proofs.Client_Ends.{Ends}

-- what is promised, by places, with what it needs: that operations have clients, and that no transfer is at the request
-- port
pub record Shows (a : Archive) (w : World) : Type 0 where
  pub home : w.home ≡ a.home
  pub server : w.server ≡ a.server
  pub clients : w.clients ≡ a.clients
  pub begun : w.begun ≡ a.begun
  pub taken : w.taken ≡ a.taken
  pub net : (d : Datagram) → Has a.net d → Has w.net d
  pub others : (d : Datagram) → Has w.net d → Has a.net d ⊎ Has w.strays d
  pub sent : (e : Endpoint) (c : Client) → lookup (is_same e) a.clients ≡ Some c → state_of c ≡ state.Sent → Has w.sent e
  pub got : (e : Endpoint) (c : Client) (file : List ℕ) → lookup (is_same e) a.clients ≡ Some c → phase_file c.phase ≡ Some file →
      Has w.got (record { client = e; file = file })
  pub known : (e : Endpoint) → has_begun e w.begun ≡ is_some (lookup (is_same e) a.clients)
  pub apart : IsApart a.server

-- a file that is handed out is the client's
given_file : (file : Option (List ℕ)) (c : Client) (f : List ℕ) → file_or file c ≡ Ok f → file ≡ Some f
given_file None c f e = absurd cc
given_file (Some g) c f e = cc

-- a world that has what an archive has mirrors it
pub shows-mirrors : (a : Archive) (w : World) → Shows a w → Mirrors a w
shows-mirrors a w h =
    record {
      home = h.home;
      server = h.server;
      clients = h.clients;
      begun = h.begun;
      taken = h.taken;
      net = λ d among. Has-contains w.net d (h.net d (Has-from_contains a.net d among));
      others = λ d among. either (Has-contains a.net d) (Has-contains w.strays d) (h.others d (Has-from_contains w.net d among));
      sent = λ e c is sent. Has-contains w.sent e (h.sent e c is sent);
      got = λ e c file is given. Has-contains w.got _ (h.got e c file is (given_file (phase_file c.phase) c file given));
    }

-- ---- a stranger's datagram

-- a datagram of the network with one more stray was sent by the archive or is a stranger's
strayed : (a : Archive) (w : World) → Shows a w → (d x : Datagram) → Has w.net x ⊎ (x ≡ d) → Has a.net x ⊎ Has (w.strays ++ d ∷ []) x
strayed a w h d x (inl old) =
    either (λ has. has) (λ has. Has-prefix w.strays (w.strays ++ d ∷ []) x (IsPrefix-push w.strays d) has) (h.others x old)
strayed a w h d x (inr is) = inr (subst (Has (w.strays ++ d ∷ [])) (sym is) (Has-last w.strays d))

-- a stranger's datagram enters the network
pub shows-named : (position : Option ℕ) (d : Datagram) (a : Archive) (w : World) → Shows a w → Shows a (named_in position d w)
shows-named (Some n) d a w h = h
shows-named None d a w h =
    record {
      home = h.home;
      server = h.server;
      clients = h.clients;
      begun = h.begun;
      taken = h.taken;
      net = λ x has. Has-prefix w.net (w.net ++ d ∷ []) x (IsPrefix-push w.net d) (h.net x has);
      others = λ x has. strayed a w h d x (Has-push w.net d x has);
      sent = h.sent;
      got = h.got;
      known = h.known;
      apart = h.apart;
    }

-- ---- what a host sends

-- the datagram that a host sends, if it does
abbrev pub outs : (host : ℕ) → Option Out → List Datagram
outs host None = []
outs host (Some out) = datagram_of host out ∷ []

-- the calls after a step send the datagram of the step and no other
pub sent-calls : (host : ℕ) (closes : Bool) (port : ℕ) (out : Option Out) (replies : Replies) →
    sent_in_calls host (step_calls closes port out replies) ≡ outs host out
sent-calls host true port None replies = refl
sent-calls host true port (Some out) replies = refl
sent-calls host false port None replies = refl
sent-calls host false port (Some out) replies = refl

-- what was in the network stays there when one more is sent
pushed : (old net : List Datagram) (x d : Datagram) → (Has old d → Has net d) → Has old d ⊎ (d ≡ x) → Has (net ++ x ∷ []) d
pushed old net x d more (inl was) = Has-prefix net (net ++ x ∷ []) d (IsPrefix-push net x) (more was)
pushed old net x d more (inr is) = subst (Has (net ++ x ∷ [])) (sym is) (Has-last net x)

-- what the archive sends is in the world's network
pub has_out : (host : ℕ) (out : Option Out) (old net : List Datagram) → ((d : Datagram) → Has old d → Has net d) → (d : Datagram) →
    Has (old ++ outs host out) d → Has (net_with host net out) d
has_out host None old net more d has = more d (subst (λ l. Has l d) (append-nil old) has)
has_out host (Some out) old net more d has =
    pushed old net (datagram_of host out) d (more d) (Has-push old (datagram_of host out) d has)

-- with one more datagram sent, each is the archive's or a stranger's
new_or_other : (old net strays : List Datagram) (x d : Datagram) → ((y : Datagram) → Has net y → Has old y ⊎ Has strays y) →
    Has net d ⊎ (d ≡ x) → Has (old ++ x ∷ []) d ⊎ Has strays d
new_or_other old net strays x d others (inl was) =
    either (λ has. Has-prefix old (old ++ x ∷ []) d (IsPrefix-push old x) has) (λ has. has) (others d was)
new_or_other old net strays x d others (inr is) = inl (subst (Has (old ++ x ∷ [])) (sym is) (Has-last old x))

-- the same where none may be sent
other_out : (host : ℕ) (out : Option Out) (old net strays : List Datagram) → ((d : Datagram) → Has net d → Has old d ⊎ Has strays d) →
    (d : Datagram) → Has (net_with host net out) d → Has (old ++ outs host out) d ⊎ Has strays d
other_out host None old net strays others d has =
    either (λ was. subst (λ l. Has l d) (sym (append-nil old)) was) (λ stray. stray) (others d has)
other_out host (Some out) old net strays others d has =
    new_or_other old net strays (datagram_of host out) d others (Has-push net (datagram_of host out) d has)

-- ---- the server

-- the archive after a step of its server
abbrev pub with_answer : Table → Option Taken → List Datagram → Archive → Archive
with_answer s took sent a =
    record {
      home = a.home;
      server = s;
      clients = a.clients;
      begun = a.begun;
      taken = taken_with took a.taken;
      net = a.net ++ sent;
      kept = a.kept;
    }

-- after a step of the server
pub shows-served : (a : Archive) (w : World) → Shows a w → (x : table.TableAnswer) → IsApart x.server →
    (took : Option Taken) (opened : List Opening) →
    Shows (with_answer x.server took (outs a.home.host x.step.out) a)
    (served (net_with w.home.host w.net x.step.out) x.server (taken_with took w.taken) w.recovered opened w)
shows-served a w h x apart took opened =
    record {
      home = h.home;
      server = refl;
      clients = h.clients;
      begun = h.begun;
      taken = ap (taken_with took) h.taken;
      net = λ d has. has_out w.home.host x.step.out a.net w.net h.net d (subst (λ (e : Endpoint). Has (a.net ++ outs e.host x.step.out) d) (sym h.home) has);
      others = λ d has.
          subst (λ (e : Endpoint). Has (a.net ++ outs e.host x.step.out) d ⊎ Has w.strays d) h.home
          (other_out w.home.host x.step.out a.net w.net w.strays h.others d has);
      sent = h.sent;
      got = h.got;
      known = h.known;
      apart = apart;
    }

-- after a restart
pub shows-restart : (kept : Option (List Keeping)) (a : Archive) (w : World) → Shows a w → Shows (after_restart a.server.maps kept a) (restarts w)
shows-restart kept a w h =
    let emptied : Table → Table = λ s. record { request = s.request; maps = s.maps; live = [] } in
    record {
      home = h.home;
      server = ap emptied h.server;
      clients = h.clients;
      begun = h.begun;
      taken = h.taken;
      net = h.net;
      others = h.others;
      sent = h.sent;
      got = h.got;
      known = h.known;
      apart = All-nil (λ p. p ≢ a.server.request);
    }

-- the archive after its server has ended with this file, and has started again
abbrev pub with_end : Taken → Maps → List Datagram → Archive → Archive
with_end t maps sent a =
    record {
      home = a.home;
      server = record { request = a.server.request; maps = maps; live = [] };
      clients = a.clients;
      begun = a.begun;
      taken = a.taken ++ t ∷ [];
      net = a.net ++ sent;
      kept = a.kept;
    }

-- after that, where this is what it has sent
pub shows-ended : (a : Archive) (w : World) → Shows a w → (t : Taken) (maps : Maps) (d : Datagram) (out : Option Out) →
    (table_datagram unkept maps d.target.port d.source d.bytes w.server).step.out ≡ out →
    Shows (with_end t maps (outs a.home.host out) a) (ends true t maps d w)
shows-ended a w h t maps d out is =
    let sent = (table_datagram unkept maps d.target.port d.source d.bytes w.server).step.out in
    let Sends : Endpoint → Option Out → Datagram → Type 0 = λ e o x. Has (a.net ++ outs e.host o) x in
    record {
      home = h.home;
      server = ap (λ (s : Table). record { request = s.request; maps = maps; live = [] }) h.server;
      clients = h.clients;
      begun = h.begun;
      taken = ap (λ (ts : List Taken). ts ++ t ∷ []) h.taken;
      net = λ x has.
          has_out w.home.host sent a.net w.net h.net x
          (subst (λ (o : Option Out). Sends w.home o x) (sym is) (subst (λ (e : Endpoint). Sends e out x) (sym h.home) has));
      others = λ x has.
          subst (λ (e : Endpoint). Sends e out x ⊎ Has w.strays x) h.home
          (subst (λ (o : Option Out). Sends w.home o x ⊎ Has w.strays x) is
          (other_out w.home.host sent a.net w.net w.strays h.others x has));
      sent = h.sent;
      got = h.got;
      known = h.known;
      apart = All-nil (λ p. p ≢ a.server.request);
    }

-- an archive whose network is in another order, and whose keeper has another list
pub shows-permuted : (a : Archive) (w : World) (net : List Datagram) (kept : Option (List Keeping)) → ((d : Datagram) → Has net d → Has a.net d) →
    ((d : Datagram) → Has a.net d → Has net d) → Shows a w → Shows (record a { net = net; kept = kept }) w
shows-permuted a w net kept into back h =
    record {
      home = h.home;
      server = h.server;
      clients = h.clients;
      begun = h.begun;
      taken = h.taken;
      net = λ d has. h.net d (into d has);
      others = λ d has. either (back d) (λ stray. stray) (h.others d has);
      sent = h.sent;
      got = h.got;
      known = h.known;
      apart = h.apart;
    }

-- ---- a client

-- the archive after a step of a client
abbrev pub with_client : Endpoint → Client → List Datagram → Archive → Archive
with_client e next sent a =
    record {
      home = a.home;
      server = a.server;
      clients = set_value (is_same e) a.clients next;
      begun = a.begun;
      taken = a.taken;
      net = a.net ++ sent;
      kept = a.kept;
    }

sent_now : (newly : Bool) (e : Endpoint) (es : List Endpoint) → newly ≡ true → Has (sent_with newly e es) e
sent_now true e es is = Has-last es e
sent_now false e es is = absurd cc

sent_still : (newly : Bool) (e f : Endpoint) (es : List Endpoint) → Has es f → Has (sent_with newly e es) f
sent_still true e f es has = Has-prefix es (es ++ e ∷ []) f (IsPrefix-push es e) has
sent_still false e f es has = has

got_now : (newly : Bool) (e : Endpoint) (file : Option (List ℕ)) (gs : List Got) (f : List ℕ) → newly ≡ true → file ≡ Some f →
    Has (got_with newly e file gs) (record { client = e; file = f })
got_now true e (Some g) gs f is given =
    let same : g ≡ f = cc in
    subst (λ x. Has (gs ++ record { client = e; file = g } ∷ []) (record { client = e; file = x })) same (Has-last gs _)
got_now true e None gs f is given = absurd cc
got_now false e file gs f is given = absurd cc

got_still : (newly : Bool) (e : Endpoint) (file : Option (List ℕ)) (gs : List Got) (g : Got) → Has gs g → Has (got_with newly e file gs) g
got_still true e (Some f) gs g has = Has-prefix gs _ g (IsPrefix-push gs _) has
got_still true e None gs g has = has
got_still false e file gs g has = has

module _ (a : Archive) (w : World) (h : Shows a w) (e : Endpoint) (c : Client) (is : lookup (is_same e) a.clients ≡ Some c)
    (x : client.ClientAnswer) (ends : Ends c x.client) where
  -- whether it newly counts its file as sent
  abbrev newly_s : Bool
  newly_s = newly_sent (state_of c) (state_of x.client)

  -- whether it has newly fetched a file
  abbrev newly_g : Bool
  newly_g = newly_got (state_of c) (state_of x.client)

  -- if it counts its file as sent, it is listed
  sent_here : (newly_s ≡ true) ⊎ (state_of c ≡ state.Sent) → Has (sent_with newly_s e w.sent) e
  sent_here (inl now) = sent_now newly_s e w.sent now
  sent_here (inr was) = sent_still newly_s e e w.sent (h.sent e c is was)

  -- so is any client that does
  sent_at : (f : Endpoint) (k : Client) → state_of k ≡ state.Sent → ((f ≡ e) × (k ≡ x.client)) ⊎ (lookup (is_same f) a.clients ≡ Some k) →
      Has (sent_with newly_s e w.sent) f
  sent_at f k sent (inl new) =
      subst (Has (sent_with newly_s e w.sent)) (sym new.0) (sent_here (ends.sent (ap state_of (sym new.1) ∙ sent)))
  sent_at f k sent (inr old) = sent_still newly_s e f w.sent (h.sent f k old sent)

  -- if it has fetched a file, that is listed
  got_here : (file : List ℕ) → phase_file x.client.phase ≡ Some file → (newly_g ≡ true) ⊎ (phase_file c.phase ≡ Some file) →
      Has (got_with newly_g e (phase_file x.client.phase) w.got) (record { client = e; file = file })
  got_here file given (inl now) = got_now newly_g e (phase_file x.client.phase) w.got file now given
  got_here file given (inr was) = got_still newly_g e (phase_file x.client.phase) w.got _ (h.got e c file is was)

  -- so is the file of any client that has
  got_at : (f : Endpoint) (k : Client) (file : List ℕ) → phase_file k.phase ≡ Some file →
      ((f ≡ e) × (k ≡ x.client)) ⊎ (lookup (is_same f) a.clients ≡ Some k) →
      Has (got_with newly_g e (phase_file x.client.phase) w.got) (record { client = f; file = file })
  got_at f k file given (inl new) =
      let now : phase_file x.client.phase ≡ Some file = ap (λ (y : Client). phase_file y.phase) (sym new.1) ∙ given in
      subst (λ g. Has (got_with newly_g e (phase_file x.client.phase) w.got) (record { client = g; file = file })) (sym new.0)
      (got_here file now (ends.got file now))
  got_at f k file given (inr old) =
      got_still newly_g e (phase_file x.client.phase) w.got _ (h.got f k file old given)

  -- the endpoints with a client are the same
  known_still : (f : Endpoint) → is_some (lookup (is_same f) a.clients) ≡ is_some (lookup (is_same f) (set_value (is_same e) a.clients x.client))
  known_still f =
      is_some-lookup (is_same f) a.clients
      ∙ ap (list_any (is_same f)) (sym (keys-set_value (is_same e) a.clients x.client))
      ∙ sym (is_some-lookup (is_same f) (set_value (is_same e) a.clients x.client))

  -- after a step of a client
  pub shows-client : Shows (with_client e x.client (outs e.host x.out) a) (after_client e c x w)
  shows-client =
      record {
        home = h.home;
        server = h.server;
        clients = ap (λ (cs : List (Endpoint × Client)). set_value (is_same e) cs x.client) h.clients;
        begun = h.begun;
        taken = h.taken;
        net = has_out e.host x.out a.net w.net h.net;
        others = other_out e.host x.out a.net w.net w.strays h.others;
        sent = λ f k found sent. sent_at f k sent (lookup-set is_same exact_endpoint a.clients e x.client f k found);
        got = λ f k file found given. got_at f k file given (lookup-set is_same exact_endpoint a.clients e x.client f k found);
        known = λ f. h.known f ∙ known_still f;
        apart = h.apart;
      }

-- ---- a begin

-- one more operation has begun
begun_more : (f : Endpoint) (bs : List Begun) (b : Begun) → has_begun f (bs ++ b ∷ []) ≡ (is_same f b.client || has_begun f bs)
begun_more f [] b = by (is_same f b.client)
  where
    by : (here : Bool) → cond here true false ≡ (here || false)
    by true = refl
    by false = refl
begun_more f (x ∷ bs) b = by (is_same f x.client) (is_same f b.client) (begun_more f bs b)
  where
    by : (first last : Bool) → has_begun f (bs ++ b ∷ []) ≡ (last || has_begun f bs) →
        cond first true (has_begun f (bs ++ b ∷ [])) ≡ (last || cond first true (has_begun f bs))
    by true true later = refl
    by true false later = refl
    by false last later = later

found_first : (here : Bool) (c : Client) (old : Option Client) → (here || is_some old) ≡ is_some (cond here (Some c) old)
found_first true c old = refl
found_first false c old = refl

first_or : {P : Type 0} (here : Bool) (c k : Client) (old : Option Client) → cond here (Some c) old ≡ Some k → (c ≡ k → P) → (old ≡ Some k → P) → P
first_or true c k old e new later = new cc
first_or false c k old e new later = later e

module _ (a : Archive) (w : World) (h : Shows a w) (e : Endpoint) (operation : Operation) where
  -- its client
  abbrev pub begun_client : Client
  begun_client = client_start e.port a.home operation

  -- the archive after that
  abbrev pub with_begun : Archive
  with_begun =
      record {
        home = a.home;
        server = a.server;
        clients = (e, begun_client) ∷ a.clients;
        begun = a.begun ++ record { client = e; operation = operation; taken = length a.taken } ∷ [];
        taken = a.taken;
        net = a.net ++ outs e.host (Some (request_out operation begun_client));
        kept = a.kept;
      }

  -- the request of a client of a server there
  abbrev asks : Endpoint → List Datagram
  asks home = outs e.host (Some (request_out operation (client_start e.port home operation)))

  -- after a begin
  pub shows-begin : Shows with_begun (begins e operation w)
  shows-begin =
      let started : Endpoint → List (Endpoint × Client) → List (Endpoint × Client) = λ home cs. (e, client_start e.port home operation) ∷ cs in
      record {
        home = h.home;
        server = h.server;
        clients = ap (λ (cs : List (Endpoint × Client)). started w.home cs) h.clients ∙ ap (λ (home : Endpoint). started home a.clients) h.home;
        begun =
            ap (λ (l : List Begun). l ++ record { client = e; operation = operation; taken = length w.taken } ∷ []) h.begun
            ∙ ap (λ (ts : List Taken). a.begun ++ record { client = e; operation = operation; taken = length ts } ∷ []) h.taken;
        taken = h.taken;
        net = λ d has.
            has_out e.host (Some (request_out operation (client_start e.port w.home operation))) a.net w.net h.net d
            (subst (λ (home : Endpoint). Has (a.net ++ asks home) d) (sym h.home) has);
        others = λ d has.
            subst (λ (home : Endpoint). Has (a.net ++ asks home) d ⊎ Has w.strays d) h.home
            (other_out e.host (Some (request_out operation (client_start e.port w.home operation))) a.net w.net w.strays h.others d has);
        sent = λ f k found sent.
            first_or (is_same f e) begun_client k (lookup (is_same f) a.clients) found
            (λ new. let running : state.Running ≡ state.Sent = ap state_of new ∙ sent in absurd cc)
            (λ old. h.sent f k old sent);
        got = λ f k file found given.
            first_or (is_same f e) begun_client k (lookup (is_same f) a.clients) found
            (λ new. let nothing : None ≡ Some file = ap (λ (y : Client). phase_file y.phase) new ∙ given in absurd cc)
            (λ old. h.got f k file old given);
        known = λ f.
            begun_more f w.begun _ ∙ ap (λ (b : Bool). is_same f e || b) (h.known f) ∙ found_first (is_same f e) begun_client (lookup (is_same f) a.clients);
        apart = h.apart;
      }
