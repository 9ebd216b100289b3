-- Each claim lasts, whatever else happens.
use Rattle.std.proofs.Common.{ℕ, List, sym, subst, le_trans, ◌≡◌, ◌∙◌, ap, ◌≤◌}
use Rattle.tftp_packet.specs.declared.endpoint.Endpoint.{Endpoint}
use Rattle.tftp_packet.specs.Packet.{Packet, read, write, data_block, ack, error}
use Rattle.tftp_ends.specs.declared.recv_state.RecvState.{RecvState}
use Rattle.tftp_ends.specs.declared.recv_state.RecvState.TheVariants as recv
use Rattle.tftp_ends.specs.Ends.{Receiver}
use Rattle.tws_file.specs.declared.«ruleset».Ruleset.{Ruleset}
use Rattle.tws_best.specs.Best.{IsBestOver}
use Rattle.archive_table.specs.Table.{Taken, End, Transfer}
use Rattle.archive_table.specs.Table as table
use Rattle.archive_client.specs.Client.{Phase, Client}
use Rattle.archive_client.specs.Client as client
use Rattle.archive_model.specs.World.{Datagram, Asked, to_write, to_read, Opening, Got, Past, IsPrefix, Extends}
use Rattle.archive_theorem.specs.Headline.{Owns, files_of}
use Rattle.archive_model.proofs.Places.{either, Has-prefix, length-prefix, take-prefix}
use Rattle.archive_theorem.proofs.Claim_Past.{HasBegun, HasPut, HasGet, IsStranger, HasOpened, HasTaken, IsTextOf, Serves, PutsBlock, ServesBlock, Fetches, AcksPut, ServerAcks, Says, IsHonest, IsBound, HasCome, ReceivesPut, IsLiveEnd, IsLive, IsServed, IsPursuing, IsFaithful, IsAskedBy, IsOpening, IsTakenFrom, IsTaken, IsSent, IsFetched, IsGot}
use Rattle.archive_theorem.proofs.Claim_Owns.{own-before}

-- a collection over the first files is one over the same files when more are taken
pub text-grown : (old new : List Taken) (count : ℕ) (rules : Ruleset) (text : List ℕ) → IsPrefix old new → IsTextOf old count rules text →
    IsTextOf new count rules text
text-grown old new count rules text more t =
    record {
      within = le_trans t.within (length-prefix old new more);
      best = subst (λ (ts : List Taken). IsBestOver rules (files_of ts) text) (sym (take-prefix old new count more t.within)) t.best;
    }

module _ {past later : Past} (more : Extends past later) where
  -- the server's host is the same
  home_host : later.home.host ≡ past.home.host
  home_host = ap (λ (e : Endpoint). e.host) more.home

  -- what holds of an endpoint as long as its ports are its own
  pub own-lasts : {A B : Type 0} (e : Endpoint) → (A → B) → (Owns past e → A) → Owns later e → B
  own-lasts e lasts claim own = lasts (claim (own-before more e own))

  pub begun-lasts : (e : Endpoint) → HasBegun past e → HasBegun later e
  begun-lasts e h = record { begun = h.begun; among = Has-prefix past.begun later.begun h.begun more.begun h.among; client = h.client }

  pub put-lasts : (e : Endpoint) (file : List ℕ) → HasPut past e file → HasPut later e file
  put-lasts e file h = record { count = h.count; among = Has-prefix past.begun later.begun _ more.begun h.among }

  pub get-lasts : (e : Endpoint) (rules : Ruleset) (count : ℕ) → HasGet past e rules count → HasGet later e rules count
  get-lasts e rules count h = record { among = Has-prefix past.begun later.begun _ more.begun h.among }

  pub stranger-lasts : (e : Endpoint) → IsStranger past e → IsStranger later e
  stranger-lasts e h = record { datagram = h.datagram; among = Has-prefix past.strays later.strays h.datagram more.strays h.among; source = h.source }

  pub opened-lasts : (e : Endpoint) (port : ℕ) (asked : Asked) (count : ℕ) → HasOpened past e port asked count → HasOpened later e port asked count
  opened-lasts e port asked count h = record { among = Has-prefix past.opened later.opened _ more.opened h.among }

  pub taken-lasts : (e : Endpoint) (file : List ℕ) → HasTaken past e file → HasTaken later e file
  taken-lasts e file h = record { among = Has-prefix past.taken later.taken _ more.taken h.among }

  pub serves-lasts : (e : Endpoint) (port : ℕ) (rules : Ruleset) (text : List ℕ) → Serves past e port rules text → Serves later e port rules text
  serves-lasts e port rules text h =
      record {
        count = h.count;
        opened = opened-lasts e port (to_read rules) h.count h.opened;
        is_text = text-grown past.taken later.taken h.count rules text more.taken h.is_text;
      }

  -- ---- a datagram

  puts_lasts : (source : Endpoint) (n : ℕ) (body : List ℕ) → PutsBlock past source n body → PutsBlock later source n body
  puts_lasts source n body h = record { file = h.file; began = put-lasts source h.file h.began; is_block = h.is_block }

  serves_block_lasts : (source target : Endpoint) (n : ℕ) (body : List ℕ) → ServesBlock past source target n body → ServesBlock later source target n body
  serves_block_lasts source target n body h =
      record {
        ours = h.ours ∙ sym home_host;
        rules = h.rules;
        file = h.file;
        serves = serves-lasts target source.port h.rules h.file h.serves;
        is_block = h.is_block;
      }

  fetches_lasts : (source : Endpoint) → Fetches past source → Fetches later source
  fetches_lasts source h = record { rules = h.rules; count = h.count; began = get-lasts source h.rules h.count h.began }

  acks_lasts : (target : Endpoint) (n : ℕ) → AcksPut past target n → AcksPut later target n
  acks_lasts target n h =
      record {
        file = h.file;
        began = put-lasts target h.file h.began;
        is_taken = λ last. taken-lasts target h.file (h.is_taken last);
      }

  server_acks_lasts : (source target : Endpoint) (n : ℕ) → ServerAcks past source target n → ServerAcks later source target n
  server_acks_lasts source target n h =
      record { ours = h.ours ∙ sym home_host; whom = own-lasts target (acks_lasts target n) h.whom }

  pub says-lasts : (source target : Endpoint) (p : Packet) → Says past source target p → Says later source target p
  says-lasts source target (read name mode) h =
      record { rules = h.rules; named = h.named; count = h.count; began = get-lasts source h.rules h.count h.began }
  says-lasts source target (write name mode) h = record { file = h.file; began = put-lasts source h.file h.began }
  says-lasts source target (data_block n body) h =
      either (puts_lasts source n body) (serves_block_lasts source target n body) h
  says-lasts source target (ack n) h = either (fetches_lasts source) (server_acks_lasts source target n) h
  says-lasts source target (error code text) h = tt

  pub honest-lasts : (d : Datagram) → IsHonest past d → IsHonest later d
  honest-lasts d h =
      record {
        says = either (stranger-lasts d.source) (λ says p is. says-lasts d.source d.target p (says p is)) h.says;
      }

  pub bound-lasts : (e : Endpoint) (port : ℕ) → IsBound past e port → IsBound later e port
  bound-lasts e port h =
      record {
        datagram = h.datagram;
        among = Has-prefix past.net later.net h.datagram more.net h.among;
        source = h.source;
        target = h.target ∙ ap (λ (host : ℕ). record { host = host; port = port }) (sym home_host);
        binds = h.binds;
      }

  -- ---- a transfer

  come_lasts : (e : Endpoint) (file : List ℕ) (r : Receiver) (state : RecvState) → HasCome past e file r state → HasCome later e file r state
  come_lasts e file r recv.Running h = h
  come_lasts e file r recv.Complete h = (taken-lasts e file h.0, h.1)
  come_lasts e file r recv.TimedOut h = h
  come_lasts e file r recv.Over h = h

  pub receives-lasts : (e : Endpoint) (r : Receiver) → ReceivesPut past e r → ReceivesPut later e r
  receives-lasts e r h =
      record { file = h.file; began = put-lasts e h.file h.began; come = come_lasts e h.file r r.state h.come }

  pub end-lasts : (e : Endpoint) (port : ℕ) (end : End) → IsLiveEnd past e port end → IsLiveEnd later e port end
  end-lasts e port (table.sending s) h =
      record { rules = h.rules; serves = serves-lasts e port h.rules s.file h.serves; bounds = h.bounds }
  end-lasts e port (table.receiving r) h =
      record {
        bounds = h.bounds;
        count = h.count;
        opened = opened-lasts e port to_write h.count h.opened;
        whose = own-lasts e (receives-lasts e r) h.whose;
      }

  pub live-lasts : (port : ℕ) (t : Transfer) → IsLive past port t → IsLive later port t
  live-lasts port t h = record { away = λ ours. h.away (ours ∙ home_host); end = end-lasts t.peer port t.end h.end }

  -- ---- a client

  served_lasts : (e : Endpoint) (port : ℕ) (rules : Ruleset) (r : Receiver) → IsServed past e port rules r → IsServed later e port rules r
  served_lasts e port rules r h =
      record { file = h.file; serves = serves-lasts e port rules h.file h.serves; holds = h.holds }

  pub pursuing-lasts : (e : Endpoint) (phase : Phase) → IsPursuing past e phase → IsPursuing later e phase
  pursuing-lasts e (client.asking operation misses) h =
      record { may = h.may; count = h.count; among = Has-prefix past.begun later.begun _ more.begun h.among }
  pursuing-lasts e (client.sending port s) h = record { began = put-lasts e s.file h.began; bounds = h.bounds }
  pursuing-lasts e (client.receiving port r) h =
      record {
        rules = h.rules;
        count = h.count;
        began = get-lasts e h.rules h.count h.began;
        bounds = h.bounds;
        served = own-lasts e (served_lasts e port h.rules r) h.served;
      }
  pursuing-lasts e (client.failed why) h = tt

  pub faithful-lasts : (e : Endpoint) (c : Client) → IsFaithful past e c → IsFaithful later e c
  faithful-lasts e c h = record { port = h.port; server = h.server ∙ sym more.home; phase = pursuing-lasts e c.phase h.phase }

  -- ---- openings, files taken, files sent and fetched

  asked_lasts : (o : Opening) (asked : Asked) → IsAskedBy past o asked → IsAskedBy later o asked
  asked_lasts o to_write h = (h.0, put-lasts o.peer h.0 h.1)
  asked_lasts o (to_read rules) h = (h.0, get-lasts o.peer rules h.0 h.1, h.2)

  pub opening-lasts : (o : Opening) → IsOpening past o → IsOpening later o
  opening-lasts o h =
      record {
        counted = le_trans h.counted (length-prefix past.taken later.taken more.taken);
        whose = either (stranger-lasts o.peer) (asked_lasts o o.asked) h.whose;
      }

  pub taken_from-lasts : (e : Endpoint) (file : List ℕ) (port : ℕ) → IsTakenFrom past e file port → IsTakenFrom later e file port
  taken_from-lasts e file port h = record { began = put-lasts e file h.began; bound = bound-lasts e port h.bound }

  pub is_taken-lasts : (t : Taken) → IsTaken past t → IsTaken later t
  is_taken-lasts t h =
      record {
        port = h.port;
        count = h.count;
        opened = opened-lasts t.peer h.port to_write h.count h.opened;
        whose = own-lasts t.peer (taken_from-lasts t.peer t.file h.port) h.whose;
      }

  pub sent-lasts : (e : Endpoint) → IsSent past e → IsSent later e
  sent-lasts e h =
      record {
        file = h.file;
        began = put-lasts e h.file h.began;
        is_taken = own-lasts e (taken-lasts e h.file) h.is_taken;
      }

  -- what was served is fetched later, where the client is bound by then
  pub fetched-later : (e : Endpoint) (port : ℕ) (rules : Ruleset) (text : List ℕ) (s : Serves past e port rules text) (count : ℕ) → count ≤ s.count →
      IsBound later e port → IsFetched later (record { client = e; file = text }) rules count
  unfolding serves-lasts
  fetched-later e port rules text s count since bound =
      record { port = port; serves = serves-lasts e port rules text s; since = since; bound = bound }

  fetched_lasts : (got : Got) (rules : Ruleset) (count : ℕ) → IsFetched past got rules count → IsFetched later got rules count
  unfolding serves-lasts
  fetched_lasts got rules count h =
      record { port = h.port; serves = serves-lasts got.client h.port rules got.file h.serves; since = h.since; bound = bound-lasts got.client h.port h.bound }

  pub got-lasts : (got : Got) → IsGot past got → IsGot later got
  got-lasts got h =
      record {
        rules = h.rules;
        count = h.count;
        began = get-lasts got.client h.rules h.count h.began;
        whose = own-lasts got.client (fetched_lasts got h.rules h.count) h.whose;
      }
