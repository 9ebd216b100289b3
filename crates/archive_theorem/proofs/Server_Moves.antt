-- What must be shown about a step of the server for the invariant to hold in the world after it.
use Rattle.std.proofs.Common.{◌≡◌, ◌≢◌, ◌⊎◌, ℕ, List, Some, refl, ap, sym, ◌∙◌, ⊎_elim, le_trans}
use Rattle.tftp_packet.specs.declared.endpoint.Endpoint.{Endpoint}
use Rattle.archive_table.specs.Table.{Table, Taken, Transfer, at_port, transfer_at}
use Rattle.archive_client.specs.Client.{Phase, Client, put, get}
use Rattle.archive_client.specs.Client as client
use Rattle.archive_model.specs.World.{Datagram, Opening, World, Extends, IsPrefix, Past}
use Rattle.archive_model.proofs.Places.{Has, IsPrefix-same, length-prefix, either}
use Rattle.archive_theorem.proofs.Keyed.{IsApart}
use Rattle.archive_theorem.proofs.Claim_Past.{HasBegun, IsHonest, IsBound, IsLive, IsUntaken, IsPursuing, MayBind, IsOpening, IsTaken}
use Rattle.archive_theorem.proofs.Claim_Lasts.{honest-lasts, faithful-lasts, opening-lasts, is_taken-lasts, sent-lasts, got-lasts}
use Rattle.archive_theorem.proofs.Claim_Owns.{own-before, put_begun, get_begun}
use Rattle.archive_theorem.proofs.Claim_Invariant.{exact_port, AreBest, TakesOnce, Holds}

-- the world after a step of the server
abbrev pub served : (net : List Datagram) (server : Table) (taken recovered : List Taken) (opened : List Opening) → World → World
served net server taken recovered opened w =
    record w { server = server; past = record w.past { net = net; taken = taken; recovered = recovered; opened = opened } }

-- which only adds to these lists
pub served-extends : (past : Past) {net : List Datagram} {taken recovered : List Taken} {opened : List Opening} → IsPrefix past.net net →
    IsPrefix past.taken taken → IsPrefix past.recovered recovered → IsPrefix past.opened opened →
    Extends past (record past { net = net; taken = taken; recovered = recovered; opened = opened })
served-extends past net taken recovered opened =
    record {
      home = refl;
      net = net;
      begun = IsPrefix-same past.begun;
      taken = taken;
      recovered = recovered;
      sent = IsPrefix-same past.sent;
      got = IsPrefix-same past.got;
      opened = opened;
      strays = IsPrefix-same past.strays;
    }

-- no operation begins on the server's host
pub begun_away : (w : World) → Holds w → (e : Endpoint) → HasBegun w.past e → e.host ≢ w.home.host
begun_away w h e b = λ ours. (h.begun b.begun b.among).away (ap (λ (f : Endpoint). f.host) b.client ∙ ours)

-- what must be shown
pub record Serving (w : World) (net : List Datagram) (server : Table) (taken recovered : List Taken) (opened : List Opening) : Type 0 where
  pub more : Extends w.past (served net server taken recovered opened w).past
  pub honest : (d : Datagram) → Has net d → Has w.net d ⊎ ((d.source.host ≡ w.home.host) × IsHonest (served net server taken recovered opened w).past d)
  pub apart : IsApart at_port exact_port server.live
  pub live : (port : ℕ) (t : Transfer) → transfer_at port server ≡ Some t → IsLive (served net server taken recovered opened w).past port t
  pub untaken : (port : ℕ) (t : Transfer) → transfer_at port server ≡ Some t → IsUntaken (served net server taken recovered opened w).past port t
  pub openings : (o : Opening) → Has opened o → Has w.opened o ⊎ IsOpening (served net server taken recovered opened w).past o
  pub files : (t : Taken) → Has taken t → Has w.taken t ⊎ IsTaken (served net server taken recovered opened w).past t
  pub once : TakesOnce (served net server taken recovered opened w).past
  pub best : AreBest taken server.maps

module _ (w : World) (h : Holds w) (net : List Datagram) (server : Table) (taken recovered : List Taken) (opened : List Opening) where
  -- the world after it
  abbrev after : World
  after = served net server taken recovered opened w

  -- what the server sends binds nobody
  pub bound_before : ((d : Datagram) → Has net d → Has w.net d ⊎ (d.source.host ≡ w.home.host)) → (e : Endpoint) (port : ℕ) →
      e.host ≢ w.home.host → IsBound after.past e port → IsBound w.past e port
  bound_before new e port away b =
      ⊎_elim
      (λ old. record { datagram = b.datagram; among = old; source = b.source; target = b.target; binds = b.binds })
      (λ ours. absurd (away (ap (λ (f : Endpoint). f.host) (sym b.source) ∙ ours)))
      (new b.datagram b.among)

  -- each client is bound where its endpoint is
  bound_in : (e : Endpoint) (phase : Phase) (port : ℕ) → (e.host ≢ w.home.host → IsBound after.past e port → IsBound w.past e port) →
      IsPursuing w.past e phase → (IsBound w.past e port → MayBind phase port) → IsBound after.past e port → MayBind phase port
  bound_in e (client.asking operation misses) port before p may b =
      may (before (begun_away w h e (record { begun = _; among = p.among; client = refl })) b)
  bound_in e (client.sending peer s) port before p may b =
      may (before (begun_away w h e (put_begun e s.file p.began)) b)
  bound_in e (client.receiving peer r) port before p may b =
      may (before (begun_away w h e (get_begun e p.rules p.count p.began)) b)
  bound_in e (client.failed why) port before p may b = tt

  -- a step of the server for which all this is shown keeps the invariant
  pub served-holds : Serving w net server taken recovered opened → Holds after
  served-holds s =
      let new : (d : Datagram) → Has net d → Has w.net d ⊎ (d.source.host ≡ w.home.host) =
      λ d has. either (λ old. old) (λ ours. ours.0) (s.honest d has) in
      let before = bound_before new in
      record {
        net = λ d has. ⊎_elim (λ old. honest-lasts s.more d (h.net d old)) (λ ours. ours.1) (s.honest d has);
        apart = s.apart;
        live = s.live;
        untaken = s.untaken;
        clients = λ e c is. faithful-lasts s.more e c (h.clients e c is);
        bound = λ e c is own port b.
            bound_in e c.phase port (before e port) (h.clients e c is).phase (h.bound e c is (own-before s.more e own) port) b;
        one_port = λ e p q begun own b c.
            let was : HasBegun w.past e = record { begun = begun.begun; among = begun.among; client = begun.client } in
            let away = begun_away w h e was in
            h.one_port e p q was (own-before s.more e own) (before e p away b) (before e q away c);
        begun = λ b has. record { away = (h.begun b has).away; counted = le_trans (h.begun b has).counted (length-prefix w.taken taken s.more.taken) };
        strays = h.strays;
        opened = λ o has. ⊎_elim (λ old. opening-lasts s.more o (h.opened o old)) (λ now. now) (s.openings o has);
        taken = λ t has other. ⊎_elim (λ old. is_taken-lasts s.more t (h.taken t old other)) (λ now. now) (s.files t has);
        once = s.once;
        sent = λ e has. sent-lasts s.more e (h.sent e has);
        got = λ got has. got-lasts s.more got (h.got got has);
        best = s.best;
      }
