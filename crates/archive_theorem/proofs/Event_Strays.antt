-- A stranger's datagram enters the network, or the server restarts, and the invariant still holds.
use Rattle.std.proofs.Common.{◌≡◌, ◌≢◌, ◌⊎◌, ℕ, [], refl, ap, sym, ◌∙◌, subst, inl, ⊎_elim}
use Rattle.tftp_packet.specs.declared.endpoint.Endpoint.{Endpoint}
use Rattle.archive_table.specs.Table.{Table}
use Rattle.archive_model.specs.World.{Datagram, World, strays_in, restarts, Extends}
use Rattle.archive_theorem.specs.Headline.{IsOwn}
use Rattle.archive_model.proofs.Doing as doing
use Rattle.archive_model.proofs.Places.{Has-last, Has-push}
use Rattle.archive_theorem.proofs.Claim_Past.{IsStranger, IsHonest, IsBound}
use Rattle.archive_theorem.proofs.Claim_Lasts.{honest-lasts, live-lasts, faithful-lasts, opening-lasts, is_taken-lasts, sent-lasts, got-lasts}
use Rattle.archive_theorem.proofs.Claim_Owns.{own-before, no_stranger}
use Rattle.archive_theorem.proofs.Claim_Invariant.{Holds}
use Rattle.archive_theorem.proofs.Server_Moves.{served-holds}
use Rattle.archive_theorem.proofs.Event_Begins.{BindsBy, bound_split}
use Rattle.archive_model.proofs.Growing.{Extends-same, does-extends}

-- ---- a stray

-- a stranger's datagram enters
module _ (w : World) (h : Holds w) (d : Datagram) (away : d.source.host ≢ w.home.host) where
  -- the world after that
  abbrev after : World
  after = strays_in d w

  grows : Extends w.past after.past
  grows = does-extends {w = w} (doing.strayed d)

  -- its source is a stranger's
  stranger : IsStranger after.past d.source
  stranger = record { datagram = d; among = Has-last w.strays d; source = refl }

  -- so it counts as honest
  new_honest : IsHonest after.past d
  new_honest = record { says = inl stranger }

  -- an endpoint that is bound was bound before, or this datagram binds it
  split : (f : Endpoint) (port : ℕ) → IsBound after.past f port → IsBound w.past f port ⊎ BindsBy d f port
  split f port b = bound_split w after d refl refl f port b

  -- and then it is a stranger's
  strange : (f : Endpoint) (port : ℕ) → BindsBy d f port → IsStranger after.past f
  strange f port new = subst (IsStranger after.past) new.source stranger

  -- ports that are an endpoint's own now were its own before
  own_then : (f : Endpoint) → IsOwn after f → IsOwn w f
  own_then f own = own-before grows f own

  -- an endpoint whose ports are its own is not the stranger's
  before : (f : Endpoint) (port : ℕ) → IsOwn after f → IsBound after.past f port → IsBound w.past f port
  before f port own b =
      ⊎_elim (λ old. old) (λ (new : BindsBy d f port). no_stranger after.past f own (strange f port new)) (split f port b)

  -- a stranger's datagram keeps the invariant
  pub strays-holds : Holds after
  strays-holds =
      record {
        net = λ x has. ⊎_elim (λ old. honest-lasts grows x (h.net x old)) (λ new. subst (IsHonest after.past) (sym new) new_honest) (Has-push w.net d x has);
        apart = h.apart;
        live = λ port t is. live-lasts grows port t (h.live port t is);
        untaken = λ port t is running own u has same b.
            h.untaken port t is running (own_then t.peer own) u has same (before t.peer port own b);
        clients = λ f c is. faithful-lasts grows f c (h.clients f c is);
        bound = λ f c is own port b. h.bound f c is (own_then f own) port (before f port own b);
        one_port = λ f p q b own at_p at_q.
            h.one_port f p q (record { begun = b.begun; among = b.among; client = b.client }) (own_then f own) (before f p own at_p) (before f q own at_q);
        begun = λ b has. record { away = (h.begun b has).away; counted = (h.begun b has).counted };
        strays = λ x has.
            ⊎_elim (h.strays x) (λ (new : x ≡ d) ours. away (ap (λ (y : Datagram). y.source.host) (sym new) ∙ ours)) (Has-push w.strays d x has);
        opened = λ o has. opening-lasts grows o (h.opened o has);
        taken = λ t has other. is_taken-lasts grows t (h.taken t has other);
        once = λ i j t u at_i at_j same other own. h.once i j t u at_i at_j same other (own_then t.peer own);
        sent = λ x has. sent-lasts grows x (h.sent x has);
        got = λ g has. got-lasts grows g (h.got g has);
        best = h.best;
      }

-- ---- a restart

-- the server without transfers
abbrev fresh : Table → Table
fresh s = record { request = s.request; maps = s.maps; live = [] }

-- a restart keeps the invariant
pub restarts-holds : (w : World) → Holds w → Holds (restarts w)
restarts-holds w h =
    served-holds w h w.net (fresh w.server) w.taken w.recovered w.opened
    (record {
      more = Extends-same w.past;
      honest = λ d has. inl has;
      apart = tt;
      live = λ port t is. absurd cc;
      untaken = λ port t is. absurd cc;
      openings = λ o has. inl has;
      files = λ t has. inl has;
      once = h.once;
      best = h.best;
    })
