-- Which events reuse a port, and which endpoints have ports of their own: the tests.
use Rattle.std.specs.Prelude.{◌≡◌, ◌↔◌, ℕ, Bool, true, false, ◌==◌, ◌&&◌, not, cond, List, [], ◌∷◌, ◌++◌}
use Rattle.tftp_packet.specs.declared.endpoint.Endpoint.{Endpoint}
use Rattle.archive_table.specs.Table.{is_same}
use Rattle.archive_client.specs.Client.{Operation}
use Rattle.archive_model.specs.World.{Datagram, Begun, Opening, World, has_begun, begins, strays_in}
use Rattle.archive_theorem.specs.Headline.{IsOwn, OwnPorts, HasOwnPorts}

-- a stranger's datagram was sent from this endpoint
abbrev pub has_strayed : Endpoint → List Datagram → Bool
has_strayed e [] = false
has_strayed e (d ∷ ds) = cond (is_same e d.source) true (has_strayed e ds)

abbrev pub is_opening_at : Endpoint → (port : ℕ) → Opening → Bool
is_opening_at e port o = is_same e o.peer && (port == o.port)

-- a transfer was opened for this peer at this port
abbrev pub was_opened : Endpoint → (port : ℕ) → List Opening → Bool
was_opened e port [] = false
was_opened e port (o ∷ os) = cond (is_opening_at e port o) true (was_opened e port os)

-- nothing has been at the endpoint
pub record IsUnused (e : Endpoint) (w : World) : Type 0 where
  pub unbegun : has_begun e w.begun ≡ false
  pub unstrayed : has_strayed e w.strays ≡ false

-- after an operation begins, no port is reused exactly if nothing was at its endpoint
abbrev pub BeginKeepsOwn : World → Endpoint → Operation → Type 0
BeginKeepsOwn w e operation = HasOwnPorts (begins e operation w) ↔ IsUnused e w

-- after an opening, exactly if no transfer was opened for its peer at its port
abbrev pub OpeningKeepsOwn : World → Opening → Type 0
OpeningKeepsOwn w o = OwnPorts w.begun (w.opened ++ o ∷ []) w.strays ↔ (was_opened o.peer o.port w.opened ≡ false)

-- after a stray, exactly if no operation has begun at its endpoint
abbrev pub StrayKeepsOwn : World → Datagram → Type 0
StrayKeepsOwn w d = HasOwnPorts (strays_in d w) ↔ (has_begun d.source w.begun ≡ false)

-- ---- one endpoint

-- at most one operation has begun there
abbrev pub begins_once : Endpoint → List Begun → Bool
begins_once e [] = true
begins_once e (b ∷ bs) = cond (is_same e b.client) (not (has_begun e bs)) (begins_once e bs)

-- no port of the server was opened for it twice
abbrev pub opens_apart : Endpoint → List Opening → Bool
opens_apart e [] = true
opens_apart e (o ∷ os) = cond (is_same e o.peer && was_opened e o.port os) false (opens_apart e os)

-- what the three tests say
pub record OwnTests : Type 0 where
  pub once : Bool
  pub apart : Bool
  pub unstrayed : Bool

abbrev pub own_tests : Endpoint → World → OwnTests
own_tests e w =
    record { once = begins_once e w.begun; apart = opens_apart e w.opened; unstrayed = not (has_strayed e w.strays) }

-- The ports of an endpoint are its own exactly if all tests pass.
abbrev pub IsOwnByTests : World → Endpoint → Type 0
IsOwnByTests w e = IsOwn w e ↔ (own_tests e w ≡ record { once = true; apart = true; unstrayed = true })
