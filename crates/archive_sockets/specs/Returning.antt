-- Which ports go back to the deck.
use Rattle.std.specs.Prelude.{ℕ, Bool, true, false, List, Option, None, Some}
use Rattle.archive_sockets.specs.declared.open_port.OpenPort.{OpenPort}
use Rattle.archive_sockets.specs.declared.port_deck.PortDeck.{PortDeck}
use Rattle.archive_sockets.specs.Arrivals.{is_unused}

abbrev pub returned_if : (unused : Bool) → (port : ℕ) → Option PortDeck → Option PortDeck
returned_if unused port None = None
returned_if true port (Some deck) = Some (record deck { returned = Some port })
returned_if false port (Some deck) = Some deck

-- the deck after a port was closed: one that was not used is the next one again
abbrev pub given_back : (port : ℕ) → List OpenPort → Option PortDeck → Option PortDeck
given_back port ports deck = returned_if (is_unused port ports) port deck
