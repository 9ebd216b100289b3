-- The outcome of a run: what is recorded of its world.
use Rattle.std.specs.Prelude.{ℕ, List}
use Rattle.tftp_packet.specs.declared.endpoint.Endpoint.{Endpoint}
use Rattle.tws_best.specs.Best.{collection_text}
use Rattle.archive_table.specs.Table.{Taken}
use Rattle.archive_model.specs.World.{Datagram, Opening, Got, World}

-- each list in the order in which things happened
pub record Outcome : Type 0 where
  -- the files that the server has taken, each with its peer
  pub taken : List Taken
  -- those of them whose peers were told that they were not kept
  pub recovered : List Taken
  -- the clients that count their files as sent
  pub sent : List Endpoint
  -- the files that clients have fetched whole
  pub got : List Got
  -- the transfers that were opened
  pub opened : List Opening
  -- the texts of the server's collections
  pub lynx : List ℕ
  pub ms : List ℕ
  -- all datagrams that were ever sent, those of strangers too
  pub datagrams : List Datagram

abbrev pub outcome_of : World → Outcome
outcome_of w =
    record {
      taken = w.taken;
      recovered = w.recovered;
      sent = w.sent;
      got = w.got;
      opened = w.opened;
      lynx = collection_text w.server.maps.lynx;
      ms = collection_text w.server.maps.ms;
      datagrams = w.net;
    }
