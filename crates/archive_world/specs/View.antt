-- The plain values of events and of the outcome of a run, without their layout in memory.
use Rattle.std.specs.Prelude.{List, map}
use Rattle.archive_table.specs.Table.{Taken}
use Rattle.archive_client.specs.Client.{Operation, put, get}
use Rattle.archive_world.specs.declared.datagram.Datagram.TheInside as datagrams
use Rattle.archive_world.specs.declared.opening.Opening.TheInside as openings
use Rattle.archive_world.specs.declared.taken_file.TakenFile.TheInside as taking
use Rattle.archive_world.specs.declared.got_file.GotFile.TheInside as getting
use Rattle.archive_world.specs.declared.outcome.Outcome.TheInside as outcomes
use Rattle.archive_world.specs.declared.asked.Asked.{Asked as AskedFor}
use Rattle.archive_world.specs.declared.asked.Asked.TheVariants as asks
use Rattle.archive_world.specs.declared.op_kind.OpKind as kinds
use Rattle.archive_world.specs.declared.op_kind.OpKind.TheVariants.{Put, Get}
use Rattle.archive_world.specs.declared.event.Event as events
use Rattle.archive_world.specs.declared.event.Event.TheVariants.{Begin, Deliver, ClientTimeout, ServerTimeout, Stray, Restart, UnknownKeep}
use Rattle.archive_model.specs.World.{Datagram, Asked, to_write, to_read, Opening, Got, Event, begin, deliver, client_times_out, server_times_out, stray, restart, unknown_keep}
use Rattle.archive_world.specs.Outcomes.{Outcome}

abbrev pub datagram_of : {A : Type 0} → datagrams.Inside A → Datagram
datagram_of d = record { source = d.from; target = d.to; bytes = d.bytes }

abbrev pub asked_as : AskedFor → Asked
asked_as asks.Write = to_write
asked_as (asks.Read rules) = to_read rules

abbrev pub opening_of : openings.Inside → Opening
opening_of o = record { peer = o.peer; port = o.port; asked = asked_as o.asked; taken = o.taken }

abbrev pub taken_file_of : {A : Type 0} → taking.Inside A → Taken
taken_file_of t = record { peer = t.peer; file = t.file }

abbrev pub got_of : {A : Type 0} → getting.Inside A → Got
got_of g = record { client = g.client; file = g.file }

abbrev pub outcome_as : {A : Type 0} → outcomes.Inside A → Outcome
outcome_as o =
    record {
      taken = o.taken.items;
      recovered = o.recovered.items;
      sent = o.sent.items;
      got = o.got.items;
      opened = o.opened.items;
      lynx = o.lynx;
      ms = o.ms;
      datagrams = o.datagrams.items;
    }

abbrev pub operation_of : {A : Type 0} → kinds.OpKind A → Operation
operation_of (Put file) = put file
operation_of (Get rules) = get rules

abbrev pub event_of : {A : Type 0} → events.Event A → Event
event_of (Begin op) = begin op.client (operation_of op.kind)
event_of (Deliver index spare) = deliver index spare
event_of (ClientTimeout client) = client_times_out client
event_of (ServerTimeout port) = server_times_out port
event_of (Stray d) = stray d
event_of Restart = restart
event_of (UnknownKeep index found) = unknown_keep index found

abbrev pub events_of : {A : Type 0} → List (events.Event A) → List Event
events_of es = map event_of es
