-- What private functions do: parts of a turn or round.
use Rattle.std.specs.Prelude.{◌≡◌, ℕ, Bool, List, map, Option, is_some}
use Rattle.tftp_packet.specs.declared.out.Out.{Out}
use Rattle.archive_table.specs.Table.{Table, Merges}
use Rattle.archive_table.specs.Keeper.{Keeping}
use Rattle.archive_server.specs.declared.change.Change.{Change}
use Rattle.archive_server.specs.declared.mode.Mode.{Mode}
use Rattle.archive_server.specs.declared.next.Next.{Next}
use Rattle.archive_server.specs.declared.timer.Timer.{Timer}
use Rattle.archive_wire.specs.Wire.{Entry, Grows, Replies, Receipt}
use Rattle.archive_server.specs.Turn.{Answers, Visited, Asks, KeepsAsked, IsTurnIn, step_calls, walk}

-- A visit does what its definition says for some answers, and the log has grown by its calls.
pub record IsVisit (visit : Answers → Visited) (asks : Answers → Option Asks) (lets_in : Receipt → Bool) (old new : Table) (taken : Bool) (change : Change) (before after : Option (List Entry)) (kept now : Option (List Keeping)) : Type 0 where
  pub answers : Answers
  pub admitted : answers.admitted ≡ lets_in answers.receipt
  pub server : new ≡ (visit answers).server
  pub taken_is : taken ≡ is_some (visit answers).taken
  pub change_is : change ≡ (visit answers).change
  pub grows : Grows before after (visit answers).calls
  pub merges : Merges (visit answers).taken old.maps new.maps
  pub keeps : KeepsAsked (asks answers) old.maps new.maps kept now

-- the same for a time-out
pub record IsTimeout (visit : Replies → Visited) (new : Table) (change : Change) (before after : Option (List Entry)) : Type 0 where
  pub replies : Replies
  pub server : new ≡ (visit replies).server
  pub change_is : change ≡ (visit replies).change
  pub grows : Grows before after (visit replies).calls

-- the log after the calls that follow a step
pub record Acts (closes : Bool) (port : ℕ) (out : Option Out) (before after : Option (List Entry)) : Type 0 where
  pub replies : Replies
  pub grows : Grows before after (step_calls closes port out replies)

-- the state after the time-outs of these ports
pub record Walks (ports : List ℕ) (due : ℕ) (old new : Table) (timers left : List Timer) (before after : Option (List Entry)) : Type 0 where
  pub late : List (ℕ × Replies)
  pub late_are : map (λ e. e.0) late ≡ ports
  pub server : new ≡ (walk due old timers late).server
  pub timers_are : left ≡ (walk due old timers late).timers
  pub grows : Grows before after (walk due old timers late).calls

-- the state after a visit and the time-outs after it
pub record MakesTurnIn (mode : Mode) (next : Next) (old new : Table) (timers left : List Timer) (taken : Bool) (before after : Option (List Entry)) (kept now : Option (List Keeping)) : Type 0 where
  pub calls : List Entry
  pub visits : IsTurnIn mode next old new timers left taken calls kept now
  pub grows : Grows before after calls
