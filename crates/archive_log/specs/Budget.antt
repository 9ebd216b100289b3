-- Which lines of refused and dropped requests a log writes, and how many it leaves out. Moments are in milliseconds.
use Rattle.std.specs.Prelude.{ℕ, ◌+◌, ◌/◌, ◌==◌, nat_lt, Bool, true, false, Option, None, Some, if◌then◌else◌}
use Rattle.archive_log.specs.declared.line_budget.LineBudget.{LineBudget}
use Rattle.archive_log.specs.declared.line_budget.TheConstants.{LINES}
use Rattle.archive_log.specs.declared.log_event.LogEvent.{LogEvent}
use Rattle.archive_log.specs.declared.log_event.LogEvent.TheVariants as event
use Rattle.archive_log.specs.Events.{one_more}

abbrev pub new_budget : LineBudget
new_budget = record { second = 0; lines = 0; left_out = 0 }

-- how many lines were admitted in this second of the clock
abbrev pub lines_in : (second : ℕ) → LineBudget → ℕ
lines_in second b = if b.second == second then b.lines else 0

-- a line at this moment is written: its second has fewer than `LINES`
abbrev pub is_admitted : (now : ℕ) → LineBudget → Bool
is_admitted now b = nat_lt (lines_in (now / 1000) b) LINES

-- the budget once a line was asked for: it was admitted, or left out
abbrev pub after_line : (now : ℕ) → LineBudget → LineBudget
after_line now b =
    if is_admitted now b then record { second = now / 1000; lines = lines_in (now / 1000) b + 1; left_out = b.left_out }
    else record { second = now / 1000; lines = lines_in (now / 1000) b; left_out = one_more b.left_out }

-- ---- what is reported of the lines that were left out

abbrev pub settled : LineBudget → LineBudget
settled b = record b { left_out = 0 }

-- once the second in which they were left out is over
abbrev pub left_out_by : (now : ℕ) → LineBudget → ℕ
left_out_by now b = if now / 1000 == b.second then 0 else b.left_out

abbrev pub settled_by : (now : ℕ) → LineBudget → LineBudget
settled_by now b = if now / 1000 == b.second then b else settled b

-- ---- the events

-- only these lines are bounded: a request was refused or dropped
abbrev pub is_bounded : LogEvent → Bool
is_bounded (event.Started at lynx ms folder) = false
is_bounded (event.Refused peer why) = true
is_bounded (event.Dropped peer why) = true
is_bounded (event.LeftOut count) = false
is_bounded (event.Taken upload millis) = false
is_bounded (event.PutFailed peer block why) = false
is_bounded (event.GetFailed peer rules block why) = false
is_bounded (event.GetFinished peer rules bytes millis) = false
is_bounded (event.KeepFailed rules bytes why) = false
is_bounded (event.AlreadyRecorded peer) = false
is_bounded (event.NotRecorded peer why cause) = false
is_bounded (event.Stopped taken served) = false

-- the budget after an event at this moment, before which it is reported how many lines were left out
abbrev pub after_event : (now : ℕ) → LogEvent → LineBudget → LineBudget
after_event now e b = if is_bounded e then after_line now (settled_by now b) else settled_by now b

-- the same, if there was an event
abbrev pub after_events : (now : ℕ) → Option LogEvent → LineBudget → LineBudget
after_events now None b = b
after_events now (Some e) b = after_event now e b
