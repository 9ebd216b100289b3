use Rattle.std.specs.Prelude.{◌≡◌, ℕ, ◌≤◌, ◌||◌, List, ◌++◌, length, take, filter, Option}
use Rattle.std.proofs.Common.{ap, ◌∙◌}
use Rattle.std.proofs.lemmas.List.{take_all}
use Rattle.archive_table.specs.Table.{Table}
use Rattle.archive_server.specs.declared.change.Change.{Change}
use Rattle.archive_server.specs.declared.mode.Mode.{Mode}
use Rattle.archive_server.specs.declared.timer.Timer.{Timer}
use Rattle.archive_server.specs.Places.{victim}
use Rattle.archive_server.specs.Timers.{ports_of, is_quiet, due_by, is_due, gives_way, giving_ports, victim_ports, late_ports}
use Rattle.archive_server.proofs.timers.Timers.late.Goals as goal

-- the ports that are due or give way by some value of the timers
abbrev first_ports : Option ℕ → Mode → Table → List Timer → List ℕ
first_ports by mode s timers = ports_of (filter (λ t. is_due by t || gives_way mode t.port s) timers)

all_late : (mode : Mode) (change : Change) (timers items : List Timer) (s : Table) (by chosen : Option ℕ) (i : ℕ) (first more all : List ℕ) →
    by ≡ due_by mode (is_quiet change) → items ≡ timers → length items ≤ i → first ≡ first_ports by mode s (take i items) →
    more ≡ first ++ giving_ports mode timers s → chosen ≡ victim mode change timers s → all ≡ more ++ victim_ports chosen →
    all ≡ late_ports mode change timers s
all_late mode change timers items s by chosen i first more all by-is items-are whole first-are more-are chosen-is all-are =
    let giving = giving_ports mode timers s in
    let due = first-are ∙ ap (first_ports by mode s) (take_all i items whole ∙ items-are) ∙ ap (λ b. first_ports b mode s timers) by-is in
    all-are ∙ ap (λ l. l ++ victim_ports chosen) (more-are ∙ ap (λ l. l ++ giving) due) ∙
    ap (λ v. (first_ports (due_by mode (is_quiet change)) mode s timers ++ giving) ++ victim_ports v) chosen-is

pub returns : goal.returns
returns g c =
    all_late c.args.mode c.args.change c.args.self.now c.as_slice-timer-items.result.now c.args.table.now c.due_by-by.result c.victim.result
    c.loop-timer.timer-index c.loop-timer.ports.items c.push_giving.new.ports.items c.push_victim.new.ports.items c.due_by-by.ensures
    (c.as_slice-timer-items.ensures.value ∙ c.self.view_is) c.loop-timer-test.false c.loop-timer.invariant.0 c.push_giving.ensures.giving
    c.victim.ensures c.push_victim.ensures
