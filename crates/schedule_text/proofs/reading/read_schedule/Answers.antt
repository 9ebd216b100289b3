use Rattle.std.proofs.Common.{◌≡◌, ◌+◌, ◌<◌, map, length, arith, rules}
use Rattle.std.proofs.lemmas.List.{length-map}
use Rattle.schedule_text.proofs.Gathering.{line_there, line_read, first_bad}
use Rattle.schedule_text.proofs.reading.read_schedule.Goals as goal

pub loop-i-preserved : goal.loop-i-preserved
loop-i-preserved c =
    let i = c.loop-i.i in
    let all = c.in_ok-lines.lines.items in
    let lines = map (λ x. x.items) all in
    let line = c.deref.result.now in
    let within : i < length all = first_of (search rules, omega arith) in
    let inside : i < length lines = rw (length-map all (λ x. x.items)) within in
    let there = line_there all (λ x. x.items) i c.index.result.now line within c.index.ensures c.deref.ensures.value in
    let added = c.in_ok-add_line in
    line_read lines i inside line there added.field-0 _ _ added.ensures c.if-not-branch.false c.loop-i.invariant

pub returns-then-not-branch-clause-line : goal.returns-then-not-branch-clause-line
returns-then-not-branch-clause-line c = λ n is.
    let i = c.loop-i.i in
    let all = c.in_ok-lines.lines.items in
    let lines = map (λ x. x.items) all in
    let line = c.deref.result.now in
    let within : i < length all = first_of (search rules, omega arith) in
    let inside : i < length lines = rw (length-map all (λ x. x.items)) within in
    let there = line_there all (λ x. x.items) i c.index.result.now line within c.index.ensures c.deref.ensures.value in
    let number : n ≡ i + 1 = cc in
    let added = c.in_ok-add_line in
    let bad = first_bad lines i inside line there c.args.text.now n added.field-0 in
    bad _ _ c.in_ok-lines.ensures number added.ensures c.if-not-branch.true c.loop-i.invariant
