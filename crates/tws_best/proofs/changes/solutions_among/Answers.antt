use Rattle.std.proofs.Common.{◌+◌, take, map, ap}
use Rattle.tws_file.specs.Record.{records_of}
use Rattle.tws_best.specs.Best.{keyed_body, solved_in}
use Rattle.tws_best.proofs.Solved.{mapped_push, solved_more, step_solution, step_other}
use Rattle.tws_best.proofs.changes.solutions_among.Goals as goal
use Rattle.tws_best.proofs.changes.solutions_among.Goals.{in-Solution+in_ok-push, in_default}

pub loop-record-preserved : goal.loop-record-preserved
loop-record-preserved g c =
    let i = c.loop-record.record-index in
    let records = c.args.records.now in
    let so_far = solved_in (records_of (take i records)) in
    let all = solved_in (records_of (take (i + 1) records)) in
    let before = map (λ s. keyed_body s.1.now) c.loop-record.all.items in
    let items = map (λ s. keyed_body s.1.now) c.match-record.all.items in
    let item = c.record-item.result in
    let more = solved_more records i item c.loop-record-test.true c.record-item.is in
    elim c.match-record.branch [
      | in-Solution+in_ok-push w ↦ step_solution so_far before all items item more c.loop-record.invariant w.in-Solution.solution w.in-Solution.is
          (mapped_push (λ s. keyed_body s.1.now) c.loop-record.all.items w.push.new.self.items c.match-record.all.items _ (ap (λ v. v.items) w.all-is) w.in_ok-push.ensures.items)
      | in_default w ↦ step_other so_far before all items item more c.loop-record.invariant w.in_default.not-Solution (ap (λ v. map (λ s. keyed_body s.1.now) v.items) w.all-is)
    ]
