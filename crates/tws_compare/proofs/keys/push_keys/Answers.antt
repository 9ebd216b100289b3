use Rattle.std.proofs.Common.{◌+◌, ◌++◌, ◌∷◌, [], take, ap, ◌∙◌}
use Rattle.tws_file.specs.Record.{records_of}
use Rattle.tws_file.specs.Text.{Solution}
use Rattle.tws_best.specs.Best.{solved_in}
use Rattle.tws_best.proofs.Solved.{solved_more}
use Rattle.tws_compare.proofs.Ordered.{key_pushed, no_key}
use Rattle.tws_compare.proofs.keys.push_keys.Goals as goal
use Rattle.tws_compare.proofs.keys.push_keys.Goals.{in-Solution+in_ok-push, in_default}

pub loop-record-preserved : goal.loop-record-preserved
loop-record-preserved g c =
    let i = c.loop-record.record-index in
    let records = c.args.records.now in
    let item = c.record-item.result in
    let more = solved_more records i item c.loop-record-test.true c.record-item.is in
    let start = c.args.keys.now.items in
    let so_far = solved_in (records_of (take i records)) in
    let all = solved_in (records_of (take (i + 1) records)) in
    elim c.match-record.branch [
      | in-Solution+in_ok-push w ↦ key_pushed start so_far all item more c.loop-record.keys.items c.match-record.keys.items c.loop-record.invariant
          w.in-Solution.solution w.in-Solution.is
          (ap (λ v. v.items) w.keys-is ∙ w.in_ok-push.ensures.items ∙ ap (λ (s : Solution). c.loop-record.keys.items ++ s.key ∷ []) w.solution.view_is)
      | in_default w ↦ no_key start so_far all item more c.loop-record.keys.items c.match-record.keys.items c.loop-record.invariant
          w.in_default.not-Solution (ap (λ v. v.items) w.keys-is)
    ]
