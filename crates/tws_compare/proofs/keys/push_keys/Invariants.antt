use Rattle.std.proofs.Common.{◌≡◌, ◌++◌, take}
use Rattle.tws_file.specs.Record.{records_of}
use Rattle.tws_best.specs.Best.{solved_in}
use Rattle.tws_compare.specs.Compare.{all_keys}
use Rattle.tws_compare.proofs.keys.push_keys.Given as goal

abbrev pub invariant-loop-record : goal.invariant-loop-record
invariant-loop-record g l = l.keys.items ≡ l.fn.keys.items ++ all_keys (solved_in (records_of (take l.record-index l.records)))
