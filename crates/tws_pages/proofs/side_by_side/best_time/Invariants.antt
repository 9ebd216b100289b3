use Rattle.std.proofs.Common.{◌≡◌, take, None}
use Rattle.std.specs.List.{fold}
use Rattle.tws_pages.specs.SideBySide.{with_file}
use Rattle.tws_pages.proofs.side_by_side.best_time.Given as goal

abbrev pub invariant-loop-file : goal.invariant-loop-file
invariant-loop-file g l = l.best ≡ fold (with_file l.ruleset l.level) None (take l.file-index l.files)
