use Rattle.std.proofs.Common.{sym, arith}
use Rattle.std.proofs.lemmas.List.{length-take-le, take_all}
use Rattle.tws_pages.proofs.level_set.cut.Goals as goal

pub slice_bounds-result-end : goal.slice_bounds-result-end
slice_bounds-result-end c = sym (length-take-le 64 c.args.name.now (omega arith))

pub returns-else-name-gt-SHOWN_NAME : goal.returns-else-name-gt-SHOWN_NAME
returns-else-name-gt-SHOWN_NAME c = sym (take_all 64 c.args.name.now (omega arith))
