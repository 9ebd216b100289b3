use Rattle.tws_file.specs.Record.{records_of}
use Rattle.std.proofs.Common.{◌++◌}
use Rattle.tws_best.specs.Best.{solved_in}
use Rattle.tws_compare.proofs.Ordered.{keys_are}
use Rattle.tws_compare.proofs.keys.keys_of_either.Goals as goal

pub returns : goal.returns
returns g c =
    keys_are (solved_in (records_of c.args.mine.now) ++ solved_in (records_of c.args.theirs.now)) c.in_ok-keys.keys.items c.sort_unstable.new.self.items
    c.dedup.new.self.items c.in_ok-keys.ensures
    c.sort_unstable.ensures.permutation c.sort_unstable.ensures.sorted c.dedup.ensures.filtered
