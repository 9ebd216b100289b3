-- A rank as contracts see it, without its layout in memory.
use Rattle.tws_best.specs.declared.rank.Rank.TheInside.{Inside}
use Rattle.tws_best.specs.Rank.{Ranking}

abbrev pub ranking_of : Inside → Ranking
ranking_of r = record { ticks = r.ticks; size = r.size; bytes = r.bytes.now }
