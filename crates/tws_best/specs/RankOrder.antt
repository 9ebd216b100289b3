-- The order of ranks is total.
use Rattle.std.specs.Cmp.{IsTotalOrder, then_total, on_total, nat_cmp_total}
use Rattle.std.specs.Cmp.Lexicographic.{nat_list_cmp_total}
use Rattle.tws_best.specs.Rank.{Ranking, rank_cmp}

pub rank_total : IsTotalOrder rank_cmp
rank_total = then_total (on_total (λ (r : Ranking). r.ticks) nat_cmp_total) (then_total (on_total (λ (r : Ranking). r.size) nat_cmp_total) (on_total (λ (r : Ranking). r.bytes) nat_list_cmp_total))
