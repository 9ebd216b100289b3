-- How many rows of a comparison there are, and how many of each standing.
use Rattle.std.specs.Prelude.{List, length, count_by}
use Rattle.tws_compare.specs.declared.row.Row.{Row}
use Rattle.tws_compare.specs.declared.counts.Counts.{Counts}
use Rattle.tws_compare.specs.Standing.{is_only_mine, is_only_theirs, is_mine_faster, is_theirs_faster, is_equal, is_tie}

abbrev pub counts_of : List Row → Counts
counts_of rows = record {
  levels = length rows;
  only_mine = count_by (λ (row : Row). is_only_mine row.standing) rows;
  only_theirs = count_by (λ (row : Row). is_only_theirs row.standing) rows;
  mine_better = count_by (λ (row : Row). is_mine_faster row.standing) rows;
  theirs_better = count_by (λ (row : Row). is_theirs_faster row.standing) rows;
  equal = count_by (λ (row : Row). is_equal row.standing) rows;
  tied = count_by (λ (row : Row). is_tie row.standing) rows;
}
