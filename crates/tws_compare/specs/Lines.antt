-- The text of a comparison: a line for each row, and one for the counts.
use Rattle.std.specs.Prelude.{ℕ, ◌==◌, List, ◌++◌, codes, decimal, if◌then◌else◌}
use Rattle.std.specs.List.{flat_map}
use Rattle.tws_file.specs.Words.{key_text, line}
use Rattle.tws_compare.specs.declared.row.Row.{Row}
use Rattle.tws_compare.specs.declared.counts.Counts.{Counts}
use Rattle.tws_compare.specs.declared.standing.Standing.{Standing}
use Rattle.tws_compare.specs.declared.standing.Standing.TheVariants.{OnlyMine, OnlyTheirs, MineBetter, TheirsBetter, Equal}
use Rattle.tws_compare.specs.Counts.{counts_of}

-- mine is better by so many ticks, or by the rest of the rank alone
abbrev pub mine_text : ℕ → List ℕ
mine_text ticks = if ticks == 0 then codes "tie, mine is kept" else codes "mine better by " ++ decimal ticks ++ codes " ticks"

-- the same of theirs
abbrev pub theirs_text : ℕ → List ℕ
theirs_text ticks = if ticks == 0 then codes "tie, theirs is kept" else codes "theirs better by " ++ decimal ticks ++ codes " ticks"

abbrev pub standing_text : Standing → List ℕ
standing_text OnlyMine = codes "only mine"
standing_text OnlyTheirs = codes "only theirs"
standing_text (MineBetter ticks) = mine_text ticks
standing_text (TheirsBetter ticks) = theirs_text ticks
standing_text Equal = codes "equal"

abbrev pub row_text : Row → List ℕ
row_text row = codes "level " ++ key_text row.key ++ codes " " ++ standing_text row.standing

abbrev pub row_line : Row → List ℕ
row_line row = line (row_text row)

-- the line of the counts, in two parts
abbrev pub only_words : Counts → List ℕ
only_words counts = codes "levels " ++ (decimal counts.levels ++ (codes " only mine " ++ (decimal counts.only_mine ++ (codes " only theirs " ++ decimal counts.only_theirs))))

abbrev pub better_line : Counts → List ℕ
better_line counts = codes " mine better " ++ (decimal counts.mine_better ++ (codes " theirs better " ++ (decimal counts.theirs_better ++ (codes " equal " ++ (decimal counts.equal ++ (codes " tie " ++ line (decimal counts.tied)))))))

abbrev pub counts_line : Counts → List ℕ
counts_line counts = only_words counts ++ better_line counts

-- a line for each row, in order, and one for the counts
abbrev pub comparison_text : List Row → List ℕ
comparison_text rows = flat_map row_line rows ++ counts_line (counts_of rows)
