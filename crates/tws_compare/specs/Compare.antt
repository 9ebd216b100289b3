-- Two files compared: a row for each level that either has solved, and what of mine is better.
use Rattle.std.specs.Prelude.{◌≡◌, ◌≢◌, Bool, false, List, map, filter, ◌++◌}
use Rattle.tws_file.specs.declared.key.Key.{Key}
use Rattle.tws_file.specs.Text.{File, Record, pad, set, bare, solution}
use Rattle.tws_best.specs.Best.{KeyedBody, Collected, solved_in}
use Rattle.tws_best.specs.Choice.{best_of}
use Rattle.tws_compare.specs.declared.row.Row.{Row}
use Rattle.tws_compare.specs.declared.compare_fault.CompareFault.{CompareFault}
use Rattle.tws_compare.specs.declared.compare_fault.CompareFault.TheVariants.{Rulesets, Memory}
use Rattle.tws_compare.specs.Standing.{TwoSides, standing_at, is_improvement}

-- the best solution of each level of a file
abbrev pub best_in : File → List KeyedBody
best_in file = best_of (solved_in file.records)

abbrev pub sides_of : (mine theirs : File) → TwoSides
sides_of mine theirs = record { mine = best_in mine; theirs = best_in theirs }

abbrev pub all_keys : List KeyedBody → List Key
all_keys es = map (λ e. e.key) es

-- the keys of these solutions in the order of the collections, each once
abbrev pub keys_of : List KeyedBody → List Key
keys_of es = all_keys (best_of es)

-- ---- the comparison

-- a level at which two files are compared
abbrev pub row_at : TwoSides → Key → Row
row_at sides key = record { key = key; standing = standing_at sides key }

-- a row for each level that either file has solved, in the order of the collections
abbrev pub rows_of : (mine theirs : File) → List Row
rows_of mine theirs = map (row_at (sides_of mine theirs)) (keys_of (solved_in mine.records ++ solved_in theirs.records))

-- files of different rulesets are not compared
abbrev pub CompareFails : (mine theirs : File) → CompareFault → Type 0
CompareFails mine theirs Rulesets = mine.ruleset ≢ theirs.ruleset
CompareFails mine theirs Memory = mine.ruleset ≡ theirs.ruleset

-- ---- what is better

-- the entries of mine that are better than theirs or new
abbrev pub better_entries : TwoSides → List KeyedBody
better_entries sides = filter (λ e. is_improvement (standing_at sides e.key)) sides.mine

-- the collection of the best of my solutions that are better than theirs or new
abbrev pub better_of : (mine theirs : File) → Collected
better_of mine theirs = record { «ruleset» = mine.ruleset; entries = better_entries (sides_of mine theirs) }

-- the record is a solution of a level where mine is an improvement
abbrev pub improves : TwoSides → Record → Bool
improves sides pad = false
improves sides (set rest) = false
improves sides (bare key) = false
improves sides (solution s) = is_improvement (standing_at sides s.key)

-- the file with these records alone
abbrev pub improved_file : TwoSides → File → File
improved_file sides file = record { «ruleset» = file.ruleset; word = file.word; extra = file.extra; records = filter (improves sides) file.records }
