-- A file without the solutions of one level.
use Rattle.std.specs.Prelude.{ℕ, Bool, false, not, List, filter}
use Rattle.std.specs.Ordering.{is_eq}
use Rattle.tws_file.specs.declared.key.Key.{Key}
use Rattle.tws_file.specs.Text.{File, Record, pad, set, bare, solution, text_of}
use Rattle.tws_best.specs.Best.{key_cmp}

-- the record is a solution of this level
abbrev pub solves : Key → Record → Bool
solves key pad = false
solves key (set rest) = false
solves key (bare other) = false
solves key (solution s) = is_eq (key_cmp s.key key)

-- the records that are none, in order
abbrev pub records_without : Key → List Record → List Record
records_without key rs = filter (λ r. not (solves key r)) rs

-- nothing else changes
abbrev pub file_without : Key → File → File
file_without key file = record { «ruleset» = file.ruleset; word = file.word; extra = file.extra; records = records_without key file.records }

-- the text of that file
abbrev pub text_without : Key → File → List ℕ
text_without key file = text_of (file_without key file)
