-- Inputs of which less is known: what was written of the others was written of these. These lemmas are laws of the
-- commands.
use Rattle.std.specs.Prelude.{ℕ, List, Option}
use Rattle.tws_file.specs.declared.«ruleset».Ruleset.{Ruleset}
use Rattle.tws_pages.specs.declared.level.Level.{Level}
use Rattle.tws_best.specs.Best.{Collected}
use Rattle.show_commands.specs.SeveralInputs.{AreLessKnown}
use Rattle.show_commands.specs.Knowing.{files_less, reported_less}
use Rattle.file_commands.specs.Best.{BestPrefix, BestWrites, Collects}
use Rattle.file_commands.specs.Page.{PagePrefix, PageWrites}

-- the collection over the others
collects_less : (rules : Ruleset) (more less : List (Option (List ℕ))) (c : Collected) → AreLessKnown more less → Collects rules more c → Collects rules less c
collects_less rules more less c are collects = record {
  readable = λ texts reported. collects.readable texts (reported_less more less texts are reported);
  best = λ texts reported. collects.best texts (reported_less more less texts are reported);
}

-- ---- what was written

pub best_writes_less : (rules : Ruleset) (more less : List (Option (List ℕ))) (old new : Option (List ℕ)) → AreLessKnown more less → BestWrites rules more old new → BestWrites rules less old new
best_writes_less rules more less old new are wrote = (wrote.0, collects_less rules more less wrote.0 are wrote.1, wrote.2)

pub best_prefix_less : (rules : Ruleset) (more less : List (Option (List ℕ))) (old new : Option (List ℕ)) → AreLessKnown more less → BestPrefix rules more old new → BestPrefix rules less old new
best_prefix_less rules more less old new are wrote = (wrote.0, collects_less rules more less wrote.0 are wrote.1, wrote.2)

pub page_writes_less : (title : Option (List ℕ)) (levels : Option (List Level)) (more less : List (Option (List ℕ))) (old new : Option (List ℕ)) → AreLessKnown more less → PageWrites title levels more old new → PageWrites title levels less old new
page_writes_less title levels more less old new are wrote = (wrote.0, files_less more less wrote.0 are wrote.1, wrote.2)

pub page_prefix_less : (title : Option (List ℕ)) (levels : Option (List Level)) (more less : List (Option (List ℕ))) (old new : Option (List ℕ)) → AreLessKnown more less → PagePrefix title levels more old new → PagePrefix title levels less old new
page_prefix_less title levels more less old new are wrote = (wrote.0, files_less more less wrote.0 are wrote.1, wrote.2)
