-- The names of the files in the archive's folder.
use Rattle.std.specs.Prelude.{ℕ, List, codes}
use Rattle.tws_file.specs.declared.«ruleset».Ruleset.{Ruleset}
use Rattle.tws_file.specs.declared.«ruleset».Ruleset.TheVariants.{Lynx, Ms}

abbrev pub kept_name : Ruleset → List ℕ
kept_name Lynx = codes "lynx.tws"
kept_name Ms = codes "ms.tws"

abbrev pub draft_name : Ruleset → List ℕ
draft_name Lynx = codes "lynx.new"
draft_name Ms = codes "ms.new"
