-- File names at the server: that of a ruleset's collection, and the one under which a client sends a file.
use Rattle.std.specs.Prelude.{ℕ, List, Option, None, Some, cond, codes}
use Rattle.std.specs.Str.{bytes_eq}
use Rattle.tws_file.specs.declared.«ruleset».Ruleset.{Ruleset}
use Rattle.tws_file.specs.declared.«ruleset».Ruleset.TheVariants.{Lynx, Ms}

abbrev pub file_name_of : Ruleset → List ℕ
file_name_of Lynx = codes "lynx.tws"
file_name_of Ms = codes "ms.tws"

-- the ruleset whose collection has this name
abbrev pub ruleset_named : (name : List ℕ) → Option Ruleset
ruleset_named name =
    cond (bytes_eq name (file_name_of Lynx)) (Some Lynx) (cond (bytes_eq name (file_name_of Ms)) (Some Ms) None)

-- it has no meaning to the server
abbrev pub upload_name : List ℕ
upload_name = codes "upload.tws"
