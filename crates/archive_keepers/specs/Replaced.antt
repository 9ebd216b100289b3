-- What was replaced under a keeper, in words.
use Rattle.std.specs.Prelude.{ℕ, List, ◌++◌, codes}
use Rattle.archive_keepers.specs.Names.{kept_name}
use Rattle.archive_keepers.specs.declared.replaced.Replaced.{Replaced}
use Rattle.archive_keepers.specs.declared.replaced.Replaced.TheVariants.{Folder, Collection}

abbrev pub replaced_text : Replaced → List ℕ
replaced_text Folder = codes "not the folder that was opened"
replaced_text (Collection rules) = kept_name rules ++ codes " is not what was kept"
