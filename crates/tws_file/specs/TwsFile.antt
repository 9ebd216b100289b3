-- A file as contracts see it, without its layout in memory.
use Rattle.tws_file.specs.declared.tws_file.TwsFile.TheInside.{Inside}
use Rattle.tws_file.specs.Text.{File}

abbrev pub file_of : {A : Type 0} → Inside A → File
file_of file = record { «ruleset» = file.ruleset; word = file.word; extra = file.extra; records = file.records }
