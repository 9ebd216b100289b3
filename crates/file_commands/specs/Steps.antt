-- Definitions that only private functions cite.
use Rattle.std.specs.Prelude.{◌≡◌, ℕ, List, Option, string_bytes}
use Rattle.tws_file.specs.declared.«ruleset».Ruleset.{Ruleset}
use Rattle.tws_file.specs.Text.{File}
use Rattle.command_line.specs.declared.source.Source.{Source}
use Rattle.show_commands.specs.SeveralInputs.{AreFiles}
use Rattle.file_commands.specs.declared.notes.Notes.{Notes}
use Rattle.file_commands.specs.Notes.{Said, said_of}

-- what was said so far
abbrev pub said_in : Notes → Said
said_in notes = record { said_text = string_bytes notes.text; first_set = notes.first; rules_count = notes.rules_count; sets_count = notes.sets_count }

-- these inputs have files, of which that was said
abbrev pub AreNoted : (rules : Ruleset) → List Source → (named : ℕ) → (before after : Notes) → List (Option (List ℕ)) → Type 0
AreNoted rules sources named before after knowns = (files : List File) × AreFiles knowns files × (said_in after ≡ said_of rules sources named 0 (said_in before) files)
