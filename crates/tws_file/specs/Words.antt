-- Rulesets, bytes, passwords, levels and the faults of files in words, and a line of text.
use Rattle.std.specs.Prelude.{ℕ, ◌/◌, ◌%◌, false, List, [], ◌∷◌, ◌++◌, codes, decimal, if◌then◌else◌}
use Rattle.std.specs.List.{flat_map, list_all}
use Rattle.std.specs.Char.{is_ascii_alphabetic}
use Rattle.std.specs.Fmt.{digit_glyph}
use Rattle.tws_file.specs.declared.file_fault.FileFault.{FileFault}
use Rattle.tws_file.specs.declared.file_fault.FileFault.TheVariants as fault
use Rattle.tws_file.specs.declared.key.Key.{Key}
use Rattle.tws_file.specs.declared.«ruleset».Ruleset.{Ruleset}
use Rattle.tws_file.specs.declared.«ruleset».Ruleset.TheVariants.{Lynx, Ms}

abbrev pub ruleset_name : Ruleset → List ℕ
ruleset_name Lynx = codes "lynx"
ruleset_name Ms = codes "ms"

-- two lower-case hexadecimal digits
abbrev pub hex_byte : ℕ → List ℕ
hex_byte b = digit_glyph false (b / 16) ∷ digit_glyph false (b % 16) ∷ []

-- the bytes in order, each as two digits
abbrev pub hex : List ℕ → List ℕ
hex bytes = flat_map hex_byte bytes

-- four letters as they are, and other bytes as an x and their hexadecimal digits
abbrev pub password_text : List ℕ → List ℕ
password_text password = if list_all is_ascii_alphabetic password then password else codes "x" ++ hex password

-- a level's number and password
abbrev pub key_text : Key → List ℕ
key_text key = decimal key.number ++ codes " " ++ password_text key.password

-- a text, and a line feed after it
abbrev pub line : List ℕ → List ℕ
line text = text ++ 10 ∷ []

-- why a file is unreadable
abbrev pub fault_words : FileFault → List ℕ
fault_words (fault.ShortHeader len) = codes "the file ends inside its header, after " ++ (decimal len ++ codes " bytes")
fault_words fault.BadSignature = codes "the file does not begin with the bytes 35 33 9B 99"
fault_words (fault.BadRuleset byte) = codes "byte 4 is " ++ (decimal byte ++ codes ", which is not the code of a ruleset")
fault_words (fault.ShortRecord at) = codes "the file ends inside the record at byte " ++ decimal at
fault_words (fault.BadSize at) = codes "no record has the size at byte " ++ decimal at
fault_words (fault.MoveCut at) = codes "the moves end inside the move at byte " ++ decimal at
fault_words fault.Memory = codes "out of memory"
