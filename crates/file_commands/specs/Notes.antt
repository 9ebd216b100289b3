-- What is said of several files on standard error: which is of another ruleset, and which names another level set than the
-- first that names one; of those that were found in folders only how many.
use Rattle.std.specs.Prelude.{ℕ, zero, suc, ◌+◌, nat_eq, nat_lt, Bool, true, false, List, [], ◌∷◌, ◌++◌, Option, Some, None, codes, decimal, string_bytes}
use Rattle.std.specs.Str.{bytes_eq}
use Rattle.tws_file.specs.declared.«ruleset».Ruleset.{Ruleset}
use Rattle.tws_file.specs.declared.«ruleset».Ruleset.TheVariants.{Lynx, Ms}
use Rattle.tws_file.specs.Text.{File}
use Rattle.tws_file.specs.Words.{line, ruleset_name}
use Rattle.tws_pages.specs.SetName.{set_name_of, shown_name}
use Rattle.command_line.specs.declared.source.Source.{Source}
use Rattle.command_line.specs.declared.source.Source.TheVariants.{Standard, Named}
use Rattle.command_line.specs.declared.tool_fault.ToolFault.{ToolFault}
use Rattle.command_line.specs.declared.tool_fault.ToolFault.TheVariants.{Read, Write, Unreadable, Memory, Socket, Transfer}

-- nothing if this holds, and otherwise the text
abbrev pub unless : Bool → List ℕ → List ℕ
unless true words = []
unless false words = words

-- none if this holds, and otherwise one
abbrev pub one_unless : Bool → ℕ
one_unless true = 0
one_unless false = 1

-- why nothing, or not all, was said
abbrev pub IsSayFault : ToolFault → Type 0
IsSayFault Read = ⊥
IsSayFault Write = Unit {0}
IsSayFault (Unreadable index fault) = ⊥
IsSayFault Memory = Unit {0}
IsSayFault Socket = ⊥
IsSayFault (Transfer why) = ⊥

-- ---- the lines

-- an input as lines about it name it
abbrev pub source_text : Source → List ℕ
source_text Standard = codes "standard input"
source_text (Named name) = string_bytes name

-- the same of the input with this index
abbrev pub name_at : List Source → ℕ → List ℕ
name_at [] index = codes "standard input"
name_at (source ∷ sources) zero = source_text source
name_at (source ∷ sources) (suc index) = name_at sources index

-- the file of this name is of this ruleset, which is not the one that was asked for
abbrev pub ruleset_line : (name : List ℕ) → Ruleset → List ℕ
ruleset_line name rules = codes "tws: " ++ (name ++ (codes ": the file is of the ruleset " ++ line (ruleset_name rules)))

-- the level set that a file names, by the name of the file
pub record SetNaming : Type 0 where
  pub by_file : List ℕ
  pub named : List ℕ

-- the file of this name names another level set than the first that names one
abbrev pub set_line : (first : SetNaming) → (name other : List ℕ) → List ℕ
set_line first name other = codes "tws: " ++ (name ++ (codes ": the file is of the level set " ++ (shown_name other ++ (codes ", and " ++ (first.by_file ++ (codes " of " ++ line (shown_name first.named)))))))

-- so many files in folders are of this ruleset, which is not the one that was asked for
abbrev pub rulesets_line : Ruleset → (count : ℕ) → List ℕ
rulesets_line rules count = codes "tws: files of the ruleset " ++ (ruleset_name rules ++ (codes " in folders: " ++ line (decimal count)))

-- so many files in folders name another level set than the first that names one
abbrev pub sets_line : (first : SetNaming) → (count : ℕ) → List ℕ
sets_line first count = codes "tws: files of another level set than " ++ (shown_name first.named ++ (codes " of " ++ (first.by_file ++ (codes " in folders: " ++ line (decimal count)))))

-- ---- a file after others

abbrev pub ruleset_note : (rules its : Ruleset) → (name : List ℕ) → List ℕ
ruleset_note Lynx Lynx name = []
ruleset_note Lynx Ms name = ruleset_line name Ms
ruleset_note Ms Lynx name = ruleset_line name Lynx
ruleset_note Ms Ms name = []

-- the level set that a file names, if it is of this ruleset
abbrev pub set_in : (rules its : Ruleset) → Option (List ℕ) → Option (List ℕ)
set_in Lynx Lynx other = other
set_in Lynx Ms other = None
set_in Ms Lynx other = None
set_in Ms Ms other = other

abbrev pub set_note : Option SetNaming → (name : List ℕ) → (other : Option (List ℕ)) → List ℕ
set_note None name None = []
set_note None name (Some other) = []
set_note (Some first) name None = []
set_note (Some first) name (Some other) = unless (bytes_eq first.named other) (set_line first name other)

-- the first file that names a level set, once this one came
abbrev pub first_naming : Option SetNaming → (name : List ℕ) → (other : Option (List ℕ)) → Option SetNaming
first_naming None name None = None
first_naming None name (Some other) = Some (record { by_file = name; named = other })
first_naming (Some first) name other = Some first

-- ---- a file in a folder after others

-- whether it is of the other ruleset, as a number
abbrev pub other_rules : (rules its : Ruleset) → ℕ
other_rules Lynx Lynx = 0
other_rules Lynx Ms = 1
other_rules Ms Lynx = 1
other_rules Ms Ms = 0

-- whether it names another level set, as a number
abbrev pub other_sets : Option SetNaming → (other : Option (List ℕ)) → ℕ
other_sets None None = 0
other_sets None (Some other) = 0
other_sets (Some first) None = 0
other_sets (Some first) (Some other) = one_unless (bytes_eq first.named other)

-- what is said of so many that are of the other ruleset
abbrev pub rulesets_note : (rules : Ruleset) → (count : ℕ) → List ℕ
rulesets_note Lynx count = unless (nat_eq count 0) (rulesets_line Ms count)
rulesets_note Ms count = unless (nat_eq count 0) (rulesets_line Lynx count)

-- what is said of so many that name another level set
abbrev pub other_sets_note : Option SetNaming → (count : ℕ) → List ℕ
other_sets_note None count = []
other_sets_note (Some first) count = unless (nat_eq count 0) (sets_line first count)

-- ---- several files

-- what was said of files, the first of them that names a level set, and how many in folders are of the other ruleset or name
-- another level set
pub record Said : Type 0 where
  pub said_text : List ℕ
  pub first_set : Option SetNaming
  pub rules_count : ℕ
  pub sets_count : ℕ

-- after one more: a file of another ruleset is not asked for its level set
abbrev pub said_after : (rules : Ruleset) → Said → (name : List ℕ) → File → Said
said_after rules said name file = record {
  said_text = (said.said_text ++ ruleset_note rules file.ruleset name) ++ set_note said.first_set name (set_in rules file.ruleset (set_name_of file));
  first_set = first_naming said.first_set name (set_in rules file.ruleset (set_name_of file));
  rules_count = said.rules_count;
  sets_count = said.sets_count;
}

-- after one more that was found in a folder
abbrev pub counted_after : (rules : Ruleset) → Said → (name : List ℕ) → File → Said
counted_after rules said name file = record {
  said_text = said.said_text;
  first_set = first_naming said.first_set name (set_in rules file.ruleset (set_name_of file));
  rules_count = said.rules_count + other_rules rules file.ruleset;
  sets_count = said.sets_count + other_sets said.first_set (set_in rules file.ruleset (set_name_of file));
}

-- after one more, by whether it was named
abbrev pub noted_after : (is_named : Bool) → (rules : Ruleset) → Said → (name : List ℕ) → File → Said
noted_after true rules said name file = said_after rules said name file
noted_after false rules said name file = counted_after rules said name file

-- after the files from the inputs with this index and the next ones, of which those up to `named` were named
abbrev pub said_of : (rules : Ruleset) → List Source → (named index : ℕ) → Said → List File → Said
said_of rules sources named index said [] = said
said_of rules sources named index said (file ∷ files) =
    said_of rules sources named (index + 1) (noted_after (nat_lt index named) rules said (name_at sources index) file) files

abbrev pub nothing_said : Said
nothing_said = record { said_text = []; first_set = None; rules_count = 0; sets_count = 0 }

-- what is said in the end
abbrev pub said_in_all : (rules : Ruleset) → Said → List ℕ
said_in_all rules said = (said.said_text ++ rulesets_note rules said.rules_count) ++ other_sets_note said.first_set said.sets_count

-- what is said of the files from all inputs, of which the first were named
abbrev pub files_note : (rules : Ruleset) → List Source → (named : ℕ) → List File → List ℕ
files_note rules sources named files = said_in_all rules (said_of rules sources named 0 nothing_said files)

-- what is said of two files of one ruleset with these names
abbrev pub sets_note : (mine_name : List ℕ) (mine : File) (theirs_name : List ℕ) (theirs : File) → List ℕ
sets_note mine_name mine theirs_name theirs = set_note (first_naming None mine_name (set_name_of mine)) theirs_name (set_name_of theirs)
