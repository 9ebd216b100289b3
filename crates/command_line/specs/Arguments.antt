-- The arguments that several commands share, as `clap` reads them, and what was given for an argument.
use Rattle.std.specs.Prelude.{◌≡◌, ◌≢◌, ◌≤◌, ℕ, Bool, true, false, List, [], ◌∷◌, map, unwrap_or, Option, Some, None, string_bytes, codes}
use Rattle.std.specs.Borrow.{Bor}
use Rattle.std.specs.Str.Parse.{IsNumeral, digits_value, without_leading_plus}
use Rattle.clap.specs.Lexer.{usize_max}
use Rattle.clap.specs.Walk.{all_of}
use Rattle.clap.specs.Words.{Row, Rule, Text, first_of, new_rule, one_of}
use Rattle.clap.specs.declared.builder.value_parser.ValueParser.TheVariants as parser
use Rattle.tws_file.specs.declared.«ruleset».Ruleset.{Ruleset}
use Rattle.tws_file.specs.Words.{ruleset_name}
use Rattle.command_line.specs.declared.source.Source.{Source}
use Rattle.command_line.specs.declared.source.Source.TheVariants.{Standard, Named}

-- ---- the arguments

-- references to the names of the rulesets
abbrev pub RulesetNames : Type 0
RulesetNames = Bor (List (Bor Text))

abbrev pub AreRulesetNames : RulesetNames → Type 0
AreRulesetNames names = map (λ name. name.now) names.now ≡ codes "lynx" ∷ codes "ms" ∷ []

-- `RULESET`
abbrev pub ruleset_rule : RulesetNames → Rule
ruleset_rule names = record (new_rule (codes "ruleset")) { value_names = 1; parser = Some (parser.Names names); required = true }

-- `[FILE]`
abbrev pub source_rule : Rule
source_rule = record (new_rule (codes "file")) { value_names = 1 }

-- `FILE..`
abbrev pub files_rule : Rule
files_rule = record (new_rule (codes "files")) { value_names = 1; range = Some (record { start_inclusive = 1; end_inclusive = usize_max }); required = true }

-- ---- what was given

-- what is asked for, or nothing if nothing is
abbrev pub Answers : {T : Type 0} → (T → Type 0) → Option T → Type 0
Answers Asks (Some x) = Asks x
Answers {T} Asks None = (x : T) → Asks x → ⊥

-- whether a flag is set, by the text of its entry
abbrev pub IsFlag : Option Text → Bool → Type 0
IsFlag text flag = (text ≡ Some (codes "true") → flag ≡ true) × (text ≡ Some (codes "false") → flag ≡ false) × (text ≡ None → flag ≡ false)

abbrev pub HasFlag : Rule → List Row → Bool → Type 0
HasFlag rule rows flag = IsFlag (one_of rule.id rows) flag

-- the text is a number from 1 to `most`
pub record IsNumberUpTo (most : ℕ) (text : Text) (n : ℕ) : Type 0 where
  pub numeral : IsNumeral 10 (without_leading_plus text)
  pub value : n ≡ digits_value 10 (without_leading_plus text)
  pub least : 1 ≤ n
  pub greatest : n ≤ most

abbrev pub HasRuleset : List Row → Ruleset → Type 0
HasRuleset rows rules = first_of (codes "ruleset") rows ≡ Some (ruleset_name rules)

-- standard input if no file was named, or `-`
abbrev pub IsSource : Option Text → Source → Type 0
IsSource None Standard = Unit {0}
IsSource None (Named file) = ⊥
IsSource (Some name) Standard = name ≡ codes "-"
IsSource (Some name) (Named file) = (name ≡ string_bytes file) × (name ≢ codes "-")

abbrev pub HasSource : List Row → Source → Type 0
HasSource rows source = IsSource (first_of source_rule.id rows) source

-- the inputs of these names
abbrev pub AreSources : (names : List Text) → List Source → Type 0
AreSources [] [] = Unit {0}
AreSources [] (source ∷ sources) = ⊥
AreSources (name ∷ names) [] = ⊥
AreSources (name ∷ names) (source ∷ sources) = IsSource (Some name) source × AreSources names sources

-- the inputs that were named, in order
abbrev pub HasSources : List Row → List Source → Type 0
HasSources rows sources = AreSources (unwrap_or (all_of files_rule.id rows) []) sources
