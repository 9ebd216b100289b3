-- What was said of several files, one after the other.
use Rattle.std.specs.Str.{bytes_eq}
use Rattle.std.proofs.Common.{Bool, true, false, nat_lt, Some, ◌≡◌, ◌∙◌, ℕ, zero, suc, ◌+◌, ◌<◌, ◌≤◌, List, [], ◌∷◌, ◌++◌, length, take, map, get_or, Option, None, IfSome, refl, ap, sym, subst, arith, codes, string_bytes}
use Rattle.std.proofs.Math.Seq.{take-length}
use Rattle.std.proofs.lemmas.List.{length-map, length-take}
use Rattle.tws_file.specs.declared.«ruleset».Ruleset.{Ruleset}
use Rattle.tws_file.specs.declared.«ruleset».Ruleset.TheVariants.{Lynx, Ms}
use Rattle.tws_file.specs.Text.{File, IsText}
use Rattle.command_line.specs.declared.source.Source.{Source}
use Rattle.tws_pages.specs.SetName.{set_name_of}
use Rattle.command_line.specs.Saying.{Says}
use Rattle.show_commands.specs.Saying.{SaysOfFiles}
use Rattle.show_commands.specs.SeveralInputs.{AreFiles}
use Rattle.show_commands.proofs.Collecting.{files_more}
use Rattle.file_commands.specs.declared.notes.Notes.{Notes}
use Rattle.file_commands.specs.Notes.{Said, SetNaming, files_note, name_at, noted_after, nothing_said, one_unless, other_rules, other_sets, said_in_all, said_of, set_in, source_text}
use Rattle.file_commands.specs.Steps.{AreNoted, said_in}

-- the name of an input that there is
pub name_there : (sources : List Source) (i : ℕ) (source : Source) → i < length sources → source ≡ get_or sources i source → source_text source ≡ name_at sources i
name_there [] i source inside is = absurd (omega (arith, inside))
name_there (s ∷ sources) zero source inside is = ap source_text is
name_there (s ∷ sources) (suc i) source inside is = name_there sources i source (omega (arith, inside)) is

pub name_beyond : (sources : List Source) (i : ℕ) → length sources ≤ i → codes "standard input" ≡ name_at sources i
name_beyond [] i beyond = refl
name_beyond (s ∷ sources) zero beyond = absurd (omega (arith, beyond))
name_beyond (s ∷ sources) (suc i) beyond = name_beyond sources i (omega (arith, beyond))

-- one more file
pub said_more : (rules : Ruleset) (sources : List Source) (named i : ℕ) (said : Said) (files : List File) (file : File) →
    said_of rules sources named i said (files ++ file ∷ []) ≡ noted_after (nat_lt (i + length files) named) rules (said_of rules sources named i said files) (name_at sources (i + length files)) file
said_more rules sources named i said [] file =
    let at : i ≡ i + 0 = omega arith in
    ap (λ (n : ℕ). noted_after (nat_lt n named) rules said (name_at sources n) file) at
said_more rules sources named i said (f ∷ files) file =
    let at : i + 1 + length files ≡ i + length (f ∷ files) = omega arith in
    let before = noted_after (nat_lt i named) rules said (name_at sources i) f in
    said_more rules sources named (i + 1) before files file
    ∙ ap (λ (n : ℕ). noted_after (nat_lt n named) rules (said_of rules sources named (i + 1) before files) (name_at sources n) file) at

-- ---- how many were counted

one_unless_few : (it : Bool) → one_unless it ≤ 1
one_unless_few true = omega arith
one_unless_few false = omega arith

other_rules_few : (rules its : Ruleset) → other_rules rules its ≤ 1
other_rules_few Lynx Lynx = omega arith
other_rules_few Lynx Ms = omega arith
other_rules_few Ms Lynx = omega arith
other_rules_few Ms Ms = omega arith

other_sets_few : (first : Option SetNaming) (other : Option (List ℕ)) → other_sets first other ≤ 1
other_sets_few None None = omega arith
other_sets_few None (Some other) = omega arith
other_sets_few (Some first) None = omega arith
other_sets_few (Some first) (Some other) = one_unless_few (bytes_eq first.named other)

-- each count rises by at most one
rules_rise : (is_named : Bool) (rules : Ruleset) (said : Said) (name : List ℕ) (file : File) → (noted_after is_named rules said name file).rules_count ≤ said.rules_count + 1
rules_rise true rules said name file = omega arith
rules_rise false rules said name file = omega (arith, other_rules_few rules file.ruleset)

sets_rise : (is_named : Bool) (rules : Ruleset) (said : Said) (name : List ℕ) (file : File) → (noted_after is_named rules said name file).sets_count ≤ said.sets_count + 1
sets_rise true rules said name file = omega arith
sets_rise false rules said name file = omega (arith, other_sets_few said.first_set (set_in rules file.ruleset (set_name_of file)))

module _ (is_named : Bool) (rules : Ruleset) (now after : Notes) (name : List ℕ) (file : File) (i : ℕ) (taken : said_in after ≡ noted_after is_named rules (said_in now) name file) where
  pub rules_few : now.rules_count ≤ i → after.rules_count ≤ i + 1
  rules_few few =
      let same : after.rules_count ≡ (noted_after is_named rules (said_in now) name file).rules_count = ap (λ (s : Said). s.rules_count) taken in
      omega (arith, few, same, rules_rise is_named rules (said_in now) name file)

  pub sets_few : now.sets_count ≤ i → after.sets_count ≤ i + 1
  sets_few few =
      let same : after.sets_count ≡ (noted_after is_named rules (said_in now) name file).sets_count = ap (λ (s : Said). s.sets_count) taken in
      omega (arith, few, same, sets_rise is_named rules (said_in now) name file)

-- ---- notes of the files in inputs

are_count : (knowns : List (Option (List ℕ))) (files : List File) → AreFiles knowns files → length files ≡ length knowns
are_count [] [] are = refl
are_count [] (f ∷ files) are = absurd are
are_count (k ∷ knowns) [] are = absurd are
are_count (k ∷ knowns) (f ∷ files) are = ap suc (are_count knowns files are.1)

-- how many of the inputs come before one of them
pub known_count : {R : Type 0} (reported : R → Option (List ℕ)) (inputs : List R) (i : ℕ) → i < length inputs → length (map reported (take i inputs)) ≡ i
known_count reported inputs i inside = length-map (take i inputs) reported ∙ omega (arith, length-take i inputs, inside)

module _ (rules : Ruleset) (sources : List Source) (named : ℕ) (before : Notes) where
  pub noted_none : AreNoted rules sources named before before []
  noted_none = ([], tt, refl)

  -- one more input, whose file was added
  pub noted_more : (now after : Notes) (knowns : List (Option (List ℕ))) (known : Option (List ℕ)) (file : File) (i : ℕ) → length knowns ≡ i →
      AreNoted rules sources named before now knowns → IfSome known (λ (bytes : List ℕ). IsText bytes file) → said_in after ≡ noted_after (nat_lt i named) rules (said_in now) (name_at sources i) file →
      AreNoted rules sources named before after (knowns ++ known ∷ [])
  noted_more now after knowns known file i size noted text added =
      let files = noted.0 in
      let at : i ≡ 0 + length files = omega (arith, size, are_count knowns files noted.1) in (
        files ++ file ∷ [],
        files_more knowns files (files ++ file ∷ []) known file noted.1 text refl,
        added
            ∙ ap (λ (s : Said). noted_after (nat_lt i named) rules s (name_at sources i) file) noted.2
            ∙ ap (λ (n : ℕ). noted_after (nat_lt n named) rules (said_of rules sources named 0 (said_in before) files) (name_at sources n) file) at
            ∙ sym (said_more rules sources named 0 (said_in before) files file),
      )

  -- all inputs were noted
  pub all_noted : {R : Type 0} (reported : R → Option (List ℕ)) (inputs : List R) (i : ℕ) (after : Notes) → i ≡ length inputs →
      AreNoted rules sources named before after (map reported (take i inputs)) → AreNoted rules sources named before after (map reported inputs)
  all_noted {R} reported inputs i after end noted =
      subst (λ (xs : List R). AreNoted rules sources named before after (map reported xs)) (ap (λ (n : ℕ). take n inputs) end ∙ take-length inputs) noted

  -- what was noted was said
  pub noted_said : (after : Notes) (knowns : List (Option (List ℕ))) (words : List ℕ) (Silent : Type 0) (old new : Option (List ℕ)) → said_in before ≡ nothing_said →
      AreNoted rules sources named before after knowns → words ≡ said_in_all rules (said_in after) → Says words Silent old new → SaysOfFiles (files_note rules sources named) Silent knowns old new
  noted_said after knowns words Silent old new start noted words-is said =
      let same : words ≡ files_note rules sources named noted.0 =
      words-is ∙ ap (said_in_all rules) noted.2 ∙ ap (λ (s : Said). said_in_all rules (said_of rules sources named 0 s noted.0)) start in
      (noted.0, noted.1, subst (λ (w : List ℕ). Says w Silent old new) same said)

-- new notes say nothing
pub nothing_noted : (notes : Notes) → string_bytes notes.text ≡ [] → notes.first ≡ None → notes.rules_count ≡ 0 → notes.sets_count ≡ 0 → said_in notes ≡ nothing_said
nothing_noted notes empty none no_rules no_sets =
    let make : List ℕ → Option SetNaming → ℕ → ℕ → Said = λ words first rules sets. record { said_text = words; first_set = first; rules_count = rules; sets_count = sets } in
    let whole : make (string_bytes notes.text) notes.first notes.rules_count notes.sets_count ≡ make [] None 0 0 =
    ap (λ (w : List ℕ). make w notes.first notes.rules_count notes.sets_count) empty ∙ ap (λ (f : Option SetNaming). make [] f notes.rules_count notes.sets_count) none
    ∙ ap (λ (n : ℕ). make [] None n notes.sets_count) no_rules ∙ ap (make [] None 0) no_sets in
    whole
