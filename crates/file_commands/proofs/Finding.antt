-- What several arguments of `best` stand for, one after the other.
use Rattle.std.proofs.Common.{◌≡◌, ◌∙◌, ℕ, ◌+◌, ◌<◌, List, [], ◌∷◌, ◌++◌, length, take, map, get_or, Option, Global, String, ap, sym, subst, append_assoc, refl, string_bytes}
use Rattle.std.proofs.lemmas.List.{take_more, map-append, append-nil}
use Rattle.command_line.specs.declared.source.Source.{Source}
use Rattle.file_commands.specs.BestFiles.{AddsInputs, AddsNamed, AreNamed, IsNamed, StandFor, StandsFor}

-- one more file
named_more : (names : List (List ℕ)) (name : List ℕ) (sources : List Source) (source : Source) → AreNamed names sources → IsNamed name source → AreNamed (names ++ name ∷ []) (sources ++ source ∷ [])
named_more [] name [] source are is = (is, tt)
named_more [] name (s ∷ sources) source are is = absurd are
named_more (n ∷ names) name [] source are is = absurd are
named_more (n ∷ names) name (s ∷ sources) source are is = (are.0, named_more names name sources source are.1 is)

pub adds_more : (names : List (List ℕ)) (name : List ℕ) (before now after : List Source) (source : Source) → AddsNamed names before now → IsNamed name source → after ≡ now ++ source ∷ [] → AddsNamed (names ++ name ∷ []) before after
adds_more names name before now after source adds is after-is =
    (adds.0 ++ source ∷ [], after-is ∙ ap (λ (ss : List Source). ss ++ source ∷ []) adds.1 ∙ append_assoc before adds.0 (source ∷ []), named_more names name adds.0 source adds.2 is)

-- the same of a loop over the names
pub names_next : (names : List (String Global)) (i : ℕ) (name : String Global) (before now after : List Source) (source : Source) → i < length names → name ≡ get_or names i name →
    AddsNamed (map string_bytes (take i names)) before now → (text : List ℕ) → text ≡ string_bytes name → IsNamed text source → after ≡ now ++ source ∷ [] → AddsNamed (map string_bytes (take (i + 1) names)) before after
names_next names i name before now after source inside name-is adds text text-is is after-is =
    let whole : map string_bytes (take (i + 1) names) ≡ map string_bytes (take i names) ++ string_bytes name ∷ [] =
    ap (map string_bytes) (take_more names i name inside ∙ ap (λ (n : String Global). take i names ++ n ∷ []) (sym name-is)) ∙ map-append string_bytes (take i names) (name ∷ []) in
    subst (λ (ns : List (List ℕ)). AddsNamed ns before after) (sym whole)
    (adds_more (map string_bytes (take i names)) (string_bytes name) before now after source adds (subst (λ (t : List ℕ). IsNamed t source) text-is is) after-is)

-- one more argument
pub stand_more : (below_of : List ℕ → Option (Option (List (List ℕ)))) (files : List Source) (file : Source) (named n found f : List Source) →
    StandFor below_of files named found → StandsFor below_of file n f → StandFor below_of (files ++ file ∷ []) (named ++ n) (found ++ f)
stand_more below_of [] file named n found f stand stands =
    (n, [], f, [], ap (λ (ss : List Source). ss ++ n) stand.0 ∙ sym (append-nil n), ap (λ (ss : List Source). ss ++ f) stand.1 ∙ sym (append-nil f), stands, (refl, refl))
stand_more below_of (g ∷ files) file named n found f stand stands =
    let m = stand.1 in
    let h = stand.3 in (
      stand.0,
      m ++ n,
      stand.2,
      h ++ f,
      ap (λ (ss : List Source). ss ++ n) stand.4 ∙ append_assoc stand.0 m n,
      ap (λ (ss : List Source). ss ++ f) stand.5 ∙ append_assoc stand.2 h f,
      stand.6,
      stand_more below_of files file m n h f stand.7 stands,
    )

-- the same of a loop over the arguments
pub stand_next : (below_of : List ℕ → Option (Option (List (List ℕ)))) (files : List Source) (i : ℕ) (file : Source) (named after found later : List Source) → i < length files → file ≡ get_or files i file →
    StandFor below_of (take i files) named found → AddsInputs below_of file named after found later → StandFor below_of (take (i + 1) files) after later
stand_next below_of files i file named after found later inside file-is stand adds =
    let more = stand_more below_of (take i files) file named adds.0 found adds.1 stand adds.4 in
    let whole : take (i + 1) files ≡ take i files ++ file ∷ [] = take_more files i file inside ∙ ap (λ (f : Source). take i files ++ f ∷ []) (sym file-is) in
    subst (λ (fs : List Source). StandFor below_of fs after later) (sym whole)
    (subst (λ (ss : List Source). StandFor below_of (take i files ++ file ∷ []) ss later) (sym adds.2)
    (subst (λ (ss : List Source). StandFor below_of (take i files ++ file ∷ []) (named ++ adds.0) ss) (sym adds.3) more))
