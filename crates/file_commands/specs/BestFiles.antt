-- What the arguments of `best` stand for: a file for itself, and a folder for the solution files below it.
use Rattle.std.specs.Prelude.{◌≡◌, ◌⊎◌, ℕ, List, [], ◌∷◌, ◌++◌, length, Option, Some, None, IfSome, string_bytes}
use Rattle.command_line.specs.declared.source.Source.{Source}
use Rattle.command_line.specs.declared.source.Source.TheVariants.{Standard, Named}

-- the input is the file of this name
abbrev pub IsNamed : (name : List ℕ) → Source → Type 0
IsNamed name Standard = ⊥
IsNamed name (Named file) = string_bytes file ≡ name

-- the inputs are the files of these names
abbrev pub AreNamed : (names : List (List ℕ)) → List Source → Type 0
AreNamed [] [] = Unit {0}
AreNamed [] (source ∷ sources) = ⊥
AreNamed (name ∷ names) [] = ⊥
AreNamed (name ∷ names) (source ∷ sources) = IsNamed name source × AreNamed names sources

-- What a name stands for, given the files below it if they are known: inputs that count as named, and those that were found in
-- a folder. It is no folder's name, and stands for itself; or it stands for the files below the folder.
abbrev pub IsFile : (below : Option (Option (List (List ℕ)))) → (name : List ℕ) → (named found : List Source) → Type 0
IsFile below name named found = IfSome below (λ (known : Option (List (List ℕ))). known ≡ None) × AreNamed (name ∷ []) named × (found ≡ [])

abbrev pub IsFolder : (below : Option (Option (List (List ℕ)))) → (named found : List Source) → Type 0
IsFolder below named found = (files : List (List ℕ)) × IfSome below (λ (known : Option (List (List ℕ))). known ≡ Some files) × (named ≡ []) × AreNamed files found

abbrev pub NameStandsFor : (below : Option (Option (List (List ℕ)))) → (name : List ℕ) → (named found : List Source) → Type 0
NameStandsFor below name named found = IsFile below name named found ⊎ IsFolder below named found

-- the same of an argument
abbrev pub StandsFor : (below_of : List ℕ → Option (Option (List (List ℕ)))) → Source → (named found : List Source) → Type 0
StandsFor below_of Standard named found = (named ≡ Standard ∷ []) × (found ≡ [])
StandsFor below_of (Named name) named found = NameStandsFor (below_of (string_bytes name)) (string_bytes name) named found

-- the same of several, in order
abbrev pub StandFor : (below_of : List ℕ → Option (Option (List (List ℕ)))) → List Source → (named found : List Source) → Type 0
StandFor below_of [] named found = (named ≡ []) × (found ≡ [])
StandFor below_of (file ∷ files) named found =
    (n m f g : List Source) × (named ≡ n ++ m) × (found ≡ f ++ g) × StandsFor below_of file n f × StandFor below_of files m g

-- the inputs for which these arguments stand: first those that count as named, so many, and then those that were found
pub record AreInputs (below_of : List ℕ → Option (Option (List (List ℕ)))) (files : List Source) (sources : List Source) (count : ℕ) : Type 0 where
  pub named : List Source
  pub found : List Source
  pub stand : StandFor below_of files named found
  pub all : sources ≡ named ++ found
  pub count_is : count ≡ length named

-- ---- what is added to lists

-- the files of these names were added
abbrev pub AddsNamed : (names : List (List ℕ)) → (before after : List Source) → Type 0
AddsNamed names before after = (more : List Source) × (after ≡ before ++ more) × AreNamed names more

-- what a name stands for was added
abbrev pub AddsFiles : (below : Option (Option (List (List ℕ)))) → (name : List ℕ) → (before named old found : List Source) → Type 0
AddsFiles below name before named old found = (n f : List Source) × (named ≡ before ++ n) × (found ≡ old ++ f) × NameStandsFor below name n f

-- what an argument stands for was added
abbrev pub AddsInputs : (below_of : List ℕ → Option (Option (List (List ℕ)))) → Source → (before named old found : List Source) → Type 0
AddsInputs below_of file before named old found = (n f : List Source) × (named ≡ before ++ n) × (found ≡ old ++ f) × StandsFor below_of file n f
