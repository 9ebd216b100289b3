-- A folder in which collections are replaced at once: it shows that a folder can do what each run asks.
use Rattle.std.specs.Prelude.{◌≡◌, ◌⊎◌, ◌≤◌, ℕ, List, [], ◌∷◌, length, Option, Some}
use Rattle.std.proofs.Common.{inl, inr}
use Rattle.std.proofs.Math.Nat.{not-suc-le_self}
use Rattle.tws_file.specs.declared.«ruleset».Ruleset.{Ruleset}
use Rattle.tws_best.specs.Best.{collection_text}
use Rattle.folders.specs.Folder.{FolderModel}
use Rattle.archive_table.specs.Table.{Maps, map_of}
use Rattle.archive_keepers.specs.Names.{kept_name}

-- the collections that it has, and those that it had, the newest first
pub record PerfectFolder : Type 0 where
  pub now : Maps
  pub before : List Maps

-- under the name of each collection there is its text
abbrev pub HasText : Maps → (name : List ℕ) → Option (List ℕ) → Type 0
HasText maps name text = (rules : Ruleset) → name ≡ kept_name rules → text ≡ Some (collection_text (map_of rules maps))

-- there was this text since so many collections were replaced
abbrev pub HadText : ℕ → Maps → (before : List Maps) → (name : List ℕ) → Option (List ℕ) → Type 0
HadText count now [] name text = HasText now name text
HadText count now (last ∷ before) name text = HasText now name text ⊎ ((count ≤ length before) × HadText count last before name text)

pub had_now : (count : ℕ) (now : Maps) (before : List Maps) (name : List ℕ) (text : Option (List ℕ)) → HasText now name text →
    HadText count now before name text
had_now count now [] name text is = is
had_now count now (last ∷ before) name text is = inl is

pub had_only : (now : Maps) (before : List Maps) (name : List ℕ) (text : Option (List ℕ)) → HadText (length before) now before name text →
    HasText now name text
had_only now [] name text is = is
had_only now (last ∷ before) name text (inl is) = is
had_only now (last ∷ before) name text (inr earlier) = absurd (not-suc-le_self (length before) earlier.0)

abbrev pub perfect : FolderModel PerfectFolder
perfect = record {
  reads = λ f name text. HasText f.now name text;
  holds = λ f name text. HasText f.now name (Some text);
  leaves = λ f name text. HasText f.now name text;
  moment = λ f. length f.before;
  left_since = λ f count name text. HadText count f.now f.before name text;
  counts_now = λ f count name text le is. had_now count f.now f.before name text is;
  only_now = λ f name text past. had_only f.now f.before name text past;
}

-- a folder that has these collections from the start
abbrev pub perfect_with : Maps → PerfectFolder
perfect_with maps = record { now = maps; before = [] }
