-- Names of columns and rows, gathered one after the other and written as they grow large.
use Rattle.std.proofs.Common.{◌≡◌, ◌≢◌, ℕ, List, [], ◌∷◌, ◌++◌, Option, ap, subst, ◌∙◌, map, refl}
use Rattle.std.specs.List.{flat_map}
use Rattle.std.specs.Io.KnownBytes.{Appends}
use Rattle.byte_output.specs.Output.{Sends, AppendsPrefix}
use Rattle.byte_output.proofs.Sending.{all_sent, prefix_then}
use Rattle.tws_tables.specs.Csv.{csv_line, csv_names}

-- what was gathered is written, as the bytes of a text
module _ (old mid new : Option (List ℕ)) (whole text bytes : List ℕ) (bytes-is : bytes ≡ text) (gathered : Sends old mid whole text) where
  pub whole_written : Appends mid new bytes → Appends old new whole
  whole_written p = all_sent old mid new whole text gathered (subst (λ (x : List ℕ). Appends mid new x) bytes-is p)

  pub whole_failed : AppendsPrefix mid new bytes → AppendsPrefix old new whole
  whole_failed p = prefix_then old mid new whole text gathered (subst (λ (x : List ℕ). AppendsPrefix mid new x) bytes-is p)

pub names_some : (rows : List ℕ) → csv_line csv_names ++ rows ≢ []
names_some rows none = absurd cc

-- the names of the columns were gathered first, and then the rows
pub names_gathered : (old mid : Option (List ℕ)) (rows empty pushed text : List ℕ) → empty ≡ [] → pushed ≡ empty ++ csv_line csv_names →
    Sends old mid (pushed ++ rows) text → Sends old mid (csv_line csv_names ++ rows) text
names_gathered old mid rows empty pushed text empty-is pushed-is s =
    subst (λ (x : List ℕ). Sends old mid (x ++ rows) text) (pushed-is ∙ ap (λ (x : List ℕ). x ++ csv_line csv_names) empty-is) s

-- the lines of what the members of a list become
pub lines_of_map : {X Y : Type 0} (line : Y → List ℕ) (f : X → Y) (xs : List X) → flat_map (λ (x : X). line (f x)) xs ≡ flat_map line (map f xs)
lines_of_map line f [] = refl
lines_of_map line f (x ∷ xs) = ap (λ (ys : List ℕ). line (f x) ++ ys) (lines_of_map line f xs)
