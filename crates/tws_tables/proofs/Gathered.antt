-- The rows of records, as the lines of a list.
use Rattle.std.proofs.Common.{◌≡◌, ◌≢◌, ℕ, List, [], ◌∷◌, ◌++◌, length, ap, ◌∙◌, arith, length-append, refl}
use Rattle.std.specs.List.{flat_map}
use Rattle.std.proofs.lemmas.List.{map-append}
use Rattle.std.proofs.lemmas.List.Concat.{flat_map-append}
use Rattle.tws_file.specs.declared.record.Record as stored
use Rattle.tws_file.specs.Words.{line}
use Rattle.tws_file.specs.Record.{record_of, records_of}
use Rattle.tws_file.specs.Text.{Solution}
use Rattle.tws_tables.specs.Solved.{rows_by, solved, solutions_in}

-- a line is not empty
pub line_some : (text : List ℕ) → line text ≢ []
line_some text none = omega (arith, ap length none, length-append text (10 ∷ []))

module _ {A : Type 0} (row : Solution → List ℕ) where
  -- the rows of these records
  abbrev pub of_records : List (stored.Record A) → List ℕ
  of_records rs = rows_by row (records_of rs)

  -- the row of a record, if it has one
  abbrev pub of_record : stored.Record A → List ℕ
  of_record r = rows_by row (record_of r ∷ [])

  pub of_records-append : (xs ys : List (stored.Record A)) → of_records (xs ++ ys) ≡ of_records xs ++ of_records ys
  of_records-append xs ys =
      ap (rows_by row) (map-append record_of xs ys) ∙
      ap (flat_map row) (flat_map-append solved (records_of xs) (records_of ys)) ∙
      flat_map-append row (solutions_in (records_of xs)) (solutions_in (records_of ys))

  pub of_records-one : (r : stored.Record A) → of_records (r ∷ []) ≡ of_record r
  of_records-one r = refl
