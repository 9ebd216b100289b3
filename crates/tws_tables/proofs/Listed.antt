-- The lines of moves, and the listings of records, each as the lines of a list.
use Rattle.std.proofs.Common.{◌≡◌, ℕ, List, [], ◌∷◌, ◌++◌, Bool, ap, ◌∙◌, append-nil}
use Rattle.std.specs.List.{flat_map}
use Rattle.std.proofs.lemmas.List.{map-append}
use Rattle.std.proofs.lemmas.List.Concat.{flat_map-append}
use Rattle.tws_moves.specs.Move.{Move}
use Rattle.tws_file.specs.declared.record.Record as stored
use Rattle.tws_file.specs.Record.{record_of, records_of}
use Rattle.tws_tables.specs.Listing.{move_line, record_lines}

-- ---- of moves

-- the lines of these moves
abbrev pub of_moves : List Move → List ℕ
of_moves moves = flat_map move_line moves

pub of_moves-append : (xs ys : List Move) → of_moves (xs ++ ys) ≡ of_moves xs ++ of_moves ys
of_moves-append xs ys = flat_map-append move_line xs ys

pub of_moves-one : (m : Move) → of_moves (m ∷ []) ≡ move_line m
of_moves-one m = append-nil (move_line m)

-- ---- of records

-- the listing of records, with or without their moves
module _ {A : Type 0} (with_moves : Bool) where
  -- the lines of these records
  abbrev pub of_records : List (stored.Record A) → List ℕ
  of_records rs = flat_map (record_lines with_moves) (records_of rs)

  -- the lines of one record
  abbrev pub of_record : stored.Record A → List ℕ
  of_record r = record_lines with_moves (record_of r)

  pub of_records-append : (xs ys : List (stored.Record A)) → of_records (xs ++ ys) ≡ of_records xs ++ of_records ys
  of_records-append xs ys = ap (flat_map (record_lines with_moves)) (map-append record_of xs ys) ∙ flat_map-append (record_lines with_moves) (records_of xs) (records_of ys)

  pub of_records-one : (r : stored.Record A) → of_records (r ∷ []) ≡ of_record r
  of_records-one r = append-nil (of_record r)
