-- The texts of records, as the lines of a list.
use Rattle.std.proofs.Common.{◌≡◌, ℕ, zero, suc, ◌<◌, List, [], ◌∷◌, ◌++◌, length, get_or, ap, sym, subst, ◌∙◌, append-nil, arith}
use Rattle.std.specs.List.{flat_map, AllByRecursion}
use Rattle.std.proofs.lemmas.List.{map-append}
use Rattle.std.proofs.lemmas.List.Concat.{flat_map-append}
use Rattle.tws_file.specs.declared.record.Record as stored
use Rattle.tws_file.specs.Text.{IsRecord, record_text}
use Rattle.tws_file.specs.Record.{record_of, records_of}

-- the texts of records
module _ {A : Type 0} where
  -- the texts of these records
  abbrev pub texts : List (stored.Record A) → List ℕ
  texts rs = flat_map record_text (records_of rs)

  abbrev pub text_of_record : stored.Record A → List ℕ
  text_of_record r = record_text (record_of r)

  pub texts-append : (xs ys : List (stored.Record A)) → texts (xs ++ ys) ≡ texts xs ++ texts ys
  texts-append xs ys = ap (flat_map record_text) (map-append record_of xs ys) ∙ flat_map-append record_text (records_of xs) (records_of ys)

  pub texts-one : (r : stored.Record A) → texts (r ∷ []) ≡ text_of_record r
  texts-one r = append-nil (text_of_record r)

  -- a record within the list has a text
  record_at : (rs : List (stored.Record A)) (i : ℕ) (r : stored.Record A) → AllByRecursion IsRecord (records_of rs) → i < length rs → IsRecord (record_of (get_or rs i r))
  record_at [] i r fits inside = absurd (omega arith)
  record_at (x ∷ rs) zero r fits inside = fits.0
  record_at (x ∷ rs) (suc i) r fits inside = record_at rs i r fits.1 (omega (arith, inside))

  -- a record of a list whose records all have a text
  pub item_fits : (rs : List (stored.Record A)) (i : ℕ) (r : stored.Record A) → AllByRecursion IsRecord (records_of rs) → i < length rs → r ≡ get_or rs i r → IsRecord (record_of r)
  item_fits rs i r fits inside r-is = subst (λ (x : stored.Record A). IsRecord (record_of x)) (sym r-is) (record_at rs i r fits inside)

-- a text of two parts after nothing
pub after_nothing : (start slice head tail text : List ℕ) → start ≡ [] → slice ≡ head → head ++ tail ≡ text → start ++ (slice ++ tail) ≡ text
after_nothing start slice head tail text start-is slice-is text-is = rw (start-is, slice-is) text-is
