-- The solutions among records, one more at a time.
use Rattle.std.proofs.Common.{◌≡◌, ℕ, ◌+◌, ◌<◌, List, [], ◌∷◌, ◌++◌, length, take, get_or, ap, sym, ◌∙◌, append-nil}
use Rattle.std.proofs.lemmas.List.{map-append, take_more}
use Rattle.std.proofs.lemmas.List.Concat.{flat_map-append}
use Rattle.tws_file.specs.declared.record.Record as stored
use Rattle.tws_file.specs.Record.{record_of, records_of}
use Rattle.tws_file.specs.Text.{Solution}
use Rattle.tws_tables.specs.Solved.{solved, solutions_in}

module _ {A : Type 0} where
  -- the solutions among the first records, and the next one
  pub solutions_more : (rs : List (stored.Record A)) (i : ℕ) (r : stored.Record A) → i < length rs → r ≡ get_or rs i r →
      solutions_in (records_of (take (i + 1) rs)) ≡ solutions_in (records_of (take i rs)) ++ solved (record_of r)
  solutions_more rs i r inside r-is =
      ap (λ (xs : List (stored.Record A)). solutions_in (records_of xs))
      (take_more rs i r inside ∙ ap (λ (y : stored.Record A). take i rs ++ y ∷ []) (sym r-is)) ∙
      ap solutions_in (map-append record_of (take i rs) (r ∷ [])) ∙
      flat_map-append solved (records_of (take i rs)) (record_of r ∷ []) ∙
      ap (λ (xs : List Solution). solutions_in (records_of (take i rs)) ++ xs) (append-nil (solved (record_of r)))
