-- What a record makes of a folder.
use Rattle.std.proofs.Common.{◌≡◌, ◌≢◌, ◌<◌, ◌+◌, ◌%◌, ◌==◌, ◌&&◌, nat_lt, ℕ, zero, suc, Bool, true, false, List, [], ◌∷◌, ◌++◌, slice_index, get_or, None, Some, Result, Ok, Err, IfErr, ⊎_elim, refl, ap, sym, subst, ◌∙◌, arith, eq-or-lt_of_le}
use Rattle.std.proofs.lemmas.Bool.Decides.{nat_tests}
use Rattle.std.specs.List.{list_all}
use Rattle.std.specs.Prelude.{codes, decimal, if◌then◌else◌}
use Rattle.hex.specs.Hex.{encode_lower, encode_with, lower_digits}
use Rattle.folders.specs.Folder.{FolderModel, Only, Stays}
use Rattle.folders.proofs.Steps.{stays_then}
use Rattle.archive_history.specs.History.{Adds, AddsNothing, HasCopy, HasNoFreeName, LeavesAll, Records, RecordsForGood, draft_of, numbered}
use Rattle.archive_history.specs.Markers.{IsMarker, marker_of, name_in_day}
use Rattle.archive_history.specs.Steps.{IsRecordedAs}

-- what holds below a number and of it holds below the next
pub below_next : (P : ℕ → Type 0) (n : ℕ) → ((k : ℕ) → k < n → P k) → P n → (k : ℕ) → k < n + 1 → P k
below_next P n below at k lt = ⊎_elim (λ is. subst P (sym is) at) (λ less. below k less) (eq-or-lt_of_le (omega (arith, lt)))

-- whichever the error is
pub on_any_error : {T E : Type 0} (r : Result T E) (e : E) (P : Type 0) → P → IfErr r (λ d. d ≢ e → P)
on_any_error (Ok x) e P p = tt
on_any_error (Err d) e P p = λ _. p

-- what holds of a day and a stem
pub on_day : (P : (day stem : List ℕ) → Type 0) {day day' stem stem' : List ℕ} → day ≡ day' → stem ≡ stem' → P day stem → P day' stem'
on_day P {day} {day'} {stem} {stem'} day-is stem-is p = subst (P day') stem-is (subst (λ (d : List ℕ). P d stem) day-is p)

-- ---- names

-- the last byte of a text, or one before it
abbrev last_or : (before : ℕ) → List ℕ → ℕ
last_or before [] = before
last_or before (b ∷ bs) = last_or b bs

last-append : (before b : ℕ) (xs bs : List ℕ) → last_or before (xs ++ b ∷ bs) ≡ last_or b bs
last-append before b [] bs = refl
last-append before b (x ∷ xs) bs = last-append x b xs bs

both_true : (a b : Bool) → (a && b) ≡ true → (a ≡ true) × (b ≡ true)
both_true true true is = (refl, refl)
both_true true false is = absurd cc
both_true false b is = absurd cc

-- a digit of a checksum is not 's'
digit_low : (digits : List ℕ) (i : ℕ) → list_all (λ d. nat_lt d 115) digits ≡ true → get_or digits i 0 < 115
digit_low [] i low = omega arith
digit_low (d ∷ digits) zero low = let first : nat_lt d 115 ≡ true = (both_true (nat_lt d 115) (list_all (λ x. nat_lt x 115) digits) low).0 in grind (arith, nat_tests)
digit_low (d ∷ digits) (suc i) low = digit_low digits i (both_true (nat_lt d 115) (list_all (λ x. nat_lt x 115) digits) low).1

last_low : (before : ℕ) (digest : List ℕ) → before < 115 → last_or before (encode_with lower_digits digest) < 115
unfolding encode_with
last_low before [] low = low
last_low before (b ∷ digest) low = last_low (slice_index lower_digits (b % 16)) digest (digit_low lower_digits (b % 16) refl)

marker_last : (day digest : List ℕ) → last_or 0 (marker_of day digest) < 115
marker_last day digest =
    let end : last_or 0 (marker_of day digest) ≡ last_or 46 (encode_lower digest) =
    last-append 0 47 day (46 ∷ encode_lower digest) in
    omega (arith, end, last_low 46 digest (omega arith))

numbered_last : (stem : List ℕ) (k : ℕ) (none : Bool) → last_or 0 (if none then stem ++ codes ".tws" else stem ++ (codes "-" ++ (decimal k ++ codes ".tws"))) ≡ 115
numbered_last stem k true = last-append 0 46 stem (116 ∷ 119 ∷ 115 ∷ [])
numbered_last stem k false = last-append 0 45 stem (decimal k ++ codes ".tws") ∙ last-append 45 46 (decimal k) (116 ∷ 119 ∷ 115 ∷ [])

-- no copy has the name of a marker
pub no_marker : (day stem name : List ℕ) (k : ℕ) → name ≡ numbered stem k → IsMarker day name → ⊥
no_marker day stem name k name-is marker =
    let last = ap (last_or 0) name-is ∙ numbered_last stem k (k == 0) in
    omega (arith, last, ap (last_or 0) marker.1, marker_last day marker.0)

-- ---- a folder

module _ {D : Type 0} (m : FolderModel D) where
  -- a file was published under a name that was free
  pub recorded_by : {old mid new : D} {draft at name text : List ℕ} (stem : List ℕ) (k : ℕ) → at ≡ name → draft ≡ draft_of name → name ≡ numbered stem k → m.reads old name None →
      ((other : List ℕ) → Stays m old mid other) → ((other : List ℕ) → other ≢ draft → other ≢ at → Stays m mid new other) → Only (Some text) (m.reads new at) →
      IsRecordedAs m stem name text old new
  recorded_by {old} {mid} {new} {draft} {at} {name} {text} stem k at-is draft-is name-is free same others added = record {
    number = k;
    is = name-is;
    was_free = free;
    added = subst (λ (n : List ℕ). Only (Some text) (m.reads new n)) at-is added;
    others = λ other nn nd. stays_then (same other) (others other (λ is. nd (is ∙ draft-is)) (λ is. nn (is ∙ at-is)));
  }

  -- nothing but a draft was touched
  pub adds_nothing_by : {T E : Type 0} (r : Result T E) (e : E) {old mid : D} (new : D) {draft : List ℕ} (name : List ℕ) → draft ≡ draft_of name → ((other : List ℕ) → Stays m old mid other) →
      IfErr r (λ d. d ≢ e → (other : List ℕ) → other ≢ draft → Stays m mid new other) → IfErr r (λ d. d ≢ e → AddsNothing m old new)
  adds_nothing_by (Ok x) e new name draft-is same others = tt
  adds_nothing_by (Err d) e {old} {mid} new {draft} name draft-is same others = λ ne. (name, λ other nd. stays_then (same other) (others ne other (λ is. nd (is ∙ draft-is))))

  -- a copy that was recorded after a folder was left alone
  pub records_by : {old mid new : D} (day : List ℕ) {stem name text : List ℕ} → LeavesAll m old mid → IsRecordedAs m stem name text mid new → Records m day stem text old new
  records_by {old} {mid} {new} day {stem} {name} {text} same r = (
    r.number,
    subst (λ (n : List ℕ). Adds m day n text old new) r.is (record {
      was_free = (same name).possible.now None r.was_free;
      added = r.added;
      others = λ other nn nd nm. stays_then (same other) (r.others other nn nd);
    }),
  )

  -- the same, and then a marker was written
  pub records_for_good_by : {old mid after new : D} {day marker : List ℕ} {stem name text : List ℕ} → IsMarker day marker → LeavesAll m old mid → IsRecordedAs m stem name text mid after →
      Only (Some text) (m.leaves after name) → ((other : List ℕ) → other ≢ marker → Stays m after new other) → RecordsForGood m day stem text old new
  records_for_good_by {old} {mid} {after} {new} {day} {marker} {stem} {name} {text} marks same r left marked =
      let stays = marked name (λ is. no_marker day stem name r.number r.is (marks.0, is ∙ marks.1)) in (
        r.number,
        subst (λ (n : List ℕ). Adds m day n text old new) r.is (record {
          was_free = (same name).possible.now None r.was_free;
          added = λ read now. r.added read (stays.possible.now read now);
          others = λ other nn nd nm. stays_then (same other) (stays_then (r.others other nn nd) (marked other (λ is. nm (marks.0, is ∙ marks.1))));
        }),
        subst (λ (n : List ℕ). Only (Some text) (m.leaves new n)) r.is (λ l now. left l (stays.possible.left l now)),
      )

  -- what a record makes of a folder that was left alone before
  pub adds_after : {old mid new : D} {day name text : List ℕ} → LeavesAll m old mid → Adds m day name text mid new → Adds m day name text old new
  adds_after {old} {mid} {new} {day} {name} same a = record {
    was_free = (same name).possible.now None a.was_free;
    added = a.added;
    others = λ other nn nd nm. stays_then (same other) (a.others other nn nd nm);
  }

  pub records_after : {old mid new : D} {day : List ℕ} (stem : List ℕ) {text : List ℕ} → LeavesAll m old mid → Records m day stem text mid new → Records m day stem text old new
  records_after stem same r = (r.0, adds_after same r.1)

  pub records_for_good_after : {old mid new : D} {day : List ℕ} (stem : List ℕ) {text : List ℕ} → LeavesAll m old mid → RecordsForGood m day stem text mid new → RecordsForGood m day stem text old new
  records_for_good_after stem same r = (r.0, adds_after same r.1, r.2)

  pub has_copy_after : {old mid new : D} (day text : List ℕ) → LeavesAll m old mid → HasCopy m day text mid × LeavesAll m mid new → HasCopy m day text old × LeavesAll m old new
  has_copy_after day text same known =
      ((known.0.0, known.0.1, (same (name_in_day day known.0.0)).possible.now (Some text) known.0.2), λ other. stays_then (same other) (known.1 other))

  pub adds_nothing_unless : {T E : Type 0} (r : Result T E) (e : E) {old mid : D} (new : D) → LeavesAll m old mid → IfErr r (λ d. d ≢ e → AddsNothing m mid new) → IfErr r (λ d. d ≢ e → AddsNothing m old new)
  adds_nothing_unless (Ok x) e new same nothing = tt
  adds_nothing_unless (Err d) e new same nothing = λ ne. let n = nothing ne in (n.0, λ other nd. stays_then (same other) (n.1 other nd))

  pub no_free_name_after : {old mid : D} (stem : List ℕ) → LeavesAll m old mid → HasNoFreeName m stem mid → HasNoFreeName m stem old
  no_free_name_after {old} {mid} stem same none = λ number less.
      let found = none number less in (found.0, (same (numbered stem number)).possible.now (Some found.0) found.1)
