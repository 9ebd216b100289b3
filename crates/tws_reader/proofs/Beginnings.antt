-- What bytes begin with: the text of a record, a size that no record has, a cut record, or a solution with cut moves.
use Rattle.std.proofs.Common.{◌≡◌, ◌≢◌, ℕ, ◌+◌, ◌≤◌, List, [], ◌++◌, length, ap, sym, subst, ◌∙◌, append_assoc, arith, ⊎_elim, length-append}
use Rattle.std.specs.List.{flat_map, AllByRecursion}
use Rattle.byteorder.specs.Endian.{little_bytes, little_number}
use Rattle.byteorder.specs.Numbers.{little_number-reads_back}
use Rattle.tws_moves.specs.Spelling.{IsCutAt}
use Rattle.tws_moves.proofs.Spellings.{cut_spells_nothing, one_place}
use Rattle.tws_file.specs.declared.file_fault.FileFault.{FileFault}
use Rattle.tws_file.specs.declared.file_fault.FileFault.TheVariants.{ShortHeader, BadSignature, BadRuleset, ShortRecord, BadSize, MoveCut, Memory}
use Rattle.tws_file.specs.Text.{Record, Solution, solution, IsRecord, body_of, record_text, BeginsNoRecord}
use Rattle.tws_file.specs.Fault.{IsBadSize, HasBadSize, IsRecordCut, HasCutMoves}
use Rattle.tws_file.specs.Steps.{IsSize, IsShaped}
use Rattle.tws_reader.specs.Steps.{StopsAfter, RecordFails, RecordsFail}
use Rattle.tws_file.proofs.RecordText.{body_size, shape, shaped_texts}

-- a record's text is as long as its size field says
text_size : (rest more : List ℕ) (r : Record) → IsShaped r → rest ≡ record_text r ++ more → (little_number 4 rest ≡ length (body_of r)) × (4 + length (body_of r) ≤ length rest)
text_size rest more r fits split =
    let size = length (body_of r) in
    let regrouped = split ∙ append_assoc (little_bytes 4 size) (body_of r) more in
    (ap (little_number 4) regrouped ∙ little_number-reads_back 4 size (body_of r ++ more) (body_size r fits).1, omega (arith, ap length split, length-append (body_of r) more))

-- ---- a cut record

-- a cut record begins with no record's text, not even one whose moves are cut
cut_begins_no_shape : (rest : List ℕ) → IsRecordCut rest → (r : Record) (more : List ℕ) → IsShaped r → rest ≢ record_text r ++ more
cut_begins_no_shape rest cut r more fits split =
    let size = text_size rest more r fits split in
    ⊎_elim (λ short. omega (arith, size.1)) (λ long. omega (arith, long.2, size.0, size.1)) cut

-- so it begins with no record
pub cut_begins_none : (rest : List ℕ) → IsRecordCut rest → BeginsNoRecord rest
cut_begins_none rest cut r more fits = cut_begins_no_shape rest cut r more (shape r fits)

-- ---- a size that no record has

-- no size is both bad and one that records have
bad_or_size : (n : ℕ) → IsBadSize n → IsSize n → ⊥
bad_or_size n bad size =
    ⊎_elim (λ none. ⊎_elim (λ a. omega (arith, a.0)) (λ b. omega (arith, b.0)) bad)
    (λ more. ⊎_elim (λ six. ⊎_elim (λ a. omega (arith, a.1)) (λ b. omega (arith, b.0)) bad)
    (λ long. ⊎_elim (λ a. omega (arith, a.1)) (λ b. omega (arith, b.1)) bad) more) size

-- bytes with a bad size begin with no record's text, not even one whose moves are cut
bad_begins_no_shape : (rest : List ℕ) → HasBadSize rest → (r : Record) (more : List ℕ) → IsShaped r → rest ≢ record_text r ++ more
bad_begins_no_shape rest bad r more fits split =
    let size = text_size rest more r fits split in
    bad_or_size (little_number 4 rest) bad.1 (subst IsSize (sym size.0) (body_size r fits).0)

-- so they begin with no record
pub bad_begins_none : (rest : List ℕ) → HasBadSize rest → BeginsNoRecord rest
bad_begins_none rest bad r more fits = bad_begins_no_shape rest bad r more (shape r fits)

-- ---- cut moves

-- a solution whose moves are cut is not a record
not_whole : (s : Solution) (r : Record) (at : ℕ) → IsCutAt s.moves at → r ≡ solution s → IsRecord r → ⊥
not_whole s r at cut same fits =
    let whole = (subst IsRecord same fits).whole in
    cut_spells_nothing s.moves at whole.0 cut whole.1

-- bytes that begin with such a solution begin with no record
pub cut_moves_begin_none : (rest : List ℕ) (at : ℕ) → HasCutMoves rest at → BeginsNoRecord rest
cut_moves_begin_none rest at moves r more fits split =
    let same = shaped_texts r (solution moves.solved) more moves.more (shape r fits) moves.fields (sym split ∙ moves.split) in
    not_whole moves.solved r at moves.cut same.0 fits

-- a solution whose moves are cut is not itself cut
pub moves_or_cut : (rest : List ℕ) (at : ℕ) → HasCutMoves rest at → IsRecordCut rest → ⊥
moves_or_cut rest at moves cut = cut_begins_no_shape rest cut (solution moves.solved) moves.more moves.fields moves.split

-- the size of a solution whose moves are cut is not a bad one
pub moves_or_bad : (rest : List ℕ) (at : ℕ) → HasCutMoves rest at → HasBadSize rest → ⊥
moves_or_bad rest at moves bad = bad_begins_no_shape rest bad (solution moves.solved) moves.more moves.fields moves.split

-- a solution's moves; other records have none
abbrev moves_of_record : Record → List ℕ
moves_of_record (solution s) = s.moves
moves_of_record r = []

-- the moves in bytes are cut at only one place
pub one_cut_place : (rest : List ℕ) (m n : ℕ) → HasCutMoves rest m → HasCutMoves rest n → m ≡ n
one_cut_place rest m n p q =
    let same = shaped_texts (solution p.solved) (solution q.solved) p.more q.more p.fields q.fields (sym p.split ∙ q.split) in
    one_place q.solved.moves m n (subst (λ (xs : List ℕ). IsCutAt xs m) (ap moves_of_record same.0) p.cut) q.cut

-- further bytes change nothing
pub cut_moves-append : (rest more : List ℕ) (at : ℕ) → HasCutMoves rest at → HasCutMoves (rest ++ more) at
cut_moves-append rest more at moves = record {
  solved = moves.solved;
  more = moves.more ++ more;
  fields = moves.fields;
  split = ap (λ (xs : List ℕ). xs ++ more) moves.split ∙ append_assoc (record_text (solution moves.solved)) moves.more more;
  cut = moves.cut;
}

-- ---- after records

-- bytes that have a size field are not empty
none_is_short : (rest : List ℕ) → 4 ≤ length rest → rest ≢ []
none_is_short rest long none = omega (arith, long, ap length none)

-- the bytes are the texts of some records, and a rest
module _ (bytes rest : List ℕ) (start offset : ℕ) (prefix : List Record) (fits : AllByRecursion IsRecord prefix)
    (split : bytes ≡ flat_map record_text prefix ++ rest) (place : offset + length rest ≡ start + length bytes) where
  -- if the rest begins no record, the records stop there
  stops_here : 4 ≤ length rest → BeginsNoRecord rest → StopsAfter bytes start offset rest
  stops_here long no_record = record {
    prefix = prefix;
    fits = fits;
    split = split;
    place = omega (arith, place, ap length split, length-append (flat_map record_text prefix) rest);
    some = none_is_short rest long;
    no_record = no_record;
  }

  -- a record that fails after others
  pub records_fail : (e : FileFault) → RecordFails rest offset e → RecordsFail bytes start e
  records_fail (ShortHeader n) fault = fault
  records_fail BadSignature fault = fault
  records_fail (BadRuleset code) fault = fault
  records_fail (ShortRecord o) fault = fault
  records_fail (BadSize o) fault =
      (rest, subst (λ (n : ℕ). StopsAfter bytes start n rest) (sym fault.0) (stops_here fault.1.0 (bad_begins_none rest fault.1)), fault.1)
  records_fail (MoveCut at) fault =
      let moves = fault.1 in
      let size = text_size rest moves.more (solution moves.solved) moves.fields moves.split in
      (offset, rest, fault.0, stops_here (omega (arith, size.1)) (cut_moves_begin_none rest fault.0 moves), moves, fault.2)
  records_fail Memory fault = tt
