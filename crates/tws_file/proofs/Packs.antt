-- What packing keeps, and that it never makes a file longer.
use Rattle.std.proofs.Common.{◌≡◌, ◌+◌, ◌<◌, ℕ, ◌≤◌, List, [], ◌∷◌, ◌++◌, length, take, get_or, refl, ap, sym, subst, ◌∙◌, arith, map, length-append}
use Rattle.std.specs.List.{flat_map, AllByRecursion}
use Rattle.std.proofs.lemmas.List.{take_more, map-append}
use Rattle.tws_moves.specs.Move.{Move}
use Rattle.tws_moves.specs.Spelling.{Spells, moves_in}
use Rattle.tws_moves.specs.Shortest.{IsShortest, packed_bytes}
use Rattle.tws_moves.proofs.Spellings.{moves_in_spelled}
use Rattle.tws_moves.proofs.PackedBytes.{spelling_is_bytes, packed_shortest, packed_no_longer, packed_once}
use Rattle.tws_file.specs.Text.{File, Record, Solution, pad, set, bare, solution, IsSolution, IsRecord, IsFile, body_of, record_text, text_of, header_text}
use Rattle.tws_file.specs.declared.record.Record as stored
use Rattle.tws_file.specs.Record.{record_of, records_of}
use Rattle.tws_file.specs.Packing.{packed_solution, packed_record, packed_file}
use Rattle.tws_file.specs.Steps.{solved_after_key}

-- ---- packed values have a text

-- the packed moves of a solution are the same moves
packed_spells : (s : Solution) (fits : IsSolution s) → Spells (packed_bytes s.moves) fits.whole.0
packed_spells s fits = (packed_shortest s.moves fits.whole.0 fits.whole.1).spells

-- a packed solution is a solution
pub packed_solution_fits : (s : Solution) → IsSolution s → IsSolution (packed_solution s)
packed_solution_fits s fits = record {
  fields = record {
    key = fits.fields.key;
    flags = fits.fields.flags;
    start = fits.fields.start;
    seed = fits.fields.seed;
    ticks = fits.fields.ticks;
    bytes = spelling_is_bytes (packed_bytes s.moves) fits.whole.0 (packed_spells s fits);
    size = omega (arith, fits.fields.size, packed_no_longer s.moves fits.whole.0 fits.whole.1);
  };
  whole = (fits.whole.0, packed_spells s fits);
}

-- a packed record is a record
packed_record_fits : (r : Record) → IsRecord r → IsRecord (packed_record r)
packed_record_fits pad fits = fits
packed_record_fits (set rest) fits = fits
packed_record_fits (bare key) fits = fits
packed_record_fits (solution s) fits = packed_solution_fits s fits

-- so are all of them
packed_records_fit : (rs : List Record) → AllByRecursion IsRecord rs → AllByRecursion IsRecord (map packed_record rs)
packed_records_fit [] fits = tt
packed_records_fit (r ∷ rs) fits = (packed_record_fits r fits.0, packed_records_fit rs fits.1)

-- a packed file has a text
pub packed_file_fits : (file : File) → IsFile file → IsFile (packed_file file)
packed_file_fits file fits = record {
  word = fits.word;
  word_length = fits.word_length;
  extra = fits.extra;
  extra_length = fits.extra_length;
  records = packed_records_fit file.records fits.records;
}

-- a file put together from packed records and copied header bytes has a text
pub packed_parts_fit : (file : File) (extra : List ℕ) (records : List Record) → IsFile file → extra ≡ file.extra →
    records ≡ map packed_record file.records →
    IsFile (record { «ruleset» = file.ruleset; word = file.word; extra = extra; records = records })
packed_parts_fit file extra records fits extra-is records-is = rw (extra-is, records-is) (packed_file_fits file fits)

-- ---- packing again changes nothing

-- packing a packed solution changes nothing
twice_solution : (s : Solution) → IsSolution s → packed_solution (packed_solution s) ≡ packed_solution s
twice_solution s fits =
    ap (λ (moves : List ℕ). record { key = s.key; flags = s.flags; start = s.start; seed = s.seed; ticks = s.ticks; moves = moves }) (packed_once s.moves fits.whole.0 fits.whole.1)

-- nor does packing a packed record
twice_record : (r : Record) → IsRecord r → packed_record (packed_record r) ≡ packed_record r
twice_record pad fits = refl
twice_record (set rest) fits = refl
twice_record (bare key) fits = refl
twice_record (solution s) fits = ap solution (twice_solution s fits)

twice_records : (rs : List Record) → AllByRecursion IsRecord rs → map packed_record (map packed_record rs) ≡ map packed_record rs
twice_records [] fits = refl
twice_records (r ∷ rs) fits =
    ap (λ (x : Record). x ∷ map packed_record (map packed_record rs)) (twice_record r fits.0)
    ∙ ap (λ (xs : List Record). packed_record r ∷ xs) (twice_records rs fits.1)

-- packing a packed file changes nothing
pub packed_twice : (file : File) → IsFile file → packed_file (packed_file file) ≡ packed_file file
packed_twice file fits =
    ap (λ (rs : List Record). record { «ruleset» = file.ruleset; word = file.word; extra = file.extra; records = rs }) (twice_records file.records fits.records)

-- ---- no longer

body_length : (s : Solution) → length (body_of (solution s)) ≡ 12 + length s.key.password + length s.moves
body_length s = omega (arith, length-append s.key.password (solved_after_key s))

text_length : (r : Record) → length (record_text r) ≡ 4 + length (body_of r)
text_length r = omega arith

-- no packed record is longer
no_longer_record : (r : Record) → IsRecord r → length (record_text (packed_record r)) ≤ length (record_text r)
no_longer_record pad fits = omega arith
no_longer_record (set rest) fits = omega arith
no_longer_record (bare key) fits = omega arith
no_longer_record (solution s) fits =
    omega (arith, text_length (solution s), text_length (solution (packed_solution s)), body_length s, body_length (packed_solution s), packed_no_longer s.moves fits.whole.0 fits.whole.1)

-- nor are all of them together
no_longer_records : (rs : List Record) → AllByRecursion IsRecord rs → length (flat_map record_text (map packed_record rs)) ≤ length (flat_map record_text rs)
no_longer_records [] fits = omega arith
no_longer_records (r ∷ rs) fits =
    omega (
      arith,
      no_longer_record r fits.0,
      no_longer_records rs fits.1,
      length-append (record_text r)
          (flat_map record_text rs),
      length-append (record_text (packed_record r)) (flat_map record_text (map packed_record rs)),
    )

-- a packed file's text is no longer than the file's
pub packed_no_longer_text : (file : File) → IsFile file → length (text_of (packed_file file)) ≤ length (text_of file)
packed_no_longer_text file fits =
    let header = header_text file.ruleset file.word file.extra in
    omega (arith, no_longer_records file.records fits.records, length-append header (flat_map record_text file.records), length-append header (flat_map record_text (map packed_record file.records)))

-- ---- the same moves, in the fewest bytes

-- packing keeps a solution's moves
pub packed_moves : (s : Solution) → IsSolution s → moves_in (packed_solution s).moves ≡ moves_in s.moves
packed_moves s fits =
    let moves = fits.whole.0 in
    sym (moves_in_spelled (packed_bytes s.moves) moves (packed_spells s fits)) ∙ moves_in_spelled s.moves moves fits.whole.1

-- no fewer bytes spell them
pub packed_is_shortest : (s : Solution) → IsSolution s → IsShortest (packed_solution s).moves (moves_in s.moves)
packed_is_shortest s fits =
    let moves = fits.whole.0 in
    subst (λ (ms : List Move). IsShortest (packed_bytes s.moves) ms) (moves_in_spelled s.moves moves fits.whole.1) (packed_shortest s.moves moves fits.whole.1)

-- ---- one more record

-- packing record by record
module _ {A B : Type 0} where
  -- the first i records are packed, and then one more
  pub packed_more : (packed pushed : List (stored.Record A)) (records : List (stored.Record B)) (i : ℕ) (one : stored.Record B) (p : stored.Record A)
      → records_of packed ≡ map packed_record (records_of (take i records)) → i < length records → one ≡ get_or records i one → record_of p ≡ packed_record (record_of one) → pushed ≡ packed ++ p ∷ []
      → records_of pushed ≡ map packed_record (records_of (take (i + 1) records))
  packed_more packed pushed records i one p so_far inside one-is p-is pushed-is =
      let before = take i records in
      let longer = take_more records i one inside ∙ ap (λ (x : stored.Record B). before ++ x ∷ []) (sym one-is) in
      ap records_of pushed-is
      ∙ map-append record_of packed (p ∷ [])
      ∙ ap (λ (xs : List Record). xs ++ record_of p ∷ []) so_far
      ∙ ap (λ (r : Record). map packed_record (records_of before) ++ r ∷ []) p-is
      ∙ sym (map-append packed_record (records_of before) (record_of one ∷ []))
      ∙ ap (map packed_record) (sym (map-append record_of before (one ∷ [])))
      ∙ ap (λ (rs : List (stored.Record B)). map packed_record (records_of rs)) (sym longer)
