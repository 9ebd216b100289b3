-- No field of comma-separated values needs quotes, so the lines are those that the library `csv` writes, which it reads
-- back.
use Rattle.std.proofs.Common.{◌≡◌, ℕ, zero, suc, ◌+◌, ◌-◌, ◌*◌, ◌<◌, ◌≤◌, ◌^◌, ◌/◌, ◌%◌, ◌==◌, ◌&&◌, true, false, List, [], ◌∷◌, ◌++◌, length, map, drop, refl, ap, sym, ◌∙◌, arith, append-nil, length-append}
use Rattle.std.specs.Prelude.{codes, decimal}
use Rattle.std.specs.Char.{is_ascii_alphabetic}
use Rattle.std.specs.List.{AllByRecursion, flat_map, join_with_byte, list_all, list_any}
use Rattle.std.proofs.lemmas.Bool.{agree_below_at, and_parts, cond_both, or_from}
use Rattle.std.proofs.lemmas.Fmt.{decimal_by_steps}
use Rattle.std.proofs.lemmas.List.Folds.{list_any-append}
use Rattle.csv.specs.Reading.{default_config, records, records_from}
use Rattle.csv.specs.Machine.{next_record}
use Rattle.csv.specs.Writing.{default_writer, field_text, fields_text, is_blank, needs_byte, read_back, row_text}
use Rattle.csv.specs.declared.parser.State.TheVariants as st
use Rattle.csv.proofs.RoundTrip.{read-write}
use Rattle.byte_output.specs.Bytes.{IsBytes}
use Rattle.tws_moves.specs.Spelling.{layout_of, layout_waits, moves_in, piece_length, pieces_in, waits_of}
use Rattle.tws_moves.specs.Bytes.{number_of}
use Rattle.tws_moves.proofs.Ticks.{count_from}
use Rattle.tws_file.specs.declared.«ruleset».Ruleset.{Ruleset}
use Rattle.tws_file.specs.declared.«ruleset».Ruleset.TheVariants.{Lynx, Ms}
use Rattle.tws_file.specs.Words.{hex, password_text, ruleset_name}
use Rattle.tws_file.specs.Text.{File, IsFile, IsRecord, IsSolution, Record, Solution, pad, set, bare, solution}
use Rattle.tws_tables.specs.Csv.{csv_fields, csv_line, csv_names, csv_of, csv_rows}
use Rattle.tws_tables.specs.Solved.{seconds_text, solutions_in}
use Rattle.tws_tables.proofs.Digits.{no_digits}

-- no byte of the field calls for quotes
abbrev IsPlain : List ℕ → Type 0
IsPlain field = list_any (needs_byte default_writer) field ≡ false

-- ---- fields

joined : (xs ys : List ℕ) → IsPlain xs → IsPlain ys → IsPlain (xs ++ ys)
joined xs ys p q =
    list_any-append (needs_byte default_writer) xs ys ∙ or_from (list_any (needs_byte default_writer) xs) (list_any (needs_byte default_writer) ys) p q

digit_plain : (d : ℕ) → d < 10 → IsPlain ((48 + d) ∷ [])
digit_plain d small =
    or_from (needs_byte default_writer (48 + d)) false
    (agree_below_at (λ k. needs_byte default_writer (48 + k)) (λ k. false) 10 d refl small) refl

decimal_plain : (n : ℕ) → n < 2 ^ 64 → IsPlain (decimal n)
decimal_plain n small =
    decimal_by_steps (λ m ds. IsPlain ds) (λ d few. digit_plain d few)
    (λ m ds many p. joined ds ((48 + m % 10) ∷ []) p (digit_plain (m % 10) (omega arith))) n small

letters_plain : (bytes : List ℕ) → IsBytes bytes → list_all is_ascii_alphabetic bytes ≡ true → IsPlain bytes
letters_plain [] fits letters = refl
letters_plain (b ∷ bytes) fits letters =
    let parts = and_parts (is_ascii_alphabetic b) (list_all is_ascii_alphabetic bytes) letters in
    let small : b < 256 = fits 0 in
    let never = agree_below_at (λ k. is_ascii_alphabetic k && needs_byte default_writer k) (λ k. false) 256 b refl small in
    let plain : needs_byte default_writer b ≡ false = rw parts.0 at never in
    or_from (needs_byte default_writer b) (list_any (needs_byte default_writer) bytes) plain (letters_plain bytes (λ i. fits (suc i)) parts.1)

hex_plain : (bytes : List ℕ) → IsBytes bytes → IsPlain (hex bytes)
hex_plain bytes fits = no_digits (needs_byte default_writer) refl bytes fits

password_plain : (password : List ℕ) → IsBytes password → IsPlain (password_text password)
password_plain password fits =
    cond_both (list_all is_ascii_alphabetic password) password (codes "x" ++ hex password) (λ text. IsPlain text)
    (letters_plain password fits) (λ other. hex_plain password fits)

seconds_plain : (ticks : ℕ) → ticks < 2 ^ 32 → IsPlain (seconds_text ticks)
seconds_plain ticks small =
    joined (decimal (ticks / 20) ++ codes "." ++ decimal (ticks % 20 / 2)) (decimal (ticks % 2 * 5))
    (joined (decimal (ticks / 20) ++ codes ".") (decimal (ticks % 20 / 2))
    (joined (decimal (ticks / 20)) (codes ".") (decimal_plain (ticks / 20) (omega (arith, small))) refl)
    (decimal_plain (ticks % 20 / 2) (omega arith)))
    (decimal_plain (ticks % 2 * 5) (omega arith))

ruleset_plain : (rules : Ruleset) → IsPlain (ruleset_name rules)
ruleset_plain Lynx = refl
ruleset_plain Ms = refl

byte_plain : (b : ℕ) → b < 2 ^ 8 → IsPlain (hex (b ∷ []))
byte_plain b small = hex_plain (b ∷ []) fits
  where
    fits : IsBytes (b ∷ [])
    fits zero = omega (arith, small)
    fits (suc i) = omega arith

-- ---- a solution has at most three moves a byte

few_waits : (first n : ℕ) → length (layout_waits (layout_of first) n) ≤ 3
few_waits first n =
    cond_both (first % 4 == 0) _ _ (λ l. length (layout_waits l n) ≤ 3) (λ e. omega arith)
    (λ e. cond_both (first % 4 == 1) _ _ (λ l. length (layout_waits l n) ≤ 3) (λ f. omega arith)
    (λ f. cond_both (first % 4 == 2) _ _ (λ l. length (layout_waits l n) ≤ 3) (λ h. omega arith)
    (λ h. cond_both (first / 16 % 2 == 0) _ _ (λ l. length (layout_waits l n) ≤ 3) (λ i. omega arith) (λ i. omega arith))))

few_in_piece : (piece : List ℕ) → length (waits_of piece) ≤ 3
few_in_piece [] = omega arith
few_in_piece (first ∷ rest) = few_waits first (number_of (first ∷ rest))

few_in_pieces : (pieces : List (List ℕ)) → length (flat_map waits_of pieces) ≤ 3 * length pieces
few_in_pieces [] = omega arith
few_in_pieces (piece ∷ pieces) =
    omega (arith, few_in_piece piece, few_in_pieces pieces, length-append (waits_of piece) (flat_map waits_of pieces))

few_pieces : (steps : ℕ) (bytes : List ℕ) → length (pieces_in steps bytes) ≤ steps
few_pieces zero bytes = omega arith
few_pieces (suc steps) [] = omega arith
few_pieces (suc steps) (first ∷ rest) = omega (arith, few_pieces steps (drop (piece_length first - 1) rest))

few_moves : (bytes : List ℕ) → length bytes < 2 ^ 32 → length (moves_in bytes) < 2 ^ 64
few_moves bytes small =
    let pieces = pieces_in (length bytes) bytes in
    omega (arith, small, count_from 0 (flat_map waits_of pieces), few_in_pieces pieces, few_pieces (length bytes) bytes)

-- ---- rows

fields_plain : (rules : Ruleset) (s : Solution) → IsSolution s → AllByRecursion IsPlain (csv_fields rules s)
fields_plain rules s fits =
    let f = fits.fields in
    let key = f.key.fits in
    let short : length s.moves < 2 ^ 32 = omega (arith, f.size) in (
      decimal_plain s.key.number (omega (arith, key.number)),
      (
        password_plain s.key.password key.password,
        (
          decimal_plain s.ticks (omega (arith, f.ticks)),
          (
            seconds_plain s.ticks f.ticks,
            (
              decimal_plain (length (moves_in s.moves)) (few_moves s.moves short),
              (
                decimal_plain (length s.moves) (omega (arith, short)),
                (
                  byte_plain s.flags f.flags,
                  (
                    byte_plain s.start f.start,
                    (decimal_plain s.seed (omega (arith, f.seed)), (ruleset_plain rules, tt)),
                  ),
                ),
              ),
            ),
          ),
        ),
      ),
    )

names_plain : AllByRecursion IsPlain csv_names
names_plain = (refl, (refl, (refl, (refl, (refl, (refl, (refl, (refl, (refl, (refl, tt))))))))))

-- a field that needs no quotes is written as it is
field_is : (x : List ℕ) → IsPlain x → field_text default_writer x ≡ x
field_is x plain = rw plain refl

row_is : (x : List ℕ) (ys : List (List ℕ)) → AllByRecursion IsPlain (x ∷ ys) → field_text default_writer x ++ fields_text default_writer ys ≡ join_with_byte 44 (x ∷ ys)
unfolding fields_text
row_is x [] plain = ap (λ (t : List ℕ). t ++ []) (field_is x plain.0) ∙ append-nil x
row_is x (y ∷ ys) plain =
    ap (λ (t : List ℕ). t ++ (44 ∷ (field_text default_writer y ++ fields_text default_writer ys))) (field_is x plain.0) ∙
    ap (λ (t : List ℕ). x ++ (44 ∷ t)) (row_is y ys plain.1)

-- a line of more than one field
line_is : (fields : List (List ℕ)) → 2 ≤ length fields → AllByRecursion IsPlain fields → csv_line fields ≡ row_text default_writer fields
unfolding is_blank
line_is [] many plain = absurd (omega (arith, many))
line_is (x ∷ []) many plain = absurd (omega (arith, many))
line_is (x ∷ y ∷ ys) many plain = ap (λ (t : List ℕ). t ++ 10 ∷ []) (sym (row_is x (y ∷ ys) plain))

all_solutions : (rs : List Record) → AllByRecursion IsRecord rs → AllByRecursion IsSolution (solutions_in rs)
all_solutions [] fits = tt
all_solutions (pad ∷ rs) fits = all_solutions rs fits.1
all_solutions (set rest ∷ rs) fits = all_solutions rs fits.1
all_solutions (bare key ∷ rs) fits = all_solutions rs fits.1
all_solutions (solution s ∷ rs) fits = (fits.0, all_solutions rs fits.1)

rows_are : (rules : Ruleset) (solutions : List Solution) → AllByRecursion IsSolution solutions →
    flat_map csv_line (map (csv_fields rules) solutions) ≡ flat_map (row_text default_writer) (map (csv_fields rules) solutions)
rows_are rules [] fit = refl
rows_are rules (s ∷ solutions) fit =
    ap (λ (t : List ℕ). t ++ flat_map csv_line (map (csv_fields rules) solutions)) (line_is (csv_fields rules s) (omega arith) (fields_plain rules s fit.0)) ∙
    ap (λ (t : List ℕ). row_text default_writer (csv_fields rules s) ++ t) (rows_are rules solutions fit.1)

pub csv_written : (file : File) → IsFile file → csv_of file ≡ flat_map (row_text default_writer) (csv_names ∷ csv_rows file)
csv_written file fits =
    ap (λ (t : List ℕ). t ++ flat_map csv_line (csv_rows file)) (line_is csv_names (omega arith) names_plain) ∙
    ap (λ (t : List ℕ). row_text default_writer csv_names ++ t) (rows_are file.ruleset (solutions_in file.records) (all_solutions file.records fits.records))

-- ---- reading

-- what is read of rows that the library wrote, in enough steps
rows_read : (n : ℕ) (rows : List (List (List ℕ))) → length rows ≤ n →
    records_from default_config n st.StartRecord (flat_map (row_text default_writer) rows) ≡ map read_back rows
unfolding records_from next_record
rows_read zero [] enough = refl
rows_read zero (row ∷ rows) enough = absurd (omega (arith, enough))
rows_read (suc n) [] enough = refl
rows_read (suc n) (row ∷ rows) enough =
    rw (read-write row (flat_map (row_text default_writer) rows))
    (ap (λ (t : List (List (List ℕ))). read_back row ∷ t) (rows_read n rows (omega (arith, enough))))

-- each line has a byte
lines_long : (rows : List (List (List ℕ))) → length rows ≤ length (flat_map csv_line rows)
lines_long [] = omega arith
lines_long (row ∷ rows) =
    omega (arith, lines_long rows, length-append (csv_line row) (flat_map csv_line rows), length-append (join_with_byte 44 row) (10 ∷ []))

-- a row of a file is read back as it is
same_rows : (rules : Ruleset) (solutions : List Solution) → map read_back (map (csv_fields rules) solutions) ≡ map (csv_fields rules) solutions
same_rows rules [] = refl
same_rows rules (s ∷ solutions) = ap (λ (t : List (List (List ℕ))). csv_fields rules s ∷ t) (same_rows rules solutions)

pub csv_read : (file : File) → IsFile file → records default_config (csv_of file) ≡ csv_names ∷ csv_rows file
csv_read file fits =
    let rows = csv_names ∷ csv_rows file in
    ap (λ (t : List ℕ). records_from default_config (length (csv_of file) + 1) st.StartRecord t) (csv_written file fits) ∙
    rows_read (length (csv_of file) + 1) rows (omega (arith, lines_long rows)) ∙
    ap (λ (t : List (List (List ℕ))). csv_names ∷ t) (same_rows file.ruleset (solutions_in file.records))
