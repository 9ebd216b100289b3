-- The fields that are read from a body have its bytes.
use Rattle.std.proofs.Common.{◌≡◌, ℕ, ◌+◌, ◌^◌, ◌<◌, ◌≤◌, List, ◌∷◌, ◌++◌, length, take, drop, slice_index, ap, sym, subst, ◌∙◌, arith, take-append-drop, length-drop, drop-drop}
use Rattle.std.proofs.lemmas.List.{drop_more}
use Rattle.byteorder.specs.Endian.{little_bytes, little_number}
use Rattle.tws_file.specs.declared.key.Key.{Key}
use Rattle.byte_output.specs.Bytes.{IsBytes}
use Rattle.tws_file.specs.Fields.{set_key, key_bytes}
use Rattle.tws_moves.specs.Spelling.{IsSpelling}
use Rattle.byte_output.proofs.Bytes.{IsBytes-drop}
use Rattle.tws_file.specs.declared.file_fault.FileFault.{FileFault}
use Rattle.tws_file.specs.declared.file_fault.FileFault.TheVariants.{ShortHeader, BadSignature, BadRuleset, ShortRecord, BadSize, MoveCut, Memory}
use Rattle.tws_file.specs.Text.{Solution, IsLevel, HasSolutionFields, IsSolution}
use Rattle.tws_reader.specs.Steps.{MovesFailAt, SolutionFails}
use Rattle.tws_file.proofs.Numbers.{little_bytes-little_number_4}

-- a number in four bytes at an offset, and what follows it
number_at : (at n : ℕ) (bytes here more : List ℕ) → at + 4 ≤ length bytes → IsBytes bytes → here ≡ drop at bytes →
    n ≡ little_number 4 here → more ≡ drop (at + 4) bytes → little_bytes 4 n ++ more ≡ drop at bytes
number_at at n bytes here more long fits here-is n-is more-is =
    let four = little_bytes-little_number_4 (drop at bytes) (omega (arith, length-drop at bytes)) (IsBytes-drop at bytes fits) in
    ap (λ (m : ℕ). little_bytes 4 m ++ more) (n-is ∙ ap (little_number 4) here-is)
    ∙ ap (λ (xs : List ℕ). xs ++ more) four
    ∙ ap (λ (xs : List ℕ). take 4 (drop at bytes) ++ xs) (more-is ∙ sym (drop-drop 4 at bytes))
    ∙ take-append-drop 4 (drop at bytes)

-- flags, start, seed, ticks and moves
pub solved_from : (rest a b moves : List ℕ) (seed ticks : ℕ) → IsBytes rest → 10 ≤ length rest → a ≡ drop 2 rest →
    b ≡ drop 6 rest → seed ≡ little_number 4 a → ticks ≡ little_number 4 b → moves ≡ drop 10 rest
    → slice_index rest 0 ∷ slice_index rest 1 ∷ (little_bytes 4 seed ++ (little_bytes 4 ticks ++ moves)) ≡ rest
solved_from rest a b moves seed ticks fits long a-is b-is seed-is ticks-is moves-is =
    let later = number_at 6 ticks rest b moves (omega arith) fits b-is ticks-is moves-is in
    let both = number_at 2 seed rest a (little_bytes 4 ticks ++ moves) (omega arith) fits a-is seed-is later in
    ap (λ (xs : List ℕ). slice_index rest 0 ∷ slice_index rest 1 ∷ xs) both
    ∙ ap (λ (xs : List ℕ). slice_index rest 0 ∷ xs) (sym (drop_more rest 1 0 (omega arith)))
    ∙ sym (drop_more rest 0 0 (omega arith))

-- ---- a solution from its fields

-- a body with the key of a level and ten bytes or more after it
module _ (key : Key) (rest a b moves : List ℕ) (seed ticks : ℕ) (level : IsLevel key) (fits : IsBytes rest)
    (long : 10 ≤ length rest) (size : 6 + length rest < 2 ^ 32) (seed_fits : seed < 2 ^ 32) (ticks_fit : ticks < 2 ^ 32)
    (moves-is : moves ≡ drop 10 rest) where
  -- the solution with these fields
  abbrev pub solved : Solution
  solved = record { key = key; flags = slice_index rest 0; start = slice_index rest 1; seed = seed; ticks = ticks; moves = moves }

  -- its fields are in range
  pub fields_fit : HasSolutionFields solved
  fields_fit = record {
    key = level;
    flags = omega (arith, fits 0);
    start = omega (arith, fits 1);
    seed = seed_fits;
    ticks = ticks_fit;
    bytes = subst IsBytes (sym moves-is) (IsBytes-drop 10 rest fits);
    size = omega (arith, size, ap length moves-is, length-drop 10 rest);
  }

  -- if its moves are whole, it is a solution
  pub solution_fits : IsSpelling moves → IsSolution solved
  solution_fits whole = record { fields = fields_fit; whole = whole }

  -- moves that are cut are those of a solution with these fields
  pub solution_cut : (offset : ℕ) (e : FileFault) → a ≡ drop 2 rest → b ≡ drop 6 rest → seed ≡ little_number 4 a →
      ticks ≡ little_number 4 b → MovesFailAt moves offset e → SolutionFails (key_bytes key ++ rest) offset e
  solution_cut offset (ShortHeader n) a-is b-is seed-is ticks-is fault = fault
  solution_cut offset BadSignature a-is b-is seed-is ticks-is fault = fault
  solution_cut offset (BadRuleset code) a-is b-is seed-is ticks-is fault = fault
  solution_cut offset (ShortRecord o) a-is b-is seed-is ticks-is fault = fault
  solution_cut offset (BadSize o) a-is b-is seed-is ticks-is fault = fault
  solution_cut offset (MoveCut place) a-is b-is seed-is ticks-is fault = record {
    solved = solved;
    at = fault.0;
    fields = fields_fit;
    body_is = ap (λ (xs : List ℕ). key_bytes key ++ xs) (solved_from rest a b moves seed ticks fits long a-is b-is seed-is ticks-is moves-is);
    cut = fault.1;
    place_is = fault.2;
  }
  solution_cut offset Memory a-is b-is seed-is ticks-is fault = tt

-- a body that begins with the key of the set
pub set_from : (body rest : List ℕ) (key : Key) → key_bytes key ≡ take 6 body → key ≡ set_key → rest ≡ drop 6 body → key_bytes set_key ++ rest ≡ body
set_from body rest key bytes is_set rest-is =
    ap (λ (k : Key). key_bytes k ++ rest) (sym is_set) ∙ ap (λ (xs : List ℕ). xs ++ rest) bytes ∙ ap (λ (xs : List ℕ). take 6 body ++ xs) rest-is ∙ take-append-drop 6 body
