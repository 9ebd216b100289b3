-- The records in a file's text, cut off one after another, and which of them stop Tile World.
use Rattle.std.proofs.Common.{◌≡◌, ◌≢◌, ◌==◌, ◌||◌, ℕ, ◌+◌, ◌<◌, ◌≤◌, Bool, true, false, cond, List, [], ◌∷◌, ◌++◌, length, take, drop, slice_index, refl, ap, sym, ◌∙◌, arith, eq-eqb, subst, length-append, Option, None, IsSomeAnd}
use Rattle.std.specs.List.{count_by, flat_map, AllByRecursion}
use Rattle.std.proofs.lemmas.List.{take-append-drop}
use Rattle.std.proofs.lemmas.List.Sums.{sum_by-cons}
use Rattle.std.proofs.lemmas.Bool.{ne_eqb}
use Rattle.std.proofs.Math.Seq.{take-append_seam, drop-append_seam}
use Rattle.byteorder.specs.Endian.{little_number}
use Rattle.byteorder.specs.Numbers.{little_number-reads_back}
use Rattle.tws_file.specs.declared.key.Key.{Key}
use Rattle.tws_file.specs.declared.«ruleset».Ruleset.{Ruleset}
use Rattle.tws_file.specs.Fields.{IsKey, set_key, key_bytes}
use Rattle.tws_file.specs.Text.{Record, pad, set, bare, solution, Solution, File, IsFile, IsRecord, IsSolution, body_of, record_text, header_text, text_of}
use Rattle.tws_file.specs.Steps.{solved_after_key}
use Rattle.tws_file.proofs.RecordText.{key_parts, set_key_fits, body_size, shape}
use Rattle.archive_keepers.specs.Readable.{stops_tile_world}

-- ---- one body

-- a body begins with the bytes of one key
one_key : (body rest : List ℕ) (j k : Key) → IsKey j → IsKey k → key_bytes j ≡ take 6 body → body ≡ key_bytes k ++ rest → j ≡ k
one_key body rest j k fj fk j_is body_is =
    (key_parts j k (drop 6 body) rest fj fk (ap (λ (x : List ℕ). x ++ drop 6 body) j_is ∙ take-append-drop 6 body ∙ body_is)).0

solved_length : (s : Solution) → IsSolution s → length (body_of (solution s)) ≡ 16 + length s.moves
solved_length s fits = omega (arith, fits.fields.key.fits.password_length, length-append s.key.password (solved_after_key s))

pub short_passes : (body : List ℕ) → length body < 16 → (r : Record) → IsRecord r → body ≡ body_of r → stops_tile_world r ≡ false
short_passes body short pad fits is = refl
short_passes body short (set rest) fits is = refl
short_passes body short (bare key) fits is = refl
short_passes body short (solution s) fits is = absurd (omega (arith, solved_length s fits, ap length is))

module _ (body : List ℕ) (key : Key) (fits_key : IsKey key) (key_is : key_bytes key ≡ take 6 body) where
  pub set_passes : key ≡ set_key → (r : Record) → IsRecord r → body ≡ body_of r → stops_tile_world r ≡ false
  set_passes set_is pad fits is = refl
  set_passes set_is (set rest) fits is = refl
  set_passes set_is (bare other) fits is = refl
  set_passes set_is (solution s) fits is =
      absurd (fits.fields.key.named (sym (one_key body (solved_after_key s) key s.key fits_key fits.fields.key.fits key_is is) ∙ set_is))

  pub solution_stops : key ≢ set_key → 16 ≤ length body → (r : Record) → IsRecord r → body ≡ body_of r →
      ((length body == 16) || (key.number == 0)) ≡ stops_tile_world r
  solution_stops named long pad fits is = absurd (omega (arith, ap length is))
  solution_stops named long (set rest) fits is = absurd (named (one_key body rest key set_key fits_key set_key_fits key_is is))
  solution_stops named long (bare other) fits is =
      absurd (omega (arith, fits.fits.password_length, ap length is))
  solution_stops named long (solution s) fits is =
      let same = one_key body (solved_after_key s) key s.key fits_key fits.fields.key.fits key_is is in
      ap (λ (b : List ℕ). (length b == 16) || (key.number == 0)) is ∙ ap (λ (k : Key). (length (body_of (solution s)) == 16) || (k.number == 0)) same

  pub still_stops : key ≢ set_key → length body ≡ 16 → (r : Record) → IsRecord r → body ≡ body_of r → stops_tile_world r ≡ true
  still_stops named long r fits is =
      sym (solution_stops named (omega arith) r fits is) ∙ ap (λ (b : Bool). b || (key.number == 0)) (eq-eqb (length body) 16 long)

  pub moving_stops : key ≢ set_key → 16 ≤ length body → length body ≢ 16 → (r : Record) → IsRecord r → body ≡ body_of r →
      stops_tile_world r ≡ (key.number == 0)
  moving_stops named long more r fits is =
      sym (solution_stops named long r fits is) ∙ ap (λ (b : Bool). b || (key.number == 0)) (ne_eqb (length body) 16 more)

-- ---- one record

-- what is read of bytes that begin with a record
pub record Begun (bytes more : List ℕ) (r : Record) : Type 0 where
  pub long : 4 ≤ length bytes
  pub size : little_number 4 bytes ≡ length (body_of r)
  pub rest : drop 4 bytes ≡ body_of r ++ more
  pub body : take (length (body_of r)) (drop 4 bytes) ≡ body_of r
  pub after : drop (length (body_of r)) (drop 4 bytes) ≡ more

pub begun : (bytes more : List ℕ) (r : Record) → IsRecord r → bytes ≡ record_text r ++ more → Begun bytes more r
begun bytes more r fits is =
    let rest : drop 4 bytes ≡ body_of r ++ more = ap (drop 4) is in
    record {
      long = omega (arith, ap length is);
      size = ap (little_number 4) is ∙ little_number-reads_back 4 (length (body_of r)) (body_of r ++ more) (body_size r (shape r fits)).1;
      rest = rest;
      body = ap (take (length (body_of r))) rest ∙ take-append_seam (body_of r) more;
      after = ap (drop (length (body_of r))) rest ∙ drop-append_seam (body_of r) more;
    }

-- nothing that is so of a part holds where there is none
pub none_not_some : {B : Type 0} (o : Option B) (P : B → Type 0) → o ≡ None → IsSomeAnd o P → ⊥
none_not_some {B} o P is h = subst (λ (q : Option B). IsSomeAnd q P) is h

-- ---- all records

-- so many of some records were counted, and the rest is the text of the others
pub record CountsOn (count : ℕ) (rest : List ℕ) (rs : List Record) : Type 0 where
  pub others : List Record
  pub fits : AllByRecursion IsRecord others
  pub text : rest ≡ flat_map record_text others
  pub count_is : count + count_by stops_tile_world others ≡ count_by stops_tile_world rs

pub counts_all : (count : ℕ) (rest : List ℕ) (rs : List Record) → CountsOn count rest rs →
    ((r : Record) (more : List ℕ) → IsRecord r → rest ≡ record_text r ++ more → ⊥) → count ≡ count_by stops_tile_world rs
counts_all count rest rs on cut = by on.others on.fits on.text on.count_is
  where
    by : (others : List Record) → AllByRecursion IsRecord others → rest ≡ flat_map record_text others →
        count + count_by stops_tile_world others ≡ count_by stops_tile_world rs → count ≡ count_by stops_tile_world rs
    by [] fits text count_is = omega arith
    by (r ∷ others) fits text count_is = absurd (cut r (flat_map record_text others) fits.0 text)

-- one more record
pub counts_more : (count next : ℕ) (rest body after : List ℕ) (stop : Bool) (rs : List Record) → CountsOn count rest rs → rest ≢ [] →
    ((r : Record) (more : List ℕ) → IsRecord r → rest ≡ record_text r ++ more → (body ≡ body_of r) × (after ≡ more)) →
    ((r : Record) → IsRecord r → body ≡ body_of r → stop ≡ stops_tile_world r) → next ≡ count + cond stop 1 0 → CountsOn next after rs
counts_more count next rest body after stop rs on some parts stops next_is = by on.others on.fits on.text on.count_is
  where
    by : (others : List Record) → AllByRecursion IsRecord others → rest ≡ flat_map record_text others →
        count + count_by stops_tile_world others ≡ count_by stops_tile_world rs → CountsOn next after rs
    by [] fits text count_is = absurd (some text)
    by (r ∷ others) fits text count_is =
        let cut = parts r (flat_map record_text others) fits.0 text in
        let one : ◌≡◌ {A = ℕ} (cond stop 1 0) (cond (stops_tile_world r) 1 0) = ap (λ (b : Bool). cond b 1 0) (stops r fits.0 cut.0) in
        let split : count_by stops_tile_world (r ∷ others) ≡ cond (stops_tile_world r) 1 0 + count_by stops_tile_world others =
        sum_by-cons (λ (x : Record). cond (stops_tile_world x) 1 0) r others in
        record { others = others; fits = fits.1; text = cut.1; count_is = omega (arith, one, split) }

-- ---- the header

-- what is read of a file's text
pub record Headed (text : List ℕ) (file : File) : Type 0 where
  pub long : 8 ≤ length text
  pub count : slice_index text 7 ≡ length file.extra
  pub rest : drop 8 text ≡ file.extra ++ flat_map record_text file.records
  pub records : drop (length file.extra) (drop 8 text) ≡ flat_map record_text file.records

by_word : (rules : Ruleset) (word extra records text : List ℕ) → length word ≡ 2 → text ≡ header_text rules word extra ++ records →
    (8 ≤ length text) × (slice_index text 7 ≡ length extra) × (drop 8 text ≡ extra ++ records)
by_word rules [] extra records text two is = absurd (omega arith)
by_word rules (x ∷ []) extra records text two is = absurd (omega arith)
by_word rules (x ∷ y ∷ []) extra records text two is =
    (omega (arith, ap length is), ap (λ (t : List ℕ). slice_index t 7) is, ap (drop 8) is)
by_word rules (x ∷ y ∷ z ∷ word) extra records text two is = absurd (omega arith)

pub headed : (text : List ℕ) (file : File) → IsFile file → text ≡ text_of file → Headed text file
headed text file fits is =
    let parts = by_word file.ruleset file.word file.extra (flat_map record_text file.records) text fits.word_length is in
    record {
      long = parts.0;
      count = parts.1;
      rest = parts.2;
      records = ap (drop (length file.extra)) parts.2 ∙ drop-append_seam file.extra (flat_map record_text file.records);
    }
