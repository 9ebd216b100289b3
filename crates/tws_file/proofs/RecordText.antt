-- The texts of records are a prefix code: none is a prefix of another.
use Rattle.std.proofs.Common.{◌≡◌, ◌≢◌, ◌⊎◌, ℕ, zero, suc, ◌+◌, ◌^◌, ◌<◌, ◌≤◌, List, [], ◌∷◌, ◌++◌, length, refl, ap, sym, ◌∙◌, arith, append-nil, ⊎_elim, inl, inr, length-append}
use Rattle.byteorder.specs.Endian.{little_bytes}
use Rattle.tws_file.specs.declared.key.Key.{Key}
use Rattle.byte_output.specs.Bytes.{IsBytes}
use Rattle.tws_file.specs.Fields.{IsKey, set_key, key_bytes}
use Rattle.tws_file.specs.Text.{Solution, Record, pad, set, bare, solution, body_of, record_text, IsLevel, HasSolutionFields, IsSet, IsRecord}
use Rattle.tws_file.specs.Steps.{IsSize, IsShaped, solved_after_key}
use Rattle.byte_output.proofs.Lists.{append_parts}
use Rattle.tws_moves.proofs.Codes.{IsCode}
use Rattle.tws_file.proofs.Numbers.{little_bytes-injective}

-- ---- keys

-- keys with the same fields are equal
key_is : (j k : Key) → j.number ≡ k.number → j.password ≡ k.password → j ≡ k
key_is j k number password =
    let make : ℕ → List ℕ → Key = λ n p. record { number = n; password = p } in
    let whole : make j.number j.password ≡ make k.number k.password = cc in
    whole

-- a key's bytes determine it, whatever follows them
pub key_parts : (j k : Key) (x y : List ℕ) → IsKey j → IsKey k → key_bytes j ++ x ≡ key_bytes k ++ y → (j ≡ k) × (x ≡ y)
key_parts j k x y fj fk e =
    let number = append_parts (little_bytes 2 j.number) (little_bytes 2 k.number) (j.password ++ x) (k.password ++ y) refl e in
    let password = append_parts j.password k.password x y (fj.password_length ∙ sym fk.password_length) number.1 in
    let same : j.number ≡ k.number = little_bytes-injective 2 j.number k.number fj.number fk.number number.0 in
    let words : j.password ≡ k.password = password.0 in
    (key_is j k same words, password.1)

-- ---- bodies

-- the body of a solution determines it
solution-injective : (s t : Solution) → HasSolutionFields s → HasSolutionFields t → body_of (solution s) ≡ body_of (solution t) → s ≡ t
solution-injective s t fs ft e =
    let key = key_parts s.key t.key (solved_after_key s) (solved_after_key t) fs.key.fits ft.key.fits e in
    let rest : solved_after_key s ≡ solved_after_key t = key.1 in
    let flags : s.flags ≡ t.flags = cc in
    let start : s.start ≡ t.start = cc in
    let after : little_bytes 4 s.seed ++ (little_bytes 4 s.ticks ++ s.moves) ≡ little_bytes 4 t.seed ++ (little_bytes 4 t.ticks ++ t.moves) = cc in
    let seed = append_parts (little_bytes 4 s.seed) (little_bytes 4 t.seed) (little_bytes 4 s.ticks ++ s.moves) (little_bytes 4 t.ticks ++ t.moves) refl after in
    let ticks = append_parts (little_bytes 4 s.ticks) (little_bytes 4 t.ticks) s.moves t.moves refl seed.1 in
    let same_seed : s.seed ≡ t.seed = little_bytes-injective 4 s.seed t.seed fs.seed ft.seed seed.0 in
    let same_ticks : s.ticks ≡ t.ticks = little_bytes-injective 4 s.ticks t.ticks fs.ticks ft.ticks ticks.0 in
    let same_key : s.key ≡ t.key = key.0 in
    let moves : s.moves ≡ t.moves = ticks.1 in
    let make : Key → ℕ → ℕ → ℕ → ℕ → List ℕ → Solution = λ k f b r n m. record { key = k; flags = f; start = b; seed = r; ticks = n; moves = m } in
    let whole : make s.key s.flags s.start s.seed s.ticks s.moves ≡ make t.key t.flags t.start t.seed t.ticks t.moves = cc in
    whole

zeros_are_bytes : IsBytes (0 ∷ 0 ∷ 0 ∷ 0 ∷ [])
zeros_are_bytes zero = omega arith
zeros_are_bytes (suc zero) = omega arith
zeros_are_bytes (suc (suc zero)) = omega arith
zeros_are_bytes (suc (suc (suc zero))) = omega arith
zeros_are_bytes (suc (suc (suc (suc i)))) = omega arith

-- the key of the set has a number and a password that fit
pub set_key_fits : IsKey set_key
set_key_fits = record { number = omega arith; password = zeros_are_bytes; password_length = refl }

-- a body that begins with the key of the set is not a level's
no_level : (key : Key) (x y : List ℕ) → IsLevel key → key_bytes set_key ++ x ≢ key_bytes key ++ y
no_level key x y level e = level.named (sym (key_parts set_key key x y set_key_fits level.fits e).0)

key_alone : (key : Key) → key_bytes key ++ [] ≡ key_bytes key
key_alone key = append-nil (key_bytes key)

-- a record's body determines it, even if its moves are cut
pub body_of-injective : (q r : Record) → IsShaped q → IsShaped r → body_of q ≡ body_of r → q ≡ r
body_of-injective pad pad fq fr e = refl
body_of-injective pad (set y) fq fr e = absurd cc
body_of-injective pad (bare k) fq fr e = absurd cc
body_of-injective pad (solution t) fq fr e = absurd cc
body_of-injective (set x) pad fq fr e = absurd cc
body_of-injective (set x) (set y) fq fr e = ap set (key_parts set_key set_key x y set_key_fits set_key_fits e).1
body_of-injective (set x) (bare k) fq fr e = absurd (no_level k x [] fr (e ∙ sym (key_alone k)))
body_of-injective (set x) (solution t) fq fr e = absurd (no_level t.key x (solved_after_key t) fr.key e)
body_of-injective (bare j) pad fq fr e = absurd cc
body_of-injective (bare j) (set y) fq fr e = absurd (no_level j y [] fq (sym e ∙ sym (key_alone j)))
body_of-injective (bare j) (bare k) fq fr e = ap bare (key_parts j k [] [] fq.fits fr.fits (key_alone j ∙ e ∙ sym (key_alone k))).0
body_of-injective (bare j) (solution t) fq fr e =
    let rest = (key_parts j t.key [] (solved_after_key t) fq.fits fr.key.fits (key_alone j ∙ e)).1 in
    absurd cc
body_of-injective (solution s) pad fq fr e = absurd cc
body_of-injective (solution s) (set y) fq fr e = absurd (no_level s.key y (solved_after_key s) fq.key (sym e))
body_of-injective (solution s) (bare k) fq fr e =
    let rest = (key_parts s.key k (solved_after_key s) [] fq.key.fits fr.fits (e ∙ sym (key_alone k))).1 in
    absurd cc
body_of-injective (solution s) (solution t) fq fr e = ap solution (solution-injective s t fq fr e)

-- ---- texts

-- after its key a record of the set has nothing, or ten bytes or more
set_size : (rest : List ℕ) → IsSet rest → (length rest ≡ 0) ⊎ (10 ≤ length rest)
set_size rest fits = ⊎_elim (λ none. inl (ap length none)) inr fits.long

-- the body of a record has one of the sizes of bodies, and its size fits in four bytes
pub body_size : (r : Record) → IsShaped r → IsSize (length (body_of r)) × (length (body_of r) < 2 ^ 32)
body_size pad fits = (inl refl, omega arith)
body_size (set rest) fits =
    (⊎_elim (λ e. inr (inl (omega arith))) (λ e. inr (inr (omega arith))) (set_size rest fits), omega (arith, fits.size))
body_size (bare key) fits =
    (inr (inl (omega (arith, fits.fits.password_length))), omega (arith, fits.fits.password_length))
body_size (solution s) fits =
    let len : length (body_of (solution s)) ≡ 16 + length s.moves = omega (arith, fits.key.fits.password_length, length-append s.key.password (solved_after_key s)) in
    (inr (inr (omega (arith, len))), omega (arith, len, fits.size))

-- no record's text is a prefix of another's, even if their moves may be cut
pub shaped_texts : IsCode IsShaped record_text
shaped_texts q r x y fq fr e =
    let size = append_parts (little_bytes 4 (length (body_of q))) (little_bytes 4 (length (body_of r))) (body_of q ++ x) (body_of r ++ y) refl e in
    let same = little_bytes-injective 4 (length (body_of q)) (length (body_of r)) (body_size q fq).1 (body_size r fr).1 size.0 in
    let parts = append_parts (body_of q) (body_of r) x y same size.1 in
    (body_of-injective q r fq fr parts.0, parts.1)

-- a record whose moves are whole is also one whose moves may be cut
pub shape : (r : Record) → IsRecord r → IsShaped r
shape pad fits = tt
shape (set rest) fits = fits
shape (bare key) fits = fits
shape (solution s) fits = fits.fields

-- no record's text is a prefix of another's
pub record_texts : IsCode IsRecord record_text
record_texts q r x y fq fr e = shaped_texts q r x y (shape q fq) (shape r fr) e
