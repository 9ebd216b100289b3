-- Bytes are a file's text, or have a fault.
use Rattle.std.proofs.Common.{◌≡◌, ◌≢◌, ◌⊎◌, ℕ, zero, suc, ◌+◌, ◌^◌, ◌<◌, ◌≤◌, List, [], ◌∷◌, ◌++◌, length, take, drop, slice_index, refl, ap, sym, subst, ◌∙◌, append_assoc, append-nil, arith, inl, inr, ⊎_elim, length-append, length-take, length-drop, take-append-drop}
use Rattle.std.proofs.Math.Seq.{take-add, drop-append_seam}
use Rattle.std.proofs.lemmas.Bool.{cases_lt}
use Rattle.byteorder.specs.Endian.{little_bytes, little_number}
use Rattle.byteorder.specs.Numbers.{little_from-lt}
use Rattle.byte_output.specs.Bytes.{IsBytes}
use Rattle.byte_output.proofs.Bytes.{IsBytes-take, IsBytes-drop}
use Rattle.tws_moves.specs.Spelling.{IsCutAt}
use Rattle.tws_moves.proofs.Spellings.{cut_or_spelled}
use Rattle.tws_file.specs.declared.key.Key.{Key}
use Rattle.tws_file.specs.declared.file_fault.FileFault.{FileFault}
use Rattle.tws_file.specs.declared.file_fault.FileFault.TheVariants.{ShortHeader, BadSignature, BadRuleset, ShortRecord, BadSize, MoveCut}
use Rattle.tws_file.specs.declared.«ruleset».Ruleset.{Ruleset}
use Rattle.tws_file.specs.declared.«ruleset».Ruleset.TheVariants.{Lynx, Ms}
use Rattle.tws_file.specs.Fields.{IsKey, signature, ruleset_code, set_key, key_bytes}
use Rattle.tws_file.specs.Text.{File, Record, Solution, pad, set, bare, solution, IsLevel, HasSolutionFields, IsRecord, IsFile, IsReadable, body_of, record_text, text_of}
use Rattle.tws_file.specs.Fault.{HasFileFault, IsSigned, IsBadSize, HasBadSize, IsRecordCut, HasCutMoves, StopsAt}
use Rattle.tws_file.proofs.Numbers.{little_bytes-little_number_2, little_bytes-little_number_4}
use Rattle.tws_reader.proofs.Headers.{header_from}
use Rattle.tws_reader.proofs.Bodies.{solved_from, fields_fit}
use Rattle.tws_reader.proofs.Beginnings.{bad_begins_none, cut_moves_begin_none}
use Rattle.tws_reader.proofs.ReadSoFar.{with_more, with_more_fits, with_more_text, without_records, without_records_fits, header_split, cut_after}

-- ---- what can be decided

same_or_not : (m n : ℕ) → (m ≡ n) ⊎ (m ≢ n)
same_or_not m n =
    elim (cases_lt m n) [
      | inl less ↦ inr (λ e. omega (arith, e))
      | inr most ↦ elim (cases_lt n m) [ inl less ↦ inr (λ e. omega (arith, e)) | inr least ↦ inl (omega arith) ]
    ]

same_list : (xs ys : List ℕ) → (xs ≡ ys) ⊎ (xs ≢ ys)
same_list [] [] = inl refl
same_list [] (y ∷ ys) = inr (λ e. absurd cc)
same_list (x ∷ xs) [] = inr (λ e. absurd cc)
same_list (x ∷ xs) (y ∷ ys) =
    elim (same_or_not x y) [
      | inl head ↦ elim (same_list xs ys) [ inl tail ↦ inl cc | inr other ↦ inr (λ e. let tails : xs ≡ ys = cc in other tails) ]
      | inr other ↦ inr (λ e. let heads : x ≡ y = cc in other heads)
    ]

-- ---- the key of a body

-- the key in the first six bytes of a body
abbrev key_in : List ℕ → Key
key_in body = record { number = little_number 2 body; password = take 4 (drop 2 body) }

-- its number fits in two bytes, and its password is four bytes
key_in_fits : (body : List ℕ) → IsBytes body → 6 ≤ length body → IsKey (key_in body)
key_in_fits body fits long = record {
  number = little_from-lt 0 2 body fits;
  password = IsBytes-take 4 (drop 2 body) (IsBytes-drop 2 body fits);
  password_length = omega (arith, length-take 4 (drop 2 body), length-drop 2 body);
}

-- its bytes are those six
key_in_bytes : (body : List ℕ) → IsBytes body → 6 ≤ length body → key_bytes (key_in body) ≡ take 6 body
key_in_bytes body fits long =
    ap (λ (xs : List ℕ). xs ++ take 4 (drop 2 body)) (little_bytes-little_number_2 body (omega arith) fits)
    ∙ sym (take-add 2 4 body)

-- its bytes and what follows them are the body
key_then_rest : (body : List ℕ) → IsBytes body → 6 ≤ length body → key_bytes (key_in body) ++ drop 6 body ≡ body
key_then_rest body fits long =
    ap (λ (xs : List ℕ). xs ++ drop 6 body) (key_in_bytes body fits long) ∙ take-append-drop 6 body

-- a key is that of the set or of a level
set_or_level : (key : Key) → IsKey key → (key ≡ set_key) ⊎ (IsLevel key)
set_or_level key fits =
    let make : ℕ → List ℕ → Key = λ n p. record { number = n; password = p } in
    let whole : make key.number key.password ≡ key = refl in
    elim (same_or_not key.number 0) [
      | inl zero_number ↦ elim (same_list key.password (0 ∷ 0 ∷ 0 ∷ 0 ∷ [])) [
        | inl zeros ↦ inl (ap (λ (n : ℕ). make n key.password) zero_number ∙ ap (make 0) zeros)
        | inr other ↦ inr (record { fits = fits; named = λ e. other (ap (λ (k : Key). k.password) e) })
      ]
      | inr other ↦ inr (record { fits = fits; named = λ e. other (ap (λ (k : Key). k.number) e) })
    ]

-- ---- a body of a size that records have

-- the body of a record, or of a solution whose moves are cut
data InBody (body : List ℕ) : Type 0 where
  whole_body : (r : Record) → IsRecord r → body_of r ≡ body → InBody body
  cut_body : (s : Solution) (at : ℕ) → HasSolutionFields s → body_of (solution s) ≡ body → IsCutAt s.moves at → InBody body

-- a body of 16 bytes or more with a level's key is that of a solution, or its moves are cut
solution_in : (body : List ℕ) → IsBytes body → 16 ≤ length body → length body < 2 ^ 32 → IsLevel (key_in body) → InBody body
solution_in body fits long size level =
    let rest = drop 6 body in
    let moves = drop 10 rest in
    let seed = little_number 4 (drop 2 rest) in
    let ticks = little_number 4 (drop 6 rest) in
    let rest_fits : IsBytes rest = IsBytes-drop 6 body fits in
    let rest_long : 10 ≤ length rest = omega (arith, length-drop 6 body) in
    let rest_size : 6 + length rest < 2 ^ 32 = omega (arith, length-drop 6 body, size) in
    let fields = fields_fit (key_in body) rest (drop 2 rest) (drop 6 rest) moves seed ticks level rest_fits rest_long rest_size
    (little_from-lt 0 4 (drop 2 rest) (IsBytes-drop 2 rest rest_fits))
    (little_from-lt 0 4 (drop 6 rest) (IsBytes-drop 6 rest rest_fits)) refl in
    let s : Solution = record { key = key_in body; flags = slice_index rest 0; start = slice_index rest 1; seed = seed; ticks = ticks; moves = moves } in
    let bytes : body_of (solution s) ≡ body =
    ap (λ (xs : List ℕ). key_bytes (key_in body) ++ xs) (solved_from rest (drop 2 rest) (drop 6 rest) moves seed ticks rest_fits rest_long refl refl refl refl refl)
    ∙ key_then_rest body fits (omega arith) in
    elim (cut_or_spelled moves (IsBytes-drop 10 rest rest_fits)) [
      | inl spelled ↦ whole_body (solution s) (record { fields = fields; whole = spelled }) bytes
      | inr cut ↦ cut_body s cut.0 fields bytes cut.1
    ]

-- a body with the key of the set is that of a record of the set
set_in : (body : List ℕ) → IsBytes body → 6 ≤ length body → (drop 6 body ≡ []) ⊎ (10 ≤ length (drop 6 body)) → length body < 2 ^ 32 → key_in body ≡ set_key → InBody body
set_in body fits long sizes size is_set =
    whole_body (set (drop 6 body))
    (record { bytes = IsBytes-drop 6 body fits; long = sizes; size = omega (arith, length-drop 6 body, size) })
    (ap (λ (k : Key). key_bytes k ++ drop 6 body) (sym is_set) ∙ key_then_rest body fits long)

none_left : (body : List ℕ) → length body ≡ 6 → drop 6 body ≡ []
none_left body six = empty (drop 6 body) (omega (arith, length-drop 6 body))
  where
    empty : (xs : List ℕ) → length xs ≡ 0 → xs ≡ []
    empty [] none = refl
    empty (x ∷ xs) none = absurd (omega (arith, none))

-- an empty body is that of a pad
none_in : (body : List ℕ) → length body ≡ 0 → InBody body
none_in [] none = whole_body pad tt refl
none_in (b ∷ rest) none = absurd (omega (arith, none))

-- a body of six bytes is that of a bare record or of the set
six_in : (body : List ℕ) → IsBytes body → length body < 2 ^ 32 → length body ≡ 6 → InBody body
six_in body fits size six =
    let long : 6 ≤ length body = omega (arith, six) in
    let none = none_left body six in
    elim (set_or_level (key_in body) (key_in_fits body fits long)) [
      | inl is_set ↦ set_in body fits long (inl none) size is_set
      | inr level ↦ whole_body (bare (key_in body)) level (sym (append-nil (key_bytes (key_in body))) ∙ ap (λ (xs : List ℕ). key_bytes (key_in body) ++ xs) (sym none) ∙ key_then_rest body fits long)
    ]

-- a body of 16 bytes or more is that of a solution or of the set
long_in : (body : List ℕ) → IsBytes body → length body < 2 ^ 32 → 16 ≤ length body → InBody body
long_in body fits size long =
    let six : 6 ≤ length body = omega (arith, long) in
    elim (set_or_level (key_in body) (key_in_fits body fits six)) [
      | inl is_set ↦ set_in body fits six (inr (omega (arith, long, length-drop 6 body))) size is_set
      | inr level ↦ solution_in body fits long size level
    ]

-- a body of any size that records have is that of some record, or its moves are cut
in_body : (body : List ℕ) → IsBytes body → length body < 2 ^ 32 → (length body ≡ 0) ⊎ (length body ≡ 6) ⊎ (16 ≤ length body) → InBody body
in_body body fits size sizes =
    ⊎_elim (none_in body) (λ (more : (length body ≡ 6) ⊎ (16 ≤ length body)). ⊎_elim (six_in body fits size) (long_in body fits size) more) sizes

-- ---- what bytes begin with

data Begins (rest : List ℕ) : Type 0 where
  begins_cut : IsRecordCut rest → Begins rest
  begins_bad : HasBadSize rest → Begins rest
  begins_moves : (at : ℕ) → HasCutMoves rest at → Begins rest
  begins_whole : (r : Record) (more : List ℕ) → IsRecord r → rest ≡ record_text r ++ more → Begins rest

data Sizes (n : ℕ) : Type 0 where
  bad_size : IsBadSize n → Sizes n
  good_size : ¬ IsBadSize n → (n ≡ 0) ⊎ (n ≡ 6) ⊎ (16 ≤ n) → Sizes n

-- a size is a bad one, or 0, 6, or at least 16
size_kind : (n : ℕ) → Sizes n
size_kind n =
    elim (cases_lt n 1) [
      | inl none ↦ good_size (λ bad. ⊎_elim (λ a. omega (arith, a.0, none)) (λ b. omega (arith, b.0, none)) bad) (inl (omega (arith, none)))
      | inr some ↦ elim (cases_lt n 6) [
        | inl few ↦ bad_size (inl (some, omega (arith, few)))
        | inr six_or_more ↦ elim (cases_lt n 7) [
          | inl six ↦ good_size (λ bad. ⊎_elim (λ a. omega (arith, a.1, six_or_more)) (λ b. omega (arith, b.0, six)) bad) (inr (inl (omega (arith, six, six_or_more))))
          | inr seven ↦ elim (cases_lt n 16) [
            | inl less ↦ bad_size (inr (seven, omega (arith, less)))
            | inr long ↦ good_size (λ bad. ⊎_elim (λ a. omega (arith, a.1, long)) (λ b. omega (arith, b.1, long)) bad) (inr (inr long))
          ]
        ]
      ]
    ]

-- a record's size and body, and what follows
body_after_size : (rest body more : List ℕ) → IsBytes rest → 4 ≤ length rest → length body ≡ little_number 4 rest → body ++ more ≡ drop 4 rest → rest ≡ (little_bytes 4 (length body) ++ body) ++ more
body_after_size rest body more fits long size parts =
    sym (take-append-drop 4 rest)
    ∙ ap (λ (xs : List ℕ). xs ++ drop 4 rest) (sym (ap (little_bytes 4) size ∙ little_bytes-little_number_4 rest long fits))
    ∙ ap (λ (xs : List ℕ). little_bytes 4 (length body) ++ xs) (sym parts)
    ∙ sym (append_assoc (little_bytes 4 (length body)) body more)

-- bytes begin with a record, or with one that is cut, has a bad size or has cut moves
begins : (rest : List ℕ) → IsBytes rest → Begins rest
begins rest fits =
    let n = little_number 4 rest in
    let body = take n (drop 4 rest) in
    let more = drop n (drop 4 rest) in
    elim (cases_lt (length rest) 4) [
      | inl short ↦ begins_cut (inl short)
      | inr long ↦ elim (size_kind n) [
        | bad_size bad ↦ begins_bad (long, bad)
        | good_size good sizes ↦ elim (cases_lt (length rest) (4 + n)) [
          | inl cut ↦ begins_cut (inr (long, good, cut))
          | inr room ↦
              let len : length body ≡ n = omega (arith, length-take n (drop 4 rest), length-drop 4 rest, room) in
              let split = body_after_size rest body more fits long len (take-append-drop n (drop 4 rest)) in
              let small : length body < 2 ^ 32 = omega (arith, len, little_from-lt 0 4 rest fits) in
              elim (in_body body (IsBytes-take n (drop 4 rest) (IsBytes-drop 4 rest fits)) small (subst (λ (k : ℕ). (k ≡ 0) ⊎ (k ≡ 6) ⊎ (16 ≤ k)) (sym len) sizes)) [
                | whole_body r fine bytes ↦ begins_whole r more fine (split ∙ ap (λ (xs : List ℕ). (little_bytes 4 (length xs) ++ xs) ++ more) (sym bytes))
                | cut_body s at fields bytes cut ↦
                    begins_moves at (record {
                      solved = s;
                      more = more;
                      fields = fields;
                      split = split ∙
                          ap (λ (xs : List ℕ). (little_bytes 4 (length xs) ++ xs) ++ more) (sym bytes);
                      cut = cut;
                    })
              ]
        ]
      ]
    ]

-- ---- all records

-- the bytes are a file's text, or have a fault
abbrev Answers : List ℕ → Type 0
Answers bytes = IsReadable bytes ⊎ ((e : FileFault) × HasFileFault bytes e)

-- if what follows a file's text begins no record, the records stop there
stops : (file : File) (rest : List ℕ) → IsFile file → rest ≢ [] →
    ((r : Record) (more : List ℕ) → IsRecord r → rest ≢ record_text r ++ more) →
    StopsAt (text_of file ++ rest) (length (text_of file)) rest
stops file rest fits some none = record { prefix = file; fits = fits; split = refl; place = refl; some = some; no_record = none }

-- after a record fewer bytes are left
shorter : (rest more : List ℕ) (r : Record) (n : ℕ) → rest ≡ record_text r ++ more → length rest ≤ suc n → length more ≤ n
shorter rest more r n split enough =
    omega (arith, enough, ap length split, length-append (record_text r) more, length-append (little_bytes 4 (length (body_of r))) (body_of r))

-- a record after a file makes a longer file
one_more : (file : File) (rest more : List ℕ) (r : Record) → rest ≡ record_text r ++ more → text_of (with_more file (r ∷ [])) ++ more ≡ text_of file ++ rest
one_more file rest more r split =
    ap (λ (xs : List ℕ). xs ++ more) (with_more_text file (r ∷ []) ∙ ap (λ (xs : List ℕ). text_of file ++ xs) (append-nil (record_text r)))
    ∙ append_assoc (text_of file) (record_text r) more
    ∙ ap (λ (xs : List ℕ). text_of file ++ xs) (sym split)

-- what is left of bytes is bytes
rest_fits : (text more rest : List ℕ) → rest ≡ text ++ more → IsBytes rest → IsBytes more
rest_fits text more rest split fits =
    subst IsBytes (ap (drop (length text)) split ∙ drop-append_seam text more) (IsBytes-drop (length text) rest fits)

-- what follows a file's text, record by record, ends or has a fault
walk : (n : ℕ) (file : File) (rest : List ℕ) → length rest ≤ n → IsFile file → IsBytes rest → Answers (text_of file ++ rest)
walk n file [] enough fits bytes = inl (file, record { fits = fits; text = append-nil (text_of file) })
walk zero file (b ∷ rest) enough fits bytes = absurd (omega arith)
walk (suc n) file (b ∷ rest) enough fits bytes =
    let some : b ∷ rest ≢ [] = λ none. absurd cc in
    elim (begins (b ∷ rest) bytes) [
      | begins_cut cut ↦ inr (ShortRecord (length (text_of file)), cut_after file (b ∷ rest) (length (text_of file)) fits refl some cut)
      | begins_bad bad ↦ inr (BadSize (length (text_of file)), (b ∷ rest, stops file (b ∷ rest) fits some (bad_begins_none (b ∷ rest) bad), bad))
      | begins_moves at moves ↦
          inr (
            MoveCut (length (text_of file) + 20 + at),
            record {
              offset = length (text_of file);
              rest = b ∷ rest;
              at = at;
              stop = stops file (b ∷ rest) fits some (cut_moves_begin_none (b ∷ rest) at moves);
              moves = moves;
              place_is = refl;
            },
          )
      | begins_whole r more fine split ↦
          subst Answers (one_more file (b ∷ rest) more r split)
          (walk n (with_more file (r ∷ [])) more (shorter (b ∷ rest) more r n split enough) (with_more_fits file (r ∷ []) fits (fine, tt)) (rest_fits (record_text r) more (b ∷ rest) split bytes))
    ]

-- ---- the header

-- bytes with the signature and a known ruleset are a file's text, or have a fault
after_header : (bytes : List ℕ) (rules : Ruleset) → IsBytes bytes → IsSigned bytes → ruleset_code rules ≡ slice_index bytes 4 → (slice_index bytes 4 ≡ 1) ⊎ (slice_index bytes 4 ≡ 2) → Answers bytes
after_header bytes rules fits signed code known =
    let count = slice_index bytes 7 in
    let rest = drop 8 bytes in
    let word = slice_index bytes 5 ∷ slice_index bytes 6 ∷ [] in
    elim (cases_lt (length bytes) (8 + count)) [
      | inl cut ↦ inr (ShortHeader (length bytes), (refl, inr (record { signed = signed; known = known; cut = cut })))
      | inr room ↦
          let header = header_from bytes rules rest (take count rest) (drop count rest) count fits signed.long signed.signed code refl refl (omega (arith, room, length-drop 8 bytes)) refl refl in
          let file = without_records rules word (take count rest) in
          subst Answers (sym (header_split bytes word (take count rest) (drop count rest) rules header))
          (walk (length (drop count rest)) file (drop count rest) (omega arith)
          (without_records_fits bytes word (take count rest) (drop count rest) rules header)
          (IsBytes-drop count rest (IsBytes-drop 8 bytes fits)))
    ]

-- any bytes are a file's text, or have a fault
pub readable_or_fault : (bytes : List ℕ) → IsBytes bytes → IsReadable bytes ⊎ ((e : FileFault) × HasFileFault bytes e)
readable_or_fault bytes fits =
    elim (cases_lt (length bytes) 8) [
      | inl short ↦ inr (ShortHeader (length bytes), (refl, inl short))
      | inr long ↦ elim (same_list (take 4 bytes) signature) [
        | inr other ↦ inr (BadSignature, (long, other))
        | inl signed ↦
            let is_signed : IsSigned bytes = record { long = long; signed = signed } in
            elim (same_or_not (slice_index bytes 4) 1) [
              | inl lynx ↦ after_header bytes Lynx fits is_signed (sym lynx) (inl lynx)
              | inr not_lynx ↦ elim (same_or_not (slice_index bytes 4) 2) [
                | inl ms ↦ after_header bytes Ms fits is_signed (sym ms) (inr ms)
                | inr not_ms ↦ inr (BadRuleset (slice_index bytes 4), (is_signed, refl, (not_lynx, not_ms)))
              ]
            ]
      ]
    ]
