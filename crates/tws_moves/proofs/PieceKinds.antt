-- What a piece holds: one wait, which needs no more bytes alone, or three plain steps.
use Rattle.std.proofs.Common.{◌≡◌, ◌⊎◌, ℕ, ◌+◌, ◌*◌, ◌^◌, ◌<◌, ◌≤◌, ◌/◌, false, ltb, List, [], ◌∷◌, length, refl, ap, ◌∙◌, arith, inl, inr}
use Rattle.std.proofs.lemmas.Bool.{cases_lt, lt-ltb, le-ltb}
use Rattle.tws_moves.specs.declared.act.Act.TheVariants.{Step, Code}
use Rattle.tws_moves.specs.declared.layout.Layout.{Layout}
use Rattle.tws_moves.specs.declared.layout.Layout.TheVariants as layout
use Rattle.byte_output.specs.Bytes.{IsBytes}
use Rattle.tws_moves.specs.Bytes.{number_of, bits}
use Rattle.tws_moves.specs.Move.{Wait}
use Rattle.tws_moves.specs.Spelling.{IsPiece, layout_of, layout_length, waits_of}
use Rattle.tws_moves.specs.Shortest.{act_bytes, alone, code_more}
use Rattle.tws_moves.specs.Steps.{HasLayout, ticks_limit}
use Rattle.tws_moves.proofs.Held.{waits_in, step_short, step_middle, step_long, little_length}

-- the piece holds one wait, and that wait alone takes no more bytes
pub record One (piece : List ℕ) : Type 0 where
  pub wait : Wait
  pub made : waits_of piece ≡ wait ∷ []
  pub held : HasLayout wait
  pub short : length (alone wait) ≤ length piece

-- the piece holds three plain steps
pub record Three (piece : List ℕ) : Type 0 where
  pub first : ℕ
  pub second : ℕ
  pub third : ℕ
  pub small : (first < 4) × (second < 4) × (third < 4)
  pub made : waits_of piece ≡ record { ticks = 3; act = Step first } ∷ record { ticks = 3; act = Step second } ∷ record { ticks = 3; act = Step third } ∷ []

-- ---- the bytes of an act alone

-- a step after fewer than 8 ticks takes at most one byte
short_size : (t d : ℕ) → t < 2 ^ 3 → length (act_bytes t (Step d)) ≤ 1
short_size t d h = rw (step_short t d h) (omega arith)

-- after fewer than 2048 ticks, at most two
middle_size : (t d : ℕ) → t < 2 ^ 11 → length (act_bytes t (Step d)) ≤ 2
middle_size t d h = elim (cases_lt t (2 ^ 3)) [ inl short ↦ omega (arith, short_size t d short) | inr up ↦ rw (step_middle t d up h) (omega arith) ]

-- and never more than four
step_size : (t d : ℕ) → length (act_bytes t (Step d)) ≤ 4
step_size t d = elim (cases_lt t (2 ^ 11)) [ inl middle ↦ omega (arith, middle_size t d middle) | inr long ↦ rw (step_long t d long) (omega arith) ]

-- a step in any direction can wait at least 2047 ticks
pub step_limit : (d : ℕ) → 2 ^ 11 ≤ ticks_limit (Step d)
step_limit d = elim (cases_lt d 4) [ inl small ↦ let e = lt-ltb d 4 small in rw e (omega arith) | inr large ↦ let e = le-ltb d 4 large in rw e (omega arith) ]

-- in four of the directions it can wait below 2^27 ticks
four_limit : (d : ℕ) → d < 4 → ticks_limit (Step d) ≡ 2 ^ 27
four_limit d small = let e = lt-ltb d 4 small in rw e

-- a code takes two bytes and those that its ticks need
code_size : (t c more : ℕ) → code_more t ≤ more → length (act_bytes t (Code c)) ≤ 2 + more
code_size t c more h = omega (arith, little_length (2 + code_more t) (19 + 4 * code_more t + 2 ^ 5 * c + 2 ^ 14 * t))

-- fewer than 4 ticks need no further byte
more_none : (t : ℕ) → t < 2 ^ 2 → code_more t ≤ 0
more_none t h = let e = lt-ltb t (2 ^ 2) h in rw e (omega arith)

-- fewer than 1024 need at most one
more_one : (t : ℕ) → t < 2 ^ 10 → code_more t ≤ 1
more_one t h = elim (cases_lt t (2 ^ 2)) [ inl small ↦ omega (arith, more_none t small) | inr up ↦ let f = le-ltb t (2 ^ 2) up in let e = lt-ltb t (2 ^ 10) h in rw (f, e) (omega arith) ]

-- fewer than 2^18 need at most two
more_two : (t : ℕ) → t < 2 ^ 18 → code_more t ≤ 2
more_two t h = elim (cases_lt t (2 ^ 10)) [
  | inl small ↦ omega (arith, more_one t small)
  | inr up ↦ let d : ltb t (2 ^ 2) ≡ false = le-ltb t (2 ^ 2) (omega arith) in let f = le-ltb t (2 ^ 10) up in let e = lt-ltb t (2 ^ 18) h in rw (d, f, e) (omega arith)
]

-- no wait needs more than three
more_three : (t : ℕ) → code_more t ≤ 3
more_three t = elim (cases_lt t (2 ^ 18)) [
  | inl small ↦ omega (arith, more_two t small)
  | inr up ↦ let d : ltb t (2 ^ 2) ≡ false = le-ltb t (2 ^ 2) (omega arith) in
      let f : ltb t (2 ^ 10) ≡ false = le-ltb t (2 ^ 10) (omega arith) in let e = le-ltb t (2 ^ 18) up in
      rw (d, f, e) (omega arith)
]

-- ---- by its layout

-- the ticks in a code's piece, and the bytes that they need
code_ticks : (first : ℕ) (rest : List ℕ) (more : ℕ) → IsBytes (first ∷ rest) → length rest ≡ 1 + more → more ≤ 3 →
    (code_more (number_of (first ∷ rest) / 2 ^ 14) ≤ more) × (number_of (first ∷ rest) / 2 ^ 14 < 2 ^ 26)
code_ticks a [] more fits long few = absurd (omega arith)
code_ticks a (b ∷ []) more fits long few =
    let t = number_of (a ∷ b ∷ []) / 2 ^ 14 in
    let low : t < 2 ^ 2 = omega (arith, fits 0, fits 1) in
    (omega (arith, more_none t low), omega arith)
code_ticks a (b ∷ c ∷ []) more fits long few =
    let t = number_of (a ∷ b ∷ c ∷ []) / 2 ^ 14 in
    let low : t < 2 ^ 10 = omega (arith, fits 0, fits 1, fits 2) in
    (omega (arith, more_one t low), omega arith)
code_ticks a (b ∷ c ∷ d ∷ []) more fits long few =
    let t = number_of (a ∷ b ∷ c ∷ d ∷ []) / 2 ^ 14 in
    let low : t < 2 ^ 18 = omega (arith, fits 0, fits 1, fits 2, fits 3) in
    (omega (arith, more_two t low), omega arith)
code_ticks a (b ∷ c ∷ d ∷ e ∷ []) more fits long few =
    let t = number_of (a ∷ b ∷ c ∷ d ∷ e ∷ []) / 2 ^ 14 in
    let low : t < 2 ^ 26 = omega (arith, fits 0, fits 1, fits 2, fits 3, fits 4) in
    (omega (arith, more_three t), low)
code_ticks a (b ∷ c ∷ d ∷ e ∷ f ∷ rest) more fits long few = absurd (omega arith)

-- what a piece of a given layout holds
piece_in : (l : Layout) (first : ℕ) (rest : List ℕ) → IsPiece (first ∷ rest) → layout_of first ≡ l → One (first ∷ rest) ⊎ Three (first ∷ rest)
piece_in layout.ThreeSteps first rest one e =
    let n = number_of (first ∷ rest) in
    inr (record {
      first = bits 2 2 n;
      second = bits 4 2 n;
      third = bits 6 2 n;
      small = (omega arith, omega arith, omega arith);
      made = waits_in layout.ThreeSteps n first rest e refl;
    })
piece_in layout.ShortStep first rest one e =
    let n = number_of (first ∷ rest) in
    inl (record {
      wait = record { ticks = bits 5 3 n; act = Step (bits 2 3 n) };
      made = waits_in layout.ShortStep n first rest e refl;
      held = record { act = omega arith; ticks = omega (arith, step_limit (bits 2 3 n)) };
      short = omega (arith, short_size (bits 5 3 n) (bits 2 3 n) (omega arith));
    })
piece_in layout.MiddleStep first rest one e =
    let n = number_of (first ∷ rest) in
    let long = one.whole ∙ ap (λ (l : Layout). layout_length l first) e in
    inl (record {
      wait = record { ticks = bits 5 11 n; act = Step (bits 2 3 n) };
      made = waits_in layout.MiddleStep n first rest e refl;
      held = record { act = omega arith; ticks = omega (arith, step_limit (bits 2 3 n)) };
      short = omega (arith, long, middle_size (bits 5 11 n) (bits 2 3 n) (omega arith));
    })
piece_in layout.LongStep first rest one e =
    let n = number_of (first ∷ rest) in
    let long = one.whole ∙ ap (λ (l : Layout). layout_length l first) e in
    inl (record {
      wait = record { ticks = bits 5 27 n; act = Step (bits 2 2 n) };
      made = waits_in layout.LongStep n first rest e refl;
      held = record { act = omega arith; ticks = omega (arith, four_limit (bits 2 2 n) (omega arith)) };
      short = omega (arith, long, step_size (bits 5 27 n) (bits 2 2 n));
    })
piece_in layout.Code first rest one e =
    let n = number_of (first ∷ rest) in
    let long = one.whole ∙ ap (λ (l : Layout). layout_length l first) e in
    let found = code_ticks first rest (bits 2 2 first) one.bytes (omega arith) (omega arith) in
    inl (record {
      wait = record { ticks = n / 2 ^ 14; act = Code (bits 5 9 n) };
      made = waits_in layout.Code n first rest e refl;
      held = record { act = omega arith; ticks = found.1 };
      short = omega (arith, long, code_size (n / 2 ^ 14) (bits 5 9 n) (bits 2 2 first) found.0);
    })

-- every piece holds one wait or three plain steps
pub piece_kind : (piece : List ℕ) → IsPiece piece → One piece ⊎ Three piece
piece_kind [] one = absurd one.whole
piece_kind (first ∷ rest) one = piece_in (layout_of first) first rest one refl
