-- A wait alone in a piece: the shortest layout that holds it.
use Rattle.std.proofs.Common.{◌≡◌, ℕ, zero, suc, ◌+◌, ◌*◌, ◌^◌, ◌<◌, ◌≤◌, ◌/◌, ◌%◌, false, ltb, List, [], ◌∷◌, length, refl, ap, sym, subst, ◌∙◌, arith, inl, inr}
use Rattle.std.proofs.lemmas.Bool.{cases_lt, lt-ltb, le-ltb}
use Rattle.tws_moves.specs.declared.act.Act.{Act}
use Rattle.tws_moves.specs.declared.act.Act.TheVariants.{Step, Code}
use Rattle.tws_moves.specs.declared.layout.Layout.{Layout}
use Rattle.tws_moves.specs.declared.layout.Layout.TheVariants as layout
use Rattle.byte_output.specs.Bytes.{IsBytes}
use Rattle.tws_moves.specs.Bytes.{number_of, bits, little_bytes}
use Rattle.tws_moves.specs.Move.{Wait, IsAct}
use Rattle.tws_moves.specs.Spelling.{IsPiece, layout_of, layout_length, layout_waits, waits_of}
use Rattle.tws_moves.specs.Shortest.{act_bytes, alone}
use Rattle.tws_moves.specs.Steps.{HasLayout, ticks_limit}

-- ---- the layout of a first byte

-- a first byte whose low two bits are 0 begins three steps
pub three_first : (first : ℕ) → first % 4 ≡ 0 → layout_of first ≡ layout.ThreeSteps
three_first first e = rw e

-- with low bits 1 it begins a short step
pub short_first : (first : ℕ) → first % 4 ≡ 1 → layout_of first ≡ layout.ShortStep
short_first first e = rw e

-- with low bits 2, a step in two bytes
pub middle_first : (first : ℕ) → first % 4 ≡ 2 → layout_of first ≡ layout.MiddleStep
middle_first first e = rw e

-- with low bits 3 and bit 4 clear, a step in four bytes
pub long_first : (first : ℕ) → first % 4 ≡ 3 → first / 16 % 2 ≡ 0 → layout_of first ≡ layout.LongStep
long_first first e f = rw (e, f)

-- with low bits 3 and bit 4 set, a code
pub code_first : (first : ℕ) → first % 4 ≡ 3 → first / 16 % 2 ≡ 1 → layout_of first ≡ layout.Code
code_first first e f = rw (e, f)

-- what a piece of this layout with the value `n` holds
pub waits_in : (l : Layout) (n first : ℕ) (rest : List ℕ) → layout_of first ≡ l → number_of (first ∷ rest) ≡ n → waits_of (first ∷ rest) ≡ layout_waits l n
waits_in l n first rest e f = ap (λ (k : Layout). layout_waits k (number_of (first ∷ rest))) e ∙ ap (layout_waits l) f

wait_made : (t s : ℕ) (a b : Act) → t ≡ s → a ≡ b → (let w : Wait = record { ticks = t; act = a } in w) ∷ [] ≡ record { ticks = s; act = b } ∷ []
wait_made t s a b e f = let make : ℕ → Act → List Wait = λ x y. record { ticks = x; act = y } ∷ [] in let whole : make t a ≡ make s b = cc in whole

-- a piece and what it holds
pub record Holds (bytes : List ℕ) (waits : List Wait) : Type 0 where
  pub piece : IsPiece bytes
  pub made : waits_of bytes ≡ waits

-- the bytes of a number are below 256
little_is_bytes : (count n : ℕ) → IsBytes (little_bytes count n)
little_is_bytes zero n i = omega arith
little_is_bytes (suc count) n zero = omega arith
little_is_bytes (suc count) n (suc i) = little_is_bytes count (n / 256) i

pub little_length : (count n : ℕ) → length (little_bytes count n) ≡ count
little_length zero n = refl
little_length (suc count) n = omega (arith, little_length count (n / 256))

pub one_is_bytes : (n : ℕ) → n < 256 → IsBytes (n ∷ [])
one_is_bytes n small zero = small
one_is_bytes n small (suc i) = omega arith

-- ---- steps

-- only steps in four directions can have a long wait
four_directions : (t d : ℕ) → 2 ^ 11 ≤ t → t < ticks_limit (Step d) → (d < 4) × (t < 2 ^ 27)
four_directions t d over limit =
    elim (cases_lt d 4) [
      | inl small ↦ let e = lt-ltb d 4 small in let found = rw e at limit in (small, found)
      | inr large ↦ let e = le-ltb d 4 large in let found : t < 2 ^ 11 = rw e at limit in absurd (omega arith)
    ]

-- the shortest piece of a step after fewer than 8 ticks has one byte
pub step_short : (t d : ℕ) → t < 2 ^ 3 → act_bytes t (Step d) ≡ little_bytes 1 (1 + 4 * d + 2 ^ 5 * t)
step_short t d h = let e = lt-ltb t (2 ^ 3) h in rw e

-- after 8 ticks or more, but fewer than 2048, it has two bytes
pub step_middle : (t d : ℕ) → 2 ^ 3 ≤ t → t < 2 ^ 11 → act_bytes t (Step d) ≡ little_bytes 2 (2 + 4 * d + 2 ^ 5 * t)
step_middle t d g h = let f = le-ltb t (2 ^ 3) g in let e = lt-ltb t (2 ^ 11) h in rw (f, e)

-- after 2048 ticks or more it has four bytes
pub step_long : (t d : ℕ) → 2 ^ 11 ≤ t → act_bytes t (Step d) ≡ little_bytes 4 (3 + 4 * d + 2 ^ 5 * t)
step_long t d h = let f : ltb t (2 ^ 3) ≡ false = le-ltb t (2 ^ 3) (omega arith) in let e = le-ltb t (2 ^ 11) h in rw (f, e)

-- the one byte of a short step is a piece, and holds that step
short_holds : (t d n : ℕ) → n ≡ 1 + 4 * d + 2 ^ 5 * t → t < 2 ^ 3 → d < 8 → Holds (little_bytes 1 n) (record { ticks = t; act = Step d } ∷ [])
short_holds t d n e h g =
    let first = short_first (n % 256) (omega arith) in
    record {
      piece = record { bytes = little_is_bytes 1 n; whole = sym (ap (λ (l : Layout). layout_length l (n % 256)) first) };
      made = waits_in layout.ShortStep n (n % 256) [] first (omega arith) ∙ wait_made (bits 5 3 n) t (Step (bits 2 3 n)) (Step d) (omega arith) (ap Step (omega arith));
    }

-- the two bytes of a step are a piece, and hold that step
middle_holds : (t d n : ℕ) → n ≡ 2 + 4 * d + 2 ^ 5 * t → t < 2 ^ 11 → d < 8 → Holds (little_bytes 2 n) (record { ticks = t; act = Step d } ∷ [])
middle_holds t d n e h g =
    let first = middle_first (n % 256) (omega arith) in
    record {
      piece = record { bytes = little_is_bytes 2 n; whole = sym (ap (λ (l : Layout). layout_length l (n % 256)) first) };
      made = waits_in layout.MiddleStep n (n % 256) (little_bytes 1 (n / 256)) first (omega arith) ∙ wait_made (bits 5 11 n) t (Step (bits 2 3 n)) (Step d) (omega arith) (ap Step (omega arith));
    }

-- the four bytes of a step in one of four directions are a piece, and hold that step
long_holds : (t d n : ℕ) → n ≡ 3 + 4 * d + 2 ^ 5 * t → t < 2 ^ 27 → d < 4 → Holds (little_bytes 4 n) (record { ticks = t; act = Step d } ∷ [])
long_holds t d n e h g =
    let first = long_first (n % 256) (omega arith) (omega arith) in
    record {
      piece = record { bytes = little_is_bytes 4 n; whole = sym (ap (λ (l : Layout). layout_length l (n % 256)) first) };
      made = waits_in layout.LongStep n (n % 256) (little_bytes 3 (n / 256)) first (omega arith) ∙ wait_made (bits 5 27 n) t (Step (bits 2 2 n)) (Step d) (omega arith) (ap Step (omega arith));
    }

-- ---- codes

-- the bytes of a code, two and up to three more, are a piece, and hold that code
code_holds : (more t c n : ℕ) (rest : List ℕ) → more ≤ 3 → n ≡ 19 + 4 * more + 2 ^ 5 * c + 2 ^ 14 * t → c < 512 →
    IsBytes (n % 256 ∷ rest) → length rest ≡ 1 + more → number_of (n % 256 ∷ rest) ≡ n →
    Holds (n % 256 ∷ rest) (record { ticks = t; act = Code c } ∷ [])
code_holds more t c n rest le e small fits long number =
    let first = code_first (n % 256) (omega arith) (omega arith) in
    let count : bits 2 2 (n % 256) ≡ more = omega arith in
    record {
      piece = record { bytes = fits; whole = omega (arith, long, count, ap (λ (l : Layout). layout_length l (n % 256)) first) };
      made = waits_in layout.Code n (n % 256) rest first number ∙ wait_made (n / 2 ^ 14) t (Code (bits 5 9 n)) (Code c) (omega arith) (ap Code (omega arith));
    }

-- a code after fewer than 4 ticks is held by two bytes
code_two : (t c : ℕ) → t < 2 ^ 2 → c < 512 → Holds (act_bytes t (Code c)) (record { ticks = t; act = Code c } ∷ [])
code_two t c h small =
    let e = lt-ltb t (2 ^ 2) h in
    let m : (k : ℕ) → k ≡ 19 + 2 ^ 5 * c + 2 ^ 14 * t → Holds (little_bytes 2 k) (record { ticks = t; act = Code c } ∷ []) =
    λ k k-is. code_holds 0 t c k (little_bytes 1 (k / 256)) (omega arith) (omega arith) small (little_is_bytes 2 k) refl
    (omega arith) in
    rw e (m _ (omega arith))

-- after 4 to 1023 ticks it is held by three
code_three : (t c : ℕ) → 2 ^ 2 ≤ t → t < 2 ^ 10 → c < 512 → Holds (act_bytes t (Code c)) (record { ticks = t; act = Code c } ∷ [])
code_three t c g h small =
    let f = le-ltb t (2 ^ 2) g in
    let e = lt-ltb t (2 ^ 10) h in
    let m : (k : ℕ) → k ≡ 23 + 2 ^ 5 * c + 2 ^ 14 * t → Holds (little_bytes 3 k) (record { ticks = t; act = Code c } ∷ []) =
    λ k k-is. code_holds 1 t c k (little_bytes 2 (k / 256)) (omega arith) (omega arith) small (little_is_bytes 3 k) refl
    (omega arith) in
    rw (f, e) (m _ (omega arith))

-- after 1024 to 2^18 - 1 ticks by four
code_four : (t c : ℕ) → 2 ^ 10 ≤ t → t < 2 ^ 18 → c < 512 → Holds (act_bytes t (Code c)) (record { ticks = t; act = Code c } ∷ [])
code_four t c g h small =
    let d : ltb t (2 ^ 2) ≡ false = le-ltb t (2 ^ 2) (omega arith) in
    let f = le-ltb t (2 ^ 10) g in
    let e = lt-ltb t (2 ^ 18) h in
    let m : (k : ℕ) → k ≡ 27 + 2 ^ 5 * c + 2 ^ 14 * t → Holds (little_bytes 4 k) (record { ticks = t; act = Code c } ∷ []) =
    λ k k-is. code_holds 2 t c k (little_bytes 3 (k / 256)) (omega arith) (omega arith) small (little_is_bytes 4 k) refl
    (omega arith) in
    rw (d, f, e) (m _ (omega arith))

-- after 2^18 to 2^26 - 1 ticks by five
code_five : (t c : ℕ) → 2 ^ 18 ≤ t → t < 2 ^ 26 → c < 512 → Holds (act_bytes t (Code c)) (record { ticks = t; act = Code c } ∷ [])
code_five t c g h small =
    let d : ltb t (2 ^ 2) ≡ false = le-ltb t (2 ^ 2) (omega arith) in
    let f : ltb t (2 ^ 10) ≡ false = le-ltb t (2 ^ 10) (omega arith) in
    let e = le-ltb t (2 ^ 18) g in
    let m : (k : ℕ) → k ≡ 31 + 2 ^ 5 * c + 2 ^ 14 * t → Holds (little_bytes 5 k) (record { ticks = t; act = Code c } ∷ []) =
    λ k k-is. code_holds 3 t c k (little_bytes 4 (k / 256)) (omega arith) (omega arith) small (little_is_bytes 5 k) refl
    (omega arith) in
    rw (d, f, e) (m _ (omega arith))

-- ---- a wait alone

-- an act after a wait below its limit is held by the shortest piece for it
act_holds : (t : ℕ) (a : Act) → IsAct a → t < ticks_limit a → Holds (act_bytes t a) (record { ticks = t; act = a } ∷ [])
act_holds t (Step d) small limit =
    elim (cases_lt t (2 ^ 3)) [
      | inl short ↦ subst (λ (bytes : List ℕ). Holds bytes (record { ticks = t; act = Step d } ∷ [])) (sym (step_short t d short)) (short_holds t d _ refl short small)
      | inr up ↦ elim (cases_lt t (2 ^ 11)) [
        | inl middle ↦ subst (λ (bytes : List ℕ). Holds bytes (record { ticks = t; act = Step d } ∷ [])) (sym (step_middle t d up middle)) (middle_holds t d _ refl middle small)
        | inr over ↦
            let four = four_directions t d over limit in
            subst (λ (bytes : List ℕ). Holds bytes (record { ticks = t; act = Step d } ∷ [])) (sym (step_long t d over)) (long_holds t d _ refl four.1 four.0)
      ]
    ]
act_holds t (Code c) small limit =
    elim (cases_lt t (2 ^ 2)) [
      | inl two ↦ code_two t c two small
      | inr up ↦ elim (cases_lt t (2 ^ 10)) [
        | inl three ↦ code_three t c up three small
        | inr over ↦ elim (cases_lt t (2 ^ 18)) [
          | inl four ↦ code_four t c over four small
          | inr above ↦ code_five t c above limit small
        ]
      ]
    ]

-- the bytes of a wait alone are a piece that holds this wait
pub alone_holds : (w : Wait) → HasLayout w → Holds (alone w) (w ∷ [])
alone_holds w held = act_holds w.ticks w.act held.act held.ticks

-- ---- three plain steps

-- three steps that wait three ticks each are held by one byte
pub three_holds : (d e f : ℕ) → d < 4 → e < 4 → f < 4 →
    Holds ((4 * d + 16 * e + 64 * f) ∷ [])
    (record { ticks = 3; act = Step d } ∷ record { ticks = 3; act = Step e } ∷ record { ticks = 3; act = Step f } ∷ [])
three_holds d e f hd he hf =
    let n = 4 * d + 16 * e + 64 * f in
    let first = three_first n (omega arith) in
    let make : ℕ → ℕ → ℕ → List Wait = λ x y z. record { ticks = 3; act = Step x } ∷ record { ticks = 3; act = Step y } ∷ record { ticks = 3; act = Step z } ∷ [] in
    let one : bits 2 2 n ≡ d = omega arith in
    let two : bits 4 2 n ≡ e = omega arith in
    let three : bits 6 2 n ≡ f = omega arith in
    let whole : make (bits 2 2 n) (bits 4 2 n) (bits 6 2 n) ≡ make d e f = cc in
    record {
      piece = record { bytes = one_is_bytes n (omega arith); whole = sym (ap (λ (l : Layout). layout_length l n) first) };
      made = waits_in layout.ThreeSteps n n [] first (omega arith) ∙ whole;
    }
