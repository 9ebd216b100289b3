-- Where a text ends: at the first zero byte.
use Rattle.std.proofs.Common.{◌≡◌, ◌⊎◌, ℕ, zero, suc, ◌+◌, ◌<◌, cond, false, List, [], ◌∷◌, ◌++◌, length, drop, append_assoc, refl, ap, sym, ◌∙◌, arith, inl, inr, ⊎_elim, length-append, None, Some, nat_lt}
use Rattle.std.proofs.lemmas.Bool.{ne_eqb, cond-true, cond-false, lt-ltb, le-ltb}
use Rattle.std.proofs.lemmas.List.{take_at, drop_at}
use Rattle.std.proofs.lemmas.List.Sums.{sum_by-cons, sum_by-append}
use Rattle.std.specs.List.{position_or_len, position}
use Rattle.tftp_packet.specs.Packet.{is_zero, zero_count, HasNoZero}
use Rattle.tftp_packet.specs.Decode.{before_zero, after_zero}

is_zero-suc : (n : ℕ) → is_zero (suc n) ≡ false
is_zero-suc n = ne_eqb (suc n) 0 (λ e. absurd (omega arith))

zero_count-zero : (xs : List ℕ) → zero_count (0 ∷ xs) ≡ 1 + zero_count xs
zero_count-zero xs = sum_by-cons (λ x. cond (is_zero x) 1 0) 0 xs

zero_count-suc : (n : ℕ) (xs : List ℕ) → zero_count (suc n ∷ xs) ≡ zero_count xs
zero_count-suc n xs =
    sum_by-cons (λ x. cond (is_zero x) 1 0) (suc n) xs ∙ ap (λ b. cond b 1 0 + zero_count xs) (is_zero-suc n) ∙ omega arith

-- the zero bytes of a text, of the byte that ends it, and of what follows
pub zero_count-ended : (text rest : List ℕ) → zero_count (text ++ 0 ∷ rest) ≡ zero_count text + (zero_count rest + 1)
zero_count-ended text rest =
    omega (arith, sum_by-append (λ x. cond (is_zero x) 1 0) text (0 ∷ rest), zero_count-zero rest)

-- ---- the first zero byte

first_zero-suc : (n : ℕ) (xs : List ℕ) → position_or_len is_zero (suc n ∷ xs) ≡ 1 + position_or_len is_zero xs
first_zero-suc n xs = rw (is_zero-suc n) refl

-- the first zero byte is the one that ends the text
first_zero-ended : (text rest : List ℕ) → HasNoZero text → position_or_len is_zero (text ++ 0 ∷ rest) ≡ length text
first_zero-ended [] rest none = refl
first_zero-ended (zero ∷ text) rest none = absurd (omega (arith, none, zero_count-zero text))
first_zero-ended (suc n ∷ text) rest none =
    let later = first_zero-ended text rest (sym (zero_count-suc n text) ∙ none) in
    first_zero-suc n (text ++ 0 ∷ rest) ∙ omega (arith, later)

-- what comes before the first zero byte is the text that it ends
pub before_zero-ended : (text rest : List ℕ) → HasNoZero text → before_zero (text ++ 0 ∷ rest) ≡ text
before_zero-ended text rest none = take_at text (0 ∷ rest) _ (sym (first_zero-ended text rest none))

-- what comes after the first zero byte is what follows the text
pub after_zero-ended : (text rest : List ℕ) → HasNoZero text → after_zero (text ++ 0 ∷ rest) ≡ rest
after_zero-ended text rest none =
    let behind = first_zero-ended text rest none in
    ap (drop (position_or_len is_zero (text ++ 0 ∷ rest) + 1)) (sym (append_assoc text (0 ∷ []) rest))
    ∙ drop_at (text ++ 0 ∷ []) rest _ (omega (arith, length-append text (0 ∷ []), behind))

-- ---- bytes with a zero byte, and without

-- a text, the zero byte that ends it, and what follows
pub record IsEnded (bytes : List ℕ) : Type 0 where
  pub text : List ℕ
  pub rest : List ℕ
  pub none : HasNoZero text
  pub split : bytes ≡ text ++ 0 ∷ rest

-- bytes have no zero byte, or are a text that one ends and what follows it
pub zero_cases : (bytes : List ℕ) → (HasNoZero bytes × (position_or_len is_zero bytes ≡ length bytes)) ⊎ IsEnded bytes
zero_cases [] = inl (refl, refl)
zero_cases (zero ∷ bytes) = inr (record { text = []; rest = bytes; none = refl; split = refl })
zero_cases (suc n ∷ bytes) =
    ⊎_elim
    (λ none. inl (zero_count-suc n bytes ∙ none.0, first_zero-suc n bytes ∙ omega (arith, none.1)))
    (λ e. inr (record { text = suc n ∷ e.text; rest = e.rest; none = zero_count-suc n e.text ∙ e.none; split = ap (λ xs. suc n ∷ xs) e.split }))
    (zero_cases bytes)

-- ---- where it is

-- the zero byte that ends a text is found
ended_position : (bytes : List ℕ) → IsEnded bytes → position_or_len is_zero bytes < length bytes
ended_position bytes e =
    rw e.split (omega (arith, first_zero-ended e.text e.rest e.none, length-append e.text (0 ∷ e.rest)))

-- if no zero byte is found, there is none
pub no_position : (bytes : List ℕ) → position is_zero bytes ≡ None → HasNoZero bytes
no_position bytes nowhere =
    ⊎_elim
    (λ none. none.0)
    (λ e.
    let found = cond-true (nat_lt (position_or_len is_zero bytes) (length bytes)) (Some (position_or_len is_zero bytes)) None (lt-ltb _ _ (ended_position bytes e)) in
    absurd cc)
    (zero_cases bytes)

-- after the first zero byte there is one fewer
pub some_position : (bytes : List ℕ) (i : ℕ) → position is_zero bytes ≡ Some i → zero_count bytes ≡ zero_count (after_zero bytes) + 1
some_position bytes i somewhere =
    ⊎_elim
    (λ none.
    let missed = cond-false (nat_lt (position_or_len is_zero bytes) (length bytes)) (Some (position_or_len is_zero bytes)) None (le-ltb _ _ (omega arith)) in
    absurd cc)
    (λ e. omega (arith, ap zero_count e.split, zero_count-ended e.text e.rest, e.none, ap zero_count (ap after_zero e.split ∙ after_zero-ended e.text e.rest e.none)))
    (zero_cases bytes)
