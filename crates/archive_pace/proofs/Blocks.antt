-- The block that is held at a port, by its place.
use Rattle.std.proofs.Common.{◌≡◌, ℕ, zero, suc, ◌<◌, Bool, true, false, List, [], ◌∷◌, map, length, Option, None, Some, arith, refl, ap, sym, ◌∙◌}
use Rattle.std.specs.Prelude.{◌==◌, nat_lt, slice_index_or}
use Rattle.std.specs.List.{position, position_or_len, remove}
use Rattle.std.proofs.lemmas.Bool.{ltb-false}
use Rattle.std.proofs.lemmas.List.Quantifiers.{position-Some}
use Rattle.std.proofs.lemmas.List.Sums.{fails_before_first}
use Rattle.archive_pace.specs.declared.held.Held.{Held}
use Rattle.archive_pace.specs.Queue.{Waiting, waiting_of, first_at, without_first}

-- whether a block is held at this port
abbrev to_port : (port : ℕ) → Held → Bool
to_port port a = a.port == port

-- the first block at the port, and those that are left
abbrev Gives : (port : ℕ) → (xs left : List Held) → Option Waiting → Type 0
Gives port xs left first = (first ≡ first_at port (map waiting_of xs)) × (map waiting_of left ≡ without_first port (map waiting_of xs))

-- a block at another port stays
passed : (port : ℕ) (x : Held) (xs left : List Held) (first : Option Waiting) → to_port port x ≡ false → Gives port xs left first → Gives port (x ∷ xs) (x ∷ left) first
passed port x xs left first is more = (rw is more.0, rw is (ap (λ (l : List Waiting). waiting_of x ∷ l) more.1))

-- no block is held at the port
none_of : (port : ℕ) (xs : List Held) → ((k : ℕ) (d : Held) → k < length xs → to_port port (slice_index_or xs k d) ≡ false) → Gives port xs xs None
none_of port [] never = (refl, refl)
none_of port (x ∷ xs) never = passed port x xs xs None (never 0 x (omega arith)) (none_of port xs (λ k d lt. never (suc k) d (omega (arith, lt))))

-- the one at index `i` is the oldest that is
first_of : (port : ℕ) (xs : List Held) (i : ℕ) (d : Held) → i < length xs →
    to_port port (slice_index_or xs i d) ≡ true → ((k : ℕ) → k < i → to_port port (slice_index_or xs k d) ≡ false) →
    Gives port xs (remove xs i) (Some (waiting_of (slice_index_or xs i d)))
first_of port [] i d small is never = absurd (omega (arith, small))
first_of port (x ∷ xs) zero d small is never = (rw is refl, rw is refl)
first_of port (x ∷ xs) (suc i) d small is never = passed port x xs (remove xs i) (Some (waiting_of (slice_index_or xs i d)))
    (never 0 (omega arith)) (first_of port xs i d (omega (arith, small)) is (λ k lt. never (suc k) (omega (arith, lt))))

-- the search found none
nothing_of : (port : ℕ) (xs : List Held) → position (to_port port) xs ≡ None → Gives port xs xs None
nothing_of port xs e = by (nat_lt (position_or_len (to_port port) xs) (length xs)) refl
  where
    by : (b : Bool) → nat_lt (position_or_len (to_port port) xs) (length xs) ≡ b → Gives port xs xs None
    by true is = let some : position (to_port port) xs ≡ Some (position_or_len (to_port port) xs) = rw is refl in absurd cc
    by false is = let past = ltb-false (position_or_len (to_port port) xs) (length xs) is in none_of port xs (λ k d lt. fails_before_first (to_port port) xs k d (omega (arith, lt, past)))

-- the search found no block at the port
pub nothing_at : (port : ℕ) (xs ys : List Held) (found : Option ℕ) → ys ≡ xs → found ≡ position (to_port port) ys → found ≡ None → Gives port xs xs None
nothing_at port xs ys found same e none = nothing_of port xs (sym (ap (position (to_port port)) same) ∙ sym e ∙ none)

-- it found this block
pub taken_at : (port : ℕ) (xs ys : List Held) (found : Option ℕ) (i : ℕ) (a : Held) → ys ≡ xs →
    found ≡ position (to_port port) ys → found ≡ Some i → a ≡ slice_index_or xs i a →
    Gives port xs (remove xs i) (Some (waiting_of a))
taken_at port xs ys found i a same e some is =
    let at = position-Some (to_port port) xs i a (sym (ap (position (to_port port)) same) ∙ sym e ∙ some) in
    rw is (first_of port xs i a at.0 at.1 at.2)
